-- A machine that reads a text byte by byte, and that a program runs line by line and chunk by chunk. S is what it knows between lines: what was
-- printed so far may be a part of it. Definitions only.
use Rattle.std.specs.Prelude.{ℕ, Bool, cond, List, [], ◌∷◌, ◌++◌, eqb, take}
use Rattle.text.specs.Lines.{Part, line, more}

-- between two bytes: what is known, and what is kept of the line begun
pub record At (S : Type 0) : Type 0 where
  pub known : S
  pub have : List ℕ

-- a text by its lines: those that end in a newline, and the bytes after the last newline
pub record Split : Type 0 where
  pub lines : List (List ℕ)
  pub rest : List ℕ

abbrev pub behind : List ℕ → Split → Split
behind l s = record { lines = l ∷ s.lines; rest = s.rest }

unfoldable pub split_from : List ℕ → List ℕ → Split
split_from have [] = record { lines = []; rest = have }
split_from have (b ∷ bs) = cond (eqb b 10) (behind have (split_from [] bs)) (split_from (have ++ (b ∷ [])) bs)

abbrev pub split : List ℕ → Split
split text = split_from [] text

module _ {S : Type 0} (ended : S → Bool) (on_line : S → List ℕ → S) where
  -- one line after the other, until the machine has ended
  unfoldable pub reads : S → List (List ℕ) → S
  reads k [] = k
  reads k (l ∷ ls) = cond (ended k) k (reads (on_line k l) ls)

  module _ (keep : List ℕ → List ℕ) where
    unfoldable pub byte : At S → ℕ → At S
    byte a b =
        cond (ended a.known) a
        (cond (eqb b 10) (record { known = on_line a.known a.have; have = [] }) (record { known = a.known; have = keep (a.have ++ (b ∷ [])) }))

    -- the bytes of a chunk
    unfoldable pub runs : At S → List ℕ → At S
    runs a [] = a
    runs a (b ∷ bs) = runs (byte a b) bs

    -- what comes of the part that `cut` finds
    unfoldable pub after_part : S → Part → At S
    after_part k (line l rest) = runs (record { known = on_line k l; have = [] }) rest
    after_part k (more h) = record { known = k; have = h }

-- of the line begun only the first bytes
abbrev pub short_at : {S : Type 0} → ℕ → At S → At S
short_at room a = record { known = a.known; have = take room a.have }
