-- Bytes written into a lent list from a place on. Definitions only.
use Rattle.std.specs.Prelude.{ℕ, ◌+◌, ◌≤◌, ◌≡◌, List, length}
use Rattle.lists.specs.Over.{into}
use Rattle.blocks.specs.declared.Writer.{Writer}

-- there is room for xs
abbrev pub FitsAt : ℕ → List ℕ → List ℕ → Type 0
FitsAt at xs d = at + length xs ≤ length d

-- d became d' by writing xs at `at`, and `next` is the place behind it
abbrev pub Wrote : ℕ → List ℕ → List ℕ → ℕ → List ℕ → Type 0
Wrote at xs d next d' = (next ≡ at + length xs) × (d' ≡ into at xs d)

-- a writer has room for xs behind its place
abbrev pub Fits : List ℕ → Writer → Type 0
Fits xs w = FitsAt w.at xs w.out.now

-- w became w' by writing xs
pub record Writes (xs : List ℕ) (w w' : Writer) : Type 0 where
  pub wrote : Wrote w.at xs w.out.now w'.at w'.out.now
  -- the lent list is still the same one
  pub same : w'.out.ghost_name ≡ w.out.ghost_name
