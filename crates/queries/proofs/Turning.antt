-- Chunks can always be read to their end by turns, whatever they hold: each turn leaves less of its chunk (`less`), so that there are turns for every
-- text (`turns`). Assumes nothing.
use Prim.Native.Nat.{ℕ, zero, suc, ◌≤◌}
use mathlib.Core.Path.{◌≡◌, refl}
use mathlib.Core.Bool.{Bool, true, false, cond}
use mathlib.Core.List.{List, [], ◌∷◌, ◌++◌}
use native.Mathlib.Omega.{arith}
use lib.Dec.{eqb}
use lib.ListN.{length, take}
use Rattle.text.specs.Lines.{line, cut}
use Rattle.text.specs.Machine.{At}
use Rattle.queries.specs.Program.{Session, is_over}
use Rattle.queries.specs.Machine.{part_advance, advance_of, Makes, done, next, goes}
use Rattle.queries.proofs.Turns.{silent, goes_by}

module _ (k : Session) (keep : List ℕ → List ℕ) where
  not_more : (have s : List ℕ) → length (part_advance k (cut keep have s)).left ≤ length s
  unfolding cut
  not_more have [] = omega arith
  not_more have (b ∷ s) = by (eqb b 10) (not_more (keep (have ++ (b ∷ []))) s)
    where
      by : (t : Bool) → length (part_advance k (cut keep (keep (have ++ (b ∷ []))) s)).left ≤ length s
          → length (part_advance k (cond t (line have s) (cut keep (keep (have ++ (b ∷ []))) s))).left ≤ suc (length s)
      by true h = omega arith
      by false h = omega arith

  fewer : (have : List ℕ) (b : ℕ) (s : List ℕ) → length (part_advance k (cut keep have (b ∷ s))).left ≤ length s
  unfolding cut
  fewer have b s = by (eqb b 10) (not_more (keep (have ++ (b ∷ []))) s)
    where
      by : (t : Bool) → length (part_advance k (cut keep (keep (have ++ (b ∷ []))) s)).left ≤ length s
          → length (part_advance k (cond t (line have s) (cut keep (keep (have ++ (b ∷ []))) s))).left ≤ length s
      by true h = omega arith
      by false h = h

module _ (room : ℕ) where
  -- a turn reads at least one byte
  pub less : (a : At Session) (b : ℕ) (s : List ℕ) → length (advance_of room a (b ∷ s)).left ≤ length s
  less a b s = by (is_over a.known.phase) refl
    where
      by : (t : Bool) → is_over a.known.phase ≡ t → length (advance_of room a (b ∷ s)).left ≤ length s
      by true e = rw (silent room a (b ∷ s) e) (omega arith)
      by false e = rw (goes_by room a (b ∷ s) e) (fewer a.known (take room) a.have b s)

  pub record Made (a : At Session) (cs : List (List ℕ)) : Type 0 where
    pub printed : List ℕ
    pub end : At Session
    pub all : Makes room a cs printed end

  used_up_lem : {a : At Session} (cs : List (List ℕ)) → Made a cs → Made a ([] ∷ cs)
  used_up_lem cs m = record { printed = m.printed; end = m.end; all = next m.all }

  in_chunk : (cs : List (List ℕ)) → ((a : At Session) → Made a cs) → (fuel : ℕ) (a : At Session) (c : List ℕ) → length c ≤ fuel → Made a (c ∷ cs)
  in_chunk cs rest zero a [] h = used_up_lem cs (rest a)
  in_chunk cs rest zero a (b ∷ c) h = absurd (omega arith)
  in_chunk cs rest (suc fuel) a [] h = used_up_lem cs (rest a)
  in_chunk cs rest (suc fuel) a (b ∷ c) h =
      let t = advance_of room a (b ∷ c) in
      let m = in_chunk cs rest fuel t.place t.left (omega (arith, less a b c)) in
      record { printed = t.printed ++ m.printed; end = m.end; all = goes m.all }

  -- there are turns for all chunks
  pub turns : (cs : List (List ℕ)) (a : At Session) → Made a cs
  turns [] a = record { printed = []; end = a; all = done }
  turns (c ∷ cs) a = let h : length c ≤ length c = omega arith in in_chunk cs (turns cs) (length c) a c h
