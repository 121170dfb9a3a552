-- A test that passes at every number below a numeral, computed once. Assumes nothing.
use mathlib.Core.Bool.{Bool, true, ◌&&◌}
use Prim.Native.Nat.{ℕ, zero, suc, ◌<◌}
use mathlib.Core.Path.{subst, sym}
use mathlib.Core.Logic.{inl, inr}
use native.Mathlib.Nat.{not-suc-le-zero, le_of_suc-le-suc, eq-or-lt_of_le}
use lib.Dec.{T}
use lib.Ieee.Fits.{and_l, and_r}

abbrev pub below : (ℕ → Bool) → ℕ → Bool
below f zero = true
below f (suc n) = f n && below f n

pub at : (f : ℕ → Bool) (n : ℕ) → T (below f n) → (k : ℕ) → k < n → T (f k)
at f zero t k h = absurd (not-suc-le-zero h)
at f (suc n) t k h = elim (eq-or-lt_of_le (le_of_suc-le-suc h)) [
  | inl e ↦ subst (λ (m : ℕ). T (f m)) (sym e) (and_l (f n) (below f n) t)
  | inr l ↦ at f n (and_r (f n) (below f n) t) k l
]
