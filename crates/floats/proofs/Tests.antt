-- What the tests of the small functions find: a finite value, a zero, a sign. Assumes nothing.
use Rattle.std.proofs.Common.{◌≡◌, ℕ, zero, suc, ◌+◌, ◌*◌, ◌^◌, ◌<◌, true, false, not, ◌&&◌, T, eqb, ltb, ℤ, pos, negsuc, sym, refl, ap, ◌∙◌, subst, zero-lt-suc, mul-pos, arith, eqb→eq, ltb→lt, T_not}
use native.Mathlib.Nat.{pow-succ'}
use lib.Ieee.{Float, nan, inf, fin, binary32, up, down, lt, eq, neg, fits}
use lib.Ieee.Fits.{up_pos, and_l}
use lib.Ieee.Scale.{finite}
use Rattle.floats.specs.Floats.{zero32, abs_of}
use Rattle.floats.proofs.Cross.{of_taken, of_left}

-- below the one infinity and above the other
pub finite_is : (x : Float) → (lt x (inf false) && lt (inf true) x) ≡ finite x
unfolding lt
finite_is nan = refl
finite_is (inf false) = refl
finite_is (inf true) = refl
finite_is (fin s m e) = refl

-- ---- the magnitude, by the tests `x < 0.0` and `x == 0.0`
pub abs_below : (x : Float) → lt x zero32 ≡ true → neg x ≡ abs_of x
unfolding lt neg abs_of
abs_below nan h = absurd (of_taken h)
abs_below (inf true) h = refl
abs_below (inf false) h = absurd (of_taken h)
abs_below (fin true m e) h = refl
abs_below (fin false m e) h = absurd (none (m * up e * 1) (down e) (of_taken h))
  where
    none : (a d : ℕ) → T (ltb a (0 * 1 * d)) → ⊥
    none a d t = omega (arith, ltb→lt a (0 * 1 * d) t)

-- a zero that fits is written in one way
zero_at : (e : ℤ) → T (eqb (up e * down e) 1) → e ≡ pos 0
zero_at (pos zero) t = refl
zero_at (pos (suc k)) t = absurd (even (2 ^ k) (ap (λ (z : ℕ). z * 1) (sym (pow-succ' 2 k)) ∙ eqb→eq (2 ^ suc k * 1) 1 t))
  where
    even : (a : ℕ) → 2 * a * 1 ≡ 1 → ⊥
    even a h = omega arith
zero_at (negsuc k) t = absurd (even (2 ^ k) (ap (λ (z : ℕ). 1 * z) (sym (pow-succ' 2 k)) ∙ eqb→eq (1 * 2 ^ suc k) 1 t))
  where
    even : (a : ℕ) → 1 * (2 * a) ≡ 1 → ⊥
    even a h = omega arith

pub abs_zero : (x : Float) → T (fits binary32 x) → eq x zero32 ≡ true → zero32 ≡ abs_of x
unfolding eq abs_of fits
abs_zero nan f h = absurd (of_taken h)
abs_zero (inf s) f h = absurd (of_taken h)
abs_zero (fin s zero e) f h = ap (λ (d : ℤ). fin false 0 d) (sym (zero_at e f))
abs_zero (fin s (suc m) e) f h = absurd (none (suc m * up e) (down e) (mul-pos (zero-lt-suc m) (up_pos e)) (eqb→eq (suc m * up e * 1) (0 * 1 * down e) (and_l (eqb (suc m * up e * 1) (0 * 1 * down e)) _ (of_taken h))))
  where
    none : (a d : ℕ) → 0 < a → a * 1 ≡ 0 * 1 * d → ⊥
    none a d p q = omega arith

pub abs_above : (x : Float) → lt x zero32 ≡ false → eq x zero32 ≡ false → x ≡ abs_of x
unfolding lt eq abs_of
abs_above nan h k = refl
abs_above (inf true) h k = absurd (of_left h)
abs_above (inf false) h k = refl
abs_above (fin false m e) h k = refl
abs_above (fin true zero e) h k = absurd (T_not (eqb (0 * up e * 1) (0 * 1 * down e) && eqb (0 * up e * 1) 0) (of_left k) (zeros (up e) (down e)))
  where
    zeros : (a d : ℕ) → T (eqb (0 * a * 1) (0 * 1 * d) && eqb (0 * a * 1) 0)
    zeros a d = subst (λ (z : ℕ). T (eqb z (0 * 1 * d) && eqb z 0)) (sym (nought a)) (subst (λ (z : ℕ). T (eqb 0 z && eqb 0 0)) (sym (none d)) tt)
      where
        nought : (a : ℕ) → 0 * a * 1 ≡ 0
        nought a = omega arith

        none : (d : ℕ) → 0 * 1 * d ≡ 0
        none d = omega arith
abs_above (fin true (suc m) e) h k = absurd (some (suc m * up e) (down e) (mul-pos (zero-lt-suc m) (up_pos e)) (of_left h))
  where
    some : (a d : ℕ) → 0 < a → T (not (ltb 0 (a * 1 + 0 * 1 * d))) → ⊥
    some a d p t = T_not (ltb 0 (a * 1 + 0 * 1 * d)) t (lib.Dec.lt→ltb 0 (a * 1 + 0 * 1 * d) (omega arith))
