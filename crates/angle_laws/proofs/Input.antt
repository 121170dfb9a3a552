-- A float from 2^-12 up is a whole number of 2^-40: its digits and its exponent. Assumes nothing.
use mathlib.Core.Path.{◌≡◌, sym, ap, ◌∙◌, refl, subst}
use Prim.Native.Nat.{ℕ, ◌*◌, ◌^◌, ◌+◌, ◌-◌, ◌≤◌, ◌<◌, suc, zero, ◌%◌}
use lib.IntN.{ℤ, pos, negsuc}
use lib.Ieee.{up, down, fin, binary32, fits}
use native.Mathlib.Omega.{arith}
use lib.Pow.{pow-add, pow-lt}
use mathlib.Core.Bool.{Bool, true, false, not, ◌&&◌}
use native.Mathlib.Nat.{sub-add_cancel, lt_of_lt_of_le, lt_irrefl, le_trans, mul-one, one-mul, le_of_eq, zero-mul, zero-lt-suc, mul-le-mul_left}
use lib.Dec.{T, ltb, ltb→lt, nltb→le, lit≤, leb, eqb}
use lib.Ieee.Fits.{and_l, and_r}

-- w * down e = 2^40
pub record Whole (e : ℤ) : Type 0 where
  pub w : ℕ
  pub is : w * down e ≡ 1099511627776
  -- up e 2^189 = 2^j down e
  pub j : ℕ
  pub fine : up e * 2 ^ 189 ≡ 2 ^ j * down e

split : (a k : ℕ) → k ≤ a → 2 ^ (a - k) * 2 ^ k ≡ 2 ^ a
split a k h = sym (pow-add 2 (a - k) k) ∙ ap (λ (z : ℕ). 2 ^ z) (sub-add_cancel h)

exp_le : (k : ℕ) → 2 ^ k ≤ 2 ^ 40 → k ≤ 40
exp_le k h = go (ltb 40 k) refl
  where
    go : (b : Bool) → ltb 40 k ≡ b → k ≤ 40
    go true e = absurd (no (pow-lt {i = 40} {j = k} (ltb→lt 40 k (subst T (sym e) tt))) h)
      where
        no : 2 ^ 40 < 2 ^ k → 2 ^ k ≤ 2 ^ 40 → ⊥
        no x y = lt_irrefl (2 ^ 40) (lt_of_lt_of_le x y)
    go false e = nltb→le 40 k (subst (λ (b : Bool). T (not b)) (sym e) tt)

pub whole : (e : ℤ) → down e ≤ 2 ^ 40 → Whole e
whole (pos k) h = record { w = 1099511627776; is = refl; j = k + 189; fine = sym (pow-add 2 k 189) ∙ sym (mul-one (2 ^ (k + 189))) }
whole (negsuc k) h =
    let l : suc k ≤ 40 = exp_le (suc k) h in
    record { w = 2 ^ (40 - suc k); is = split 40 (suc k) l; j = 189 - suc k; fine = one-mul (2 ^ 189) ∙ sym (split 189 (suc k) (le_trans l (lit≤ tt))) }

-- ---- what `fits` says of a number above zero
pub digits : (m : ℕ) (e : ℤ) → T (fits binary32 (fin false m e)) → 0 < m → m < 2 ^ 24
unfolding fits
digits zero e t h = absurd (lt_irrefl 0 h)
digits (suc m) e t h =
    ltb→lt (suc m) (2 ^ 24)
    (and_r (eqb (suc m % 2) 1) (ltb (suc m) (2 ^ 24))
    (and_l (eqb (suc m % 2) 1 && ltb (suc m) (2 ^ 24)) (leb (down e) (2 ^ 149))
    (and_l (eqb (suc m % 2) 1 && ltb (suc m) (2 ^ 24) && leb (down e) (2 ^ 149)) (ltb (suc m * up e) (2 ^ 128 * down e)) t)))

pub pos_of : (m u d : ℕ) → 0 < d → d ≤ 4096 * (m * u) → 0 < m
pos_of zero u d dp h = absurd (lt_irrefl 0 (lt_of_lt_of_le dp (le_trans h (le_of_eq (ap (λ (z : ℕ). 4096 * z) (zero-mul u))))))
pos_of (suc m) u d dp h = zero-lt-suc m

pub down_le : (m : ℕ) (e : ℤ) → m < 2 ^ 24 → down e ≤ 4096 * (m * up e) → down e ≤ 2 ^ 40
down_le m (pos k) hm h = lit≤ tt
down_le m (negsuc k) hm h = le_trans h (le_trans (mul-le-mul_left 4096 (le_of_eq (mul-one m))) (go m hm))
  where
    go : (m : ℕ) → m < 16777216 → 4096 * m ≤ 1099511627776
    go m h = omega arith
