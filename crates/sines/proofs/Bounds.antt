-- The bounds that the code's products and differences ask for. Assumes nothing.
use Rattle.std.proofs.Common.{◌≡◌, ℕ, ◌-◌, ◌*◌, ◌/◌, ◌%◌, ◌^◌, ◌<◌, ◌≤◌, cond, eqb, List, [], ◌∷◌, sym, ap, subst, le_trans, le_refl, lt_of_le_of_lt, mul-le-mul, mul-le-mul_left, div-le_self, sub-le, arith, lit<, lit≤}
use native.Mathlib.Nat.{div-le_of_le-mul}
use Rattle.sines.specs.Steps.{rest, even, base, nest, sin_divs, square, sin_fix, cos_divs, cos_fix}

pub level_mul : (t h : ℕ) → t ≤ 1073741824 → h ≤ 1073741824 → t * h < 2 ^ 64
level_mul t h a b = lt_of_le_of_lt (mul-le-mul a b) (lit< tt)

pub level_sub : (t h c : ℕ) → t ≤ 1073741824 → h ≤ 1073741824 → t * h / 1073741824 / c ≤ 1073741824
level_sub t h c a b = le_trans (div-le_self (t * h / 1073741824) c) (div-le_of_le-mul 1073741824 (mul-le-mul a b))

quarter : (a : ℕ) → a < 17179869184 → a / 4 ≤ 4294967295
quarter a h = omega arith

pub square_mul : (a : ℕ) → a < 17179869184 → a / 4 * (a / 4) < 2 ^ 64
square_mul a h = lt_of_le_of_lt (mul-le-mul (quarter a h) (quarter a h)) (lit< tt)

pub square_le : (a : ℕ) → a < 17179869184 → a / 4 * (a / 4) / 17179869184 ≤ 1073741824
square_le a h = div-le_of_le-mul 17179869184 (le_trans (mul-le-mul (quarter a h) (quarter a h)) (lit≤ tt))

pub sin_mul : (a h : ℕ) → a < 17179869184 → h ≤ 1073741824 → a * h < 2 ^ 64
sin_mul a h x y = lt_of_le_of_lt (mul-le-mul (le1 a x) y) (lit< tt)
  where
    le1 : (a : ℕ) → a < 17179869184 → a ≤ 17179869183
    le1 a x = omega arith

pub sin_le : (a h : ℕ) → a < 17179869184 → h ≤ 1073741824 → a * h / 8589934592 ≤ 2147483648
sin_le a h x y = div-le_of_le-mul 8589934592 (mul-le-mul {n₂ = 17179869184} (le1 a x) y)
  where
    le1 : (a : ℕ) → a < 17179869184 → a ≤ 17179869184
    le1 a x = omega arith

-- ---- the two cases of `rest`
pub rest_even : (q x : ℕ) → q % 2 ≡ 0 → rest q x ≡ (x * 256 - base (even q)) / 16384
rest_even q x h = ap (λ (z : ℕ). cond (eqb z 0) (x * 256 - base (even q)) (base (even q) - x * 256) / 16384) h

pub rest_odd : (q x : ℕ) → (q % 2 ≡ 0 → ⊥) → rest q x ≡ (base (even q) - x * 256) / 16384
rest_odd q x h = ap (λ (z : ℕ). cond (eqb z 0) (x * 256 - base (even q)) (base (even q) - x * 256) / 16384) (one q h)
  where
    one : (q : ℕ) → (q % 2 ≡ 0 → ⊥) → q % 2 ≡ 1
    one q h = omega arith

-- ---- the fixed-point results fit
pub nest_le : (P t : ℕ) (cs : List ℕ) → nest P t cs ≤ P
unfolding nest
nest_le P t [] = le_refl P
nest_le P t (c ∷ cs) = sub-le P (t * nest P t cs / P / c)

pub sin_fix_le : (a : ℕ) → a < 17179869184 → sin_fix a ≤ 2147483648
unfolding sin_fix
sin_fix_le a h = sin_le a (nest 1073741824 (square a) sin_divs) h (nest_le 1073741824 (square a) sin_divs)

pub cos_fix_le : (a : ℕ) → cos_fix a ≤ 2147483648
unfolding cos_fix
cos_fix_le a = mul-le-mul_left 2 (nest_le 1073741824 (square a) cos_divs)

-- what the calls give
pub sin_got : (a s : ℕ) → a < 17179869184 → s ≡ sin_fix a → s ≤ 2147483648
sin_got a s h e = subst (λ (z : ℕ). z ≤ 2147483648) (sym e) (sin_fix_le a h)

pub cos_got : (a s : ℕ) → s ≡ cos_fix a → s ≤ 2147483648
cos_got a s e = subst (λ (z : ℕ). z ≤ 2147483648) (sym e) (cos_fix_le a)
