-- A float from +0 to 16 in fixed point: X = c 2^40, cut, and the reduction of c by its eighth. Assumes nothing.
use mathlib.Core.Path.{◌≡◌, sym, ap, ◌∙◌, subst}
use mathlib.Core.Bool.{Bool, true, false, not}
use Prim.Native.Nat.{ℕ, ◌+◌, ◌-◌, ◌*◌, ◌/◌, ◌^◌, ◌≤◌, ◌<◌}
use native.Mathlib.Nat.{le_trans, le_of_eq, le_of_lt, mul-one, mul_assoc, mul_comm, mul-le-mul_left, mul-le-mul_right, le_of_mul-le-mul_right, div-mul-le_self, lt-div-mul-add, div-one}
use native.Mathlib.Omega.{arith}
use lib.Dec.{T, ltb, ltb→lt, nltb→le, lit<}
use lib.IntN.{ℤ}
use lib.Ieee.{fin, binary32, up, down, fits}
use lib.Ieee.Fits.{down_pos}
use lib.Ieee.Nearest.{div_same}
use Rattle.bits.specs.Parts.{places}
use Rattle.sines.specs.Steps.{scan}
use Rattle.sines.proofs.Scan.{found, scan_stop}
use Rattle.angle_laws.specs.Angle.{pi_bot}
use Rattle.angle_laws.proofs.Parts.{Angle}
use Rattle.angle_laws.proofs.Small.{k0, rest0, sign0, proper0, under0}
use Rattle.angle_laws.proofs.Input.{whole, digits, down_le, pos_of}
use Rattle.angle_laws.proofs.Reduce.{Reduced, reduced}

-- below 2^-12
little : (n d : ℕ) → 4096 * n < d → 1099511627776 * n ≤ 268435456 * d
little n d h = omega arith

small_reduced : (f : Bool) (n d X : ℕ) → 0 < d → 4096 * n < d → X * d ≤ 1099511627776 * n → 1099511627776 * n ≤ X * d + d → Reduced f n d X 0
small_reduced f n d X dp h lo hi = record {
  is = k0 n d dp h f;
  sign = sign0 n d dp h;
  angle = subst (λ (z : ℕ). Angle 17179869184 ((X * 256 - 0) / 16384) (2 * pi_bot * d) z 2) (sym (rest0 n d dp h))
      (record { low = low pi_bot ((X * 256 - 0) / 16384) (cut X) lo; high = high pi_bot ((X * 256 - 0) / 16384) (cut' X) hi });
  proper = subst (λ (z : ℕ). z ≤ 2 * pi_bot * d) (sym (rest0 n d dp h)) (proper0 n d dp h);
  under = subst (λ (z : ℕ). z * 1000 ≤ 786 * (2 * pi_bot * d)) (sym (rest0 n d dp h)) (under0 n d dp h);
  small = few X (le_of_mul-le-mul_right (le_trans lo (little n d h)) dp);
}
  where
    cut : (X : ℕ) → (X * 256 - 0) / 16384 * 64 ≤ X
    cut X = omega arith

    cut' : (X : ℕ) → X + 1 ≤ (X * 256 - 0) / 16384 * 64 + 64
    cut' X = omega arith

    low : (t A : ℕ) → A * 64 ≤ X → X * d ≤ 1099511627776 * n → A * (2 * t * d) ≤ 17179869184 * (2 * t * n) + 2 * (2 * t * d)
    low t A x y = go (mul-le-mul_left t (le_trans (mul-le-mul_right d x) y))
      where
        go : t * (A * 64 * d) ≤ t * (1099511627776 * n) → A * (2 * t * d) ≤ 17179869184 * (2 * t * n) + 2 * (2 * t * d)
        go f = omega arith

    high : (t A : ℕ) → X + 1 ≤ A * 64 + 64 → 1099511627776 * n ≤ X * d + d → 17179869184 * (2 * t * n) ≤ A * (2 * t * d) + 2 * (2 * t * d)
    high t A x y = go (mul-le-mul_left t (le_trans y (le_trans (le_of_eq (one X d)) (mul-le-mul_right d x))))
      where
        one : (X d : ℕ) → X * d + d ≡ (X + 1) * d
        one X d = omega arith

        go : t * (1099511627776 * n) ≤ t * ((A * 64 + 64) * d) → 17179869184 * (2 * t * n) ≤ A * (2 * t * d) + 2 * (2 * t * d)
        go f = omega arith

    few : (X : ℕ) → X ≤ 268435456 → (X * 256 - 0) / 16384 < 17179869184
    few X h = omega arith

pub record Placed (m : ℕ) (e : ℤ) : Type 0 where
  pub reduced_at : (f : Bool) → Reduced f (m * up e) (down e) (places 40 (fin false m e)) (scan 20 0 (places 40 (fin false m e)))
  pub small : places 40 (fin false m e) ≤ 17592186044416

pub placed : (m : ℕ) (e : ℤ) → T (fits binary32 (fin false m e)) → m * up e ≤ 16 * down e → Placed m e
unfolding places
placed m e t h = go (ltb (4096 * (m * up e)) (down e)) (ltb→lt (4096 * (m * up e)) (down e)) (nltb→le (4096 * (m * up e)) (down e))
  where
    X : ℕ
    X = m * up e * 1099511627776 / down e

    dp : 0 < down e
    dp = down_pos e

    lo : m * up e * 1099511627776 / down e * down e ≤ 1099511627776 * (m * up e)
    lo = le_trans (div-mul-le_self (m * up e * 1099511627776) (down e)) (le_of_eq (mul_comm (m * up e) 1099511627776))

    hi : 1099511627776 * (m * up e) ≤ m * up e * 1099511627776 / down e * down e + down e
    hi = le_trans (le_of_eq (mul_comm 1099511627776 (m * up e))) (le_of_lt (lt-div-mul-add dp))

    cap : (n d : ℕ) → n ≤ 16 * d → 1099511627776 * n ≤ 17592186044416 * d
    cap n d h = omega arith

    xl : m * up e * 1099511627776 / down e ≤ 17592186044416
    xl = le_of_mul-le-mul_right (le_trans lo (cap (m * up e) (down e) h)) dp

    less : (x y : ℕ) → x ≤ 268435456 → x ≤ 863554413089
    less x y h = omega arith

    go : (b : Bool) → (T b → 4096 * (m * up e) < down e) → (T (not b) → down e ≤ 4096 * (m * up e)) → Placed m e
    go true y n =
        let at : scan 20 0 X ≡ 0 = scan_stop 0 X (lit< tt) (less X 0 (le_of_mul-le-mul_right (le_trans lo (little (m * up e) (down e) (y tt))) dp)) in
        record { reduced_at = λ (f : Bool). subst (λ (q : ℕ). Reduced f (m * up e) (down e) X q) (sym at) (small_reduced f (m * up e) (down e) X dp (y tt) lo hi); small = xl }
    go false y n =
        let ml : m < 2 ^ 24 = digits m e t (pos_of m (up e) (down e) dp (n tt)) in
        let wh = whole e (down_le m e ml (n tt)) in
        let w = wh.w in
        let q : X ≡ m * up e * w = div_same (m * up e * 1099511627776) (down e) (m * up e * w) 1 dp (lit< tt) (g1 (m * up e) w (down e) 1099511627776 wh.is) ∙ div-one (m * up e * w) in
        let ex : X * down e ≡ 1099511627776 * (m * up e) = ap (λ (z : ℕ). z * down e) q ∙ g2 (m * up e) w (down e) 1099511627776 wh.is in
        let k = found X xl in
        record { reduced_at = λ (f : Bool). reduced f (m * up e) (down e) X (scan 20 0 X) dp ex k.few k.low k.high; small = xl }
      where
        g1 : (n w d C : ℕ) → w * d ≡ C → n * C * 1 ≡ n * w * d
        g1 n w d C e = mul-one (n * C) ∙ ap (λ (z : ℕ). n * z) (sym e) ∙ sym (mul_assoc n w d)

        g2 : (n w d C : ℕ) → w * d ≡ C → n * w * d ≡ C * n
        g2 n w d C e = mul_assoc n w d ∙ ap (λ (z : ℕ). n * z) e ∙ mul_comm n C
