-- The fixed-point sine and cosine of an angle A / 2^34 that is within e / 2^34 of R / D are near the series of R / D: the whole numeric core, for any e. Assumes nothing.
use Prim.Native.Nat.{ℕ, ◌+◌, ◌*◌, ◌≤◌, ◌/◌}
use native.Mathlib.Omega.{arith}
use mathlib.Core.Path.{refl, sym, subst₂}
use native.Mathlib.Nat.{mul-le-mul_left, mul-le-mul_right, div-mul-le_self}
use lib.Dec.{lit<}
use Rattle.sines.specs.Steps as steps
use Rattle.angle_laws.specs.Series.{sin_top, sin_bot, cos_top, cos_bot, bot, top}
use Rattle.sines.specs.Steps.{nest, sin_divs, cos_divs, sin_fix, cos_fix}
use Rattle.angle_laws.proofs.Horner.{Square, Close, nested}
use Rattle.angle_laws.proofs.Parts.{Angle, Sine, square, product}
use Rattle.angle_laws.proofs.Nested.{sin_nested, cos_nested, sin_bot_lem, cos_bot_lem}

-- a fixed-point number a, in units of 2^-31, within z units of N / Q
pub record Near (a N Q z : ℕ) : Type 0 where
  pub low : a * Q ≤ 2147483648 * N + z * Q
  pub high : 2147483648 * N ≤ a * Q + z * Q

module _ (A D R e h w : ℕ) (ab : A ≤ 17179869184) (rd : R ≤ D) (eh : e + 4 ≤ 4 * h) (hw : h ≤ 2 * w) (an : Angle 17179869184 A D R e) where
  quarter : Angle 4294967296 (A / 4) D R h
  quarter = record {
    low = low (A / 4) (mul-le-mul_right D (div-mul-le_self A 4)) an.low (mul-le-mul_right D eh);
    high = high (A / 4) (mul-le-mul_right D (cut A)) an.high (mul-le-mul_right D eh);
  }
    where
      cut : (a : ℕ) → a ≤ a / 4 * 4 + 4
      cut a = omega arith

      low : (a : ℕ) → a * 4 * D ≤ A * D → A * D ≤ 17179869184 * R + e * D → (e + 4) * D ≤ 4 * h * D → a * D ≤ 4294967296 * R + h * D
      low a x y z = omega arith

      high : (a : ℕ) → A * D ≤ (a * 4 + 4) * D → 17179869184 * R ≤ A * D + e * D → (e + 4) * D ≤ 4 * h * D → 4294967296 * R ≤ a * D + h * D
      high a x y z = omega arith

  squared : Square 1073741824 (steps.square A) (D * D) (R * R) (w + 1)
  squared = square 4294967296 (A / 4) D R h 1073741824 17179869184 w (lit< tt) (lit< tt) refl (le4 A ab) rd (twice h w hw) quarter
    where
      le4 : (a : ℕ) → a ≤ 17179869184 → a / 4 ≤ 4294967296
      le4 a x = omega arith

      twice : (h w : ℕ) → h ≤ 2 * w → 2 * h * 4294967296 ≤ w * 17179869184
      twice h w x = omega arith

  close_s : Close 1073741824 (nest 1073741824 (steps.square A) sin_divs) (bot (D * D) sin_divs) (top (R * R) (D * D) sin_divs) (w + 3)
  close_s = nested 1073741824 (steps.square A) (D * D) (R * R) (w + 1) (w + 3) sin_divs tt (omega arith) squared

  close_c : Close 1073741824 (nest 1073741824 (steps.square A) cos_divs) (bot (D * D) cos_divs) (top (R * R) (D * D) cos_divs) (w + 3)
  close_c = nested 1073741824 (steps.square A) (D * D) (R * R) (w + 1) (w + 3) cos_divs tt (omega arith) squared

  pub near_cos : Near (cos_fix A) (cos_top R D) (cos_bot D) (2 * (w + 3))
  unfolding cos_fix
  near_cos = subst₂ (λ (t b : ℕ). Near (cos_fix A) t b (2 * (w + 3))) (sym (cos_nested R D rd)) (sym (cos_bot_lem D))
      (go (nest 1073741824 (steps.square A) cos_divs) (bot (D * D) cos_divs) (top (R * R) (D * D) cos_divs) close_c)
    where
      go : (H Q N : ℕ) → Close 1073741824 H Q N (w + 3) → Near (2 * H) N Q (2 * (w + 3))
      go H Q N c = record { low = a c.low; high = b c.high }
        where
          a : H * Q ≤ 1073741824 * N + (w + 3) * Q → 2 * H * Q ≤ 2147483648 * N + 2 * (w + 3) * Q
          a x = omega arith

          b : 1073741824 * N ≤ H * Q + (w + 3) * Q → 2147483648 * N ≤ 2 * H * Q + 2 * (w + 3) * Q
          b x = omega arith

  pub sined : Sine 8589934592 2147483648 (sin_fix A) D R (bot (D * D) sin_divs) (top (R * R) (D * D) sin_divs) (17179869184 * (w + 3) * (R * bot (D * D) sin_divs) + e * 1073741824 * (D * bot (D * D) sin_divs))
  unfolding sin_fix
  sined = product 17179869184 A D R e 1073741824 (nest 1073741824 (steps.square A) sin_divs) (bot (D * D) sin_divs) (top (R * R) (D * D) sin_divs) (w + 3) 8589934592 2147483648 (lit< tt) refl an close_s

  pub near_sin : (z : ℕ) → 16 * (w + 3) + e + 8 ≤ 8 * z → Near (sin_fix A) (sin_top R D) (sin_bot D) z
  near_sin z hz = subst₂ (λ (t b : ℕ). Near (sin_fix A) t b z) (sym (sin_nested R D rd)) (sym (sin_bot_lem D))
      (go (sin_fix A) (D * bot (D * D) sin_divs) (R * top (R * R) (D * D) sin_divs) _ (mul-le-mul_right (bot (D * D) sin_divs) rd) (mul-le-mul_right (D * bot (D * D) sin_divs) hz) sined.low sined.high)
    where
      go : (s W N rq : ℕ) → rq ≤ W → (16 * (w + 3) + e + 8) * W ≤ 8 * z * W
          → 8589934592 * s * W ≤ 8589934592 * 2147483648 * N + (17179869184 * (w + 3) * rq + e * 1073741824 * W)
          → 8589934592 * 2147483648 * N ≤ 8589934592 * s * W + 8589934592 * W + (17179869184 * (w + 3) * rq + e * 1073741824 * W)
          → Near s N W z
      go s W N rq r x y u =
          let f : (w + 3) * rq ≤ (w + 3) * W = mul-le-mul_left (w + 3) r in
          record { low = a f x y; high = b f x u }
        where
          a : (w + 3) * rq ≤ (w + 3) * W → (16 * (w + 3) + e + 8) * W ≤ 8 * z * W → 8589934592 * s * W ≤ 8589934592 * 2147483648 * N + (17179869184 * (w + 3) * rq + e * 1073741824 * W) → s * W ≤ 2147483648 * N + z * W
          a f x y = omega arith

          b : (w + 3) * rq ≤ (w + 3) * W → (16 * (w + 3) + e + 8) * W ≤ 8 * z * W → 8589934592 * 2147483648 * N ≤ 8589934592 * s * W + 8589934592 * W + (17179869184 * (w + 3) * rq + e * 1073741824 * W) → 2147483648 * N ≤ s * W + z * W
          b f x y = omega arith
