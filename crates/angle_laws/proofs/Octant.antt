-- The arctangent's heart, over whole numbers: t / 2^31 is near the ratio a / c ≤ 1 of the smaller side to the larger. A fixed-point sine and cosine near s and g (both at the same angle r)
-- that satisfy t cos ≥ 2^31 sin, and another pair, near the same s and g, that does not, bound |a g - c s| by 2^-18 c. Assumes nothing.
use mathlib.Core.Path.{◌≡◌, refl, sym, subst, subst₂}
use Prim.Native.Nat.{ℕ, ◌+◌, ◌*◌, ◌≤◌, ◌-◌, ◌/◌, ◌<◌}
use native.Mathlib.Nat.{mul-le-mul_left, mul-le-mul_right, mul-le-mul, le_of_mul-le-mul_left, div-le_of_le-mul, le_trans, le_of_lt, le-add_right}
use native.Mathlib.Omega.{arith}
use lib.Dec.{lit<, lit≤}
use mathlib.Core.List.{◌∷◌, []}
use mathlib.Core.Logic.{◌⊎◌, inl, inr}
use Rattle.angles.proofs.Ratio.{P31, Slope}
use Rattle.angle_laws.proofs.Fixed.{Near, near_sin, near_cos}
use Rattle.sines.specs.Steps.{dist, nest, square, cos_fix, sin_fix}
use Rattle.sines.proofs.Bounds.{nest_le, square_le, cos_fix_le}
use Rattle.angle_laws.specs.Series.{sin_top, sin_bot, cos_top, cos_bot}
use Rattle.angle_laws.proofs.Parts.{Angle}
use Rattle.angles.proofs.Seek.{Sought}

-- g = G / Q, s = S / B, the exact cosine and sine
module _ (t a c w G Q S B k s y z : ℕ) (sl : Slope t a c w) (ac : a ≤ c) (nc : Near k G Q y) (ns : Near s S B z) where
  -- t k ≥ P31 s: c s ≤ a g + (y + z + w) / P31
  below : P31 * s ≤ t * k → k ≤ P31 → P31 * (c * S * Q) ≤ P31 * (a * G * B) + (y + z + w) * (c * Q * B)
  below h kp =
      let P = P31 in
      le_of_mul-le-mul_left {k = P31}
      (l6 (c * Q * B)
      (l1 (mul-le-mul_right (P * c * Q) ns.high))
      (l2 (mul-le-mul_right (c * B * Q) h))
      (l3 (mul-le-mul_right (k * B * Q) sl.low))
      (l4 (mul-le-mul_right (P * a * B) nc.low))
      (l5 (mul-le-mul_right (w * (c * Q * B)) kp))
      (l7 (mul-le-mul_right (P * y * Q * B) ac)))
      (lit< tt)
    where
      l1 : P31 * S * (P31 * c * Q) ≤ (s * B + z * B) * (P31 * c * Q) → P31 * (P31 * (c * S * Q)) ≤ P31 * (s * (c * Q * B)) + P31 * (z * (c * Q * B))
      l1 f = omega arith

      l2 : P31 * s * (c * B * Q) ≤ t * k * (c * B * Q) → P31 * (s * (c * Q * B)) ≤ t * k * c * Q * B
      l2 f = omega arith

      l3 : t * c * (k * B * Q) ≤ (P31 * a + w * c) * (k * B * Q) → t * k * c * Q * B ≤ P31 * (a * k * Q * B) + k * (w * (c * Q * B))
      l3 f = omega arith

      l4 : k * Q * (P31 * a * B) ≤ (P31 * G + y * Q) * (P31 * a * B) → P31 * (a * k * Q * B) ≤ P31 * (P31 * (a * G * B)) + P31 * (a * y * Q * B)
      l4 f = omega arith

      l5 : k * (w * (c * Q * B)) ≤ P31 * (w * (c * Q * B)) → k * (w * (c * Q * B)) ≤ P31 * (w * (c * Q * B))
      l5 f = f

      l7 : a * (P31 * y * Q * B) ≤ c * (P31 * y * Q * B) → P31 * (a * y * Q * B) ≤ P31 * (y * (c * Q * B))
      l7 f = omega arith

      l6 : (W : ℕ) → P31 * (P31 * (c * S * Q)) ≤ P31 * (s * W) + P31 * (z * W) → P31 * (s * W) ≤ t * k * c * Q * B → t * k * c * Q * B ≤ P31 * (a * k * Q * B) + k * (w * W)
          → P31 * (a * k * Q * B) ≤ P31 * (P31 * (a * G * B)) + P31 * (a * y * Q * B) → k * (w * W) ≤ P31 * (w * W) → P31 * (a * y * Q * B) ≤ P31 * (y * W)
          → P31 * (P31 * (c * S * Q)) ≤ P31 * (P31 * (a * G * B) + (y + z + w) * W)
      l6 W x1 x2 x3 x4 x5 x6 = glue _ _ _ _ _ _ _ _ _ _ _ x1 x2 x3 x4 x5 x6 (sums W (P31 * (a * G * B)))
        where
          sums : (W X : ℕ) → P31 * X + (P31 * (y * W) + (P31 * (z * W) + P31 * (w * W))) ≡ P31 * (X + (y + z + w) * W)
          sums W X = omega arith

          glue : (A b e d f g h i j l u : ℕ) → A ≤ b + e → b ≤ d → d ≤ f + g → f ≤ h + i → g ≤ j → i ≤ l → h + (l + (e + j)) ≡ u → A ≤ u
          glue A b e d f g h i j l u p q r s t v w = omega arith

  -- t k ≤ P31 s + P31 u: a g ≤ c s + (2 y + z + w + 1 + u) / P31
  above : (u : ℕ) → t * k ≤ P31 * s + P31 * u → k ≤ P31 → t ≤ 2 * P31 → w * y ≤ P31 → P31 * (a * G * B) ≤ P31 * (c * S * Q) + (2 * y + z + w + 1 + u) * (c * Q * B)
  above u h kp tp wy =
      le_of_mul-le-mul_left {k = P31}
      (fin (c * Q * B)
      (m1 (mul-le-mul sl.high nc.high))
      (mul-le-mul_right (c * Q * B) h)
      (m2 (mul-le-mul_left (P31 * c * Q) ns.low))
      (mul-le-mul_right (c * Q * B) (mul-le-mul_right y tp))
      (mul-le-mul_right (c * Q * B) (mul-le-mul_left w kp))
      (mul-le-mul_right (c * Q * B) wy))
      (lit< tt)
    where
      m1 : P31 * a * (P31 * G) ≤ (t * c + w * c) * (k * Q + y * Q) → P31 * (P31 * (a * G * B)) ≤ t * k * (c * Q * B) + t * y * (c * Q * B) + (w * k * (c * Q * B) + w * y * (c * Q * B))
      m1 f = m1' (mul-le-mul_right B f)
        where
          m1' : P31 * a * (P31 * G) * B ≤ (t * c + w * c) * (k * Q + y * Q) * B → P31 * (P31 * (a * G * B)) ≤ t * k * (c * Q * B) + t * y * (c * Q * B) + (w * k * (c * Q * B) + w * y * (c * Q * B))
          m1' f = omega arith

      m2 : P31 * c * Q * (s * B) ≤ P31 * c * Q * (P31 * S + z * B) → P31 * (s * (c * Q * B)) ≤ P31 * (P31 * (c * S * Q)) + P31 * (z * (c * Q * B))
      m2 f = omega arith

      fin : (W : ℕ) → P31 * (P31 * (a * G * B)) ≤ t * k * W + t * y * W + (w * k * W + w * y * W) → t * k * W ≤ (P31 * s + P31 * u) * W → P31 * (s * W) ≤ P31 * (P31 * (c * S * Q)) + P31 * (z * W)
          → t * y * W ≤ 2 * P31 * y * W → w * k * W ≤ w * P31 * W → w * y * W ≤ P31 * W
          → P31 * (P31 * (a * G * B)) ≤ P31 * (P31 * (c * S * Q) + (2 * y + z + w + 1 + u) * W)
      fin W x1 x2 x3 x4 x5 x6 = glue _ _ _ _ _ _ _ _ _ _ _ _ x1 (e1 W x2) x3 (e2 W x4) (e3 W x5) x6 (sums W (P31 * (c * S * Q)))
        where
          e1 : (W : ℕ) → t * k * W ≤ (P31 * s + P31 * u) * W → t * k * W ≤ P31 * (s * W) + P31 * (u * W)
          e1 W f = omega arith

          e2 : (W : ℕ) → t * y * W ≤ 2 * P31 * y * W → t * y * W ≤ P31 * (2 * y * W)
          e2 W f = omega arith

          e3 : (W : ℕ) → w * k * W ≤ w * P31 * W → w * k * W ≤ P31 * (w * W)
          e3 W f = omega arith

          sums : (W X : ℕ) → P31 * X + P31 * (z * W) + P31 * (u * W) + P31 * (2 * y * W) + P31 * (w * W) + P31 * W ≡ P31 * (X + (2 * y + z + w + 1 + u) * W)
          sums W X = omega arith

          glue : (A b e d f g h i j l m v : ℕ) → A ≤ b + e + (d + f) → b ≤ g + h → g ≤ i + j → e ≤ l → d ≤ m → f ≤ v → {o : ℕ} → i + j + h + l + m + v ≡ o → A ≤ o
          glue A b e d f g h i j l m v p q r s t n {o} y = omega arith

-- ---- both sides together
pub final : (a c G Q S B x y : ℕ) → x ≤ 8192 → y ≤ 8192 → P31 * (c * S * Q) ≤ P31 * (a * G * B) + x * (c * Q * B) → P31 * (a * G * B) ≤ P31 * (c * S * Q) + y * (c * Q * B)
    → dist (a * G * B) (c * S * Q) * 262144 ≤ c * Q * B
final a c G Q S B x y xl yl h k = go (a * G * B) (c * S * Q) (c * Q * B) h k (mul-le-mul_right (c * Q * B) xl) (mul-le-mul_right (c * Q * B) yl)
  where
    go : (u v w : ℕ) → P31 * v ≤ P31 * u + x * w → P31 * u ≤ P31 * v + y * w → x * w ≤ 8192 * w → y * w ≤ 8192 * w → dist u v * 262144 ≤ w
    go u v w p q r s = omega arith

-- ---- the found angle, and the exact sine and cosine of any R / D that is near it
cos_half : (a : ℕ) → a < 17179869184 → 1073741824 ≤ cos_fix a
unfolding cos_fix nest
cos_half a h = go _ (div-le_of_le-mul 1073741824 (mul-le-mul (square_le a h) (nest_le 1073741824 (square a) (12 ∷ 30 ∷ 56 ∷ 90 ∷ 132 ∷ 182 ∷ []))))
  where
    go : (x : ℕ) → x ≤ 1073741824 → 1073741824 ≤ 2 * (1073741824 - x / 2)
    go x k = omega arith

cos_last : cos_fix 13493038080 ≡ 1518500218
unfolding cos_fix nest
cos_last = refl

sin_last : sin_fix 13493038080 ≡ 1518500283
unfolding sin_fix nest
sin_last = refl

at_last : (t j : ℕ) → t ≤ 2147484168 → j + 1 ≡ 13176795 → t * cos_fix ((j + 1) * 1024) ≤ 2147483648 * sin_fix ((j + 1) * 1024) + 2147483648 * 400
at_last t j h e = subst (λ (z : ℕ). t * cos_fix (z * 1024) ≤ 2147483648 * sin_fix (z * 1024) + 2147483648 * 400) (sym e)
    (subst₂ (λ (k s : ℕ). t * k ≤ 2147483648 * s + 2147483648 * 400) (sym cos_last) (sym sin_last) (go t h))
  where
    go : (t : ℕ) → t ≤ 2147484168 → t * 1518500218 ≤ 2147483648 * 1518500283 + 2147483648 * 400
    go t h = omega arith

module _ (t a c j R D : ℕ) (so : Sought t j) (sl : Slope t a c 520) (ac : a ≤ c) (tl : t ≤ 2147484168) (rd : R ≤ D)
    (here : Angle 17179869184 (j * 1024) D R 7168) (next : Angle 17179869184 ((j + 1) * 1024) D R 7168) where
  a0 : j * 1024 < 17179869184
  a0 = lt1 j so.few
    where
      lt1 : (j : ℕ) → j < 13176795 → j * 1024 < 17179869184
      lt1 j h = omega arith

  a1 : (j + 1) * 1024 < 17179869184
  a1 = lt1 j so.few
    where
      lt1 : (j : ℕ) → j < 13176795 → (j + 1) * 1024 < 17179869184
      lt1 j h = omega arith

  c0 : Near (cos_fix (j * 1024)) (cos_top R D) (cos_bot D) 1800
  c0 = near_cos (j * 1024) D R 7168 1793 897 (le_of_lt a0) rd (lit≤ tt) (lit≤ tt) here

  s0 : Near (sin_fix (j * 1024)) (sin_top R D) (sin_bot D) 2697
  s0 = near_sin (j * 1024) D R 7168 1793 897 (le_of_lt a0) rd (lit≤ tt) (lit≤ tt) here 2697 (lit≤ tt)

  c1 : Near (cos_fix ((j + 1) * 1024)) (cos_top R D) (cos_bot D) 1800
  c1 = near_cos ((j + 1) * 1024) D R 7168 1793 897 (le_of_lt a1) rd (lit≤ tt) (lit≤ tt) next

  s1 : Near (sin_fix ((j + 1) * 1024)) (sin_top R D) (sin_bot D) 2697
  s1 = near_sin ((j + 1) * 1024) D R 7168 1793 897 (le_of_lt a1) rd (lit≤ tt) (lit≤ tt) next 2697 (lit≤ tt)

  up : (j + 1 ≡ 13176795) ⊎ (t * cos_fix ((j + 1) * 1024) < 2147483648 * sin_fix ((j + 1) * 1024)) → t * cos_fix ((j + 1) * 1024) ≤ 2147483648 * sin_fix ((j + 1) * 1024) + 2147483648 * 400
  up (inl e) = at_last t j tl e
  up (inr l) = le_trans (le_of_lt l) (le-add_right _ _)

  -- |a c(r) - c s(r)| ≤ 2^-18 c
  pub residual : dist (a * cos_top R D * sin_bot D) (c * sin_top R D * cos_bot D) * 262144 ≤ c * cos_bot D * sin_bot D
  residual = final a c (cos_top R D) (cos_bot D) (sin_top R D) (sin_bot D) 5017 7218 (lit≤ tt) (lit≤ tt)
      (below t a c 520 (cos_top R D) (cos_bot D) (sin_top R D) (sin_bot D) (cos_fix (j * 1024)) (sin_fix (j * 1024)) 1800 2697 sl ac c0 s0 so.under (cos_fix_le (j * 1024)))
      (above t a c 520 (cos_top R D) (cos_bot D) (sin_top R D) (sin_bot D) (cos_fix ((j + 1) * 1024)) (sin_fix ((j + 1) * 1024)) 1800 2697 sl ac c1 s1 400 (up so.next) (cos_fix_le ((j + 1) * 1024)) (le_trans tl (lit≤ tt)) (lit≤ tt))

  -- c(r) > 0
  pub cos_positive : 0 < cos_bot D → 0 < cos_top R D
  cos_positive bp = go (cos_fix (j * 1024)) (cos_top R D) (cos_bot D) c0.low (mul-le-mul_right (cos_bot D) (cos_half (j * 1024) a0)) bp
    where
      go : (k N Q : ℕ) → k * Q ≤ 2147483648 * N + 1800 * Q → 1073741824 * Q ≤ k * Q → 0 < Q → 0 < N
      go k N Q x y z = omega arith
