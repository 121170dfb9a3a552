-- Below 2^-12 the sine is x itself and the cosine 1: both well within 2^-20 of S and C. Assumes nothing.
use mathlib.Core.Path.{◌≡◌, ap, refl, sym, ◌∙◌, subst, subst₂}
use Prim.Native.Nat.{ℕ, ◌+◌, ◌*◌, ◌≤◌, ◌<◌, zero-le}
use native.Mathlib.Nat.{mul-le-mul_left, mul-le-mul, le_trans, le_of_eq, le_of_lt, lt_of_le_of_lt, zero-mul, mul-le-mul_right, mul-lt-mul_of_pos_left, mul-pos, mul_assoc}
use native.Mathlib.Omega.{arith}
use mathlib.Core.Bool.{Bool, true, false}
use mathlib.Core.List.{List, ◌∷◌, []}
use lib.Dec.{ltb, lit<, lit≤}
use lib.Ieee.{fin}
use Rattle.sines.specs.Steps.{dist, sin_divs, cos_divs, xor}
use Rattle.angle_laws.specs.Series.{sin_top, sin_bot, cos_top, cos_bot, bot, top}
use Rattle.angle_laws.specs.Angle.{Ratio, pi_top, pi_bot, turn, quarters, rest_top, rest_bot, rest_neg, pick_s, pick_c, sine, cosine, apart}
use Rattle.angle_laws.proofs.Nested.{sin_nested, cos_nested, sin_bot_lem, cos_bot_lem, top_sum, top_le}
use Rattle.angle_laws.proofs.Reduce.{nearest}
use borrow.Author.Tests.{le-ltb}

-- ---- the series near 0: x - x (1 - t/6 N') is x t/6 N'
cubic : (n d t N M Q K R2 D2 : ℕ) → N + R2 * M ≡ Q → Q ≡ 6 * (D2 * K) → M ≤ K → 1048576 * (n * R2) ≤ 6 * (d * D2)
    → dist (n * (t * d * Q)) (t * n * N * d) * 1048576 ≤ d * (t * d * Q)
cubic n d t N M Q K R2 D2 e q mk h =
    go (t * n * d * N) (t * n * d * R2 * M) (n * (t * d * Q)) (t * n * N * d) (d * (t * d * Q)) (t * n * d * R2 * K) (t * d * (6 * (d * D2)) * K)
    (s1 (ap (λ (z : ℕ). t * n * d * z) e)) s2 (s3 (mul-le-mul_left (t * n * d * R2) mk)) (s4 (mul-le-mul_left (t * d * K) h)) (s5 (ap (λ (z : ℕ). t * d * d * z) q))
  where
    s1 : t * n * d * (N + R2 * M) ≡ t * n * d * Q → n * (t * d * Q) ≡ t * n * d * N + t * n * d * R2 * M
    s1 f = omega arith

    s2 : t * n * N * d ≡ t * n * d * N
    s2 = omega arith

    s3 : t * n * d * R2 * M ≤ t * n * d * R2 * K → t * n * d * R2 * M ≤ t * n * d * R2 * K
    s3 f = f

    s4 : t * d * K * (1048576 * (n * R2)) ≤ t * d * K * (6 * (d * D2)) → t * n * d * R2 * K * 1048576 ≤ t * d * (6 * (d * D2)) * K
    s4 f = omega arith

    s5 : t * d * d * Q ≡ t * d * d * (6 * (D2 * K)) → d * (t * d * Q) ≡ t * d * (6 * (d * D2)) * K
    s5 f = omega arith

    go : (a b x y w u v : ℕ) → x ≡ a + b → y ≡ a → b ≤ u → u * 1048576 ≤ v → w ≡ v → dist x y * 1048576 ≤ w
    go a b x y w u v p q r s t = omega arith

square_small : (n d t : ℕ) → 4096 * n ≤ d → 16777216 * (t * n * (t * n)) ≤ t * d * (t * d)
square_small n d t h = go (mul-le-mul (mul-le-mul_left t h) (mul-le-mul_left t h))
  where
    go : t * (4096 * n) * (t * (4096 * n)) ≤ t * d * (t * d) → 16777216 * (t * n * (t * n)) ≤ t * d * (t * d)
    go f = omega arith

cube_small : (n d r s : ℕ) → 4096 * n ≤ d → 16777216 * r ≤ s → 1048576 * (n * r) ≤ 6 * (d * s)
cube_small n d r s h k = go (mul-le-mul h k)
  where
    go : 4096 * n * (16777216 * r) ≤ d * s → 1048576 * (n * r) ≤ 6 * (d * s)
    go f = omega arith

module _ (n d : ℕ) (dp : 0 < d) (h : 4096 * n < d) where
  pub k0 : (f : Bool) → quarters f n d ≡ 0
  k0 f = nearest f n d 0 dp
      (lt0 (pi_top * d) (4 * pi_bot * n) (mul-pos {m = pi_top} (lit< tt) dp))
      (lt1 (4 * pi_bot * n) (pi_top * d) (lt_of_le_of_lt (le_trans (mul-le-mul_right {m = 4 * pi_bot} {n = pi_top * 4096} n (lit≤ tt)) (le_of_eq (mul_assoc pi_top 4096 n))) (mul-lt-mul_of_pos_left {k = pi_top} h (lit< tt))))
    where
      lt0 : (W Y : ℕ) → 0 < W → 2 * 0 * W < Y + W
      lt0 W Y h = omega arith

      lt1 : (Y W : ℕ) → Y < W → Y < 2 * 0 * W + W
      lt1 Y W h = omega arith

  pub rest0 : rest_top 0 n d ≡ 2 * pi_bot * n
  rest0 = ap (λ (z : ℕ). dist (2 * pi_bot * n) z) (zero-mul (pi_top * d)) ∙ go (2 * pi_bot * n)
    where
      go : (y : ℕ) → dist y 0 ≡ y
      go y = omega arith

  pub sign0 : ltb (2 * pi_bot * n) (0 * (pi_top * d)) ≡ false
  sign0 = le-ltb (2 * pi_bot * n) (0 * (pi_top * d)) (le_trans (le_of_eq (zero-mul (pi_top * d))) zero-le)

  pub proper0 : 2 * pi_bot * n ≤ 2 * pi_bot * d
  proper0 = mul-le-mul_left (2 * pi_bot) (go n h)
    where
      go : (n : ℕ) → 4096 * n < d → n ≤ d
      go n h = omega arith

  pub under0 : 2 * pi_bot * n * 1000 ≤ 786 * (2 * pi_bot * d)
  under0 = le_trans (le_of_eq (f1 (2 * pi_bot) n)) (le_trans (mul-le-mul_left (2 * pi_bot) (go n h)) (le_of_eq (f2 (2 * pi_bot) d)))
    where
      go : (n : ℕ) → 4096 * n < d → n * 1000 ≤ 786 * d
      go n h = omega arith

      f1 : (t n : ℕ) → t * n * 1000 ≡ t * (n * 1000)
      f1 t n = omega arith

      f2 : (t d : ℕ) → t * (786 * d) ≡ 786 * (t * d)
      f2 t d = omega arith

  sq : 16777216 * (2 * pi_bot * n * (2 * pi_bot * n)) ≤ 2 * pi_bot * d * (2 * pi_bot * d)
  sq = square_small n d (2 * pi_bot) (le_of_lt h)

  sin_close : dist (n * sin_bot (2 * pi_bot * d)) (sin_top (2 * pi_bot * n) (2 * pi_bot * d) * d) * 1048576 ≤ d * sin_bot (2 * pi_bot * d)
  unfolding bot
  sin_close =
      let R = 2 * pi_bot * n in
      let D = 2 * pi_bot * d in
      let ds : List ℕ = 20 ∷ 42 ∷ 72 ∷ 110 ∷ 156 ∷ [] in
      subst₂ (λ (t b : ℕ). dist (n * b) (t * d) * 1048576 ≤ d * b) (sym (sin_nested R D proper0)) (sym (sin_bot_lem D))
      (cubic n d (2 * pi_bot) (top (R * R) (D * D) sin_divs) (top (R * R) (D * D) ds) (bot (D * D) sin_divs) (bot (D * D) ds) (R * R) (D * D)
      (top_sum (R * R) (D * D) 6 ds tt (mul-le-mul proper0 proper0)) refl (top_le (R * R) (D * D) ds tt (mul-le-mul proper0 proper0))
      (cube_small n d (R * R) (D * D) (le_of_lt h) sq))

  -- the cosine: 1 - (1 - t/2 N') is t/2 N'
  cos_close : dist (1 * cos_bot (2 * pi_bot * d)) (cos_top (2 * pi_bot * n) (2 * pi_bot * d) * 1) * 1048576 ≤ 1 * cos_bot (2 * pi_bot * d)
  unfolding bot
  cos_close =
      let R = 2 * pi_bot * n in
      let D = 2 * pi_bot * d in
      let ds : List ℕ = 12 ∷ 30 ∷ 56 ∷ 90 ∷ 132 ∷ 182 ∷ [] in
      subst₂ (λ (t b : ℕ). dist (1 * b) (t * 1) * 1048576 ≤ 1 * b) (sym (cos_nested R D proper0)) (sym (cos_bot_lem D))
      (go (top (R * R) (D * D) cos_divs) (top (R * R) (D * D) ds) (bot (D * D) cos_divs) (bot (D * D) ds) (R * R) (D * D)
      (top_sum (R * R) (D * D) 2 ds tt (mul-le-mul proper0 proper0)) refl (top_le (R * R) (D * D) ds tt (mul-le-mul proper0 proper0)) sq)
    where
      go : (N M Q K r s : ℕ) → N + r * M ≡ Q → Q ≡ 2 * (s * K) → M ≤ K → 16777216 * r ≤ s → dist (1 * Q) (N * 1) * 1048576 ≤ 1 * Q
      go N M Q K r s e q mk h = fin (r * M) (r * K) (s * K) e q (mul-le-mul_left r mk) (fac (mul-le-mul_right K h))
        where
          fac : 16777216 * r * K ≤ s * K → 16777216 * (r * K) ≤ s * K
          fac f = omega arith

          fin : (x y z : ℕ) → N + x ≡ Q → Q ≡ 2 * z → x ≤ y → 16777216 * y ≤ z → dist (1 * Q) (N * 1) * 1048576 ≤ 1 * Q
          fin x y z a b c d = omega arith

  pub sine_is : (f : Bool) → sine f n d ≡ pick_s (turn f 0) (xor f false) (2 * pi_bot * n) (2 * pi_bot * d)
  unfolding sine
  sine_is f =
      ap (λ (k : ℕ). pick_s (turn f k) (rest_neg f k n d) (rest_top k n d) (rest_bot d)) (k0 f)
      ∙ ap (λ (b : Bool). pick_s (turn f 0) (xor f b) (rest_top 0 n d) (rest_bot d)) sign0
      ∙ ap (λ (R : ℕ). pick_s (turn f 0) (xor f false) R (rest_bot d)) rest0

  pub cosine_is : (f : Bool) → cosine f n d ≡ pick_c (turn f 0) (xor f false) (2 * pi_bot * n) (2 * pi_bot * d)
  unfolding cosine
  cosine_is f =
      ap (λ (k : ℕ). pick_c (turn f k) (rest_neg f k n d) (rest_top k n d) (rest_bot d)) (k0 f)
      ∙ ap (λ (b : Bool). pick_c (turn f 0) (xor f b) (rest_top 0 n d) (rest_bot d)) sign0
      ∙ ap (λ (R : ℕ). pick_c (turn f 0) (xor f false) R (rest_bot d)) rest0

  pub sine_small : (f : Bool) → apart f n d (sine f n d) * 1048576 ≤ d * (sine f n d).bot
  sine_small true = subst (λ (ρ : Ratio). apart true n d ρ * 1048576 ≤ d * ρ.bot) (sym (sine_is true)) sin_close
  sine_small false = subst (λ (ρ : Ratio). apart false n d ρ * 1048576 ≤ d * ρ.bot) (sym (sine_is false)) sin_close

  pub cosine_small : (f : Bool) → apart false 1 1 (cosine f n d) * 1048576 ≤ 1 * (cosine f n d).bot
  cosine_small true = subst (λ (ρ : Ratio). apart false 1 1 ρ * 1048576 ≤ 1 * ρ.bot) (sym (cosine_is true)) cos_close
  cosine_small false = subst (λ (ρ : Ratio). apart false 1 1 ρ * 1048576 ≤ 1 * ρ.bot) (sym (cosine_is false)) cos_close
