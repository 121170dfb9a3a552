-- The rest of the angle in binary64: |a - 2 k π/4|, worked out by a product and a difference, is within 3 units of 2^-32 of the exact one. Assumes nothing.
use mathlib.Core.Path.{◌≡◌, refl, sym, ap, ap₂, ◌∙◌, subst}
use mathlib.Core.Bool.{Bool, true, false, not, cond, true≢false}
use mathlib.Core.Logic.{◌⊎◌, inl, inr}
use Prim.Native.Nat.{ℕ, zero, suc, ◌+◌, ◌-◌, ◌*◌, ◌^◌, ◌≤◌, ◌<◌}
use native.Mathlib.Nat.{mul_comm, mul_assoc, mul-sub, add-le-add, le-add_right, le_refl, le_trans, le_of_eq, le_of_lt, mul-one, mul-pos, mul-le-mul_left, mul-le-mul_right, le_of_mul-le-mul_right, zero-lt-suc}
use native.Mathlib.Omega.{arith}
use lib.Dec.{T, ltb, ltb→lt, nltb→le, eqb→eq, lit<, lit≤}
use lib.Pow.{pow_pos}
use lib.IntN.{ℤ, pos, negsuc}
use lib.Ieee.{Float, nan, inf, fin, binary64, up, down, round, sum, sub, add, mul, neg, fits, of_int, of_bits}
use lib.Ieee.Fits.{down_pos, round-fits}
use lib.Ieee.Back.{round_whole}
use lib.Ieee.Exact.{HasValue}
use Rattle.floats.proofs.Sign.{round_neg}
use Rattle.sines.specs.Steps.{dist, even}
use Rattle.sines.specs.Sines.{half, absf, num, times, sin_poly, cos_poly, rest_of}
use Rattle.angles.proofs.Sides.{lt_zero, zero_lt}
use Rattle.angle_laws.specs.Angle.{pi_top, pi_bot, rest_top, rest_bot}
use Rattle.angle_laws.proofs.About.{K, About, about_round, about_same}

-- ---- the multiple of π/4: N q, q the float nearest π/4
-- x = N / 1
product : (x : Float) (N : ℕ) → N ≤ 22 → HasValue x false N 1 → About (mul binary64 x (fin false 884279719003555 (negsuc 49))) (N * pi_top) (4 * pi_bot) 2
unfolding mul
product nan N h v = absurd v
product (inf s) N h v = absurd v
product (fin true m e) N h v = absurd (true≢false v.0)
product (fin false m e) N h v =
    about_round (m * up e * 884279719003555) (down e * 1125899906842624) (N * pi_top) (4 * pi_bot) 1 (mul-pos (down_pos e) (lit< tt))
    (top (m * up e) (down e) (is v.1) (mul-le-mul_right (down e) h))
    (low (m * up e) (down e) pi_top pi_bot (is v.1) (mul-le-mul_left (N * down e) (lit≤ tt)))
    (high (m * up e) (down e) pi_top pi_bot (is v.1) (mul-le-mul_left (N * down e) (lit≤ tt)) (mul-le-mul_right (down e * pi_bot) h))
  where
    is : m * up e * 1 ≡ N * down e → m * up e ≡ N * down e
    is q = sym (mul-one (m * up e)) ∙ q

    top : (x d : ℕ) → x ≡ N * d → N * d ≤ 22 * d → x * 884279719003555 ≤ 32 * (d * 1125899906842624)
    top x d q k = omega arith

    -- q 2^50 · 4 piBot ≤ piTop 2^50
    low : (x d t b : ℕ) → x ≡ N * d → N * d * (884279719003555 * (4 * b)) ≤ N * d * (t * 1125899906842624) → x * 884279719003555 * (4 * b) * K ≤ N * t * (d * 1125899906842624) * K + 1 * (d * 1125899906842624 * (4 * b))
    low x d t b q k = le_trans (le_of_eq (f1 ∙ ap (λ (z : ℕ). z * (884279719003555 * (4 * b)) * K) q)) (le_trans (mul-le-mul_right K k) (le_trans (le_of_eq f2) (le-add_right (N * t * (d * 1125899906842624) * K) (1 * (d * 1125899906842624 * (4 * b))))))
      where
        f1 : x * 884279719003555 * (4 * b) * K ≡ x * (884279719003555 * (4 * b)) * K
        f1 = omega arith

        f2 : N * d * (t * 1125899906842624) * K ≡ N * t * (d * 1125899906842624) * K
        f2 = omega arith

    -- piTop 2^50 K ≤ q 2^50 4 piBot K + 2^50 4 piBot / 22
    high : (x d t b : ℕ) → x ≡ N * d → N * d * (t * 1125899906842624 * K) ≤ N * d * (884279719003555 * (4 * b) * K + 1000000000000 * b) → N * (d * b) ≤ 22 * (d * b) → N * t * (d * 1125899906842624) * K ≤ x * 884279719003555 * (4 * b) * K + 1 * (d * 1125899906842624 * (4 * b))
    high x d t b q k l = le_trans (le_of_eq f1) (le_trans k (le_trans (le_of_eq f2) (add-le-add (le_of_eq (ap (λ (z : ℕ). z * 884279719003555 * (4 * b) * K) (sym q))) (le_trans (rest' (N * (d * b)) (d * b) l) (le_of_eq f3)))))
      where
        f1 : N * t * (d * 1125899906842624) * K ≡ N * d * (t * 1125899906842624 * K)
        f1 = omega arith

        f2 : N * d * (884279719003555 * (4 * b) * K + 1000000000000 * b) ≡ N * d * 884279719003555 * (4 * b) * K + 1000000000000 * (N * (d * b))
        f2 = omega arith

        f3 : 4503599627370496 * (d * b) ≡ 1 * (d * 1125899906842624 * (4 * b))
        f3 = omega arith

        rest' : (u v : ℕ) → u ≤ 22 * v → 1000000000000 * u ≤ 4503599627370496 * v
        rest' u v h = omega arith

-- ---- the distance of two floats, about that of two fractions
dist_le : (x y X Y u v : ℕ) → x ≤ X + u → X ≤ x + u → y ≤ Y + v → Y ≤ y + v → dist x y ≤ dist X Y + (u + v)
dist_le x y X Y u v a b c d = omega arith

pull : (x y c : ℕ) → x * c - y * c ≡ (x - y) * c
pull x y c = sym (mul_comm (x - y) c ∙ mul-sub c x y ∙ ap₂ (λ (u v : ℕ). u - v) (mul_comm c x) (mul_comm c y))

-- both multiplied by one number
dist_mul : (a b c : ℕ) → dist (a * c) (b * c) ≡ dist a b * c
dist_mul a b c = go (ltb a b) (ltb→lt a b) (nltb→le a b)
  where
    up_of : (a b : ℕ) → a ≤ b → dist a b ≡ b - a
    up_of a b h = omega arith

    down_of : (a b : ℕ) → b ≤ a → dist a b ≡ a - b
    down_of a b h = omega arith

    go : (t : Bool) → (T t → a < b) → (T (not t) → b ≤ a) → dist (a * c) (b * c) ≡ dist a b * c
    go true y n = up_of (a * c) (b * c) (mul-le-mul_right c (le_of_lt (y tt))) ∙ pull b a c ∙ ap (λ (z : ℕ). z * c) (sym (up_of a b (le_of_lt (y tt))))
    go false y n = down_of (a * c) (b * c) (mul-le-mul_right c (n tt)) ∙ pull a b c ∙ ap (λ (z : ℕ). z * c) (sym (down_of a b (n tt)))

-- x = A / B exactly, y = A' / B' about N' / D'
module _ (A B A' B' N' D' f : ℕ) (lo : A' * D' * K ≤ N' * B' * K + f * (B' * D')) (hi : N' * B' * K ≤ A' * D' * K + f * (B' * D')) where
  e2 : A * B' * (B * D' * K) ≡ A * D' * (B * B' * K)
  e2 = omega arith

  e3 : A' * B * (B * D' * K) ≡ A' * D' * K * (B * B)
  e3 = omega arith

  e4 : (N' * B' * K + f * (B' * D')) * (B * B) ≡ N' * B * (B * B' * K) + f * (B * B' * (B * D'))
  e4 = omega arith

  e5 : N' * B * (B * B' * K) ≡ N' * B' * K * (B * B)
  e5 = omega arith

  e6 : (A' * D' * K + f * (B' * D')) * (B * B) ≡ A' * B * (B * D' * K) + f * (B * B' * (B * D'))
  e6 = omega arith

  far_low : dist (A * B') (A' * B) * (B * D') * K ≤ dist (A * D') (N' * B) * (B * B') * K + f * (B * B' * (B * D'))
  far_low = le_trans (le_of_eq (e1 ∙ sym (dist_mul (A * B') (A' * B) (B * D' * K)))) (le_trans (dist_le (A * B' * (B * D' * K)) (A' * B * (B * D' * K)) (A * D' * (B * B' * K)) (N' * B * (B * B' * K)) 0 (f * (B * B' * (B * D'))) (le_trans (le_of_eq e2) (le-add_right _ 0)) (le_trans (le_of_eq (sym e2)) (le-add_right _ 0)) (le_trans (le_of_eq e3) (le_trans (mul-le-mul_right (B * B) lo) (le_of_eq e4))) (le_trans (le_of_eq e5) (le_trans (mul-le-mul_right (B * B) hi) (le_of_eq e6)))) (le_of_eq (ap (λ (z : ℕ). z + (0 + f * (B * B' * (B * D')))) (dist_mul (A * D') (N' * B) (B * B' * K)) ∙ e7)))
    where
      e1 : dist (A * B') (A' * B) * (B * D') * K ≡ dist (A * B') (A' * B) * (B * D' * K)
      e1 = mul_assoc (dist (A * B') (A' * B)) (B * D') K

      e7 : dist (A * D') (N' * B) * (B * B' * K) + (0 + f * (B * B' * (B * D'))) ≡ dist (A * D') (N' * B) * (B * B') * K + f * (B * B' * (B * D'))
      e7 = go (dist (A * D') (N' * B))
        where
          go : (z : ℕ) → z * (B * B' * K) + (0 + f * (B * B' * (B * D'))) ≡ z * (B * B') * K + f * (B * B' * (B * D'))
          go z = omega arith

  far_high : dist (A * D') (N' * B) * (B * B') * K ≤ dist (A * B') (A' * B) * (B * D') * K + f * (B * B' * (B * D'))
  far_high = le_trans (le_of_eq (e1 ∙ sym (dist_mul (A * D') (N' * B) (B * B' * K)))) (le_trans (dist_le (A * D' * (B * B' * K)) (N' * B * (B * B' * K)) (A * B' * (B * D' * K)) (A' * B * (B * D' * K)) 0 (f * (B * B' * (B * D'))) (le_trans (le_of_eq (sym e2)) (le-add_right _ 0)) (le_trans (le_of_eq e2) (le-add_right _ 0)) (le_trans (le_of_eq e5) (le_trans (mul-le-mul_right (B * B) hi) (le_of_eq e6))) (le_trans (le_of_eq e3) (le_trans (mul-le-mul_right (B * B) lo) (le_of_eq e4)))) (le_of_eq (ap (λ (z : ℕ). z + (0 + f * (B * B' * (B * D')))) (dist_mul (A * B') (A' * B) (B * D' * K)) ∙ e7)))
    where
      e1 : dist (A * D') (N' * B) * (B * B') * K ≡ dist (A * D') (N' * B) * (B * B' * K)
      e1 = mul_assoc (dist (A * D') (N' * B)) (B * B') K

      e7 : dist (A * B') (A' * B) * (B * D' * K) + (0 + f * (B * B' * (B * D'))) ≡ dist (A * B') (A' * B) * (B * D') * K + f * (B * B' * (B * D'))
      e7 = go (dist (A * B') (A' * B))
        where
          go : (z : ℕ) → z * (B * D' * K) + (0 + f * (B * B' * (B * D'))) ≡ z * (B * D') * K + f * (B * B' * (B * D'))
          go z = omega arith

-- ---- the size of a difference: the float v, but for the sign of a zero
pub record Sized (w : Float) (n c : ℕ) : Type 0 where
  pub v : Float
  pub is : v ≡ round binary64 false n c
  pub same : (w ≡ v) ⊎ ((w ≡ fin true 0 (pos 0)) × (v ≡ fin false 0 (pos 0)))

zero_exp : (e : ℤ) → T (fits binary64 (fin false 0 e)) → e ≡ pos 0
unfolding fits
zero_exp (pos zero) t = refl
zero_exp (pos (suc k)) t = absurd (no (2 ^ k) (pow_pos k) (sym (ap (λ (z : ℕ). z * 1) (native.Mathlib.Nat.pow-suc 2 k)) ∙ eqb→eq (2 ^ suc k * 1) 1 t))
  where
    no : (x : ℕ) → 0 < x → x * 2 * 1 ≡ 1 → ⊥
    no x h e = omega arith
zero_exp (negsuc k) t = absurd (no (2 ^ k) (pow_pos k) (sym (ap (λ (z : ℕ). 1 * z) (native.Mathlib.Nat.pow-suc 2 k)) ∙ eqb→eq (1 * 2 ^ suc k) 1 t))
  where
    no : (x : ℕ) → 0 < x → 1 * (x * 2) ≡ 1 → ⊥
    no x h e = omega arith

-- the size of y, and of its negation, for a y not below zero
size_plain : (y : Float) (m : ℕ) (e : ℤ) → y ≡ fin false m e → absf y ≡ y
unfolding absf
size_plain y m e q = ap (λ (z : Float). absf z) q ∙ go m ∙ sym q
  where
    go : (m : ℕ) → absf (fin false m e) ≡ fin false m e
    go zero = ap (λ (b : Bool). cond b (neg (fin false 0 e)) (fin false 0 e)) (zero_lt false e)
    go (suc m) = ap (λ (b : Bool). cond b (neg (fin false (suc m) e)) (fin false (suc m) e)) (lt_zero false (suc m) e (zero-lt-suc m))

size_minus : (y : Float) (m : ℕ) (e : ℤ) → y ≡ fin false m e → T (fits binary64 y) → (absf (neg y) ≡ y) ⊎ ((absf (neg y) ≡ fin true 0 (pos 0)) × (y ≡ fin false 0 (pos 0)))
unfolding absf neg
size_minus y zero e q f =
    let k = zero_exp e (subst (λ (z : Float). T (fits binary64 z)) q f) in
    inr (ap (λ (z : Float). absf (neg z)) q ∙ ap (λ (b : Bool). cond b (fin false 0 e) (fin true 0 e)) (zero_lt true e) ∙ ap (λ (z : ℤ). fin true 0 z) k, q ∙ ap (λ (z : ℤ). fin false 0 z) k)
size_minus y (suc m) e q f = inl (ap (λ (z : Float). absf (neg z)) q ∙ ap (λ (b : Bool). cond b (fin false (suc m) e) (fin true (suc m) e)) (lt_zero true (suc m) e (zero-lt-suc m)) ∙ sym q)

sized : (m : ℕ) (e : ℤ) (n : ℕ) (d : ℤ) (k : ℕ) (x : ℤ) → round binary64 false (dist (m * up e * down d) (n * up d * down e)) (down e * down d) ≡ fin false k x → Sized (absf (sub binary64 (fin false m e) (fin false n d))) (dist (m * up e * down d) (n * up d * down e)) (down e * down d)
unfolding sub add neg sum
sized m e n d k x q = go (ltb a b) refl
  where
    a : ℕ
    a = m * up e * down d

    b : ℕ
    b = n * up d * down e

    c : ℕ
    c = down e * down d

    up_of : (a b : ℕ) → a < b → dist a b ≡ b - a
    up_of a b h = omega arith

    down_of : (a b : ℕ) → b ≤ a → dist a b ≡ a - b
    down_of a b h = omega arith

    go : (t : Bool) → ltb (m * up e * down d) (n * up d * down e) ≡ t → Sized (absf (cond (ltb (m * up e * down d) (n * up d * down e)) (round binary64 true (n * up d * down e - m * up e * down d) (down e * down d)) (round binary64 false (m * up e * down d - n * up d * down e) (down e * down d)))) (dist (m * up e * down d) (n * up d * down e)) (down e * down d)
    go true t =
        let y = round binary64 false (dist (m * up e * down d) (n * up d * down e)) (down e * down d) in
        let l : m * up e * down d < n * up d * down e = ltb→lt _ _ (subst T (sym t) tt) in
        let w : cond (ltb (m * up e * down d) (n * up d * down e)) (round binary64 true (n * up d * down e - m * up e * down d) (down e * down d)) (round binary64 false (m * up e * down d - n * up d * down e) (down e * down d)) ≡ neg y =
        ap (λ (z : Bool). cond z (round binary64 true (n * up d * down e - m * up e * down d) (down e * down d)) (round binary64 false (m * up e * down d - n * up d * down e) (down e * down d))) t ∙ ap (λ (z : ℕ). round binary64 true z (down e * down d)) (sym (up_of (m * up e * down d) (n * up d * down e) l)) ∙ round_neg binary64 (dist (m * up e * down d) (n * up d * down e)) (down e * down d) in
        record { v = y; is = refl; same = subst (λ (z : Float). (absf z ≡ y) ⊎ ((absf z ≡ fin true 0 (pos 0)) × (y ≡ fin false 0 (pos 0)))) (sym w) (size_minus y k x q (round-fits binary64 false (dist (m * up e * down d) (n * up d * down e)) (down e * down d))) }
    go false t =
        let y = round binary64 false (dist (m * up e * down d) (n * up d * down e)) (down e * down d) in
        let l : n * up d * down e ≤ m * up e * down d = nltb→le _ _ (subst (λ (z : Bool). T (not z)) (sym t) tt) in
        let w : cond (ltb (m * up e * down d) (n * up d * down e)) (round binary64 true (n * up d * down e - m * up e * down d) (down e * down d)) (round binary64 false (m * up e * down d - n * up d * down e) (down e * down d)) ≡ y =
        ap (λ (z : Bool). cond z (round binary64 true (n * up d * down e - m * up e * down d) (down e * down d)) (round binary64 false (m * up e * down d - n * up d * down e) (down e * down d))) t ∙ ap (λ (z : ℕ). round binary64 false z (down e * down d)) (sym (down_of (m * up e * down d) (n * up d * down e) l)) in
        record { v = y; is = refl; same = inl (ap absf w ∙ size_plain y k x q) }

-- ---- all of it
-- restTop and restBot as the distance of a and k π/2, with π/2 = 2 (π/4)
rest_form : (k n d : ℕ) → dist (n * (4 * pi_bot)) (2 * k * pi_top * d) * rest_bot d ≡ rest_top k n d * (d * (4 * pi_bot))
rest_form k n d = go pi_bot pi_top
  where
    go : (b t : ℕ) → dist (n * (4 * b)) (2 * k * t * d) * (2 * b * d) ≡ dist (2 * b * n) (k * (t * d)) * (d * (4 * b))
    go b t = ap (λ (z : ℕ). z * (2 * b * d)) (ap₂ (λ (x y : ℕ). dist x y) f1 f2 ∙ dist_mul (2 * b * n) (k * (t * d)) 2) ∙ f3 (dist (2 * b * n) (k * (t * d)))
      where
        f1 : n * (4 * b) ≡ 2 * b * n * 2
        f1 = omega arith

        f2 : 2 * k * t * d ≡ k * (t * d) * 2
        f2 = omega arith

        f3 : (z : ℕ) → z * 2 * (2 * b * d) ≡ z * (d * (4 * b))
        f3 z = omega arith

pub record Rested (w : Float) (R D : ℕ) : Type 0 where
  pub v : Float
  pub about : About v R D 3
  pub fit : T (fits binary64 v)
  pub sin_same : sin_poly w ≡ sin_poly v
  pub cos_same : cos_poly w ≡ cos_poly v

sin_zero : sin_poly (fin true 0 (pos 0)) ≡ sin_poly (fin false 0 (pos 0))
unfolding sin_poly
sin_zero = refl

cos_zero : cos_poly (fin true 0 (pos 0)) ≡ cos_poly (fin false 0 (pos 0))
unfolding cos_poly
cos_zero = refl

made : (w : Float) (n c R D : ℕ) → Sized w n c → About (round binary64 false n c) R D 3 → Rested w R D
made w n c R D s a = record {
  v = s.v;
  about = subst (λ (z : Float). About z R D 3) (sym s.is) a;
  fit = subst (λ (z : Float). T (fits binary64 z)) (sym s.is) (round-fits binary64 false n c);
  sin_same = alike sin_poly sin_zero s.same;
  cos_same = alike cos_poly cos_zero s.same;
}
  where
    alike : (f : Float → Float) → f (fin true 0 (pos 0)) ≡ f (fin false 0 (pos 0)) → (w ≡ s.v) ⊎ ((w ≡ fin true 0 (pos 0)) × (s.v ≡ fin false 0 (pos 0))) → f w ≡ f s.v
    alike f z (inl e) = ap f e
    alike f z (inr e) = ap f e.0 ∙ z ∙ sym (ap f e.1)

module _ (m : ℕ) (e : ℤ) (hi : m * up e ≤ 16 * down e) where
  -- p is about 2 k π/4
  from_turn : (p : Float) (k : ℕ) → 2 * k ≤ 20 → About p (2 * k * pi_top) (4 * pi_bot) 2 → Rested (absf (sub binary64 (fin false m e) p)) (rest_top k (m * up e) (down e)) (rest_bot (down e))
  from_turn p k h b =
      let A = m * up e in
      let B = down e in
      let A' = b.m * up b.x' in
      let B' = down b.x' in
      let r : About (round binary64 false (dist (A * B') (A' * B)) (B * B')) (dist (A * (4 * pi_bot)) (2 * k * pi_top * B)) (B * (4 * pi_bot)) 3 =
      about_round (dist (A * B') (A' * B)) (B * B') (dist (A * (4 * pi_bot)) (2 * k * pi_top * B)) (B * (4 * pi_bot)) 2 (mul-pos (down_pos e) (down_pos b.x'))
      (near A B A' B' hi (small A' B' b.low))
      (far_low A B A' B' (2 * k * pi_top) (4 * pi_bot) 2 b.low b.high)
      (far_high A B A' B' (2 * k * pi_top) (4 * pi_bot) 2 b.low b.high) in
      subst (λ (z : Float). Rested (absf (sub binary64 (fin false m e) z)) (rest_top k A B) (rest_bot B)) (sym b.is)
      (made (absf (sub binary64 (fin false m e) (fin false b.m b.x'))) (dist (A * B') (A' * B)) (B * B') (rest_top k A B) (rest_bot B) (sized m e b.m b.x' r.m r.x' r.is)
      (about_same (dist (A * (4 * pi_bot)) (2 * k * pi_top * B)) (B * (4 * pi_bot)) (rest_top k A B) (rest_bot B) 3 (mul-pos (down_pos e) (lit< tt)) (rest_form k A B) r))
    where
      near : (A B A' B' : ℕ) → A ≤ 16 * B → A' ≤ 17 * B' → dist (A * B') (A' * B) ≤ 32 * (B * B')
      near A B A' B' x y = go (A * B') (A' * B) (B * B') (le_trans (mul-le-mul_right B' x) (le_of_eq (o1 B B'))) (le_trans (mul-le-mul_right B y) (le_of_eq (o2 B B')))
        where
          o1 : (B B' : ℕ) → 16 * B * B' ≡ 16 * (B * B')
          o1 B B' = omega arith

          o2 : (B B' : ℕ) → 17 * B' * B ≡ 17 * (B * B')
          o2 B B' = omega arith

          go : (x y z : ℕ) → x ≤ 16 * z → y ≤ 17 * z → dist x y ≤ 32 * z
          go x y z a b = omega arith

      small : (A' B' : ℕ) → A' * (4 * pi_bot) * K ≤ 2 * k * pi_top * B' * K + 2 * (B' * (4 * pi_bot)) → A' ≤ 17 * B'
      small A' B' f = le_of_mul-le-mul_right {k = 4 * pi_bot * K} (le_trans (le_of_eq (sym (native.Mathlib.Nat.mul_assoc A' (4 * pi_bot) K))) (le_trans f (le_trans (add-le-add (mul-le-mul_right K (mul-le-mul_right B' (mul-le-mul_right pi_top h))) (le_refl (2 * (B' * (4 * pi_bot))))) (cap B')))) (lit< tt)
        where
          cap : (B' : ℕ) → 20 * pi_top * B' * K + 2 * (B' * (4 * pi_bot)) ≤ 17 * B' * (4 * pi_bot * K)
          cap B' = le_trans (le_of_eq (f1 pi_top pi_bot B')) (le_trans (mul-le-mul_right B' (lit≤ tt)) (le_of_eq (f2 pi_bot B')))
            where
              f1 : (t b B' : ℕ) → 20 * t * B' * K + 2 * (B' * (4 * b)) ≡ (20 * t * K + 8 * b) * B'
              f1 t b B' = omega arith

              f2 : (b B' : ℕ) → 17 * (4 * b * K) * B' ≡ 17 * B' * (4 * b * K)
              f2 b B' = omega arith

  pub rested : (q : ℕ) → q ≤ 20 → Rested (rest_of q (fin false m e)) (rest_top (half q) (m * up e) (down e)) (rest_bot (down e))
  unfolding rest_of
  rested q h = from_turn (times (of_int binary64 (pos (even q))) (num 4605249457297304856)) (half q) (few q h) (turned (even q) (half q) (halves q) (le_trans (few' q h) (lit≤ tt)))
    where
      few : (q : ℕ) → q ≤ 20 → 2 * half q ≤ 20
      few q h = omega arith

      few' : (q : ℕ) → q ≤ 20 → even q ≤ 20
      few' q h = omega arith

      halves : (q : ℕ) → even q ≡ 2 * half q
      halves q = omega arith

      turned : (N k : ℕ) → N ≡ 2 * k → N ≤ 22 → About (times (of_int binary64 (pos N)) (num 4605249457297304856)) (2 * k * pi_top) (4 * pi_bot) 2
      turned N k q l = subst (λ (z : ℕ). About (times (of_int binary64 (pos N)) (num 4605249457297304856)) (z * pi_top) (4 * pi_bot) 2) q (whole N l)
        where
          whole : (N : ℕ) → N ≤ 22 → About (times (of_int binary64 (pos N)) (num 4605249457297304856)) (N * pi_top) (4 * pi_bot) 2
          whole N l = unfold of_int of_bits in product (round binary64 false N 1) N l (round_whole binary64 false N (le_trans l (lit≤ tt)))
