-- The reduction: from X = x 2^40 and the eighth q of a turn in which it lies, to k, the sign of r and r itself. Assumes nothing.
use Prim.Native.Nat.{ℕ, suc, ◌*◌, ◌<◌, ◌+◌, ◌≤◌, ◌-◌, ◌/◌, ◌%◌, zero, zero-le}
use lib.Dec.{ltb, ltb→lt, leb, leb→le, lit≤, lit<, eqb}
use mathlib.Core.Path.{◌≡◌, ap, sym, ◌∙◌, subst, subst₂}
use native.Mathlib.Nat.{mul-lt-mul_of_pos_right, lt_of_mul-lt-mul_left, mul-le-mul_right, div-eq_of_lt-le, div-mul-le_self, le_of_mul-le-mul_left, mul-pos, le_of_mul-le-mul_right, zero-mul, suc-mul, add-zero, le_trans, le_of_eq, le_of_lt}
use native.Mathlib.Omega.{arith}
use mathlib.Core.Bool.{Bool, true, false, cond, not}
use mathlib.Core.Logic.{◌⊎◌, inl, inr}
use Rattle.angle_laws.specs.Angle.{pi_top, pi_bot, quarters, rest_top, rest_bot}
use Rattle.sines.specs.Steps.{bound, base, dist, rest, Q58}
use Rattle.angle_laws.proofs.Below.{at}
use Rattle.angle_laws.proofs.Parts.{Angle}
use Rattle.sines.specs.Sines.{half, odd}
use borrow.Author.Tests.{lt-ltb, le-ltb}

-- ---- the constants: j π / 4 in units of 2^-40 lies strictly between `bound j` and one more, and in units of 2^-48 within two of `base j`
pub bound_over : (j : ℕ) → j < 21 → bound (suc j) * (4 * pi_bot) < suc j * pi_top * 1099511627776
bound_over j h = ltb→lt (bound (suc j) * (4 * pi_bot)) (suc j * pi_top * 1099511627776)
    (at (λ (i : ℕ). ltb (bound (suc i) * (4 * pi_bot)) (suc i * pi_top * 1099511627776)) 21 tt j h)

pub bound_under : (j : ℕ) → j < 21 → suc j * pi_top * 1099511627776 < (bound (suc j) + 1) * (4 * pi_bot)
bound_under j h = ltb→lt (suc j * pi_top * 1099511627776) ((bound (suc j) + 1) * (4 * pi_bot))
    (at (λ (i : ℕ). ltb (suc i * pi_top * 1099511627776) ((bound (suc i) + 1) * (4 * pi_bot))) 21 tt j h)

base_over : (j : ℕ) → j < 22 → base j * (4 * pi_bot) ≤ j * pi_top * 281474976710656
base_over j h = leb→le (base j * (4 * pi_bot)) (j * pi_top * 281474976710656)
    (at (λ (i : ℕ). leb (base i * (4 * pi_bot)) (i * pi_top * 281474976710656)) 22 tt j h)

base_under : (j : ℕ) → j < 22 → j * pi_top * 281474976710656 ≤ (base j + 2) * (4 * pi_bot)
base_under j h = leb→le (j * pi_top * 281474976710656) ((base j + 2) * (4 * pi_bot))
    (at (λ (i : ℕ). leb (i * pi_top * 281474976710656) ((base i + 2) * (4 * pi_bot))) 22 tt j h)

-- ---- from X to n / d, where X d = c n
lift_lt : (X d c n b u p : ℕ) → 0 < d → X * d ≡ c * n → X * b < u * p * c → b * n < u * (p * d)
lift_lt X d c n b u p dp e h = lt_of_mul-lt-mul_left c (go (mul-lt-mul_of_pos_right h dp) (ap (λ (z : ℕ). z * b) e))
  where
    go : X * b * d < u * p * c * d → X * d * b ≡ c * n * b → c * (b * n) < c * (u * (p * d))
    go f g = omega arith

lift_gt : (X d c n b u p : ℕ) → 0 < d → X * d ≡ c * n → u * p * c < X * b → u * (p * d) < b * n
lift_gt X d c n b u p dp e h = lt_of_mul-lt-mul_left c (go (mul-lt-mul_of_pos_right h dp) (ap (λ (z : ℕ). z * b) e))
  where
    go : u * p * c * d < X * b * d → X * d * b ≡ c * n * b → c * (u * (p * d)) < c * (b * n)
    go f g = omega arith

-- x is below (q + 1) π / 4, and above q π / 4
pub high : (X n d q : ℕ) → 0 < d → X * d ≡ 1099511627776 * n → q < 21 → X ≤ bound (suc q) → 4 * pi_bot * n < suc q * (pi_top * d)
high X n d q dp e hq h = lift_lt X d 1099511627776 n (4 * pi_bot) (suc q) pi_top dp e (lt1 _ _ _ (mul-le-mul_right (4 * pi_bot) h) (bound_over q hq))
  where
    lt1 : (a b c : ℕ) → a ≤ b → b < c → a < c
    lt1 a b c x y = omega arith

pub low : (X n d q : ℕ) → 0 < d → X * d ≡ 1099511627776 * n → q < 21 → bound (suc q) < X → suc q * (pi_top * d) < 4 * pi_bot * n
low X n d q dp e hq h = lift_gt X d 1099511627776 n (4 * pi_bot) (suc q) pi_top dp e (lt1 _ _ _ (bound_under q hq) (mul-le-mul_right (4 * pi_bot) (le1 _ _ h)))
  where
    lt1 : (a b c : ℕ) → a < b → b ≤ c → a < c
    lt1 a b c x y = omega arith

    le1 : (a b : ℕ) → a < b → a + 1 ≤ b
    le1 a b x = omega arith

-- ---- k is the nearest whole number, and |r| ≤ 1
pub nearest : (neg : Bool) (n d k : ℕ) → 0 < d → 2 * k * (pi_top * d) < 4 * pi_bot * n + pi_top * d → 4 * pi_bot * n < 2 * k * (pi_top * d) + pi_top * d
    → quarters neg n d ≡ k
unfolding quarters
nearest true n d k dp lo hi = div-eq_of_lt-le (2 * (pi_top * d)) (a (pi_top * d) (4 * pi_bot * n) lo) (b (pi_top * d) (4 * pi_bot * n) hi)
  where
    a : (W Y : ℕ) → 2 * k * W < Y + W → k * (2 * W) ≤ Y + W - 0
    a W Y h = omega arith

    b : (W Y : ℕ) → Y < 2 * k * W + W → Y + W - 0 < (k + 1) * (2 * W)
    b W Y h = omega arith
nearest false n d k dp lo hi = div-eq_of_lt-le (2 * (pi_top * d)) (a (pi_top * d) (4 * pi_bot * n) lo) (b (pi_top * d) (4 * pi_bot * n) hi)
  where
    a : (W Y : ℕ) → 2 * k * W < Y + W → k * (2 * W) ≤ Y + W - 1
    a W Y h = omega arith

    b : (W Y : ℕ) → Y < 2 * k * W + W → Y + W - 1 < (k + 1) * (2 * W)
    b W Y h = omega arith

pub rest_small : (n d k : ℕ) → 2 * k * (pi_top * d) ≤ 4 * pi_bot * n + pi_top * d → 4 * pi_bot * n ≤ 2 * k * (pi_top * d) + pi_top * d → 2 * rest_top k n d ≤ pi_top * d
rest_small n d k lo hi = go (2 * pi_bot * n) (k * (pi_top * d)) (pi_top * d) (two lo) (two' hi)
  where
    two : 2 * k * (pi_top * d) ≤ 4 * pi_bot * n + pi_top * d → 2 * (k * (pi_top * d)) ≤ 2 * (2 * pi_bot * n) + pi_top * d
    two h = omega arith

    two' : 4 * pi_bot * n ≤ 2 * k * (pi_top * d) + pi_top * d → 2 * (2 * pi_bot * n) ≤ 2 * (k * (pi_top * d)) + pi_top * d
    two' h = omega arith

    go : (y z W : ℕ) → 2 * z ≤ 2 * y + W → 2 * y ≤ 2 * z + W → 2 * dist y z ≤ W
    go y z W a b = omega arith

pub rest_proper : (n d k : ℕ) → 2 * rest_top k n d ≤ pi_top * d → rest_top k n d ≤ rest_bot d
rest_proper n d k h = go (rest_top k n d) (pi_top * d) pi_bot h (mul-le-mul_right d (lit≤ tt))
  where
    go : (R x t : ℕ) → 2 * R ≤ x → x ≤ 4 * t * d → R ≤ 2 * t * d
    go R x t a b = omega arith

-- |r| ≤ 0.786
rest_under : (n d k : ℕ) → 2 * rest_top k n d ≤ pi_top * d → rest_top k n d * 1000 ≤ 786 * rest_bot d
rest_under n d k h = go (rest_top k n d) (pi_top * d) pi_bot h (le_trans (le_of_eq (swap pi_top d)) (mul-le-mul_right {m = pi_top * 1000} {n = 3144 * pi_bot} d (lit≤ tt)))
  where
    swap : (p d : ℕ) → p * d * 1000 ≡ p * 1000 * d
    swap p d = omega arith

    go : (R x t : ℕ) → 2 * R ≤ x → x * 1000 ≤ 3144 * t * d → R * 1000 ≤ 786 * (2 * t * d)
    go R x t a b = omega arith

-- ---- the fixed-point angle
-- R48 / 2^48 within 2 / 2^48 of R / D
cut : (R48 D R : ℕ) → R48 * D ≤ 281474976710656 * R + 2 * D → 281474976710656 * R ≤ R48 * D + 2 * D → Angle 17179869184 (R48 / 16384) D R 2
cut r D R a b = record {
  low = lo (r / 16384) (mul-le-mul_right D (div-mul-le_self r 16384)) a;
  high = hi (r / 16384) (mul-le-mul_right D (up r)) b;
}
  where
    up : (r : ℕ) → r ≤ r / 16384 * 16384 + 16384
    up r = omega arith

    lo : (A : ℕ) → A * 16384 * D ≤ r * D → r * D ≤ 281474976710656 * R + 2 * D → A * D ≤ 17179869184 * R + 2 * D
    lo A x y = omega arith

    hi : (A : ℕ) → r * D ≤ (A * 16384 + 16384) * D → 281474976710656 * R ≤ r * D + 2 * D → 17179869184 * R ≤ A * D + 2 * D
    hi A x y = omega arith

-- b 4 piBot ≤ 2 k piTop 2^48, over d
times : (b k p t d M : ℕ) → b * (4 * t) ≤ 2 * k * p * M → b * (2 * t * d) ≤ M * (k * (p * d))
times b k p t d M h = go (mul-le-mul_right d h)
  where
    go : b * (4 * t) * d ≤ 2 * k * p * M * d → b * (2 * t * d) ≤ M * (k * (p * d))
    go f = omega arith

times' : (b k p t d M : ℕ) → 2 * k * p * M ≤ b * (4 * t) → M * (k * (p * d)) ≤ b * (2 * t * d)
times' b k p t d M h = go (mul-le-mul_right d h)
  where
    go : 2 * k * p * M * d ≤ b * (4 * t) * d → M * (k * (p * d)) ≤ b * (2 * t * d)
    go f = omega arith

-- X d = 2^40 n: 256 X D = 2^48 2 piBot n
whole : (X n d t : ℕ) → X * d ≡ 1099511627776 * n → X * 256 * (2 * t * d) ≡ 281474976710656 * (2 * t * n)
whole X n d t e = go (ap (λ (z : ℕ). z * t) e)
  where
    go : X * d * t ≡ 1099511627776 * n * t → X * 256 * (2 * t * d) ≡ 281474976710656 * (2 * t * n)
    go f = omega arith

-- r at or above zero: q is even, 2 k
pub angle_up : (X n d k b : ℕ) → 0 < d → X * d ≡ 1099511627776 * n → b * (2 * pi_bot * d) ≤ 281474976710656 * (k * (pi_top * d)) → 281474976710656 * (k * (pi_top * d)) ≤ (b + 2) * (2 * pi_bot * d)
    → k * (pi_top * d) ≤ 2 * pi_bot * n
    → (b ≤ X * 256) × Angle 17179869184 ((X * 256 - b) / 16384) (rest_bot d) (rest_top k n d) 2
angle_up X n d k b dp e lo hi ge = go (X * 256) (2 * pi_bot * d) (2 * pi_bot * n) (k * (pi_top * d)) (mul-pos {m = 2 * pi_bot} (lit< tt) dp) (whole X n d pi_bot e) lo hi ge
  where
    go : (x D y z : ℕ) → 0 < D → x * D ≡ 281474976710656 * y → b * D ≤ 281474976710656 * z → 281474976710656 * z ≤ (b + 2) * D → z ≤ y
        → (b ≤ x) × Angle 17179869184 ((x - b) / 16384) D (dist y z) 2
    go x D y z dp' f g h i =
        let bx : b ≤ x = le_of_mul-le-mul_left (j f g i) dp' in
        (bx, cut (x - b) D (dist y z) (k1 (x - b) (omega arith) f g h i) (k2 (x - b) (omega arith) f g h i))
      where
        j : x * D ≡ 281474976710656 * y → b * D ≤ 281474976710656 * z → z ≤ y → D * b ≤ D * x
        j f g i = omega arith

        k1 : (r : ℕ) → r + b ≡ x → x * D ≡ 281474976710656 * y → b * D ≤ 281474976710656 * z → 281474976710656 * z ≤ (b + 2) * D → z ≤ y → r * D ≤ 281474976710656 * dist y z + 2 * D
        k1 r s f g h i = let s' : (r + b) * D ≡ x * D = ap (λ (w : ℕ). w * D) s in omega arith

        k2 : (r : ℕ) → r + b ≡ x → x * D ≡ 281474976710656 * y → b * D ≤ 281474976710656 * z → 281474976710656 * z ≤ (b + 2) * D → z ≤ y → 281474976710656 * dist y z ≤ r * D + 2 * D
        k2 r s f g h i = let s' : (r + b) * D ≡ x * D = ap (λ (w : ℕ). w * D) s in omega arith

-- r below zero: q is odd, 2 k - 1
pub angle_down : (X n d k b : ℕ) → 0 < d → X * d ≡ 1099511627776 * n → b * (2 * pi_bot * d) ≤ 281474976710656 * (k * (pi_top * d)) → 281474976710656 * (k * (pi_top * d)) ≤ (b + 2) * (2 * pi_bot * d)
    → 2 * pi_bot * n ≤ k * (pi_top * d) → X * 256 ≤ b
    → Angle 17179869184 ((b - X * 256) / 16384) (rest_bot d) (rest_top k n d) 2
angle_down X n d k b dp e lo hi ge xb = go (X * 256) (2 * pi_bot * d) (2 * pi_bot * n) (k * (pi_top * d)) (whole X n d pi_bot e) lo hi ge xb
  where
    go : (x D y z : ℕ) → x * D ≡ 281474976710656 * y → b * D ≤ 281474976710656 * z → 281474976710656 * z ≤ (b + 2) * D → y ≤ z → x ≤ b
        → Angle 17179869184 ((b - x) / 16384) D (dist y z) 2
    go x D y z f g h i bx = cut (b - x) D (dist y z) (k1 (b - x) (omega arith) f g h i) (k2 (b - x) (omega arith) f g h i)
      where
        k1 : (r : ℕ) → r + x ≡ b → x * D ≡ 281474976710656 * y → b * D ≤ 281474976710656 * z → 281474976710656 * z ≤ (b + 2) * D → y ≤ z → r * D ≤ 281474976710656 * dist y z + 2 * D
        k1 r s f g h i = let s' : (r + x) * D ≡ b * D = ap (λ (w : ℕ). w * D) s in omega arith

        k2 : (r : ℕ) → r + x ≡ b → x * D ≡ 281474976710656 * y → b * D ≤ 281474976710656 * z → 281474976710656 * z ≤ (b + 2) * D → y ≤ z → 281474976710656 * dist y z ≤ r * D + 2 * D
        k2 r s f g h i = let s' : (r + x) * D ≡ b * D = ap (λ (w : ℕ). w * D) s in omega arith

-- ---- all of it, for x in the eighth q
pub record Reduced (neg : Bool) (n d X q : ℕ) : Type 0 where
  pub is : quarters neg n d ≡ half q
  pub sign : ltb (2 * pi_bot * n) (half q * (pi_top * d)) ≡ odd q
  pub angle : Angle 17179869184 (rest q X) (rest_bot d) (rest_top (half q) n d) 2
  pub proper : rest_top (half q) n d ≤ rest_bot d
  pub under : rest_top (half q) n d * 1000 ≤ 786 * rest_bot d
  pub small : rest q X < 17179869184

small_of : (A n d k : ℕ) → 0 < d → 2 * rest_top k n d ≤ pi_top * d → Angle 17179869184 A (rest_bot d) (rest_top k n d) 2 → A < 17179869184
small_of A n d k dp h a =
    le_of_mul-le-mul_right {m = suc A} (go (rest_top k n d) pi_top pi_bot a.low h (mul-le-mul_right {m = 8589934592 * pi_top + 6 * pi_bot} {n = 34359738368 * pi_bot} d (lit≤ tt))) (mul-pos {m = 2 * pi_bot} (lit< tt) dp)
  where
    go : (R p t : ℕ) → A * (2 * t * d) ≤ 17179869184 * R + 2 * (2 * t * d) → 2 * R ≤ p * d → (8589934592 * p + 6 * t) * d ≤ 34359738368 * t * d → suc A * (2 * t * d) ≤ 17179869184 * (2 * t * d)
    go R p t x y z = omega arith

halve : (k W t n : ℕ) → 2 * k * W ≤ 4 * t * n → k * W ≤ 2 * t * n
halve k W t n h = omega arith

halve' : (k W t n : ℕ) → 4 * t * n < 2 * k * W → 2 * t * n < k * W
halve' k W t n h = omega arith

module _ (neg : Bool) (n d X k : ℕ) (dp : 0 < d) (e : X * d ≡ 1099511627776 * n) where
  -- q = 2 k
  when_even : (q : ℕ) → q ≡ 2 * k → q < 21 → 2 * k * (pi_top * d) ≤ 4 * pi_bot * n → 4 * pi_bot * n < 2 * k * (pi_top * d) + pi_top * d → Reduced neg n d X q
  when_even q qe hq lo hi =
      let b = base (2 * k) in
      let h22 : 2 * k < 22 = omega arith in
      let wp : 0 < pi_top * d = mul-pos {m = pi_top} (lit< tt) dp in
      let r0 : q % 2 ≡ 0 = par q k qe in
      let hk : half q ≡ k = hal q k qe in
      let lo' : 2 * k * (pi_top * d) < 4 * pi_bot * n + pi_top * d = lt1 _ _ _ lo wp in
      let sm : 2 * rest_top k n d ≤ pi_top * d = rest_small n d k (le_of_lt lo') (le_of_lt hi) in
      let ge : k * (pi_top * d) ≤ 2 * pi_bot * n = halve k (pi_top * d) pi_bot n lo in
      let an = (angle_up X n d k b dp e (times b k pi_top pi_bot d 281474976710656 (base_over (2 * k) h22)) (times' (b + 2) k pi_top pi_bot d 281474976710656 (base_under (2 * k) h22)) ge).1 in
      let re : rest q X ≡ (X * 256 - b) / 16384 = ap (λ (z : ℕ). cond (eqb z 0) (X * 256 - base (q + z)) (base (q + z) - X * 256) / 16384) r0 ∙ ap (λ (z : ℕ). (X * 256 - base z) / 16384) (plus q k qe) in
      record {
        is = nearest neg n d k dp lo' hi ∙ sym hk;
        sign = subst (λ (z : ℕ). ltb (2 * pi_bot * n) (z * (pi_top * d)) ≡ odd q) (sym hk) (le-ltb _ _ ge ∙ sym (ap (λ (z : ℕ). not (eqb z 0)) r0));
        angle = subst₂ (λ (z a : ℕ). Angle 17179869184 a (rest_bot d) (rest_top z n d) 2) (sym hk) (sym re) an;
        proper = subst (λ (z : ℕ). rest_top z n d ≤ rest_bot d) (sym hk) (rest_proper n d k sm);
        under = subst (λ (z : ℕ). rest_top z n d * 1000 ≤ 786 * rest_bot d) (sym hk) (rest_under n d k sm);
        small = subst (λ (z : ℕ). z < 17179869184) (sym re) (small_of ((X * 256 - b) / 16384) n d k dp sm an);
      }
    where
      par : (q k : ℕ) → q ≡ 2 * k → q % 2 ≡ 0
      par q k h = omega arith

      hal : (q k : ℕ) → q ≡ 2 * k → half q ≡ k
      hal q k h = omega arith

      plus : (q k : ℕ) → q ≡ 2 * k → q + 0 ≡ 2 * k
      plus q k h = omega arith

      lt1 : (a b c : ℕ) → a ≤ b → 0 < c → a < b + c
      lt1 a b c x y = omega arith

  -- q = 2 k - 1
  when_odd : (q : ℕ) → q + 1 ≡ 2 * k → q < 21 → X ≤ bound (2 * k) → 2 * k * (pi_top * d) < 4 * pi_bot * n + pi_top * d → 4 * pi_bot * n < 2 * k * (pi_top * d) → Reduced neg n d X q
  when_odd q qe hq xb lo hi =
      let b = base (2 * k) in
      let h22 : 2 * k < 22 = omega arith in
      let r1 : q % 2 ≡ 1 = par q k qe in
      let hk : half q ≡ k = hal q k qe in
      let hi' : 4 * pi_bot * n < 2 * k * (pi_top * d) + pi_top * d = lt1 _ _ _ hi in
      let sm : 2 * rest_top k n d ≤ pi_top * d = rest_small n d k (le_of_lt lo) (le_of_lt hi') in
      let lt : 2 * pi_bot * n < k * (pi_top * d) = halve' k (pi_top * d) pi_bot n hi in
      let an = angle_down X n d k b dp e (times b k pi_top pi_bot d 281474976710656 (base_over (2 * k) h22)) (times' (b + 2) k pi_top pi_bot d 281474976710656 (base_under (2 * k) h22)) (le_of_lt lt) (wide X (2 * k * Q58) xb) in
      let re : rest q X ≡ (b - X * 256) / 16384 = ap (λ (z : ℕ). cond (eqb z 0) (X * 256 - base (q + z)) (base (q + z) - X * 256) / 16384) r1 ∙ ap (λ (z : ℕ). (base z - X * 256) / 16384) qe in
      record {
        is = nearest neg n d k dp lo hi' ∙ sym hk;
        sign = subst (λ (z : ℕ). ltb (2 * pi_bot * n) (z * (pi_top * d)) ≡ odd q) (sym hk) (lt-ltb _ _ lt ∙ sym (ap (λ (z : ℕ). not (eqb z 0)) r1));
        angle = subst₂ (λ (z a : ℕ). Angle 17179869184 a (rest_bot d) (rest_top z n d) 2) (sym hk) (sym re) an;
        proper = subst (λ (z : ℕ). rest_top z n d ≤ rest_bot d) (sym hk) (rest_proper n d k sm);
        under = subst (λ (z : ℕ). rest_top z n d * 1000 ≤ 786 * rest_bot d) (sym hk) (rest_under n d k sm);
        small = subst (λ (z : ℕ). z < 17179869184) (sym re) (small_of ((b - X * 256) / 16384) n d k dp sm an);
      }
    where
      par : (q k : ℕ) → q + 1 ≡ 2 * k → q % 2 ≡ 1
      par q k h = omega arith

      hal : (q k : ℕ) → q + 1 ≡ 2 * k → half q ≡ k
      hal q k h = omega arith

      lt1 : (a b c : ℕ) → a < b → a < b + c
      lt1 a b c x = omega arith

      wide : (x j : ℕ) → x ≤ j / 262144 → x * 256 ≤ j / 1024
      wide x j h = omega arith

pub reduced : (neg : Bool) (n d X q : ℕ) → 0 < d → X * d ≡ 1099511627776 * n → q < 21 → (q ≡ 0) ⊎ (bound q < X) → X ≤ bound (suc q) → Reduced neg n d X q
reduced neg n d X q dp e hq lo hi = go q (q / 2) (q % 2) (split q) (lt2 q) hq lo hi
  where
    split : (q : ℕ) → q ≡ 2 * (q / 2) + q % 2
    split q = omega arith

    lt2 : (q : ℕ) → q % 2 < 2
    lt2 q = omega arith

    lows : (j : ℕ) → j < 21 → (j ≡ 0) ⊎ (bound j < X) → j * (pi_top * d) ≤ 4 * pi_bot * n
    lows zero hj (inl z) = le_trans (le_of_eq (zero-mul (pi_top * d))) zero-le
    lows zero hj (inr z) = le_trans (le_of_eq (zero-mul (pi_top * d))) zero-le
    lows (suc j) hj (inl z) = absurd (omega arith)
    lows (suc j) hj (inr z) = le_of_lt (low X n d j dp e (le_of_lt hj) z)

    go : (q k p : ℕ) → q ≡ 2 * k + p → p < 2 → q < 21 → (q ≡ 0) ⊎ (bound q < X) → X ≤ bound (suc q) → Reduced neg n d X q
    go q k zero qe hp hq lo hi =
        when_even neg n d X k dp e q (qe ∙ add-zero (2 * k)) hq
        (subst (λ (z : ℕ). z * (pi_top * d) ≤ 4 * pi_bot * n) (qe ∙ add-zero (2 * k)) (lows q hq lo))
        (conv q k (pi_top * d) (4 * pi_bot * n) (qe ∙ add-zero (2 * k)) (high X n d q dp e hq hi))
      where
        conv : (q k W Y : ℕ) → q ≡ 2 * k → Y < suc q * W → Y < 2 * k * W + W
        conv q k W Y h x = subst (λ (z : ℕ). Y < z) (ap (λ (z : ℕ). suc z * W) h ∙ suc-mul (2 * k) W) x
    go q k (suc zero) qe hp hq lo hi =
        when_odd neg n d X (k + 1) dp e q (sucs q k qe) hq
        (subst (λ (z : ℕ). X ≤ bound z) (twice q k qe) hi)
        (plus k (pi_top * d) (4 * pi_bot * n) (strict q qe hq lo))
        (subst (λ (z : ℕ). 4 * pi_bot * n < z * (pi_top * d)) (twice q k qe) (high X n d q dp e hq hi))
      where
        plus : (k W Y : ℕ) → suc (2 * k) * W < Y → 2 * (k + 1) * W < Y + W
        plus k W Y h = omega arith

        less : (k : ℕ) → suc (2 * k) < 21 → 2 * k < 21
        less k h = omega arith

        no : (q : ℕ) → q ≡ 2 * k + 1 → q ≡ 0 → ⊥
        no q a b = omega arith

        is : (q : ℕ) → q ≡ 2 * k + 1 → q ≡ suc (2 * k)
        is q h = omega arith

        strict : (q : ℕ) → q ≡ 2 * k + 1 → q < 21 → (q ≡ 0) ⊎ (bound q < X) → suc (2 * k) * (pi_top * d) < 4 * pi_bot * n
        strict q qe hq (inl z) = absurd (no q qe z)
        strict q qe hq (inr z) = low X n d (2 * k) dp e (less k (subst (λ (w : ℕ). w < 21) (is q qe) hq)) (subst (λ (w : ℕ). bound w < X) (is q qe) z)

        sucs : (q k : ℕ) → q ≡ 2 * k + 1 → q + 1 ≡ 2 * (k + 1)
        sucs q k h = omega arith

        twice : (q k : ℕ) → q ≡ 2 * k + 1 → suc q ≡ 2 * (k + 1)
        twice q k h = omega arith
    go q k (suc (suc p)) qe hp hq lo hi = absurd (no p hp)
      where
        no : (p : ℕ) → suc (suc p) < 2 → ⊥
        no p h = omega arith
