-- From a fixed-point angle to the square that `Horner.nested` takes, and from its result to the sine. Over any fraction R / D that the angle is near to. Assumes nothing.
use Prim.Native.Nat.{ℕ, ◌+◌, ◌*◌, ◌≤◌, ◌/◌, ◌<◌}
use mathlib.Core.Path.{◌≡◌, sym, ap}
use native.Mathlib.Nat.{mul-le-mul_left, mul-le-mul_right, le_trans, le_of_eq, le_of_lt, mul-le-mul, le_of_mul-le-mul_left, div-mul-le_self, lt-div-mul-add, div-le_of_le-mul, mul_comm}
use native.Mathlib.Omega.{arith}
use Rattle.angle_laws.proofs.Horner.{Square, Close}

-- A / B is within e / B of R / D
pub record Angle (B A D R e : ℕ) : Type 0 where
  pub low : A * D ≤ B * R + e * D
  pub high : B * R ≤ A * D + e * D

-- ---- the square
-- (A D)^2 ≤ (B R)^2 + 2 e B D^2
sq_low : (B A D R e : ℕ) → A ≤ B → R ≤ D → A * D ≤ B * R + e * D → A * A * (D * D) ≤ B * B * (R * R) + 2 * e * B * (D * D)
sq_low B A D R e ab rd h =
    glue _ _ _ _ _ _ _ (s1 (mul-le-mul_left (A * D) h)) (s2 (mul-le-mul_right (B * R) h)) (s3 (mul-le-mul_right (e * D * D) ab)) (s4 (mul-le-mul_right (B * e * D) rd)) s5
  where
    s1 : A * D * (A * D) ≤ A * D * (B * R + e * D) → A * A * (D * D) ≤ A * D * B * R + e * A * D * D
    s1 f = omega arith

    s2 : A * D * (B * R) ≤ (B * R + e * D) * (B * R) → A * D * B * R ≤ B * B * (R * R) + e * B * D * R
    s2 f = omega arith

    s3 : A * (e * D * D) ≤ B * (e * D * D) → e * A * D * D ≤ e * B * D * D
    s3 f = omega arith

    s4 : R * (B * e * D) ≤ D * (B * e * D) → e * B * D * R ≤ e * B * D * D
    s4 f = omega arith

    s5 : 2 * e * B * (D * D) ≡ e * B * D * D + e * B * D * D
    s5 = omega arith

    glue : (a b c d f g i : ℕ) → a ≤ b + c → b ≤ d + f → c ≤ g → f ≤ g → i ≡ g + g → a ≤ d + i
    glue a b c d f g i x y z u v = omega arith

sq_high : (B A D R e : ℕ) → A ≤ B → R ≤ D → B * R ≤ A * D + e * D → B * B * (R * R) ≤ A * A * (D * D) + 2 * e * B * (D * D)
sq_high B A D R e ab rd h =
    glue _ _ _ _ _ _ _ (s1 (mul-le-mul_left (B * R) h)) (s2 (mul-le-mul_right (A * D) h)) (s4 (mul-le-mul_right (B * e * D) rd)) (s3 (mul-le-mul_right (e * D * D) ab)) s5
  where
    s1 : B * R * (B * R) ≤ B * R * (A * D + e * D) → B * B * (R * R) ≤ A * D * B * R + e * B * D * R
    s1 f = omega arith

    s2 : B * R * (A * D) ≤ (A * D + e * D) * (A * D) → A * D * B * R ≤ A * A * (D * D) + e * A * D * D
    s2 f = omega arith

    s3 : A * (e * D * D) ≤ B * (e * D * D) → e * A * D * D ≤ e * B * D * D
    s3 f = omega arith

    s4 : R * (B * e * D) ≤ D * (B * e * D) → e * B * D * R ≤ e * B * D * D
    s4 f = omega arith

    s5 : 2 * e * B * (D * D) ≡ e * B * D * D + e * B * D * D
    s5 = omega arith

    glue : (a b c d f g i : ℕ) → a ≤ b + c → b ≤ d + f → c ≤ g → f ≤ g → i ≡ g + g → a ≤ d + i
    glue a b c d f g i x y z u v = omega arith

-- A * A / K for P, where P * K = B * B
pub square : (B A D R e P K w : ℕ) → 0 < K → 0 < P → P * K ≡ B * B → A ≤ B → R ≤ D → 2 * e * B ≤ w * K → Angle B A D R e
    → Square P (A * A / K) (D * D) (R * R) (w + 1)
square B A D R e P K w kp pp pk ab rd we h =
    let T = A * A / K in
    let t1 : T * K ≤ A * A = div-mul-le_self (A * A) K in
    let t2 : A * A ≤ T * K + K = le_of_lt (lt-div-mul-add kp) in
    let a1 : T * K * (D * D) ≤ A * A * (D * D) = mul-le-mul_right (D * D) t1 in
    let a2 : A * A * (D * D) ≤ (T * K + K) * (D * D) = mul-le-mul_right (D * D) t2 in
    let w1 : 2 * e * B * (D * D) ≤ w * K * (D * D) = mul-le-mul_right (D * D) we in
    let b1 : P * K * (R * R) ≡ B * B * (R * R) = ap (λ (z : ℕ). z * (R * R)) pk in
    record {
      one = pp;
      below_one = div-le_of_le-mul K (le_trans (mul-le-mul ab ab) (le_trans (le_of_eq (sym pk)) (le_of_eq (mul_comm P K))));
      proper = mul-le-mul rd rd;
      low = le_of_mul-le-mul_left (fin1 T (D * D) (R * R) (A * A * (D * D)) (B * B * (R * R)) (2 * e * B * (D * D)) a1 (sq_low B A D R e ab rd h.low) w1 b1) kp;
      high = le_of_mul-le-mul_left (fin2 T (D * D) (R * R) (A * A * (D * D)) (B * B * (R * R)) (2 * e * B * (D * D)) a2 (sq_high B A D R e ab rd h.high) w1 b1) kp;
    }
  where
    fin1 : (T D2 R2 x y z : ℕ) → T * K * D2 ≤ x → x ≤ y + z → z ≤ w * K * D2 → P * K * R2 ≡ y → K * (T * D2) ≤ K * (P * R2 + (w + 1) * D2)
    fin1 T D2 R2 x y z f g h i = omega arith

    fin2 : (T D2 R2 x y z : ℕ) → x ≤ (T * K + K) * D2 → y ≤ x + z → z ≤ w * K * D2 → P * K * R2 ≡ y → K * (P * R2) ≤ K * (T * D2 + (w + 1) * D2)
    fin2 T D2 R2 x y z f g h i = omega arith

-- ---- the product A * H, for L * P: within L E R Q + e P D Q of L P R N
pub prod_low : (L A D R e P H Q N E : ℕ) → H ≤ P → A * D ≤ L * R + e * D → H * Q ≤ P * N + E * Q
    → A * H * (D * Q) ≤ L * P * (R * N) + (L * E * (R * Q) + e * P * (D * Q))
prod_low L A D R e P H Q N E hp a h =
    glue _ _ _ _ _ _ (s1 (mul-le-mul_right (H * Q) a)) (s2 (mul-le-mul_left (L * R) h)) (s3 (mul-le-mul_right (e * D * Q) hp))
  where
    s1 : A * D * (H * Q) ≤ (L * R + e * D) * (H * Q) → A * H * (D * Q) ≤ L * R * H * Q + e * D * H * Q
    s1 f = omega arith

    s2 : L * R * (H * Q) ≤ L * R * (P * N + E * Q) → L * R * H * Q ≤ L * P * (R * N) + L * E * (R * Q)
    s2 f = omega arith

    s3 : H * (e * D * Q) ≤ P * (e * D * Q) → e * D * H * Q ≤ e * P * (D * Q)
    s3 f = omega arith

    glue : (a b c d f g : ℕ) → a ≤ b + c → b ≤ d + f → c ≤ g → a ≤ d + (f + g)
    glue a b c d f g x y z = omega arith

pub prod_high : (L A D R e P H Q N E : ℕ) → H ≤ P → L * R ≤ A * D + e * D → P * N ≤ H * Q + E * Q
    → L * P * (R * N) ≤ A * H * (D * Q) + (L * E * (R * Q) + e * P * (D * Q))
prod_high L A D R e P H Q N E hp a h =
    glue _ _ _ _ _ _ (s2 (mul-le-mul_left (L * R) h)) (s1 (mul-le-mul_right (H * Q) a)) (s3 (mul-le-mul_right (e * D * Q) hp))
  where
    s1 : L * R * (H * Q) ≤ (A * D + e * D) * (H * Q) → L * R * H * Q ≤ A * H * (D * Q) + e * D * H * Q
    s1 f = omega arith

    s2 : L * R * (P * N) ≤ L * R * (H * Q + E * Q) → L * P * (R * N) ≤ L * R * H * Q + L * E * (R * Q)
    s2 f = omega arith

    s3 : H * (e * D * Q) ≤ P * (e * D * Q) → e * D * H * Q ≤ e * P * (D * Q)
    s3 f = omega arith

    glue : (a b c d f g : ℕ) → a ≤ b + c → b ≤ d + f → f ≤ g → a ≤ d + (c + g)
    glue a b c d f g x y z = omega arith

-- Z = A H / K in units of O, where L P = K O: what is left out is multiplied by K
pub record Sine (K O Z D R Q N x : ℕ) : Type 0 where
  pub low : K * Z * (D * Q) ≤ K * O * (R * N) + x
  pub high : K * O * (R * N) ≤ K * Z * (D * Q) + K * (D * Q) + x

pub product : (L A D R e P H Q N E K O : ℕ) → 0 < K → L * P ≡ K * O → Angle L A D R e → Close P H Q N E
    → Sine K O (A * H / K) D R Q N (L * E * (R * Q) + e * P * (D * Q))
product L A D R e P H Q N E K O kp lp a c =
    let Z = A * H / K in
    let v1 : Z * K ≤ A * H = div-mul-le_self (A * H) K in
    let v2 : A * H ≤ Z * K + K = le_of_lt (lt-div-mul-add kp) in
    let b1 : L * P * (R * N) ≡ K * O * (R * N) = ap (λ (z : ℕ). z * (R * N)) lp in
    record {
      low = fin1 Z (D * Q) _ _ _ _ (mul-le-mul_right (D * Q) v1) (prod_low L A D R e P H Q N E c.below_one a.low c.low) b1;
      high = fin2 Z (D * Q) _ _ _ _ (mul-le-mul_right (D * Q) v2) (prod_high L A D R e P H Q N E c.below_one a.high c.high) b1;
    }
  where
    fin1 : (Z W x y z u : ℕ) → Z * K * W ≤ x → x ≤ y + u → y ≡ z → K * Z * W ≤ z + u
    fin1 Z W x y z u f g h = omega arith

    fin2 : (Z W x y z u : ℕ) → x ≤ (Z * K + K) * W → y ≤ x + u → y ≡ z → z ≤ K * Z * W + K * W + u
    fin2 Z W x y z u f g h = omega arith
