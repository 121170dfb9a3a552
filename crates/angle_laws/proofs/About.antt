-- Rounding errors of binary64, in units of 2^-32: a float that is about a fraction, and what the operations make of such floats. Assumes nothing.
use mathlib.Core.Path.{◌≡◌, refl, sym, ap, ap₂, ◌∙◌, subst}
use mathlib.Core.Bool.{Bool, true, false, cond, true≢false}
use Prim.Native.Nat.{ℕ, ◌+◌, ◌-◌, ◌*◌, ◌^◌, ◌≤◌, ◌<◌}
use native.Mathlib.Nat.{sub-add_cancel, add-le-add, sub-le, le_refl, le_trans, le_of_eq, lt_of_le_of_lt, mul-pos, mul-le-mul, mul-le-mul_left, mul-le-mul_right, le_of_mul-le-mul_right, mul-lt-mul_of_pos_right}
use native.Mathlib.Omega.{arith}
use lib.Dec.{lit<, lit≤}
use lib.Pow.{pow_pos}
use lib.IntN.{ℤ}
use lib.Ieee.{Float, nan, inf, fin, binary64, up, down, round, sum, add, sub, mul, neg}
use lib.Ieee.Fits.{down_pos}
use lib.Ieee.Exact.{HasValue}
use lib.Ieee.Scale.{grid, round_val}
use Rattle.angles.proofs.Rounding.{Off, grid_off}
use borrow.Author.Tests.{le-ltb}

-- 2^32
abbrev pub K : ℕ
K = 4294967296

-- x is finite, not below zero, and within e / 2^32 of N / D
pub record About (x : Float) (N D e : ℕ) : Type 0 where
  pub m : ℕ
  pub x' : ℤ
  pub is : x ≡ fin false m x'
  pub low : m * up x' * D * K ≤ N * down x' * K + e * (down x' * D)
  pub high : N * down x' * K ≤ m * up x' * D * K + e * (down x' * D)

-- ---- rounding
abbrev M : ℕ
M = 2 ^ 1074

abbrev W : ℕ
W = 2 ^ 1027

-- g c ≤ a M + W c: and the like
less_than : (g c a M W b : ℕ) → 0 < c → g * c ≤ a * M + W * c → a ≤ b * c → g ≤ b * M + W
less_than g c a M W b cp h k = le_of_mul-le-mul_right (go (mul-le-mul_right M k)) cp
  where
    go : a * M ≤ b * c * M → g * c ≤ (b * M + W) * c
    go f = omega arith

-- A / B is g / M, g / M is near a / c, and a / c near N / D
pub chain_low : (A B g M W a c N D K e : ℕ) → 0 < M → 0 < c → A * M ≡ g * B → g * c ≤ a * M + W * c → K * W ≤ M → a * D * K ≤ N * c * K + e * (c * D) → A * D * K ≤ N * B * K + (e + 1) * (B * D)
chain_low A B g M W a c N D K e mp cp v o w h =
    le_of_mul-le-mul_right {k = M * c}
    (glue (s1 (ap (λ (z : ℕ). z * (D * K * c)) v)) (s2 (mul-le-mul_right (B * D * K) o)) (s3 (mul-le-mul_right (B * M) h)) (s4 (mul-le-mul_right (B * D * c) w)))
    (mul-pos mp cp)
  where
    s1 : A * M * (D * K * c) ≡ g * B * (D * K * c) → A * D * K * (M * c) ≡ g * B * D * K * c
    s1 f = omega arith

    s2 : g * c * (B * D * K) ≤ (a * M + W * c) * (B * D * K) → g * B * D * K * c ≤ a * B * D * K * M + K * W * B * D * c
    s2 f = omega arith

    s3 : a * D * K * (B * M) ≤ (N * c * K + e * (c * D)) * (B * M) → a * B * D * K * M ≤ N * B * K * M * c + e * (B * D * M * c)
    s3 f = omega arith

    s4 : K * W * (B * D * c) ≤ M * (B * D * c) → K * W * B * D * c ≤ B * D * M * c
    s4 f = omega arith

    glue : A * D * K * (M * c) ≡ g * B * D * K * c → g * B * D * K * c ≤ a * B * D * K * M + K * W * B * D * c → a * B * D * K * M ≤ N * B * K * M * c + e * (B * D * M * c) → K * W * B * D * c ≤ B * D * M * c
        → A * D * K * (M * c) ≤ (N * B * K + (e + 1) * (B * D)) * (M * c)
    glue p q r s = le_trans (le_of_eq p) (le_trans q (le_trans (sums r s) (le_of_eq fin')))
      where
        sums : a * B * D * K * M ≤ N * B * K * M * c + e * (B * D * M * c) → K * W * B * D * c ≤ B * D * M * c → a * B * D * K * M + K * W * B * D * c ≤ N * B * K * M * c + e * (B * D * M * c) + B * D * M * c
        sums r s = add-le-add r s

        fin' : N * B * K * M * c + e * (B * D * M * c) + B * D * M * c ≡ (N * B * K + (e + 1) * (B * D)) * (M * c)
        fin' = omega arith

pub chain_high : (A B g M W a c N D K e : ℕ) → 0 < M → 0 < c → A * M ≡ g * B → a * M ≤ g * c + W * c → K * W ≤ M → N * c * K ≤ a * D * K + e * (c * D) → N * B * K ≤ A * D * K + (e + 1) * (B * D)
chain_high A B g M W a c N D K e mp cp v o w h =
    le_of_mul-le-mul_right {k = M * c}
    (le_trans (s3 (mul-le-mul_right (B * M) h)) (le_trans (sums (s2 (mul-le-mul_right (B * D * K) o)) (s4 (mul-le-mul_right (B * D * c) w))) (le_of_eq (ap (λ (z : ℕ). z + B * D * M * c + e * (B * D * M * c)) (sym (s1 (ap (λ (z : ℕ). z * (D * K * c)) v))) ∙ fin'))))
    (mul-pos mp cp)
  where
    s1 : A * M * (D * K * c) ≡ g * B * (D * K * c) → A * D * K * (M * c) ≡ g * B * D * K * c
    s1 f = omega arith

    s2 : a * M * (B * D * K) ≤ (g * c + W * c) * (B * D * K) → a * B * D * K * M ≤ g * B * D * K * c + K * W * B * D * c
    s2 f = omega arith

    s3 : N * c * K * (B * M) ≤ (a * D * K + e * (c * D)) * (B * M) → N * B * K * (M * c) ≤ a * B * D * K * M + e * (B * D * M * c)
    s3 f = omega arith

    s4 : K * W * (B * D * c) ≤ M * (B * D * c) → K * W * B * D * c ≤ B * D * M * c
    s4 f = omega arith

    sums : a * B * D * K * M ≤ g * B * D * K * c + K * W * B * D * c → K * W * B * D * c ≤ B * D * M * c → a * B * D * K * M + e * (B * D * M * c) ≤ g * B * D * K * c + B * D * M * c + e * (B * D * M * c)
    sums r s = add-le-add (le_trans r (add-le-add (le_refl (g * B * D * K * c)) s)) (le_refl (e * (B * D * M * c)))

    fin' : A * D * K * (M * c) + B * D * M * c + e * (B * D * M * c) ≡ (A * D * K + (e + 1) * (B * D)) * (M * c)
    fin' = omega arith

valued : (y : Float) (g a c N D e : ℕ) → 0 < c → HasValue y false g (2 ^ 1074) → Off (g * c) (a * 2 ^ 1074) (2 ^ 1027 * c) → a * D * K ≤ N * c * K + e * (c * D) → N * c * K ≤ a * D * K + e * (c * D) → About y N D (e + 1)
valued nan g a c N D e cp v o lo hi = absurd v
valued (inf s) g a c N D e cp v o lo hi = absurd v
valued (fin true m x) g a c N D e cp v o lo hi = absurd (true≢false v.0)
valued (fin false m x) g a c N D e cp v o lo hi = record {
  m = m;
  x' = x;
  is = refl;
  low = chain_low (m * up x) (down x) g (2 ^ 1074) (2 ^ 1027) a c N D K e (pow_pos 1074) cp v.1 o.low' (lit≤ tt) lo;
  high = chain_high (m * up x) (down x) g (2 ^ 1074) (2 ^ 1027) a c N D K e (pow_pos 1074) cp v.1 o.high' (lit≤ tt) hi;
}

pub about_round : (a c N D e : ℕ) → 0 < c → a ≤ 32 * c → a * D * K ≤ N * c * K + e * (c * D) → N * c * K ≤ a * D * K + e * (c * D) → About (round binary64 false a c) N D (e + 1)
about_round a c N D e cp al lo hi =
    let o = grid_off binary64 a c 1027 cp (lt_of_le_of_lt (mul-le-mul_right (2 ^ 1074) al) (lt_of_le_of_lt (le_of_eq (swap 32 c (2 ^ 1074))) (mul-lt-mul_of_pos_right {m = 32 * 2 ^ 1074} {n = 2 ^ 1080} (lit< tt) cp))) in
    let g = grid binary64 a c in
    valued (round binary64 false a c) g a c N D e cp
    (round_val binary64 a c (lt_of_le_of_lt (less_than g c a (2 ^ 1074) (2 ^ 1027) 32 cp o.low' al) (lit< tt)))
    o lo hi
  where
    swap : (b c M : ℕ) → b * c * M ≡ b * M * c
    swap b c M = omega arith

-- ---- the same float, about an equal fraction, and about a near one
pub about_same : {x : Float} (N D N' D' e : ℕ) → 0 < D → N * D' ≡ N' * D → About x N D e → About x N' D' e
about_same N D N' D' e dp q a = record {
  m = a.m;
  x' = a.x';
  is = a.is;
  low = le_of_mul-le-mul_right (le_trans (le_of_eq (g1 (a.m * up a.x') D D' K)) (le_trans (mul-le-mul_right D' a.low) (le_of_eq (g2 N (down a.x') K e D D' ∙ ap (λ (z : ℕ). z * (down a.x' * K) + e * (down a.x' * D' * D)) q ∙ g3 N' D (down a.x') K e D')))) dp;
  high = le_of_mul-le-mul_right (le_trans (le_of_eq (g4 N' (down a.x') K D ∙ ap (λ (z : ℕ). z * (down a.x' * K)) (sym q) ∙ g5 N D' (down a.x') K)) (le_trans (mul-le-mul_right D' a.high) (le_of_eq (g6 (a.m * up a.x') D K e (down a.x') D')))) dp;
}
  where
    g1 : (A D D' K : ℕ) → A * D' * K * D ≡ A * D * K * D'
    g1 A D D' K = omega arith

    g2 : (N B K e D D' : ℕ) → (N * B * K + e * (B * D)) * D' ≡ N * D' * (B * K) + e * (B * D' * D)
    g2 N B K e D D' = omega arith

    g3 : (N' D B K e D' : ℕ) → N' * D * (B * K) + e * (B * D' * D) ≡ (N' * B * K + e * (B * D')) * D
    g3 N' D B K e D' = omega arith

    g4 : (N' B K D : ℕ) → N' * B * K * D ≡ N' * D * (B * K)
    g4 N' B K D = omega arith

    g5 : (N D' B K : ℕ) → N * D' * (B * K) ≡ N * B * K * D'
    g5 N D' B K = omega arith

    g6 : (A D K e B D' : ℕ) → (A * D * K + e * (B * D)) * D' ≡ (A * D' * K + e * (B * D')) * D
    g6 A D K e B D' = omega arith

-- N / D within g / 2^32 of N' / D'
pub about_shift : {x : Float} (N D N' D' e g : ℕ) → 0 < D → N * D' * K ≤ N' * D * K + g * (D * D') → N' * D * K ≤ N * D' * K + g * (D * D') → About x N D e → About x N' D' (e + g)
about_shift N D N' D' e g dp lo hi a = record {
  m = a.m;
  x' = a.x';
  is = a.is;
  low = le_of_mul-le-mul_right (lows (a.m * up a.x') (down a.x') (mul-le-mul_right D' a.low) (mul-le-mul_right (down a.x') lo)) dp;
  high = le_of_mul-le-mul_right (highs (a.m * up a.x') (down a.x') (mul-le-mul_right D' a.high) (mul-le-mul_right (down a.x') hi)) dp;
}
  where
    lows : (A B : ℕ) → A * D * K * D' ≤ (N * B * K + e * (B * D)) * D' → N * D' * K * B ≤ (N' * D * K + g * (D * D')) * B → A * D' * K * D ≤ (N' * B * K + (e + g) * (B * D')) * D
    lows A B p q = le_trans (le_of_eq (o1 A D D' K)) (le_trans (f1 p) (le_trans (add-le-add (f2 q) (le_refl (e * (B * D * D')))) (le_of_eq (o2 N' B D K g e D'))))
      where
        f1 : A * D * K * D' ≤ (N * B * K + e * (B * D)) * D' → A * D * D' * K ≤ N * B * D' * K + e * (B * D * D')
        f1 f = omega arith

        f2 : N * D' * K * B ≤ (N' * D * K + g * (D * D')) * B → N * B * D' * K ≤ N' * B * D * K + g * (B * D * D')
        f2 f = omega arith

        o1 : (A D D' K : ℕ) → A * D' * K * D ≡ A * D * D' * K
        o1 A D D' K = omega arith

        o2 : (N' B D K g e D' : ℕ) → N' * B * D * K + g * (B * D * D') + e * (B * D * D') ≡ (N' * B * K + (e + g) * (B * D')) * D
        o2 N' B D K g e D' = omega arith

    highs : (A B : ℕ) → N * B * K * D' ≤ (A * D * K + e * (B * D)) * D' → N' * D * K * B ≤ (N * D' * K + g * (D * D')) * B → N' * B * K * D ≤ (A * D' * K + (e + g) * (B * D')) * D
    highs A B p q = le_trans (le_of_eq (o1 N' B K D)) (le_trans q (le_trans (le_of_eq (o2 N D' K g D B)) (le_trans (add-le-add p (le_refl (g * (B * D * D')))) (le_of_eq (o3 A D K e B D' g)))))
      where
        o1 : (N' B K D : ℕ) → N' * B * K * D ≡ N' * D * K * B
        o1 N' B K D = omega arith

        o2 : (N D' K g D B : ℕ) → (N * D' * K + g * (D * D')) * B ≡ N * B * K * D' + g * (B * D * D')
        o2 N D' K g D B = omega arith

        o3 : (A D K e B D' g : ℕ) → (A * D * K + e * (B * D)) * D' + g * (B * D * D') ≡ (A * D' * K + (e + g) * (B * D')) * D
        o3 A D K e B D' g = omega arith

-- ---- a product of two that are at most 1, or about that
-- A D K ≤ N B K + e B D and N ≤ D: A K ≤ (K + e) B
top_of : (A B N D e K : ℕ) → 0 < D → N ≤ D → A * D * K ≤ N * B * K + e * (B * D) → A * K ≤ (K + e) * B
top_of A B N D e K dp n h = le_of_mul-le-mul_right (le_trans (le_of_eq g1) (le_trans h (le_trans (add-le-add (le_trans (le_of_eq g3) (mul-le-mul_right (B * K) n)) (le_refl (e * (B * D)))) (le_of_eq g2)))) dp
  where
    g1 : A * K * D ≡ A * D * K
    g1 = omega arith

    g2 : D * (B * K) + e * (B * D) ≡ (K + e) * B * D
    g2 = omega arith

    g3 : N * B * K ≡ N * (B * K)
    g3 = omega arith

-- the product of two low ends, and of two high ends
prod_low : (A B N D e A' B' N' D' f K : ℕ) → 0 < K → N ≤ D → N' ≤ D' → e * f ≤ K → A * D * K ≤ N * B * K + e * (B * D) → A' * D' * K ≤ N' * B' * K + f * (B' * D')
    → A * A' * (D * D') * K ≤ N * N' * (B * B') * K + (e + f + 3) * (B * B' * (D * D'))
prod_low A B N D e A' B' N' D' f K kp n n' ef h h' =
    le_of_mul-le-mul_right {k = K}
    (le_trans (le_of_eq f1) (le_trans (mul-le-mul h h') (le_trans (le_of_eq f2) (le_trans (sums (mul-le-mul_left (f * K * B * B' * D') n) (mul-le-mul_left (e * K * B * B' * D) n') (mul-le-mul_right (B * B' * (D * D')) ef)) (le_of_eq f3)))))
    kp
  where
    f1 : A * A' * (D * D') * K * K ≡ A * D * K * (A' * D' * K)
    f1 = omega arith

    f2 : (N * B * K + e * (B * D)) * (N' * B' * K + f * (B' * D')) ≡ N * N' * (B * B') * K * K + (f * K * B * B' * D' * N + (e * K * B * B' * D * N' + e * f * (B * B' * (D * D'))))
    f2 = omega arith

    sums : f * K * B * B' * D' * N ≤ f * K * B * B' * D' * D → e * K * B * B' * D * N' ≤ e * K * B * B' * D * D' → e * f * (B * B' * (D * D')) ≤ K * (B * B' * (D * D'))
        → N * N' * (B * B') * K * K + (f * K * B * B' * D' * N + (e * K * B * B' * D * N' + e * f * (B * B' * (D * D')))) ≤ N * N' * (B * B') * K * K + (f * K * B * B' * D' * D + (e * K * B * B' * D * D' + 3 * (K * (B * B' * (D * D')))))
    sums p q r = add-le-add (le_refl (N * N' * (B * B') * K * K)) (add-le-add p (add-le-add q (le_trans r (thrice (K * (B * B' * (D * D')))))))
      where
        thrice : (x : ℕ) → x ≤ 3 * x
        thrice x = omega arith

    f3 : N * N' * (B * B') * K * K + (f * K * B * B' * D' * D + (e * K * B * B' * D * D' + 3 * (K * (B * B' * (D * D'))))) ≡ (N * N' * (B * B') * K + (e + f + 3) * (B * B' * (D * D'))) * K
    f3 = omega arith

prod_high : (A B N D e A' B' N' D' f K : ℕ) → 0 < K → A * K ≤ (K + e) * B → A' * K ≤ (K + f) * B' → e * f ≤ K → N * B * K ≤ A * D * K + e * (B * D) → N' * B' * K ≤ A' * D' * K + f * (B' * D')
    → N * N' * (B * B') * K ≤ A * A' * (D * D') * K + (e + f + 3) * (B * B' * (D * D'))
prod_high A B N D e A' B' N' D' f K kp a a' ef h h' =
    le_of_mul-le-mul_right {k = K}
    (le_trans (le_of_eq f1) (le_trans (mul-le-mul h h') (le_trans (le_of_eq f2) (le_trans (sums (mul-le-mul_left (f * D * B' * D') a) (mul-le-mul_left (e * D * B * D') a') (mul-le-mul_right (B * B' * (D * D')) ef)) (le_of_eq f3)))))
    kp
  where
    f1 : N * N' * (B * B') * K * K ≡ N * B * K * (N' * B' * K)
    f1 = omega arith

    f2 : (A * D * K + e * (B * D)) * (A' * D' * K + f * (B' * D')) ≡ A * A' * (D * D') * K * K + (f * D * B' * D' * (A * K) + (e * D * B * D' * (A' * K) + e * f * (B * B' * (D * D'))))
    f2 = omega arith

    s1 : f * D * B' * D' * ((K + e) * B) ≡ f * K * (B * B' * (D * D')) + e * f * (B * B' * (D * D'))
    s1 = omega arith

    s2 : e * D * B * D' * ((K + f) * B') ≡ e * K * (B * B' * (D * D')) + e * f * (B * B' * (D * D'))
    s2 = omega arith

    sums : f * D * B' * D' * (A * K) ≤ f * D * B' * D' * ((K + e) * B) → e * D * B * D' * (A' * K) ≤ e * D * B * D' * ((K + f) * B') → e * f * (B * B' * (D * D')) ≤ K * (B * B' * (D * D'))
        → A * A' * (D * D') * K * K + (f * D * B' * D' * (A * K) + (e * D * B * D' * (A' * K) + e * f * (B * B' * (D * D')))) ≤ A * A' * (D * D') * K * K + (f * K * (B * B' * (D * D')) + K * (B * B' * (D * D')) + (e * K * (B * B' * (D * D')) + K * (B * B' * (D * D')) + K * (B * B' * (D * D'))))
    sums p q r = add-le-add (le_refl (A * A' * (D * D') * K * K)) (add-le-add (le_trans p (le_trans (le_of_eq s1) (add-le-add (le_refl (f * K * (B * B' * (D * D')))) r))) (add-le-add (le_trans q (le_trans (le_of_eq s2) (add-le-add (le_refl (e * K * (B * B' * (D * D')))) r))) r))

    f3 : A * A' * (D * D') * K * K + (f * K * (B * B' * (D * D')) + K * (B * B' * (D * D')) + (e * K * (B * B' * (D * D')) + K * (B * B' * (D * D')) + K * (B * B' * (D * D')))) ≡ (A * A' * (D * D') * K + (e + f + 3) * (B * B' * (D * D'))) * K
    f3 = omega arith

-- a product of two floats of at most 2 is at most 32
prod_top : (A B A' B' e f K : ℕ) → 0 < K → e ≤ K → f ≤ K → A * K ≤ (K + e) * B → A' * K ≤ (K + f) * B' → A * A' ≤ 32 * (B * B')
prod_top A B A' B' e f K kp e1 f1 a a' = le_trans (mul-le-mul (two A B e a e1) (two A' B' f a' f1)) (le_trans (le_of_eq four) (mul-le-mul_right {m = 4} {n = 32} (B * B') (lit≤ tt)))
  where
    two : (A B e : ℕ) → A * K ≤ (K + e) * B → e ≤ K → A ≤ 2 * B
    two A B e a h = le_of_mul-le-mul_right {k = K} (le_trans a (le_trans (mul-le-mul_right B (add-le-add (le_refl K) h)) (le_of_eq (eq K B)))) kp
      where
        eq : (K B : ℕ) → (K + K) * B ≡ 2 * B * K
        eq K B = omega arith

    four : 2 * B * (2 * B') ≡ 4 * (B * B')
    four = omega arith

pub about_mul : {x y : Float} (N D N' D' e f : ℕ) → 0 < D → 0 < D' → N ≤ D → N' ≤ D' → e ≤ K → f ≤ K → e * f ≤ K → About x N D e → About y N' D' f → About (mul binary64 x y) (N * N') (D * D') (e + f + 3 + 1)
about_mul {x} {y} N D N' D' e f dp dp' n n' el fl ef a b =
    let A = a.m * up a.x' in
    let B = down a.x' in
    let A' = b.m * up b.x' in
    let B' = down b.x' in
    let t : A * K ≤ (K + e) * B = top_of A B N D e K dp n a.low in
    let t' : A' * K ≤ (K + f) * B' = top_of A' B' N' D' f K dp' n' b.low in
    subst (λ (z : Float). About z (N * N') (D * D') (e + f + 3 + 1)) (sym (ap₂ (λ (u v : Float). mul binary64 u v) a.is b.is ∙ mul_fin a.m a.x' b.m b.x'))
    (about_round (A * A') (B * B') (N * N') (D * D') (e + f + 3) (mul-pos (down_pos a.x') (down_pos b.x')) (prod_top A B A' B' e f K (lit< tt) el fl t t')
    (prod_low A B N D e A' B' N' D' f K (lit< tt) n n' ef a.low b.low) (prod_high A B N D e A' B' N' D' f K (lit< tt) t t' ef a.high b.high))
  where
    mul_fin : (m : ℕ) (e : ℤ) (n : ℕ) (d : ℤ) → mul binary64 (fin false m e) (fin false n d) ≡ round binary64 false (m * up e * (n * up d)) (down e * down d)
    mul_fin m e n d = unfold mul in refl

-- ---- sums and differences
add_le_cancel_right : {u v : ℕ} (w : ℕ) → u + w ≤ v + w → u ≤ v
add_le_cancel_right {u} {v} w h = omega arith

sum_low : (A B N D e A' B' N' D' f K : ℕ) → A * D * K ≤ N * B * K + e * (B * D) → A' * D' * K ≤ N' * B' * K + f * (B' * D')
    → (A * B' + A' * B) * (D * D') * K ≤ (N * D' + N' * D) * (B * B') * K + (e + f) * (B * B' * (D * D'))
sum_low A B N D e A' B' N' D' f K h h' = le_trans (le_of_eq f1) (le_trans (add-le-add (mul-le-mul_right (B' * D') h) (mul-le-mul_right (B * D) h')) (le_of_eq f2))
  where
    f1 : (A * B' + A' * B) * (D * D') * K ≡ A * D * K * (B' * D') + A' * D' * K * (B * D)
    f1 = omega arith

    f2 : (N * B * K + e * (B * D)) * (B' * D') + (N' * B' * K + f * (B' * D')) * (B * D) ≡ (N * D' + N' * D) * (B * B') * K + (e + f) * (B * B' * (D * D'))
    f2 = omega arith

sum_high : (A B N D e A' B' N' D' f K : ℕ) → N * B * K ≤ A * D * K + e * (B * D) → N' * B' * K ≤ A' * D' * K + f * (B' * D')
    → (N * D' + N' * D) * (B * B') * K ≤ (A * B' + A' * B) * (D * D') * K + (e + f) * (B * B' * (D * D'))
sum_high A B N D e A' B' N' D' f K h h' = le_trans (le_of_eq f1) (le_trans (add-le-add (mul-le-mul_right (B' * D') h) (mul-le-mul_right (B * D) h')) (le_of_eq f2))
  where
    f1 : (N * D' + N' * D) * (B * B') * K ≡ N * B * K * (B' * D') + N' * B' * K * (B * D)
    f1 = omega arith

    f2 : (A * D * K + e * (B * D)) * (B' * D') + (A' * D' * K + f * (B' * D')) * (B * D) ≡ (A * B' + A' * B) * (D * D') * K + (e + f) * (B * B' * (D * D'))
    f2 = omega arith

-- floats of at most 2
sum_top : (A B A' B' : ℕ) → A ≤ 2 * B → A' ≤ 2 * B' → A * B' + A' * B ≤ 32 * (B * B')
sum_top A B A' B' h h' = le_trans (add-le-add (mul-le-mul_right B' h) (mul-le-mul_right B h')) (le_trans (le_of_eq f) (mul-le-mul_right {m = 4} {n = 32} (B * B') (lit≤ tt)))
  where
    f : 2 * B * B' + 2 * B' * B ≡ 4 * (B * B')
    f = omega arith

twice : (A B e K : ℕ) → 0 < K → A * K ≤ (K + e) * B → e ≤ K → A ≤ 2 * B
twice A B e K kp a h = le_of_mul-le-mul_right {k = K} (le_trans a (le_trans (mul-le-mul_right B (add-le-add (le_refl K) h)) (le_of_eq (eq K B)))) kp
  where
    eq : (K B : ℕ) → (K + K) * B ≡ 2 * B * K
    eq K B = omega arith

pub about_add : {x y : Float} (N D N' D' e f : ℕ) → 0 < D → 0 < D' → N ≤ D → N' ≤ D' → e ≤ K → f ≤ K → About x N D e → About y N' D' f → About (add binary64 x y) (N * D' + N' * D) (D * D') (e + f + 1)
about_add {x} {y} N D N' D' e f dp dp' n n' el fl a b =
    let A = a.m * up a.x' in
    let B = down a.x' in
    let A' = b.m * up b.x' in
    let B' = down b.x' in
    let t : A ≤ 2 * B = twice A B e K (lit< tt) (top_of A B N D e K dp n a.low) el in
    let t' : A' ≤ 2 * B' = twice A' B' f K (lit< tt) (top_of A' B' N' D' f K dp' n' b.low) fl in
    subst (λ (z : Float). About z (N * D' + N' * D) (D * D') (e + f + 1)) (sym (ap₂ (λ (u v : Float). add binary64 u v) a.is b.is ∙ add_fin a.m a.x' b.m b.x'))
    (about_round (A * B' + A' * B) (B * B') (N * D' + N' * D) (D * D') (e + f) (mul-pos (down_pos a.x') (down_pos b.x')) (sum_top A B A' B' t t')
    (sum_low A B N D e A' B' N' D' f K a.low b.low) (sum_high A B N D e A' B' N' D' f K a.high b.high))
  where
    add_fin : (m : ℕ) (e : ℤ) (n : ℕ) (d : ℤ) → add binary64 (fin false m e) (fin false n d) ≡ round binary64 false (m * up e * down d + n * up d * down e) (down e * down d)
    add_fin m e n d = unfold add sum in refl

-- x - y, where y ≤ x
pub sub_fin : (m : ℕ) (e : ℤ) (n : ℕ) (d : ℤ) → n * up d * down e ≤ m * up e * down d → sub binary64 (fin false m e) (fin false n d) ≡ round binary64 false (m * up e * down d - n * up d * down e) (down e * down d)
unfolding sub add neg sum
sub_fin m e n d h = ap (λ (b : Bool). cond b (round binary64 true (n * up d * down e - m * up e * down d) (down e * down d)) (round binary64 false (m * up e * down d - n * up d * down e) (down e * down d))) (le-ltb (m * up e * down d) (n * up d * down e) h)

-- G + N' D = N D'
diff_low : (A B N D e A' B' N' D' f G K : ℕ) → A' * B ≤ A * B' → G + N' * D ≡ N * D' → A * D * K ≤ N * B * K + e * (B * D) → N' * B' * K ≤ A' * D' * K + f * (B' * D')
    → (A * B' - A' * B) * (D * D') * K ≤ G * (B * B') * K + (e + f) * (B * B' * (D * D'))
diff_low A B N D e A' B' N' D' f G K o q h h' = go (A * B' - A' * B) (sub-add_cancel o)
  where
    f1 : (d : ℕ) → (d + A' * B) * (D * D') * K ≡ d * (D * D') * K + A' * B * (D * D') * K
    f1 d = omega arith

    f2 : A * B' * (D * D') * K ≡ A * D * K * (B' * D')
    f2 = omega arith

    f3 : (N * B * K + e * (B * D)) * (B' * D') ≡ N * D' * (B * B' * K) + e * (B * B' * (D * D'))
    f3 = omega arith

    f4 : (G + N' * D) * (B * B' * K) + e * (B * B' * (D * D')) ≡ G * (B * B') * K + e * (B * B' * (D * D')) + N' * B' * K * (B * D)
    f4 = omega arith

    f5 : G * (B * B') * K + e * (B * B' * (D * D')) + (A' * D' * K + f * (B' * D')) * (B * D) ≡ G * (B * B') * K + (e + f) * (B * B' * (D * D')) + A' * B * (D * D') * K
    f5 = omega arith

    go : (d : ℕ) → d + A' * B ≡ A * B' → d * (D * D') * K ≤ G * (B * B') * K + (e + f) * (B * B' * (D * D'))
    go d s = add_le_cancel_right (A' * B * (D * D') * K)
        (le_trans (le_of_eq (sym (f1 d) ∙ ap (λ (z : ℕ). z * (D * D') * K) s ∙ f2)) (le_trans (mul-le-mul_right (B' * D') h) (le_trans (le_of_eq (f3 ∙ ap (λ (z : ℕ). z * (B * B' * K) + e * (B * B' * (D * D'))) (sym q) ∙ f4)) (le_trans (add-le-add (le_refl (G * (B * B') * K + e * (B * B' * (D * D')))) (mul-le-mul_right (B * D) h')) (le_of_eq f5)))))

diff_high : (A B N D e A' B' N' D' f G K : ℕ) → A' * B ≤ A * B' → G + N' * D ≡ N * D' → N * B * K ≤ A * D * K + e * (B * D) → A' * D' * K ≤ N' * B' * K + f * (B' * D')
    → G * (B * B') * K ≤ (A * B' - A' * B) * (D * D') * K + (e + f) * (B * B' * (D * D'))
diff_high A B N D e A' B' N' D' f G K o q h h' = go (A * B' - A' * B) (sub-add_cancel o)
  where
    f0 : G * (B * B') * K + N' * B' * K * (B * D) ≡ (G + N' * D) * (B * B' * K)
    f0 = omega arith

    f1 : N * D' * (B * B' * K) ≡ N * B * K * (B' * D')
    f1 = omega arith

    f2 : (A * D * K + e * (B * D)) * (B' * D') ≡ A * B' * (D * D' * K) + e * (B * B' * (D * D'))
    f2 = omega arith

    f3 : (d : ℕ) → (d + A' * B) * (D * D' * K) + e * (B * B' * (D * D')) ≡ d * (D * D') * K + e * (B * B' * (D * D')) + A' * D' * K * (B * D)
    f3 d = omega arith

    f4 : (d : ℕ) → d * (D * D') * K + e * (B * B' * (D * D')) + (N' * B' * K + f * (B' * D')) * (B * D) ≡ d * (D * D') * K + (e + f) * (B * B' * (D * D')) + N' * B' * K * (B * D)
    f4 d = omega arith

    go : (d : ℕ) → d + A' * B ≡ A * B' → G * (B * B') * K ≤ d * (D * D') * K + (e + f) * (B * B' * (D * D'))
    go d s = add_le_cancel_right (N' * B' * K * (B * D))
        (le_trans (le_of_eq (f0 ∙ ap (λ (z : ℕ). z * (B * B' * K)) q ∙ f1)) (le_trans (mul-le-mul_right (B' * D') h) (le_trans (le_of_eq (f2 ∙ ap (λ (z : ℕ). z * (D * D' * K) + e * (B * B' * (D * D'))) (sym s) ∙ f3 d)) (le_trans (add-le-add (le_refl (d * (D * D') * K + e * (B * B' * (D * D')))) (mul-le-mul_right (B * D) h')) (le_of_eq (f4 d))))))

pub about_sub : {x y : Float} (N D N' D' G e f : ℕ) (a : About x N D e) (b : About y N' D' f) → 0 < D → 0 < D' → N ≤ D → e ≤ K → G + N' * D ≡ N * D' → b.m * up b.x' * down a.x' ≤ a.m * up a.x' * down b.x' → About (sub binary64 x y) G (D * D') (e + f + 1)
about_sub {x} {y} N D N' D' G e f a b dp dp' n el q o =
    let A = a.m * up a.x' in
    let B = down a.x' in
    let A' = b.m * up b.x' in
    let B' = down b.x' in
    let t : A ≤ 2 * B = twice A B e K (lit< tt) (top_of A B N D e K dp n a.low) el in
    subst (λ (z : Float). About z G (D * D') (e + f + 1)) (sym (ap₂ (λ (u v : Float). sub binary64 u v) a.is b.is ∙ sub_fin a.m a.x' b.m b.x' o))
    (about_round (A * B' - A' * B) (B * B') G (D * D') (e + f) (mul-pos (down_pos a.x') (down_pos b.x')) (le_trans (sub-le (A * B') (A' * B)) (le_trans (mul-le-mul_right B' t) (le_trans (le_of_eq (g B B')) (mul-le-mul_right {m = 2} {n = 32} (B * B') (lit≤ tt)))))
    (diff_low A B N D e A' B' N' D' f G K o q a.low b.high) (diff_high A B N D e A' B' N' D' f G K o q a.high b.low))
  where
    g : (B B' : ℕ) → 2 * B * B' ≡ 2 * (B * B')
    g B B' = omega arith

-- where N' / D' is below N / D by more than the errors, y ≤ x
pub about_le : {x y : Float} (N D N' D' e f : ℕ) (a : About x N D e) (b : About y N' D' f) → 0 < D → 0 < D' → N' * D * K + (e + f) * (D * D') ≤ N * D' * K → b.m * up b.x' * down a.x' ≤ a.m * up a.x' * down b.x'
about_le N D N' D' e f a b dp dp' h = go (a.m * up a.x') (down a.x') (b.m * up b.x') (down b.x') a.high b.low
  where
    go : (A B A' B' : ℕ) → N * B * K ≤ A * D * K + e * (B * D) → A' * D' * K ≤ N' * B' * K + f * (B' * D') → A' * B ≤ A * B'
    go A B A' B' p q =
        le_of_mul-le-mul_right {k = D * D' * K}
        (add_le_cancel_right (e * (B * B' * (D * D'))) (le_trans (le_of_eq (f1 A' B D' e B' D)) (le_trans (add-le-add (mul-le-mul_right (B * D) q) (le_refl (e * (B * B' * (D * D'))))) (le_trans (le_of_eq (f2 N' B' f D' B D e)) (le_trans (mul-le-mul_right (B * B') h) (le_trans (le_of_eq (f3 N D' B B')) (le_trans (mul-le-mul_right (B' * D') p) (le_of_eq (f4 A D e B B' D')))))))))
        (mul-pos (mul-pos dp dp') (lit< tt))
      where
        f1 : (A' B D' e B' D : ℕ) → A' * B * (D * D' * K) + e * (B * B' * (D * D')) ≡ A' * D' * K * (B * D) + e * (B * B' * (D * D'))
        f1 A' B D' e B' D = omega arith

        f2 : (N' B' f D' B D e : ℕ) → (N' * B' * K + f * (B' * D')) * (B * D) + e * (B * B' * (D * D')) ≡ (N' * D * K + (e + f) * (D * D')) * (B * B')
        f2 N' B' f D' B D e = omega arith

        f3 : (N D' B B' : ℕ) → N * D' * K * (B * B') ≡ N * B * K * (B' * D')
        f3 N D' B B' = omega arith

        f4 : (A D e B B' D' : ℕ) → (A * D * K + e * (B * D)) * (B' * D') ≡ A * B' * (D * D' * K) + e * (B * B' * (D * D'))
        f4 A D e B B' D' = omega arith
