-- The ratio of two sizes, lo / big ≤ 1, as a whole number of 2^-31: by an `f32` division, a product and a cut. Assumes nothing.
use Rattle.std.proofs.Common.{◌≡◌, ℕ, ◌+◌, ◌*◌, ◌/◌, ◌^◌, ◌<◌, ◌≤◌, min, Bool, true, false, T, pos, sym, refl, ap, ◌∙◌, subst, true≢false, le_trans, le_of_eq, lt_of_lt_of_le, lt_of_le_of_lt, le_of_lt, mul-le-mul_right, mul_comm, div-lt_iff_lt-mul, lt_of_mul-lt-mul_right, mul-le-mul_left, mul-lt-mul_of_pos_right, mul-pos, mul-one, div-mul-le_self, le_of_mul-le-mul_right, arith, lit<, lit≤, lt→ltb, pow_pos}
use lib.Ieee.{Float, fin, binary32, mul, nan, inf, up, down, round, lt, unlike, to_unsigned}
use lib.Ieee.Exact.{HasValue}
use native.Mathlib.Nat.{min-eq_left, le_of_mul-le-mul_left, lt-div-mul-add}
use lib.Ieee.Fits.{down_pos}
use lib.Ieee.Scale.{grid}
use lib.Ieee.Nearest.{div_same}
use Rattle.angles.proofs.Rounding.{Off, grid_off, rounded, off_cancel}

abbrev pub P31 : ℕ
P31 = 2147483648

-- t / P31 within w / P31 of a / c
pub record Slope (t a c w : ℕ) : Type 0 where
  pub low : t * c ≤ P31 * a + w * c
  pub high : P31 * a ≤ t * c + w * c

-- 2^31
abbrev pub half_turn : Float
half_turn = fin false 1 (pos 31)

-- y 2^31, for y = g / 2^149 below 2
pub record Grown (y : Float) (g : ℕ) : Type 0 where
  pub units : ℕ
  pub has : HasValue (mul binary32 y half_turn) false units (2 ^ 149)
  pub off : Off units (g * 2147483648) (2 ^ 157)

grow : (y : Float) (g : ℕ) → HasValue y false g (2 ^ 149) → g < 2 ^ 150 → Grown y g
unfolding mul
grow nan g h l = absurd h
grow (inf s) g h l = absurd h
grow (fin s m e) g h l =
    let a = m * up e * 2147483648 in
    let c = down e * 1 in
    let cp : 0 < c = mul-pos (down_pos e) (lit< tt) in
    let ag : a * 2 ^ 149 ≡ g * 2147483648 * c = g1 (m * up e) 2147483648 (2 ^ 149) g (down e) h.1 in
    let lt : a * 2 ^ 149 < 2 ^ 181 * c = subst (λ (z : ℕ). z < 2 ^ 181 * c) (sym ag) (mul-lt-mul_of_pos_right (mul-lt-mul_of_pos_right {k = 2147483648} l (lit< tt)) cp) in
    let o : Off (grid binary32 a c * c) (a * 2 ^ 149) (2 ^ 157 * c) = grid_off binary32 a c 157 cp lt in
    record {
      units = grid binary32 a c;
      has = subst (λ (b : Bool). HasValue (round binary32 (unlike b false) a c) false (grid binary32 a c) (2 ^ 149)) (sym h.0) (rounded a c 157 cp lt (lit≤ tt));
      off = off_cancel (grid binary32 a c) (g * 2147483648) (2 ^ 157) c cp (subst (λ (z : ℕ). Off (grid binary32 a c * c) z (2 ^ 157 * c)) ag o);
    }
  where
    g1 : (x K M g d : ℕ) → x * M ≡ g * d → x * K * M ≡ g * K * (d * 1)
    g1 x K M g d e = go (ap (λ (z : ℕ). z * K) e)
      where
        go : x * M * K ≡ g * d * K → x * K * M ≡ g * K * (d * 1)
        go f = omega arith

-- the whole part of a value u / 2^149, below 2^64
pub record Cut (y : Float) (u : ℕ) : Type 0 where
  pub above : T (lt (fin true 1 (pos 0)) y)
  pub below : T (lt y (fin false 1 (pos 64)))
  pub is : to_unsigned 64 y ≡ u / 2 ^ 149

cut : (y : Float) (u : ℕ) → HasValue y false u (2 ^ 149) → u < 2 ^ 200 → Cut y u
unfolding lt to_unsigned
cut nan u h l = absurd h
cut (inf s) u h l = absurd h
cut (fin true m e) u h l = absurd (true≢false h.0)
cut (fin false m e) u h l =
    let q : m * up e / down e ≡ u / 2 ^ 149 = div_same (m * up e) (down e) u (2 ^ 149) (down_pos e) (pow_pos 149) h.1 in
    record {
      above = lt→ltb 0 (1 * down e + m * up e * 1) (a1 (down e) (m * up e) (down_pos e));
      below = lt→ltb (m * up e * 1) (18446744073709551616 * down e) (subst (λ (z : ℕ). z < 18446744073709551616 * down e) (sym (mul-one (m * up e)))
          (lt_of_mul (m * up e) (2 ^ 149) u (down e) 18446744073709551616 (down_pos e) h.1 (lt_of_lt_of_le l (lit≤ tt))));
      is = ap (λ (z : ℕ). min z 18446744073709551615) q ∙ min-eq_left (div_small u (lt_of_lt_of_le l (lit≤ tt)));
    }
  where
    a1 : (d x : ℕ) → 0 < d → 0 < 1 * d + x * 1
    a1 d x h = omega arith

    lt_of_mul : (x M u d K : ℕ) → 0 < d → x * M ≡ u * d → u < K * M → x < K * d
    lt_of_mul x M u d K dp e l = lt_of_mul-lt-mul_right M (go (mul-lt-mul_of_pos_right l dp))
      where
        go : u * d < K * M * d → x * M < K * d * M
        go f = omega arith

    div_small : (u : ℕ) → u < 2 ^ 212 → u / 2 ^ 149 ≤ 18446744073709551615
    div_small u l = small (u / 2 ^ 149) ((div-lt_iff_lt-mul {k = 2 ^ 149} {x = u} {y = 9223372036854775808} (pow_pos 149)).1 l)
      where
        small : (x : ℕ) → x < 9223372036854775808 → x ≤ 18446744073709551615
        small x h = omega arith

-- ---- the slope
-- M = 2^149, E = 2^126, M = 8388608 E; F = 2^157 = 256 M
lows : (M E F g u t a c : ℕ) → 0 < M → 2147483648 * E ≡ 256 * M → F ≡ 256 * M → g * c ≤ a * M + E * c → u ≤ g * 2147483648 + F → t * M ≤ u → t * c ≤ 2147483648 * a + 512 * c
lows M E F g u t a c mp e f x y z = le_of_mul-le-mul_left (fin (t * c) a (a1 (mul-le-mul_right c z)) (a2 (mul-le-mul_right c y)) (a3 (ap (λ (w : ℕ). w * c) f)) (mul-le-mul_left 2147483648 x) (a4 (ap (λ (w : ℕ). w * c) e))) mp
  where
    a1 : t * M * c ≤ u * c → M * (t * c) ≤ u * c
    a1 f = omega arith

    a2 : u * c ≤ (g * 2147483648 + F) * c → u * c ≤ 2147483648 * (g * c) + F * c
    a2 f = omega arith

    a3 : F * c ≡ 256 * M * c → F * c ≡ 256 * (M * c)
    a3 f = omega arith

    a4 : 2147483648 * E * c ≡ 256 * M * c → 2147483648 * (E * c) ≡ 256 * (M * c)
    a4 f = omega arith

    fin : (tc a : ℕ) → M * tc ≤ u * c → u * c ≤ 2147483648 * (g * c) + F * c → F * c ≡ 256 * (M * c) → 2147483648 * (g * c) ≤ 2147483648 * (a * M + E * c) → 2147483648 * (E * c) ≡ 256 * (M * c)
        → M * tc ≤ M * (2147483648 * a + 512 * c)
    fin tc a x1 x2 x3 x4 x5 = omega arith

highs : (M E F g u t a c : ℕ) → 0 < M → 2147483648 * E ≡ 256 * M → F ≡ 256 * M → a * M ≤ g * c + E * c → g * 2147483648 ≤ u + F → u ≤ t * M + M → 2147483648 * a ≤ t * c + 513 * c
highs M E F g u t a c mp e f x y z = le_of_mul-le-mul_left (fin (t * c) a (mul-le-mul_left 2147483648 x) (a2 (mul-le-mul_right c y)) (a3 (ap (λ (w : ℕ). w * c) f)) (a1 (mul-le-mul_right c z)) (a4 (ap (λ (w : ℕ). w * c) e))) mp
  where
    a1 : u * c ≤ (t * M + M) * c → u * c ≤ M * (t * c) + M * c
    a1 f = omega arith

    a2 : g * 2147483648 * c ≤ (u + F) * c → 2147483648 * (g * c) ≤ u * c + F * c
    a2 f = omega arith

    a3 : F * c ≡ 256 * M * c → F * c ≡ 256 * (M * c)
    a3 f = omega arith

    a4 : 2147483648 * E * c ≡ 256 * M * c → 2147483648 * (E * c) ≡ 256 * (M * c)
    a4 f = omega arith

    fin : (tc a : ℕ) → 2147483648 * (a * M) ≤ 2147483648 * (g * c + E * c) → 2147483648 * (g * c) ≤ u * c + F * c → F * c ≡ 256 * (M * c) → u * c ≤ M * tc + M * c → 2147483648 * (E * c) ≡ 256 * (M * c)
        → M * (2147483648 * a) ≤ M * (tc + 513 * c)
    fin tc a x1 x2 x3 x4 x5 = omega arith

pub record Quotient (y : Float) (a c : ℕ) : Type 0 where
  pub above : T (lt (fin true 1 (pos 0)) y)
  pub below : T (lt y (fin false 1 (pos 64)))
  pub slope : Slope (to_unsigned 64 y) a c 520
  pub top : to_unsigned 64 y ≤ 2147484168

pub quotient : (a c : ℕ) → 0 < c → a ≤ c → Quotient (mul binary32 (round binary32 false a c) half_turn) a c
quotient a c cp ac =
    let lt1 : a * 2 ^ 149 < 2 ^ 150 * c = lt_of_le_of_lt (le_trans (mul-le-mul_right (2 ^ 149) ac) (le_of_eq (mul_comm c (2 ^ 149)))) (mul-lt-mul_of_pos_right (lit< tt) cp) in
    let o = grid_off binary32 a c 126 cp lt1 in
    let g = grid binary32 a c in
    let gl : g < 2 ^ 150 = lt_of_le_of_lt (le_of_mul-le-mul_right {m = g} {n = 2 ^ 149 + 2 ^ 126} (gcap g (2 ^ 149) (2 ^ 126) o.low' (mul-le-mul_right (2 ^ 149) ac)) cp) (lit< tt) in
    let w = grow (round binary32 false a c) g (rounded a c 126 cp lt1 (lit≤ tt)) gl in
    let u = w.units in
    let k = cut (mul binary32 (round binary32 false a c) half_turn) u w.has (three u (g * 2147483648) (2 ^ 157) (2 ^ 150 * 2147483648) (2 ^ 200) w.off.low' (mul-le-mul_right 2147483648 (le_of_lt gl)) (lit< tt)) in
    let t = u / 2 ^ 149 in
    let lo : t * c ≤ 2147483648 * a + 512 * c = lows (2 ^ 149) (2 ^ 126) (2 ^ 157) g u t a c (pow_pos 149) refl refl o.low' w.off.low' (div-mul-le_self u (2 ^ 149)) in
    let hi : 2147483648 * a ≤ t * c + 513 * c = highs (2 ^ 149) (2 ^ 126) (2 ^ 157) g u t a c (pow_pos 149) refl refl o.high' w.off.high' (le_of_lt (lt-div-mul-add (pow_pos 149))) in
    record {
      above = k.above;
      below = k.below;
      slope = subst (λ (z : ℕ). Slope z a c 520) (sym k.is) (record { low = more t lo; high = more' t hi });
      top = subst (λ (z : ℕ). z ≤ 2147484168) (sym k.is) (le_of_mul-le-mul_right (cap t lo (mul-le-mul_left 2147483648 ac)) cp);
    }
  where
    more : (t : ℕ) → t * c ≤ 2147483648 * a + 512 * c → t * c ≤ 2147483648 * a + 520 * c
    more t h = omega arith

    more' : (t : ℕ) → 2147483648 * a ≤ t * c + 513 * c → 2147483648 * a ≤ t * c + 520 * c
    more' t h = omega arith

    cap : (t : ℕ) → t * c ≤ 2147483648 * a + 512 * c → 2147483648 * a ≤ 2147483648 * c → t * c ≤ 2147484168 * c
    cap t h k = omega arith

    gcap : (g M E : ℕ) → g * c ≤ a * M + E * c → a * M ≤ c * M → g * c ≤ (M + E) * c
    gcap g M E x y = omega arith

    three : (g n w b c : ℕ) → g ≤ n + w → n ≤ b → b + w < c → g < c
    three g n w b c x y z = omega arith
