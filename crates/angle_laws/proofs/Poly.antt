-- The two polynomials against the series, exactly: over |r| ≤ 0.786 they are apart by less than 2904 and 338 units of 2^-32. Assumes nothing.
use mathlib.Core.Path.{◌≡◌, sym, ap, ◌∙◌}
use Prim.Native.Nat.{ℕ, ◌+◌, ◌-◌, ◌*◌, ◌/◌, ◌≤◌}
use native.Mathlib.Nat.{one-mul, add-le-add, le_refl, le_trans, le_of_eq, mul-le-mul, mul-le-mul_left, mul-le-mul_right, le_of_mul-le-mul_right}
use native.Mathlib.Omega.{arith}
use lib.Dec.{lit<, lit≤}
use Rattle.angle_laws.specs.Series.{fact, term, sin_top, cos_top}
use Rattle.angle_laws.proofs.Nested.{pw, term_is}

-- ---- powers of the square s / p ≤ 0.6178
module _ (s p : ℕ) (h : s * 10000 ≤ 6178 * p) where
  p2 : s * s * 10000 ≤ 3817 * (p * p)
  p2 = go (mul-le-mul h h)
    where
      go : s * 10000 * (s * 10000) ≤ 6178 * p * (6178 * p) → s * s * 10000 ≤ 3817 * (p * p)
      go f = omega arith

  p3 : s * s * s * 10000 ≤ 2359 * (p * p * p)
  p3 = go (mul-le-mul p2 h)
    where
      go : s * s * 10000 * (s * 10000) ≤ 3817 * (p * p) * (6178 * p) → s * s * s * 10000 ≤ 2359 * (p * p * p)
      go f = omega arith

  p4 : s * s * s * s * 10000 ≤ 1458 * (p * p * p * p)
  p4 = go (mul-le-mul p3 h)
    where
      go : s * s * s * 10000 * (s * 10000) ≤ 2359 * (p * p * p) * (6178 * p) → s * s * s * s * 10000 ≤ 1458 * (p * p * p * p)
      go f = omega arith

  p5 : s * s * s * s * s * 10000 ≤ 901 * (p * p * p * p * p)
  p5 = go (mul-le-mul p4 h)
    where
      go : s * s * s * s * 10000 * (s * 10000) ≤ 1458 * (p * p * p * p) * (6178 * p) → s * s * s * s * s * 10000 ≤ 901 * (p * p * p * p * p)
      go f = omega arith

  p6 : s * s * s * s * s * s * 10000 ≤ 557 * (p * p * p * p * p * p)
  p6 = go (mul-le-mul p5 h)
    where
      go : s * s * s * s * s * 10000 * (s * 10000) ≤ 901 * (p * p * p * p * p) * (6178 * p) → s * s * s * s * s * s * 10000 ≤ 557 * (p * p * p * p * p * p)
      go f = omega arith

  p7 : s * s * s * s * s * s * s * 10000 ≤ 345 * (p * p * p * p * p * p * p)
  p7 = go (mul-le-mul p6 h)
    where
      go : s * s * s * s * s * s * 10000 * (s * 10000) ≤ 557 * (p * p * p * p * p * p) * (6178 * p) → s * s * s * s * s * s * s * 10000 ≤ 345 * (p * p * p * p * p * p * p)
      go f = omega arith

pub squared : (R D : ℕ) → R * 1000 ≤ 786 * D → R * R * 10000 ≤ 6178 * (D * D)
squared R D un = go (mul-le-mul un un)
  where
    go : R * 1000 * (R * 1000) ≤ 786 * D * (786 * D) → R * R * 10000 ≤ 6178 * (D * D)
    go f = omega arith

-- ---- the sine: what the two differ by, over the powers as plain numbers
sin_gap : (U u1 u3 u5 u7 u9 u11 u13 n t : ℕ) → n + (715827379 * u3 + 838262 * u7) ≡ 4294967296 * u1 + 35786433 * u5
    → t + (1037836800 * u3 + 1235520 * u7 + 156 * u11) ≡ 6227020800 * u1 + 51891840 * u5 + 17160 * u9 + u13
    → u3 * 10000 ≤ 4857 * U → u5 * 10000 ≤ 3001 * U → u7 * 10000 ≤ 1855 * U → u9 * 10000 ≤ 1147 * U → u11 * 10000 ≤ 709 * U → u13 * 10000 ≤ 438 * U
    → (6227020800 * n ≤ 4294967296 * t + 2904 * (6227020800 * U)) × (4294967296 * t ≤ 6227020800 * n + 2904 * (6227020800 * U))
sin_gap U u1 u3 u5 u7 u9 u11 u13 n t a b h3 h5 h7 h9 h11 h13 = (lo, hi)
  where
    lo : 6227020800 * n ≤ 4294967296 * t + 2904 * (6227020800 * U)
    lo = omega arith

    hi : 4294967296 * t ≤ 6227020800 * n + 2904 * (6227020800 * U)
    hi = omega arith

-- ---- the cosine
cos_over : (U v2 v6 v10 v14 : ℕ) → v2 * 10000 ≤ 6178 * U → v6 * 10000 ≤ 2359 * U → v10 * 10000 ≤ 901 * U → v14 * 10000 ≤ 345 * U → 1046139494400 * v2 + 79537598300160 * v6 + 103182294319104 * v10 + 4294967296 * v14 ≤ 338 * (87178291200 * U)
cos_over U v2 v6 v10 v14 h2 h6 h10 h14 = omega arith

cos_under : (U v4 v8 v12 : ℕ) → v4 * 10000 ≤ 3817 * U → v8 * 10000 ≤ 1458 * U → v12 * 10000 ≤ 557 * U → 16186102732800 * v4 + 153957415772160 * v8 + 781684047872 * v12 ≤ 338 * (87178291200 * U)
cos_under U v4 v8 v12 h4 h8 h12 = omega arith

cos_both : (U v2 v4 v6 v8 v10 v12 v14 n t : ℕ) → n + (2147483636 * v2 + 5964320 * v6) ≡ 4294967296 * U + 178956785 * v4 + 104756 * v8
    → t + (43589145600 * v2 + 121080960 * v6 + 24024 * v10 + v14) ≡ 87178291200 * U + 3632428800 * v4 + 2162160 * v8 + 182 * v12
    → 87178291200 * n + (16186102732800 * v4 + 153957415772160 * v8 + 781684047872 * v12) ≡ 4294967296 * t + (1046139494400 * v2 + 79537598300160 * v6 + 103182294319104 * v10 + 4294967296 * v14)
cos_both U v2 v4 v6 v8 v10 v12 v14 n t a b = omega arith

drop_right : (x y z w : ℕ) → x + z ≡ y + w → x ≤ y + w
drop_right x y z w e = omega arith

drop_left : (x y z w : ℕ) → x + z ≡ y + w → y ≤ x + z
drop_left x y z w e = omega arith

cos_gap : (U v2 v4 v6 v8 v10 v12 v14 n t : ℕ) → n + (2147483636 * v2 + 5964320 * v6) ≡ 4294967296 * U + 178956785 * v4 + 104756 * v8
    → t + (43589145600 * v2 + 121080960 * v6 + 24024 * v10 + v14) ≡ 87178291200 * U + 3632428800 * v4 + 2162160 * v8 + 182 * v12
    → v2 * 10000 ≤ 6178 * U → v4 * 10000 ≤ 3817 * U → v6 * 10000 ≤ 2359 * U → v8 * 10000 ≤ 1458 * U → v10 * 10000 ≤ 901 * U → v12 * 10000 ≤ 557 * U → v14 * 10000 ≤ 345 * U
    → (87178291200 * n ≤ 4294967296 * t + 338 * (87178291200 * U)) × (4294967296 * t ≤ 87178291200 * n + 338 * (87178291200 * U))
cos_gap U v2 v4 v6 v8 v10 v12 v14 n t a b h2 h4 h6 h8 h10 h12 h14 =
    let e = cos_both U v2 v4 v6 v8 v10 v12 v14 n t a b in
    (le_trans (drop_right (87178291200 * n) (4294967296 * t) _ _ e) (add-le-add (le_refl (4294967296 * t)) (cos_over U v2 v6 v10 v14 h2 h6 h10 h14)), le_trans (drop_left (87178291200 * n) (4294967296 * t) _ _ e) (add-le-add (le_refl (87178291200 * n)) (cos_under U v4 v8 v12 h4 h8 h12)))

-- ---- the series, term by term
sin_1 : (R D : ℕ) → term 13 1 R D ≡ 6227020800 * (R * (D * D * (D * D) * (D * D) * (D * D) * (D * D) * (D * D)))
sin_1 R D = term_is (fact 13 / fact 1) R D 1 12 ∙ go
  where
    go : fact 13 / fact 1 * (pw R 1 * pw D 12) ≡ 6227020800 * (R * (D * D * (D * D) * (D * D) * (D * D) * (D * D) * (D * D)))
    go = omega arith

sin_3 : (R D : ℕ) → term 13 3 R D ≡ 1037836800 * (R * (R * R) * (D * D * (D * D) * (D * D) * (D * D) * (D * D)))
sin_3 R D = term_is (fact 13 / fact 3) R D 3 10 ∙ go
  where
    go : fact 13 / fact 3 * (pw R 3 * pw D 10) ≡ 1037836800 * (R * (R * R) * (D * D * (D * D) * (D * D) * (D * D) * (D * D)))
    go = omega arith

sin_5 : (R D : ℕ) → term 13 5 R D ≡ 51891840 * (R * (R * R * (R * R)) * (D * D * (D * D) * (D * D) * (D * D)))
sin_5 R D = term_is (fact 13 / fact 5) R D 5 8 ∙ go
  where
    go : fact 13 / fact 5 * (pw R 5 * pw D 8) ≡ 51891840 * (R * (R * R * (R * R)) * (D * D * (D * D) * (D * D) * (D * D)))
    go = omega arith

sin_7 : (R D : ℕ) → term 13 7 R D ≡ 1235520 * (R * (R * R * (R * R) * (R * R)) * (D * D * (D * D) * (D * D)))
sin_7 R D = term_is (fact 13 / fact 7) R D 7 6 ∙ go
  where
    go : fact 13 / fact 7 * (pw R 7 * pw D 6) ≡ 1235520 * (R * (R * R * (R * R) * (R * R)) * (D * D * (D * D) * (D * D)))
    go = omega arith

sin_9 : (R D : ℕ) → term 13 9 R D ≡ 17160 * (R * (R * R * (R * R) * (R * R) * (R * R)) * (D * D * (D * D)))
sin_9 R D = term_is (fact 13 / fact 9) R D 9 4 ∙ go
  where
    go : fact 13 / fact 9 * (pw R 9 * pw D 4) ≡ 17160 * (R * (R * R * (R * R) * (R * R) * (R * R)) * (D * D * (D * D)))
    go = omega arith

sin_11 : (R D : ℕ) → term 13 11 R D ≡ 156 * (R * (R * R * (R * R) * (R * R) * (R * R) * (R * R)) * (D * D))
sin_11 R D = term_is (fact 13 / fact 11) R D 11 2 ∙ go
  where
    go : fact 13 / fact 11 * (pw R 11 * pw D 2) ≡ 156 * (R * (R * R * (R * R) * (R * R) * (R * R) * (R * R)) * (D * D))
    go = omega arith

sin_13 : (R D : ℕ) → term 13 13 R D ≡ R * (R * R * (R * R) * (R * R) * (R * R) * (R * R) * (R * R))
sin_13 R D = term_is (fact 13 / fact 13) R D 13 0 ∙ go
  where
    go : fact 13 / fact 13 * (pw R 13 * pw D 0) ≡ R * (R * R * (R * R) * (R * R) * (R * R) * (R * R) * (R * R))
    go = omega arith

cos_0 : (R D : ℕ) → term 14 0 R D ≡ 87178291200 * (D * D * (D * D) * (D * D) * (D * D) * (D * D) * (D * D) * (D * D))
cos_0 R D = term_is (fact 14 / fact 0) R D 0 14 ∙ go
  where
    go : fact 14 / fact 0 * (pw R 0 * pw D 14) ≡ 87178291200 * (D * D * (D * D) * (D * D) * (D * D) * (D * D) * (D * D) * (D * D))
    go = omega arith

cos_2 : (R D : ℕ) → term 14 2 R D ≡ 43589145600 * (R * R * (D * D * (D * D) * (D * D) * (D * D) * (D * D) * (D * D)))
cos_2 R D = term_is (fact 14 / fact 2) R D 2 12 ∙ go
  where
    go : fact 14 / fact 2 * (pw R 2 * pw D 12) ≡ 43589145600 * (R * R * (D * D * (D * D) * (D * D) * (D * D) * (D * D) * (D * D)))
    go = omega arith

cos_4 : (R D : ℕ) → term 14 4 R D ≡ 3632428800 * (R * R * (R * R) * (D * D * (D * D) * (D * D) * (D * D) * (D * D)))
cos_4 R D = term_is (fact 14 / fact 4) R D 4 10 ∙ go
  where
    go : fact 14 / fact 4 * (pw R 4 * pw D 10) ≡ 3632428800 * (R * R * (R * R) * (D * D * (D * D) * (D * D) * (D * D) * (D * D)))
    go = omega arith

cos_6 : (R D : ℕ) → term 14 6 R D ≡ 121080960 * (R * R * (R * R) * (R * R) * (D * D * (D * D) * (D * D) * (D * D)))
cos_6 R D = term_is (fact 14 / fact 6) R D 6 8 ∙ go
  where
    go : fact 14 / fact 6 * (pw R 6 * pw D 8) ≡ 121080960 * (R * R * (R * R) * (R * R) * (D * D * (D * D) * (D * D) * (D * D)))
    go = omega arith

cos_8 : (R D : ℕ) → term 14 8 R D ≡ 2162160 * (R * R * (R * R) * (R * R) * (R * R) * (D * D * (D * D) * (D * D)))
cos_8 R D = term_is (fact 14 / fact 8) R D 8 6 ∙ go
  where
    go : fact 14 / fact 8 * (pw R 8 * pw D 6) ≡ 2162160 * (R * R * (R * R) * (R * R) * (R * R) * (D * D * (D * D) * (D * D)))
    go = omega arith

cos_10 : (R D : ℕ) → term 14 10 R D ≡ 24024 * (R * R * (R * R) * (R * R) * (R * R) * (R * R) * (D * D * (D * D)))
cos_10 R D = term_is (fact 14 / fact 10) R D 10 4 ∙ go
  where
    go : fact 14 / fact 10 * (pw R 10 * pw D 4) ≡ 24024 * (R * R * (R * R) * (R * R) * (R * R) * (R * R) * (D * D * (D * D)))
    go = omega arith

cos_12 : (R D : ℕ) → term 14 12 R D ≡ 182 * (R * R * (R * R) * (R * R) * (R * R) * (R * R) * (R * R) * (D * D))
cos_12 R D = term_is (fact 14 / fact 12) R D 12 2 ∙ go
  where
    go : fact 14 / fact 12 * (pw R 12 * pw D 2) ≡ 182 * (R * R * (R * R) * (R * R) * (R * R) * (R * R) * (R * R) * (D * D))
    go = omega arith

cos_14 : (R D : ℕ) → term 14 14 R D ≡ R * R * (R * R) * (R * R) * (R * R) * (R * R) * (R * R) * (R * R)
cos_14 R D = term_is (fact 14 / fact 14) R D 14 0 ∙ go
  where
    go : fact 14 / fact 14 * (pw R 14 * pw D 0) ≡ R * R * (R * R) * (R * R) * (R * R) * (R * R) * (R * R) * (R * R)
    go = omega arith

sin_sum : (x1 x3 x5 x7 x9 x11 x13 u1 u3 u5 u7 u9 u11 u13 : ℕ) → x1 ≡ 6227020800 * u1 → x3 ≡ 1037836800 * u3 → x5 ≡ 51891840 * u5 → x7 ≡ 1235520 * u7 → x9 ≡ 17160 * u9 → x11 ≡ 156 * u11 → x13 ≡ u13 → u3 ≤ u1 → u7 ≤ u5 → u11 ≤ u9
    → x1 + x5 + x9 + x13 - (x3 + x7 + x11) + (1037836800 * u3 + 1235520 * u7 + 156 * u11) ≡ 6227020800 * u1 + 51891840 * u5 + 17160 * u9 + u13
sin_sum x1 x3 x5 x7 x9 x11 x13 u1 u3 u5 u7 u9 u11 u13 a b c d e f g p q r = omega arith

four : (a b c d a' b' c' d' : ℕ) → a ≡ a' → b ≡ b' → c ≡ c' → d ≡ d' → a + b + c + d ≡ a' + b' + c' + d'
four a b c d a' b' c' d' p q r s = omega arith

less_of : (A B A' B' : ℕ) → B ≤ A → A ≡ A' → B ≡ B' → A - B + B' ≡ A'
less_of A B A' B' h p q = omega arith

scaled : (m n x y u v : ℕ) → m ≤ n → x ≡ m * u → y ≡ n * v → u ≤ v → x ≤ y
scaled m n x y u v k p q h = le_trans (le_of_eq p) (le_trans (mul-le-mul k h) (le_of_eq (sym q)))

cos_sum : (x0 x2 x4 x6 x8 x10 x12 x14 v0 v2 v4 v6 v8 v10 v12 v14 : ℕ) → x0 ≡ 87178291200 * v0 → x2 ≡ 43589145600 * v2 → x4 ≡ 3632428800 * v4 → x6 ≡ 121080960 * v6 → x8 ≡ 2162160 * v8 → x10 ≡ 24024 * v10 → x12 ≡ 182 * v12 → x14 ≡ v14 → v2 ≤ v0 → v6 ≤ v4 → v10 ≤ v8 → v14 ≤ v12
    → x0 + x4 + x8 + x12 - (x2 + x6 + x10 + x14) + (43589145600 * v2 + 121080960 * v6 + 24024 * v10 + v14) ≡ 87178291200 * v0 + 3632428800 * v4 + 2162160 * v8 + 182 * v12
cos_sum x0 x2 x4 x6 x8 x10 x12 x14 v0 v2 v4 v6 v8 v10 v12 v14 a b c d e f g h p q r s =
    less_of (x0 + x4 + x8 + x12) (x2 + x6 + x10 + x14) _ _
    (add-le-add (add-le-add (add-le-add (scaled 43589145600 87178291200 x2 x0 v2 v0 (lit≤ tt) b a p) (scaled 121080960 3632428800 x6 x4 v6 v4 (lit≤ tt) d c q)) (scaled 24024 2162160 x10 x8 v10 v8 (lit≤ tt) f e r)) (scaled 1 182 x14 x12 v14 v12 (lit≤ tt) (h ∙ sym (one-mul v14)) g s))
    (four x0 x4 x8 x12 _ _ _ _ a c e g) (four x2 x6 x10 x14 _ _ _ _ b d f h)

-- ---- the powers' bounds, brought to one denominator
widen : (x y q b : ℕ) → x * 10000 ≤ b * y → x * q * 10000 ≤ b * (y * q)
widen x y q b h = le_trans (le_of_eq f) (le_trans (mul-le-mul_right q h) (le_of_eq g))
  where
    f : x * q * 10000 ≡ x * 10000 * q
    f = omega arith

    g : b * y * q ≡ b * (y * q)
    g = omega arith

times_r : (R D x y b c : ℕ) → R * 1000 ≤ 786 * D → x * 10000 ≤ b * y → 786 * b ≤ c * 1000 → R * x * 10000 ≤ c * (D * y)
times_r R D x y b c h k l = le_of_mul-le-mul_right {k = 1000} (le_trans (le_of_eq f) (le_trans (mul-le-mul h k) (le_trans (le_of_eq g) (le_trans (mul-le-mul_right (D * y) l) (le_of_eq w))))) (lit< tt)
  where
    f : R * x * 10000 * 1000 ≡ R * 1000 * (x * 10000)
    f = omega arith

    g : 786 * D * (b * y) ≡ 786 * b * (D * y)
    g = omega arith

    w : c * 1000 * (D * y) ≡ c * (D * y) * 1000
    w = omega arith

odd_1 : (D p : ℕ) → D * (p) * (p * p * p * p * p) ≡ D * (p * p * p * p * p * p)
odd_1 D p = omega arith

odd_2 : (D p : ℕ) → D * (p * p) * (p * p * p * p) ≡ D * (p * p * p * p * p * p)
odd_2 D p = omega arith

odd_3 : (D p : ℕ) → D * (p * p * p) * (p * p * p) ≡ D * (p * p * p * p * p * p)
odd_3 D p = omega arith

odd_4 : (D p : ℕ) → D * (p * p * p * p) * (p * p) ≡ D * (p * p * p * p * p * p)
odd_4 D p = omega arith

odd_5 : (D p : ℕ) → D * (p * p * p * p * p) * (p) ≡ D * (p * p * p * p * p * p)
odd_5 D p = omega arith

even_1 : (p : ℕ) → p * (p * p * p * p * p * p) ≡ p * p * p * p * p * p * p
even_1 p = omega arith

even_2 : (p : ℕ) → p * p * (p * p * p * p * p) ≡ p * p * p * p * p * p * p
even_2 p = omega arith

even_3 : (p : ℕ) → p * p * p * (p * p * p * p) ≡ p * p * p * p * p * p * p
even_3 p = omega arith

even_4 : (p : ℕ) → p * p * p * p * (p * p * p) ≡ p * p * p * p * p * p * p
even_4 p = omega arith

even_5 : (p : ℕ) → p * p * p * p * p * (p * p) ≡ p * p * p * p * p * p * p
even_5 p = omega arith

even_6 : (p : ℕ) → p * p * p * p * p * p * (p) ≡ p * p * p * p * p * p * p
even_6 p = omega arith

-- ---- both together, for R / D ≤ 0.786
module _ (R D : ℕ) (un : R * 1000 ≤ 786 * D) where
  below : R ≤ D
  below = omega arith

  sq : R * R ≤ D * D
  sq = mul-le-mul below below

  -- the sine: n is the polynomial's numerator, over 2^32 D^13
  pub sin_apart : (n : ℕ) → n + (715827379 * (R * (R * R) * (D * D * (D * D) * (D * D) * (D * D) * (D * D))) + 838262 * (R * (R * R * (R * R) * (R * R)) * (D * D * (D * D) * (D * D)))) ≡ 4294967296 * (R * (D * D * (D * D) * (D * D) * (D * D) * (D * D) * (D * D))) + 35786433 * (R * (R * R * (R * R)) * (D * D * (D * D) * (D * D) * (D * D)))
      → (6227020800 * n ≤ 4294967296 * sin_top R D + 2904 * (6227020800 * (D * (D * D * (D * D) * (D * D) * (D * D) * (D * D) * (D * D))))) × (4294967296 * sin_top R D ≤ 6227020800 * n + 2904 * (6227020800 * (D * (D * D * (D * D) * (D * D) * (D * D) * (D * D) * (D * D)))))
  unfolding sin_top
  sin_apart n e =
      sin_gap (D * (D * D * (D * D) * (D * D) * (D * D) * (D * D) * (D * D))) (R * (D * D * (D * D) * (D * D) * (D * D) * (D * D) * (D * D))) (R * (R * R) * (D * D * (D * D) * (D * D) * (D * D) * (D * D))) (R * (R * R * (R * R)) * (D * D * (D * D) * (D * D) * (D * D))) (R * (R * R * (R * R) * (R * R)) * (D * D * (D * D) * (D * D))) (R * (R * R * (R * R) * (R * R) * (R * R)) * (D * D * (D * D))) (R * (R * R * (R * R) * (R * R) * (R * R) * (R * R)) * (D * D)) (R * (R * R * (R * R) * (R * R) * (R * R) * (R * R) * (R * R))) n (sin_top R D) e
      (sin_sum (term 13 1 R D) (term 13 3 R D) (term 13 5 R D) (term 13 7 R D) (term 13 9 R D) (term 13 11 R D) (term 13 13 R D) (R * (D * D * (D * D) * (D * D) * (D * D) * (D * D) * (D * D))) (R * (R * R) * (D * D * (D * D) * (D * D) * (D * D) * (D * D))) (R * (R * R * (R * R)) * (D * D * (D * D) * (D * D) * (D * D))) (R * (R * R * (R * R) * (R * R)) * (D * D * (D * D) * (D * D))) (R * (R * R * (R * R) * (R * R) * (R * R)) * (D * D * (D * D))) (R * (R * R * (R * R) * (R * R) * (R * R) * (R * R)) * (D * D)) (R * (R * R * (R * R) * (R * R) * (R * R) * (R * R) * (R * R)))
      (sin_1 R D) (sin_3 R D) (sin_5 R D) (sin_7 R D) (sin_9 R D) (sin_11 R D) (sin_13 R D)
      (o1 (R * R) (D * D) sq) (o5 (R * R) (D * D) sq) (o9 (R * R) (D * D) sq))
      (le_trans (widen (R * (R * R)) (D * (D * D)) (D * D * (D * D) * (D * D) * (D * D) * (D * D)) 4857 (times_r R D (R * R) (D * D) 6178 4857 un (squared R D un) (lit≤ tt))) (le_of_eq (ap (λ (z : ℕ). 4857 * z) (odd_1 D (D * D)))))
      (le_trans (widen (R * (R * R * (R * R))) (D * (D * D * (D * D))) (D * D * (D * D) * (D * D) * (D * D)) 3001 (times_r R D (R * R * (R * R)) (D * D * (D * D)) 3817 3001 un (p2 (R * R) (D * D) (squared R D un)) (lit≤ tt))) (le_of_eq (ap (λ (z : ℕ). 3001 * z) (odd_2 D (D * D)))))
      (le_trans (widen (R * (R * R * (R * R) * (R * R))) (D * (D * D * (D * D) * (D * D))) (D * D * (D * D) * (D * D)) 1855 (times_r R D (R * R * (R * R) * (R * R)) (D * D * (D * D) * (D * D)) 2359 1855 un (p3 (R * R) (D * D) (squared R D un)) (lit≤ tt))) (le_of_eq (ap (λ (z : ℕ). 1855 * z) (odd_3 D (D * D)))))
      (le_trans (widen (R * (R * R * (R * R) * (R * R) * (R * R))) (D * (D * D * (D * D) * (D * D) * (D * D))) (D * D * (D * D)) 1147 (times_r R D (R * R * (R * R) * (R * R) * (R * R)) (D * D * (D * D) * (D * D) * (D * D)) 1458 1147 un (p4 (R * R) (D * D) (squared R D un)) (lit≤ tt))) (le_of_eq (ap (λ (z : ℕ). 1147 * z) (odd_4 D (D * D)))))
      (le_trans (widen (R * (R * R * (R * R) * (R * R) * (R * R) * (R * R))) (D * (D * D * (D * D) * (D * D) * (D * D) * (D * D))) (D * D) 709 (times_r R D (R * R * (R * R) * (R * R) * (R * R) * (R * R)) (D * D * (D * D) * (D * D) * (D * D) * (D * D)) 901 709 un (p5 (R * R) (D * D) (squared R D un)) (lit≤ tt))) (le_of_eq (ap (λ (z : ℕ). 709 * z) (odd_5 D (D * D)))))
      (times_r R D (R * R * (R * R) * (R * R) * (R * R) * (R * R) * (R * R)) (D * D * (D * D) * (D * D) * (D * D) * (D * D) * (D * D)) 557 438 un (p6 (R * R) (D * D) (squared R D un)) (lit≤ tt))
    where
      lift : (y s p : ℕ) → s ≤ p → y * s ≤ y * p
      lift y s p h = mul-le-mul_left y h

      o1 : (s p : ℕ) → s ≤ p → R * s * (p * p * p * p * p) ≤ R * (p * p * p * p * p * p)
      o1 s p h = le_trans (le_of_eq f) (le_trans (lift (R * (p * p * p * p * p)) s p h) (le_of_eq g))
        where
          f : R * s * (p * p * p * p * p) ≡ R * (p * p * p * p * p) * s
          f = omega arith

          g : R * (p * p * p * p * p) * p ≡ R * (p * p * p * p * p * p)
          g = omega arith

      o5 : (s p : ℕ) → s ≤ p → R * (s * s * s) * (p * p * p) ≤ R * (s * s) * (p * p * p * p)
      o5 s p h = le_trans (le_of_eq f) (le_trans (lift (R * (s * s) * (p * p * p)) s p h) (le_of_eq g))
        where
          f : R * (s * s * s) * (p * p * p) ≡ R * (s * s) * (p * p * p) * s
          f = omega arith

          g : R * (s * s) * (p * p * p) * p ≡ R * (s * s) * (p * p * p * p)
          g = omega arith

      o9 : (s p : ℕ) → s ≤ p → R * (s * s * s * s * s) * p ≤ R * (s * s * s * s) * (p * p)
      o9 s p h = le_trans (le_of_eq f) (le_trans (lift (R * (s * s * s * s) * p) s p h) (le_of_eq g))
        where
          f : R * (s * s * s * s * s) * p ≡ R * (s * s * s * s) * p * s
          f = omega arith

          g : R * (s * s * s * s) * p * p ≡ R * (s * s * s * s) * (p * p)
          g = omega arith

  -- the cosine, over 2^32 D^14
  pub cos_apart : (n : ℕ) → n + (2147483636 * (R * R * (D * D * (D * D) * (D * D) * (D * D) * (D * D) * (D * D))) + 5964320 * (R * R * (R * R) * (R * R) * (D * D * (D * D) * (D * D) * (D * D)))) ≡ 4294967296 * (D * D * (D * D) * (D * D) * (D * D) * (D * D) * (D * D) * (D * D)) + 178956785 * (R * R * (R * R) * (D * D * (D * D) * (D * D) * (D * D) * (D * D))) + 104756 * (R * R * (R * R) * (R * R) * (R * R) * (D * D * (D * D) * (D * D)))
      → (87178291200 * n ≤ 4294967296 * cos_top R D + 338 * (87178291200 * (D * D * (D * D) * (D * D) * (D * D) * (D * D) * (D * D) * (D * D)))) × (4294967296 * cos_top R D ≤ 87178291200 * n + 338 * (87178291200 * (D * D * (D * D) * (D * D) * (D * D) * (D * D) * (D * D) * (D * D))))
  unfolding cos_top
  cos_apart n e =
      cos_gap (D * D * (D * D) * (D * D) * (D * D) * (D * D) * (D * D) * (D * D)) (R * R * (D * D * (D * D) * (D * D) * (D * D) * (D * D) * (D * D))) (R * R * (R * R) * (D * D * (D * D) * (D * D) * (D * D) * (D * D))) (R * R * (R * R) * (R * R) * (D * D * (D * D) * (D * D) * (D * D))) (R * R * (R * R) * (R * R) * (R * R) * (D * D * (D * D) * (D * D))) (R * R * (R * R) * (R * R) * (R * R) * (R * R) * (D * D * (D * D))) (R * R * (R * R) * (R * R) * (R * R) * (R * R) * (R * R) * (D * D)) (R * R * (R * R) * (R * R) * (R * R) * (R * R) * (R * R) * (R * R)) n (cos_top R D) e
      (cos_sum (term 14 0 R D) (term 14 2 R D) (term 14 4 R D) (term 14 6 R D) (term 14 8 R D) (term 14 10 R D) (term 14 12 R D) (term 14 14 R D) (D * D * (D * D) * (D * D) * (D * D) * (D * D) * (D * D) * (D * D)) (R * R * (D * D * (D * D) * (D * D) * (D * D) * (D * D) * (D * D))) (R * R * (R * R) * (D * D * (D * D) * (D * D) * (D * D) * (D * D))) (R * R * (R * R) * (R * R) * (D * D * (D * D) * (D * D) * (D * D))) (R * R * (R * R) * (R * R) * (R * R) * (D * D * (D * D) * (D * D))) (R * R * (R * R) * (R * R) * (R * R) * (R * R) * (D * D * (D * D))) (R * R * (R * R) * (R * R) * (R * R) * (R * R) * (R * R) * (D * D)) (R * R * (R * R) * (R * R) * (R * R) * (R * R) * (R * R) * (R * R))
      (cos_0 R D) (cos_2 R D) (cos_4 R D) (cos_6 R D) (cos_8 R D) (cos_10 R D) (cos_12 R D) (cos_14 R D)
      (o0 (R * R) (D * D) sq) (o4 (R * R) (D * D) sq) (o8 (R * R) (D * D) sq) (mul-le-mul_left (R * R * (R * R) * (R * R) * (R * R) * (R * R) * (R * R)) sq))
      (le_trans (widen (R * R) (D * D) (D * D * (D * D) * (D * D) * (D * D) * (D * D) * (D * D)) 6178 (squared R D un)) (le_of_eq (ap (λ (z : ℕ). 6178 * z) (even_1 (D * D)))))
      (le_trans (widen (R * R * (R * R)) (D * D * (D * D)) (D * D * (D * D) * (D * D) * (D * D) * (D * D)) 3817 (p2 (R * R) (D * D) (squared R D un))) (le_of_eq (ap (λ (z : ℕ). 3817 * z) (even_2 (D * D)))))
      (le_trans (widen (R * R * (R * R) * (R * R)) (D * D * (D * D) * (D * D)) (D * D * (D * D) * (D * D) * (D * D)) 2359 (p3 (R * R) (D * D) (squared R D un))) (le_of_eq (ap (λ (z : ℕ). 2359 * z) (even_3 (D * D)))))
      (le_trans (widen (R * R * (R * R) * (R * R) * (R * R)) (D * D * (D * D) * (D * D) * (D * D)) (D * D * (D * D) * (D * D)) 1458 (p4 (R * R) (D * D) (squared R D un))) (le_of_eq (ap (λ (z : ℕ). 1458 * z) (even_4 (D * D)))))
      (le_trans (widen (R * R * (R * R) * (R * R) * (R * R) * (R * R)) (D * D * (D * D) * (D * D) * (D * D) * (D * D)) (D * D * (D * D)) 901 (p5 (R * R) (D * D) (squared R D un))) (le_of_eq (ap (λ (z : ℕ). 901 * z) (even_5 (D * D)))))
      (le_trans (widen (R * R * (R * R) * (R * R) * (R * R) * (R * R) * (R * R)) (D * D * (D * D) * (D * D) * (D * D) * (D * D) * (D * D)) (D * D) 557 (p6 (R * R) (D * D) (squared R D un))) (le_of_eq (ap (λ (z : ℕ). 557 * z) (even_6 (D * D)))))
      (p7 (R * R) (D * D) (squared R D un))
    where
      o0 : (s p : ℕ) → s ≤ p → s * (p * p * p * p * p * p) ≤ p * p * p * p * p * p * p
      o0 s p h = le_trans (mul-le-mul_right (p * p * p * p * p * p) h) (le_of_eq g)
        where
          g : p * (p * p * p * p * p * p) ≡ p * p * p * p * p * p * p
          g = omega arith

      o4 : (s p : ℕ) → s ≤ p → s * s * s * (p * p * p * p) ≤ s * s * (p * p * p * p * p)
      o4 s p h = le_trans (le_of_eq f) (le_trans (mul-le-mul_left (s * s * (p * p * p * p)) h) (le_of_eq g))
        where
          f : s * s * s * (p * p * p * p) ≡ s * s * (p * p * p * p) * s
          f = omega arith

          g : s * s * (p * p * p * p) * p ≡ s * s * (p * p * p * p * p)
          g = omega arith

      o8 : (s p : ℕ) → s ≤ p → s * s * s * s * s * (p * p) ≤ s * s * s * s * (p * p * p)
      o8 s p h = le_trans (le_of_eq f) (le_trans (mul-le-mul_left (s * s * s * s * (p * p)) h) (le_of_eq g))
        where
          f : s * s * s * s * s * (p * p) ≡ s * s * s * s * (p * p) * s
          f = omega arith

          g : s * s * s * s * (p * p) * p ≡ s * s * s * s * (p * p * p)
          g = omega arith
