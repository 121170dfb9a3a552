-- The polynomials in binary64 are about the series: within 2983 and 444 units of 2^-32, for a rest that is within 3 units of R / D ≤ 0.786. Assumes nothing.
use mathlib.Core.Path.{◌≡◌, refl, sym, ap, ◌∙◌, subst}
use mathlib.Core.Bool.{false}
use Prim.Native.Nat.{ℕ, ◌+◌, ◌-◌, ◌*◌, ◌≤◌, ◌<◌}
use native.Mathlib.Nat.{sub-add_cancel, add-le-add, add_right_cancel, le-add_right, le_refl, le_trans, le_of_eq, sub-le, mul-one, one-mul, mul-pos, mul-le-mul, mul-le-mul_left, mul-le-mul_right, le_of_mul-le-mul_right}
use native.Mathlib.Omega.{arith}
use lib.Dec.{T, lit<, lit≤}
use lib.IntN.{ℤ, pos, negsuc}
use lib.Ieee.{Float, fin, binary64, up, down, fits, mul, le, of_bits}
use lib.Ieee.Fits.{mul-fits}
use Rattle.floats.proofs.Ratio.{mul_shrinks}
use Rattle.floats.proofs.Cross.{cross→le, nonneg_cross}
use Rattle.floats.proofs.Preorder.{le_trans_f}
use Rattle.sines.specs.Sines.{one, num, plus, less, times, sin_poly, cos_poly}
use Rattle.angle_laws.specs.Series.{fact, sin_top, sin_bot, cos_top, cos_bot}
use Rattle.angle_laws.proofs.Nested.{pw, pw_is}
use Rattle.angle_laws.proofs.About.{K, About, about_mul, about_add, about_sub, about_le, about_same, about_shift}
use Rattle.angle_laws.proofs.Poly.{sin_apart, cos_apart}

-- ---- the figures
s₁ : About (num 4595172815570052611) 715827379 4294967296 1
s₁ = unfold of_bits in record { m = 6004795279517187; x' = negsuc 54; is = refl; low = lit≤ tt; high = lit≤ tt }

s₂ : About (num 4575956795463502788) 35786433 4294967296 1
s₂ = unfold of_bits in record { m = 1200793420612337; x' = negsuc 56; is = refl; low = lit≤ tt; high = lit≤ tt }

s₃ : About (num 4551332636403224356) 838262 4294967296 1
s₃ = unfold of_bits in record { m = 1800153096598473; x' = negsuc 62; is = refl; low = lit≤ tt; high = lit≤ tt }

c₀ : About one 1 1 0
c₀ = record { m = 1; x' = pos 0; is = refl; low = lit≤ tt; high = lit≤ tt }

c₁ : About (num 4602678819123126812) 2147483636 4294967296 1
c₁ = unfold of_bits in record { m = 2251799801305223; x' = negsuc 51; is = refl; low = lit≤ tt; high = lit≤ tt }

c₂ : About (num 4586165614292668185) 178956785 4294967296 1
c₂ = unfold of_bits in record { m = 6004793256873753; x' = negsuc 56; is = refl; low = lit≤ tt; high = lit≤ tt }

c₃ : About (num 4564046962342114717) 5964320 4294967296 1
c₃ = unfold of_bits in record { m = 6404139443172765; x' = negsuc 61; is = refl; low = lit≤ tt; high = lit≤ tt }

c₄ : About (num 4537820015566256323) 104756 4294967296 1
c₄ = unfold of_bits in record { m = 7198790431537347; x' = negsuc 67; is = refl; low = lit≤ tt; high = lit≤ tt }

-- ---- a product with a factor of at most 1 is no more than the other factor
one_of : {x : Float} (N D e : ℕ) (a : About x N D e) → 0 < D → N * K + e * D ≤ D * K → a.m * up a.x' ≤ down a.x'
one_of N D e a dp h = le_of_mul-le-mul_right {k = D * K} (go (a.m * up a.x') (down a.x') a.low (mul-le-mul_right (down a.x') h)) (mul-pos dp (lit< tt))
  where
    go : (A B : ℕ) → A * D * K ≤ N * B * K + e * (B * D) → (N * K + e * D) * B ≤ D * K * B → A * (D * K) ≤ B * (D * K)
    go A B f g = le_trans (le_of_eq (f1 A D)) (le_trans f (le_trans (le_of_eq (f2 N B e D)) (le_trans g (le_of_eq (f3 D B)))))
      where
        f1 : (A D : ℕ) → A * (D * K) ≡ A * D * K
        f1 A D = omega arith

        f2 : (N B e D : ℕ) → N * B * K + e * (B * D) ≡ (N * K + e * D) * B
        f2 N B e D = omega arith

        f3 : (D B : ℕ) → D * K * B ≡ B * (D * K)
        f3 D B = omega arith

-- c s₁ ≤ c = r z ≤ r, where z and s₁ are at most 1
shrink : (m : ℕ) (e : ℤ) (n : ℕ) (d : ℤ) → T (fits binary64 (fin false m e)) → n * up d ≤ down d → T (le (mul binary64 (fin false m e) (fin false n d)) (fin false m e))
shrink m e n d f h = mul_shrinks binary64 (fin false m e) (fin false n d) tt tt f (cross→le (fin false n d) one tt tt (go (n * up d) (down d) h))
  where
    go : (x y : ℕ) → x ≤ y → x * 1 + 0 * y ≤ 1 * y + 0 * 1
    go x y h = omega arith

-- ---- the sine
-- the parts' numerators g₁ and g₂, as numbers
sin_parts : (R s p g₁ g₂ : ℕ) → g₁ + R * s * 715827379 ≡ R * p * 4294967296 → g₂ + s * 838262 ≡ 35786433 * p
    → (g₁ * (p * p) + R * s * s * g₂) * (p * p * p) + (715827379 * (R * s * (p * p * p * p * p)) + 838262 * (R * (s * s * s) * (p * p * p))) ≡ 4294967296 * (R * (p * p * p * p * p * p)) + 35786433 * (R * (s * s) * (p * p * p * p))
sin_parts R s p g₁ g₂ a b =
    f1 ∙ ap (λ (z : ℕ). z * (p * p * p * p * p) + (R * s * s * (p * p * p)) * (g₂ + s * 838262)) a ∙ ap (λ (z : ℕ). R * p * 4294967296 * (p * p * p * p * p) + R * s * s * (p * p * p) * z) b ∙ f2
  where
    f1 : (g₁ * (p * p) + R * s * s * g₂) * (p * p * p) + (715827379 * (R * s * (p * p * p * p * p)) + 838262 * (R * (s * s * s) * (p * p * p))) ≡ (g₁ + R * s * 715827379) * (p * p * p * p * p) + (R * s * s * (p * p * p)) * (g₂ + s * 838262)
    f1 = omega arith

    f2 : R * p * 4294967296 * (p * p * p * p * p) + R * s * s * (p * p * p) * (35786433 * p) ≡ 4294967296 * (R * (p * p * p * p * p * p)) + 35786433 * (R * (s * s) * (p * p * p * p))
    f2 = omega arith

-- F n D⁶ ≤ K T + g F D⁶ D⁷, and so for the fractions
to_fraction : (n q d t F g K : ℕ) → F * (n * q) ≤ K * t + g * (F * (d * q)) → n * (F * (d * q)) * K ≤ t * (d * K) * K + g * (d * K * (F * (d * q)))
to_fraction n q d t F g K h = le_trans (le_of_eq f1) (le_trans (mul-le-mul_right (d * K) h) (le_of_eq f2))
  where
    f1 : n * (F * (d * q)) * K ≡ F * (n * q) * (d * K)
    f1 = omega arith

    f2 : (K * t + g * (F * (d * q))) * (d * K) ≡ t * (d * K) * K + g * (d * K * (F * (d * q)))
    f2 = omega arith

from_fraction : (n q d t F g K : ℕ) → K * t ≤ F * (n * q) + g * (F * (d * q)) → t * (d * K) * K ≤ n * (F * (d * q)) * K + g * (d * K * (F * (d * q)))
from_fraction n q d t F g K h = le_trans (le_of_eq f1) (le_trans (mul-le-mul_right (d * K) h) (le_of_eq f2))
  where
    f1 : t * (d * K) * K ≡ K * t * (d * K)
    f1 = omega arith

    f2 : (F * (n * q) + g * (F * (d * q))) * (d * K) ≡ n * (F * (d * q)) * K + g * (d * K * (F * (d * q)))
    f2 = omega arith

sin_bot_is : (D : ℕ) → sin_bot D ≡ 6227020800 * (D * (D * D) * (D * D) * (D * D) * (D * D * (D * D) * (D * D)))
unfolding sin_bot
sin_bot_is D = ap (λ (z : ℕ). fact 13 * z) (pw_is D 13) ∙ go
  where
    go : fact 13 * pw D 13 ≡ 6227020800 * (D * (D * D) * (D * D) * (D * D) * (D * D * (D * D) * (D * D)))
    go = omega arith

cos_bot_is : (D : ℕ) → cos_bot D ≡ 87178291200 * (D * D * (D * D) * (D * D) * (D * D) * (D * D * (D * D) * (D * D)))
unfolding cos_bot
cos_bot_is D = ap (λ (z : ℕ). fact 14 * z) (pw_is D 14) ∙ go
  where
    go : fact 14 * pw D 14 ≡ 87178291200 * (D * D * (D * D) * (D * D) * (D * D) * (D * D * (D * D) * (D * D)))
    go = omega arith

module _ (w : Float) (R D : ℕ) (dp : 0 < D) (un : R * 1000 ≤ 786 * D) (a : About w R D 3) (ft : T (fits binary64 w)) where
  below : R ≤ D
  below = omega arith

  sq : R * R ≤ D * D
  sq = mul-le-mul below below

  pp : 0 < D * D
  pp = mul-pos dp dp

  z : About (times w w) (R * R) (D * D) 10
  z = about_mul R D R D 3 3 dp dp below below (lit≤ tt) (lit≤ tt) (lit≤ tt) a a

  c : About (times w (times w w)) (R * (R * R)) (D * (D * D)) 17
  c = about_mul R D (R * R) (D * D) 3 10 dp pp below sq (lit≤ tt) (lit≤ tt) (lit≤ tt) a z

  cp : 0 < D * (D * D)
  cp = mul-pos dp pp

  cu : R * (R * R) ≤ D * (D * D)
  cu = mul-le-mul below sq

  ck : About (times (times w (times w w)) (num 4595172815570052611)) (R * (R * R) * 715827379) (D * (D * D) * 4294967296) 22
  ck = about_mul (R * (R * R)) (D * (D * D)) 715827379 4294967296 17 1 cp (lit< tt) cu (lit≤ tt) (lit≤ tt) (lit≤ tt) (lit≤ tt) c s₁

  -- c s₁ ≤ w, whatever the rounding
  le_c : T (le (times w (times w w)) w)
  le_c = subst (λ (v : Float). T (le (mul binary64 v (times w w)) v)) (sym a.is) (subst (λ (v : Float). T (le (mul binary64 (fin false a.m a.x') v) (fin false a.m a.x'))) (sym z.is)
      (shrink a.m a.x' z.m z.x' (subst (λ (v : Float). T (fits binary64 v)) a.is ft) (one_of (R * R) (D * D) 10 z pp (room (R * R) (D * D) less'))))
    where
      less' : R * R * 10000 ≤ 6178 * (D * D)
      less' = Rattle.angle_laws.proofs.Poly.squared R D un

      room : (s p : ℕ) → s * 10000 ≤ 6178 * p → s * K + 10 * p ≤ p * K
      room s p h = omega arith

  le_ck : T (le (times (times w (times w w)) (num 4595172815570052611)) (times w (times w w)))
  le_ck = subst (λ (v : Float). T (le (mul binary64 v (num 4595172815570052611)) v)) (sym c.is) (subst (λ (v : Float). T (le (mul binary64 (fin false c.m c.x') v) (fin false c.m c.x'))) (sym s₁.is)
      (shrink c.m c.x' s₁.m s₁.x' (subst (λ (v : Float). T (fits binary64 v)) c.is (mul-fits binary64 w (times w w))) (one_of 715827379 4294967296 1 s₁ (lit< tt) (lit≤ tt))))

  ck_le : ck.m * up ck.x' * down a.x' ≤ a.m * up a.x' * down ck.x'
  ck_le = nonneg_cross ck.m ck.x' a.m a.x' (subst (λ (v : Float). T (le v (fin false a.m a.x'))) ck.is (subst (λ (v : Float). T (le (times (times w (times w w)) (num 4595172815570052611)) v)) a.is (le_trans_f _ _ _ le_ck le_c)))

  g₁ : ℕ
  g₁ = R * (D * D) * 4294967296 - R * (R * R) * 715827379

  g₁_is : g₁ + R * (R * R) * 715827379 ≡ R * (D * D) * 4294967296
  g₁_is = unfold g₁ in sub-add_cancel (mul-le-mul (mul-le-mul (le_refl R) sq) (lit≤ tt))

  first : About (less w (times (times w (times w w)) (num 4595172815570052611))) g₁ (D * (D * D) * 4294967296) 26
  first = about_same (g₁ * D) (D * (D * (D * D) * 4294967296)) g₁ (D * (D * D) * 4294967296) 26 (mul-pos dp (mul-pos cp (lit< tt))) (o1 g₁ D)
      (about_sub R D (R * (R * R) * 715827379) (D * (D * D) * 4294967296) (g₁ * D) 3 22 a ck dp (mul-pos cp (lit< tt)) below (lit≤ tt) (o2 g₁ D (R * (R * R) * 715827379) R g₁_is) ck_le)
    where
      o1 : (g D : ℕ) → g * D * (D * (D * D) * 4294967296) ≡ g * (D * (D * (D * D) * 4294967296))
      o1 g D = omega arith

      o2 : (g D x R : ℕ) → g + x ≡ R * (D * D) * 4294967296 → g * D + x * D ≡ R * (D * (D * D) * 4294967296)
      o2 g D x R e = o3 ∙ ap (λ (y : ℕ). y * D) e ∙ o4
        where
          o3 : g * D + x * D ≡ (g + x) * D
          o3 = omega arith

          o4 : R * (D * D) * 4294967296 * D ≡ R * (D * (D * D) * 4294967296)
          o4 = omega arith

  zk : About (times (times w w) (num 4551332636403224356)) (R * R * 838262) (D * D * 4294967296) 15
  zk = about_mul (R * R) (D * D) 838262 4294967296 10 1 pp (lit< tt) sq (lit≤ tt) (lit≤ tt) (lit≤ tt) (lit≤ tt) z s₃

  g₂ : ℕ
  g₂ = 35786433 * (D * D) - R * R * 838262

  g₂_is : g₂ + R * R * 838262 ≡ 35786433 * (D * D)
  g₂_is = unfold g₂ in sub-add_cancel (le_trans (mul-le-mul sq (lit≤ tt)) (le_of_eq (native.Mathlib.Nat.mul_comm (D * D) 35786433)))

  second : About (less (num 4575956795463502788) (times (times w w) (num 4551332636403224356))) g₂ (D * D * 4294967296) 17
  second = about_same (g₂ * 4294967296) (4294967296 * (D * D * 4294967296)) g₂ (D * D * 4294967296) 17 (mul-pos {m = 4294967296} (lit< tt) (mul-pos pp (lit< tt))) (o1 g₂ (D * D))
      (about_sub 35786433 4294967296 (R * R * 838262) (D * D * 4294967296) (g₂ * 4294967296) 1 15 s₂ zk (lit< tt) (mul-pos pp (lit< tt)) (lit≤ tt) (lit≤ tt) (o2 g₂ (D * D) (R * R * 838262) g₂_is)
      (about_le 35786433 4294967296 (R * R * 838262) (D * D * 4294967296) 1 15 s₂ zk (lit< tt) (mul-pos pp (lit< tt)) (o3 (R * R) (D * D) sq)))
    where
      o1 : (g p : ℕ) → g * 4294967296 * (p * 4294967296) ≡ g * (4294967296 * (p * 4294967296))
      o1 g p = omega arith

      o2 : (g p x : ℕ) → g + x ≡ 35786433 * p → g * 4294967296 + x * 4294967296 ≡ 35786433 * (p * 4294967296)
      o2 g p x e = omega arith

      o3 : (s p : ℕ) → s ≤ p → s * 838262 * 4294967296 * K + (1 + 15) * (4294967296 * (p * 4294967296)) ≤ 35786433 * (p * 4294967296) * K
      o3 s p h = omega arith

  cz : About (times (times w (times w w)) (times w w)) (R * (R * R) * (R * R)) (D * (D * D) * (D * D)) 31
  cz = about_mul (R * (R * R)) (D * (D * D)) (R * R) (D * D) 17 10 cp pp cu sq (lit≤ tt) (lit≤ tt) (lit≤ tt) c z

  czp : 0 < D * (D * D) * (D * D)
  czp = mul-pos cp pp

  czu : R * (R * R) * (R * R) ≤ D * (D * D) * (D * D)
  czu = mul-le-mul cu sq

  g₂_le : g₂ ≤ D * D * 4294967296
  g₂_le = unfold g₂ in le_trans (sub-le (35786433 * (D * D)) (R * R * 838262)) (o (D * D))
    where
      o : (p : ℕ) → 35786433 * p ≤ p * 4294967296
      o p = omega arith

  third : About (times (times (times w (times w w)) (times w w)) (less (num 4575956795463502788) (times (times w w) (num 4551332636403224356)))) (R * (R * R) * (R * R) * g₂) (D * (D * D) * (D * D) * (D * D * 4294967296)) 52
  third = about_mul (R * (R * R) * (R * R)) (D * (D * D) * (D * D)) g₂ (D * D * 4294967296) 31 17 czp (mul-pos pp (lit< tt)) czu g₂_le (lit≤ tt) (lit≤ tt) (lit≤ tt) cz second

  g₁_le : g₁ ≤ D * (D * D) * 4294967296
  g₁_le = unfold g₁ in le_trans (sub-le (R * (D * D) * 4294967296) (R * (R * R) * 715827379)) (mul-le-mul_right 4294967296 (mul-le-mul_right (D * D) below))

  poly : About (sin_poly w) (g₁ * (D * D * (D * D)) + R * (R * R) * (R * R) * g₂) (D * (D * D) * (D * D) * (D * D) * 4294967296) 79
  poly = unfold sin_poly in
      about_same (g₁ * (D * (D * D) * (D * D) * (D * D * 4294967296)) + R * (R * R) * (R * R) * g₂ * (D * (D * D) * 4294967296)) (D * (D * D) * 4294967296 * (D * (D * D) * (D * D) * (D * D * 4294967296))) _ _ 79
      (mul-pos (mul-pos cp (lit< tt)) (mul-pos czp (mul-pos pp (lit< tt)))) (o g₁ (R * (R * R) * (R * R) * g₂) D (D * D) 4294967296)
      (about_add g₁ (D * (D * D) * 4294967296) (R * (R * R) * (R * R) * g₂) (D * (D * D) * (D * D) * (D * D * 4294967296)) 26 52 (mul-pos cp (lit< tt)) (mul-pos czp (mul-pos pp (lit< tt))) g₁_le (mul-le-mul czu g₂_le) (lit≤ tt) (lit≤ tt) first third)
    where
      o : (g h D p k : ℕ) → (g * (D * p * p * (p * k)) + h * (D * p * k)) * (D * p * p * p * k) ≡ (g * (p * p) + h) * (D * p * k * (D * p * p * (p * k)))
      o g h D p k = omega arith

  pub sin_about : About (sin_poly w) (sin_top R D) (sin_bot D) 2983
  sin_about =
      let n = g₁ * (D * D * (D * D)) + R * (R * R) * (R * R) * g₂ in
      let d = D * (D * D) * (D * D) * (D * D) in
      let q = D * D * (D * D) * (D * D) in
      let b = sin_apart R D un (n * q) (sin_parts R (R * R) (D * D) g₁ g₂ g₁_is g₂_is) in
      subst (λ (B : ℕ). About (sin_poly w) (sin_top R D) B 2983) (sym (sin_bot_is D))
      (about_shift n (d * 4294967296) (sin_top R D) (6227020800 * (d * q)) 79 2904 (mul-pos (mul-pos czp pp) (lit< tt))
      (to_fraction n q d (sin_top R D) 6227020800 2904 4294967296 (le_trans b.0 (le_of_eq (o D (D * D) (sin_top R D)))))
      (from_fraction n q d (sin_top R D) 6227020800 2904 4294967296 (le_trans b.1 (le_of_eq (o' D (D * D) (n * q))))) poly)
    where
      o : (D p t : ℕ) → 4294967296 * t + 2904 * (6227020800 * (D * (p * p * p * p * p * p))) ≡ 4294967296 * t + 2904 * (6227020800 * (D * p * p * p * (p * p * p)))
      o D p t = omega arith

      o' : (D p t : ℕ) → 6227020800 * t + 2904 * (6227020800 * (D * (p * p * p * p * p * p))) ≡ 6227020800 * t + 2904 * (6227020800 * (D * p * p * p * (p * p * p)))
      o' D p t = omega arith

-- ---- the cosine
cos_parts : (s p g₁ g₃ g : ℕ) → g₁ + s * 2147483636 ≡ p * 4294967296 → g₃ + s * 104756 ≡ 5964320 * p → g + s * s * s * g₃ ≡ (g₁ * p + s * s * 178956785) * (p * p)
    → g * (p * p * p) + (2147483636 * (s * (p * p * p * p * p * p)) + 5964320 * (s * s * s * (p * p * p * p))) ≡ 4294967296 * (p * p * p * p * p * p * p) + 178956785 * (s * s * (p * p * p * p * p)) + 104756 * (s * s * s * s * (p * p * p))
cos_parts s p g₁ g₃ g a b e = add_right_cancel (s * s * s * g₃ * (p * p * p)) (f1 ∙ ap (λ (z : ℕ). z * (p * p * p) + (2147483636 * (s * (p * p * p * p * p * p)) + 5964320 * (s * s * s * (p * p * p * p)))) e ∙ f2 ∙ ap (λ (z : ℕ). z * (p * p * p * p * p * p) + (s * s * 178956785 * (p * p * p * p * p) + 5964320 * (s * s * s * (p * p * p * p)))) a ∙ f3 ∙ ap (λ (z : ℕ). 4294967296 * (p * p * p * p * p * p * p) + 178956785 * (s * s * (p * p * p * p * p)) + s * s * s * (p * p * p) * z) (sym b) ∙ f4)
  where
    f1 : g * (p * p * p) + (2147483636 * (s * (p * p * p * p * p * p)) + 5964320 * (s * s * s * (p * p * p * p))) + s * s * s * g₃ * (p * p * p) ≡ (g + s * s * s * g₃) * (p * p * p) + (2147483636 * (s * (p * p * p * p * p * p)) + 5964320 * (s * s * s * (p * p * p * p)))
    f1 = omega arith

    f2 : (g₁ * p + s * s * 178956785) * (p * p) * (p * p * p) + (2147483636 * (s * (p * p * p * p * p * p)) + 5964320 * (s * s * s * (p * p * p * p))) ≡ (g₁ + s * 2147483636) * (p * p * p * p * p * p) + (s * s * 178956785 * (p * p * p * p * p) + 5964320 * (s * s * s * (p * p * p * p)))
    f2 = omega arith

    f3 : p * 4294967296 * (p * p * p * p * p * p) + (s * s * 178956785 * (p * p * p * p * p) + 5964320 * (s * s * s * (p * p * p * p))) ≡ 4294967296 * (p * p * p * p * p * p * p) + 178956785 * (s * s * (p * p * p * p * p)) + s * s * s * (p * p * p) * (5964320 * p)
    f3 = omega arith

    f4 : 4294967296 * (p * p * p * p * p * p * p) + 178956785 * (s * s * (p * p * p * p * p)) + s * s * s * (p * p * p) * (g₃ + s * 104756) ≡ 4294967296 * (p * p * p * p * p * p * p) + 178956785 * (s * s * (p * p * p * p * p)) + 104756 * (s * s * s * s * (p * p * p)) + s * s * s * g₃ * (p * p * p)
    f4 = omega arith

module _ (w : Float) (R D : ℕ) (dp : 0 < D) (un : R * 1000 ≤ 786 * D) (a : About w R D 3) where
  s : ℕ
  s = R * R

  p : ℕ
  p = D * D

  le1 : R ≤ D
  le1 = omega arith

  sp : R * R ≤ D * D
  sp = mul-le-mul le1 le1

  pos_p : 0 < D * D
  pos_p = mul-pos dp dp

  s2 : R * R * (R * R) ≤ D * D * (D * D)
  s2 = mul-le-mul sp sp

  pos_2 : 0 < D * D * (D * D)
  pos_2 = mul-pos pos_p pos_p

  s3 : R * R * (R * R) * (R * R) ≤ D * D * (D * D) * (D * D)
  s3 = mul-le-mul s2 sp

  pos_3 : 0 < D * D * (D * D) * (D * D)
  pos_3 = mul-pos pos_2 pos_p

  zc : About (times w w) (R * R) (D * D) 10
  zc = about_mul R D R D 3 3 dp dp le1 le1 (lit≤ tt) (lit≤ tt) (lit≤ tt) a a

  y : About (times (times w w) (times w w)) (R * R * (R * R)) (D * D * (D * D)) 24
  y = about_mul (R * R) (D * D) (R * R) (D * D) 10 10 pos_p pos_p sp sp (lit≤ tt) (lit≤ tt) (lit≤ tt) zc zc

  zk₁ : About (times (times w w) (num 4602678819123126812)) (R * R * 2147483636) (D * D * 4294967296) 15
  zk₁ = about_mul (R * R) (D * D) 2147483636 4294967296 10 1 pos_p (lit< tt) sp (lit≤ tt) (lit≤ tt) (lit≤ tt) (lit≤ tt) zc c₁

  h₁ : ℕ
  h₁ = D * D * 4294967296 - R * R * 2147483636

  h₁_is : h₁ + R * R * 2147483636 ≡ D * D * 4294967296
  h₁_is = unfold h₁ in sub-add_cancel (mul-le-mul sp (lit≤ tt))

  h₁_le : h₁ ≤ D * D * 4294967296
  h₁_le = unfold h₁ in sub-le (D * D * 4294967296) (R * R * 2147483636)

  from_one : About (less one (times (times w w) (num 4602678819123126812))) h₁ (1 * (D * D * 4294967296)) 16
  from_one = about_sub 1 1 (R * R * 2147483636) (D * D * 4294967296) h₁ 0 15 c₀ zk₁ (lit< tt) (mul-pos pos_p (lit< tt)) (lit≤ tt) (lit≤ tt) (ap (λ (z : ℕ). h₁ + z) (mul-one (R * R * 2147483636)) ∙ h₁_is ∙ sym (one-mul (D * D * 4294967296)))
      (about_le 1 1 (R * R * 2147483636) (D * D * 4294967296) 0 15 c₀ zk₁ (lit< tt) (mul-pos pos_p (lit< tt)) (o (R * R) (D * D) sp))
    where
      o : (s p : ℕ) → s ≤ p → s * 2147483636 * 1 * K + (0 + 15) * (1 * (p * 4294967296)) ≤ 1 * (p * 4294967296) * K
      o s p h = omega arith

  yk : About (times (times (times w w) (times w w)) (num 4586165614292668185)) (R * R * (R * R) * 178956785) (D * D * (D * D) * 4294967296) 29
  yk = about_mul (R * R * (R * R)) (D * D * (D * D)) 178956785 4294967296 24 1 pos_2 (lit< tt) s2 (lit≤ tt) (lit≤ tt) (lit≤ tt) (lit≤ tt) y c₂

  upper : About (plus (less one (times (times w w) (num 4602678819123126812))) (times (times (times w w) (times w w)) (num 4586165614292668185))) (h₁ * (D * D) + R * R * (R * R) * 178956785) (D * D * (D * D) * 4294967296) 46
  upper = about_same (h₁ * (D * D * (D * D) * 4294967296) + R * R * (R * R) * 178956785 * (1 * (D * D * 4294967296))) (1 * (D * D * 4294967296) * (D * D * (D * D) * 4294967296)) _ _ 46
      (mul-pos (mul-pos {m = 1} (lit< tt) (mul-pos pos_p (lit< tt))) (mul-pos pos_2 (lit< tt))) (o h₁ (R * R * (R * R) * 178956785) (D * D) 4294967296)
      (about_add h₁ (1 * (D * D * 4294967296)) (R * R * (R * R) * 178956785) (D * D * (D * D) * 4294967296) 16 29 (mul-pos {m = 1} (lit< tt) (mul-pos pos_p (lit< tt))) (mul-pos pos_2 (lit< tt)) (le_trans h₁_le (le_of_eq (sym (one-mul (D * D * 4294967296))))) (mul-le-mul s2 (lit≤ tt)) (lit≤ tt) (lit≤ tt) from_one yk)
    where
      o : (g h p k : ℕ) → (g * (p * p * k) + h * (1 * (p * k))) * (p * p * k) ≡ (g * p + h) * (1 * (p * k) * (p * p * k))
      o g h p k = omega arith

  yz : About (times (times (times w w) (times w w)) (times w w)) (R * R * (R * R) * (R * R)) (D * D * (D * D) * (D * D)) 38
  yz = about_mul (R * R * (R * R)) (D * D * (D * D)) (R * R) (D * D) 24 10 pos_2 pos_p s2 sp (lit≤ tt) (lit≤ tt) (lit≤ tt) y zc

  zk₄ : About (times (times w w) (num 4537820015566256323)) (R * R * 104756) (D * D * 4294967296) 15
  zk₄ = about_mul (R * R) (D * D) 104756 4294967296 10 1 pos_p (lit< tt) sp (lit≤ tt) (lit≤ tt) (lit≤ tt) (lit≤ tt) zc c₄

  h₃ : ℕ
  h₃ = 5964320 * (D * D) - R * R * 104756

  h₃_is : h₃ + R * R * 104756 ≡ 5964320 * (D * D)
  h₃_is = unfold h₃ in sub-add_cancel (le_trans (mul-le-mul sp (lit≤ tt)) (le_of_eq (native.Mathlib.Nat.mul_comm (D * D) 5964320)))

  h₃_le : h₃ ≤ 5964320 * (D * D)
  h₃_le = unfold h₃ in sub-le (5964320 * (D * D)) (R * R * 104756)

  lower : About (less (num 4564046962342114717) (times (times w w) (num 4537820015566256323))) h₃ (D * D * 4294967296) 17
  lower = about_same (h₃ * 4294967296) (4294967296 * (D * D * 4294967296)) h₃ (D * D * 4294967296) 17 (mul-pos {m = 4294967296} (lit< tt) (mul-pos pos_p (lit< tt))) (o1 h₃ (D * D))
      (about_sub 5964320 4294967296 (R * R * 104756) (D * D * 4294967296) (h₃ * 4294967296) 1 15 c₃ zk₄ (lit< tt) (mul-pos pos_p (lit< tt)) (lit≤ tt) (lit≤ tt) (o2 h₃ (D * D) (R * R * 104756) h₃_is)
      (about_le 5964320 4294967296 (R * R * 104756) (D * D * 4294967296) 1 15 c₃ zk₄ (lit< tt) (mul-pos pos_p (lit< tt)) (o3 (R * R) (D * D) sp)))
    where
      o1 : (g p : ℕ) → g * 4294967296 * (p * 4294967296) ≡ g * (4294967296 * (p * 4294967296))
      o1 g p = omega arith

      o2 : (g p x : ℕ) → g + x ≡ 5964320 * p → g * 4294967296 + x * 4294967296 ≡ 5964320 * (p * 4294967296)
      o2 g p x e = omega arith

      o3 : (s p : ℕ) → s ≤ p → s * 104756 * 4294967296 * K + (1 + 15) * (4294967296 * (p * 4294967296)) ≤ 5964320 * (p * 4294967296) * K
      o3 s p h = omega arith

  h₃_top : h₃ ≤ D * D * 4294967296
  h₃_top = le_trans h₃_le (o (D * D))
    where
      o : (p : ℕ) → 5964320 * p ≤ p * 4294967296
      o p = omega arith

  last : About (times (times (times (times w w) (times w w)) (times w w)) (less (num 4564046962342114717) (times (times w w) (num 4537820015566256323)))) (R * R * (R * R) * (R * R) * h₃) (D * D * (D * D) * (D * D) * (D * D * 4294967296)) 59
  last = about_mul (R * R * (R * R) * (R * R)) (D * D * (D * D) * (D * D)) h₃ (D * D * 4294967296) 38 17 pos_3 (mul-pos pos_p (lit< tt)) s3 h₃_top (lit≤ tt) (lit≤ tt) (lit≤ tt) yz lower

  -- the two numerators: at least half of the denominator, and little
  most : 2147483660 * (D * D * (D * D)) ≤ h₁ * (D * D) + R * R * (R * R) * 178956785
  most = le_trans (le_of_eq (o1 (D * D))) (le_trans (mul-le-mul_right (D * D) (o2 (R * R) (D * D) h₁ sp h₁_is)) (le-add_right (h₁ * (D * D)) (R * R * (R * R) * 178956785)))
    where
      o1 : (p : ℕ) → 2147483660 * (p * p) ≡ 2147483660 * p * p
      o1 p = omega arith

      o2 : (s p h : ℕ) → s ≤ p → h + s * 2147483636 ≡ p * 4294967296 → 2147483660 * p ≤ h
      o2 s p h a b = omega arith

  little : R * R * (R * R) * (R * R) * h₃ ≤ 5964320 * (D * D * (D * D) * (D * D) * (D * D))
  little = le_trans (mul-le-mul s3 h₃_le) (le_of_eq (o (D * D)))
    where
      o : (p : ℕ) → p * p * p * (5964320 * p) ≡ 5964320 * (p * p * p * p)
      o p = omega arith

  gap : R * R * (R * R) * (R * R) * h₃ * (D * D * (D * D) * 4294967296) * K + (46 + 59) * (D * D * (D * D) * 4294967296 * (D * D * (D * D) * (D * D) * (D * D * 4294967296))) ≤ (h₁ * (D * D) + R * R * (R * R) * 178956785) * (D * D * (D * D) * (D * D) * (D * D * 4294967296)) * K
  gap = go (R * R * (R * R) * (R * R) * h₃) (h₁ * (D * D) + R * R * (R * R) * 178956785) (D * D) little most
    where
      go : (x y p : ℕ) → x ≤ 5964320 * (p * p * p * p) → 2147483660 * (p * p) ≤ y → x * (p * p * 4294967296) * K + (46 + 59) * (p * p * 4294967296 * (p * p * p * (p * 4294967296))) ≤ y * (p * p * p * (p * 4294967296)) * K
      go x y p h k = le_trans (add-le-add (mul-le-mul_right K (mul-le-mul_right (p * p * 4294967296) h)) (le_refl ((46 + 59) * (p * p * 4294967296 * (p * p * p * (p * 4294967296)))))) (le_trans (o p) (mul-le-mul_right K (mul-le-mul_right (p * p * p * (p * 4294967296)) k)))
        where
          o : (p : ℕ) → 5964320 * (p * p * p * p) * (p * p * 4294967296) * K + (46 + 59) * (p * p * 4294967296 * (p * p * p * (p * 4294967296))) ≤ 2147483660 * (p * p) * (p * p * p * (p * 4294967296)) * K
          o p = omega arith

  -- the numerator of the whole
  g : ℕ
  g = (h₁ * (D * D) + R * R * (R * R) * 178956785) * (D * D * (D * D)) - R * R * (R * R) * (R * R) * h₃

  g_is : g + R * R * (R * R) * (R * R) * h₃ ≡ (h₁ * (D * D) + R * R * (R * R) * 178956785) * (D * D * (D * D))
  g_is = unfold g in sub-add_cancel (le_trans little (le_trans (o (D * D)) (mul-le-mul_right (D * D * (D * D)) most)))
    where
      o : (p : ℕ) → 5964320 * (p * p * p * p) ≤ 2147483660 * (p * p) * (p * p)
      o p = omega arith

  top_le : h₁ * (D * D) + R * R * (R * R) * 178956785 ≤ D * D * (D * D) * 4294967296
  top_le = go (R * R) (D * D) h₁ sp h₁_is
    where
      go : (s p h : ℕ) → s ≤ p → h + s * 2147483636 ≡ p * 4294967296 → h * p + s * s * 178956785 ≤ p * p * 4294967296
      go s p h a b = le_trans (add-le-add (le_refl (h * p)) (mul-le-mul (mul-le-mul_left s a) (lit≤ tt))) (le_of_eq (o1 ∙ ap (λ (z : ℕ). z * p) b ∙ o2))
        where
          o1 : h * p + s * p * 2147483636 ≡ (h + s * 2147483636) * p
          o1 = omega arith

          o2 : p * 4294967296 * p ≡ p * p * 4294967296
          o2 = omega arith

  whole : About (cos_poly w) g (D * D * (D * D) * (D * D) * (D * D) * 4294967296) 106
  whole = unfold cos_poly in
      about_same (g * (D * D * (D * D) * 4294967296)) (D * D * (D * D) * 4294967296 * (D * D * (D * D) * (D * D) * (D * D * 4294967296))) g (D * D * (D * D) * (D * D) * (D * D) * 4294967296) 106
      (mul-pos (mul-pos pos_2 (lit< tt)) (mul-pos pos_3 (mul-pos pos_p (lit< tt)))) (o g (D * D) 4294967296)
      (about_sub (h₁ * (D * D) + R * R * (R * R) * 178956785) (D * D * (D * D) * 4294967296) (R * R * (R * R) * (R * R) * h₃) (D * D * (D * D) * (D * D) * (D * D * 4294967296)) (g * (D * D * (D * D) * 4294967296)) 46 59 upper last
      (mul-pos pos_2 (lit< tt)) (mul-pos pos_3 (mul-pos pos_p (lit< tt))) top_le (lit≤ tt) (o' g (R * R * (R * R) * (R * R) * h₃) (h₁ * (D * D) + R * R * (R * R) * 178956785) (D * D) 4294967296 g_is)
      (about_le (h₁ * (D * D) + R * R * (R * R) * 178956785) (D * D * (D * D) * 4294967296) (R * R * (R * R) * (R * R) * h₃) (D * D * (D * D) * (D * D) * (D * D * 4294967296)) 46 59 upper last (mul-pos pos_2 (lit< tt)) (mul-pos pos_3 (mul-pos pos_p (lit< tt))) gap))
    where
      o : (g p k : ℕ) → g * (p * p * k) * (p * p * p * p * k) ≡ g * (p * p * k * (p * p * p * (p * k)))
      o g p k = omega arith

      o' : (g x h p k : ℕ) → g + x ≡ h * (p * p) → g * (p * p * k) + x * (p * p * k) ≡ h * (p * p * p * (p * k))
      o' g x h p k e = f1 ∙ ap (λ (z : ℕ). z * (p * p * k)) e ∙ f2
        where
          f1 : g * (p * p * k) + x * (p * p * k) ≡ (g + x) * (p * p * k)
          f1 = omega arith

          f2 : h * (p * p) * (p * p * k) ≡ h * (p * p * p * (p * k))
          f2 = omega arith

  pub cos_about : About (cos_poly w) (cos_top R D) (cos_bot D) 444
  cos_about =
      let d = D * D * (D * D) * (D * D) * (D * D) in
      let q = D * D * (D * D) * (D * D) in
      let b = cos_apart R D un (g * q) (cos_parts (R * R) (D * D) h₁ h₃ g h₁_is h₃_is g_is) in
      subst (λ (B : ℕ). About (cos_poly w) (cos_top R D) B 444) (sym (cos_bot_is D))
      (about_shift g (d * 4294967296) (cos_top R D) (87178291200 * (d * q)) 106 338 (mul-pos (mul-pos pos_3 pos_p) (lit< tt))
      (to_fraction g q d (cos_top R D) 87178291200 338 4294967296 (le_trans b.0 (le_of_eq (o (D * D) (cos_top R D)))))
      (from_fraction g q d (cos_top R D) 87178291200 338 4294967296 (le_trans b.1 (le_of_eq (o' (D * D) (g * q))))) whole)
    where
      o : (p t : ℕ) → 4294967296 * t + 338 * (87178291200 * (p * p * p * p * p * p * p)) ≡ 4294967296 * t + 338 * (87178291200 * (p * p * p * p * (p * p * p)))
      o p t = omega arith

      o' : (p t : ℕ) → 87178291200 * t + 338 * (87178291200 * (p * p * p * p * p * p * p)) ≡ 87178291200 * t + 338 * (87178291200 * (p * p * p * p * (p * p * p)))
      o' p t = omega arith
