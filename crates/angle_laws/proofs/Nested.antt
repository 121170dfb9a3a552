-- The series of document 01 is the nested form: sinTop = R * top, sinBot = D * bot, cosTop = top, cosBot = bot, over squares. Assumes nothing.
use Prim.Native.Nat.{ℕ, zero, suc, ◌*◌, ◌^◌, ◌≤◌, ◌+◌, ◌-◌, ◌/◌}
use mathlib.Core.Path.{◌≡◌, ap, ◌∙◌, sym}
use native.Mathlib.Nat.{sub-add_cancel, pow-zero, pow-suc, le_refl, sub-le, le_trans, le_of_eq, one-mul, mul-le-mul_right, mul-le-mul}
use mathlib.Core.List.{List, ◌∷◌, []}
use lib.Dec.{T, leb, leb→le}
use native.Mathlib.Omega.{arith}
use lib.Ieee.Fits.{and_l, and_r}
use Rattle.angle_laws.specs.Series.{bot, top, fact, term, sin_top, sin_bot, cos_top, cos_bot}
use Rattle.angle_laws.proofs.Horner.{twos}
use Rattle.sines.specs.Steps.{sin_divs, cos_divs}

-- x * x * .. , which computes at a numeral
abbrev pub pw : ℕ → ℕ → ℕ
pw x zero = 1
pw x (suc n) = pw x n * x

pub pw_is : (x n : ℕ) → x ^ n ≡ pw x n
pw_is x zero = pow-zero x
pw_is x (suc n) = pow-suc x n ∙ ap (λ (z : ℕ). z * x) (pw_is x n)

pub term_is : (f R D i j : ℕ) → f * (R ^ i * D ^ j) ≡ f * (pw R i * pw D j)
term_is f R D i j = ap (λ (z : ℕ). f * (z * D ^ j)) (pw_is R i) ∙ ap (λ (z : ℕ). f * (pw R i * z)) (pw_is D j)

-- ---- the nested form, one level at a time
pub top_le : (u v : ℕ) (cs : List ℕ) → T (twos cs) → u ≤ v → top u v cs ≤ bot v cs
unfolding top bot
top_le u v [] t h = le_refl 1
top_le u v (c ∷ cs) t h = sub-le (c * (v * bot v cs)) (u * top u v cs)

up_le : (c W : ℕ) → 2 ≤ c → W ≤ c * W
up_le c W h = le_trans (le_of_eq (sym (one-mul W))) (mul-le-mul_right W (omega arith))

pub top_sum : (u v c : ℕ) (cs : List ℕ) → T (twos (c ∷ cs)) → u ≤ v → top u v (c ∷ cs) + u * top u v cs ≡ c * (v * bot v cs)
unfolding top bot
top_sum u v c cs t h =
    sub-add_cancel
    (le_trans (mul-le-mul h (top_le u v cs (and_r (leb 2 c) (twos cs) t) h)) (up_le c (v * bot v cs) (leb→le 2 c (and_l (leb 2 c) (twos cs) t))))

-- times a factor x, with y = x * u: what the next level has
lifted : (x u N M Q : ℕ) → N + u * M ≡ Q → x * N + x * u * M ≡ x * Q
lifted x u N M Q h = go (ap (λ (z : ℕ). x * z) h)
  where
    go : x * (N + u * M) ≡ x * Q → x * N + x * u * M ≡ x * Q
    go f = omega arith

-- ---- the sine, term by term
sin_1 : (R D : ℕ) → R * (bot (D * D) (6 ∷ 20 ∷ 42 ∷ 72 ∷ 110 ∷ 156 ∷ [])) ≡ term 13 1 R D
unfolding bot
sin_1 R D = go ∙ sym (term_is (fact 13 / fact 1) R D 1 12)
  where
    go : R * (bot (D * D) (6 ∷ 20 ∷ 42 ∷ 72 ∷ 110 ∷ 156 ∷ [])) ≡ fact 13 / fact 1 * (pw R 1 * pw D 12)
    go = omega arith

sin_3 : (R D : ℕ) → R * (R * R) * (bot (D * D) (20 ∷ 42 ∷ 72 ∷ 110 ∷ 156 ∷ [])) ≡ term 13 3 R D
unfolding bot
sin_3 R D = go ∙ sym (term_is (fact 13 / fact 3) R D 3 10)
  where
    go : R * (R * R) * (bot (D * D) (20 ∷ 42 ∷ 72 ∷ 110 ∷ 156 ∷ [])) ≡ fact 13 / fact 3 * (pw R 3 * pw D 10)
    go = omega arith

sin_5 : (R D : ℕ) → R * (R * R) * (R * R) * (bot (D * D) (42 ∷ 72 ∷ 110 ∷ 156 ∷ [])) ≡ term 13 5 R D
unfolding bot
sin_5 R D = go ∙ sym (term_is (fact 13 / fact 5) R D 5 8)
  where
    go : R * (R * R) * (R * R) * (bot (D * D) (42 ∷ 72 ∷ 110 ∷ 156 ∷ [])) ≡ fact 13 / fact 5 * (pw R 5 * pw D 8)
    go = omega arith

sin_7 : (R D : ℕ) → R * (R * R) * (R * R) * (R * R) * (bot (D * D) (72 ∷ 110 ∷ 156 ∷ [])) ≡ term 13 7 R D
unfolding bot
sin_7 R D = go ∙ sym (term_is (fact 13 / fact 7) R D 7 6)
  where
    go : R * (R * R) * (R * R) * (R * R) * (bot (D * D) (72 ∷ 110 ∷ 156 ∷ [])) ≡ fact 13 / fact 7 * (pw R 7 * pw D 6)
    go = omega arith

sin_9 : (R D : ℕ) → R * (R * R) * (R * R) * (R * R) * (R * R) * (bot (D * D) (110 ∷ 156 ∷ [])) ≡ term 13 9 R D
unfolding bot
sin_9 R D = go ∙ sym (term_is (fact 13 / fact 9) R D 9 4)
  where
    go : R * (R * R) * (R * R) * (R * R) * (R * R) * (bot (D * D) (110 ∷ 156 ∷ [])) ≡ fact 13 / fact 9 * (pw R 9 * pw D 4)
    go = omega arith

sin_11 : (R D : ℕ) → R * (R * R) * (R * R) * (R * R) * (R * R) * (R * R) * (bot (D * D) (156 ∷ [])) ≡ term 13 11 R D
unfolding bot
sin_11 R D = go ∙ sym (term_is (fact 13 / fact 11) R D 11 2)
  where
    go : R * (R * R) * (R * R) * (R * R) * (R * R) * (R * R) * (bot (D * D) (156 ∷ [])) ≡ fact 13 / fact 11 * (pw R 11 * pw D 2)
    go = omega arith

sin_13 : (R D : ℕ) → R * (R * R) * (R * R) * (R * R) * (R * R) * (R * R) * (R * R) * (bot (D * D) ([])) ≡ term 13 13 R D
unfolding bot
sin_13 R D = go ∙ sym (term_is (fact 13 / fact 13) R D 13 0)
  where
    go : R * (R * R) * (R * R) * (R * R) * (R * R) * (R * R) * (R * R) * (bot (D * D) ([])) ≡ fact 13 / fact 13 * (pw R 13 * pw D 0)
    go = omega arith

sin_glue : (a0 a1 a2 a3 a4 a5 a6 y0 y1 y2 y3 y4 y5 y6 : ℕ) → a0 + a1 ≡ y0 → a1 + a2 ≡ y1 → a2 + a3 ≡ y2 → a3 + a4 ≡ y3 → a4 + a5 ≡ y4 → a5 + a6 ≡ y5 → a6 ≡ y6 → y0 + y2 + y4 + y6 - (y1 + y3 + y5) ≡ a0
sin_glue a0 a1 a2 a3 a4 a5 a6 y0 y1 y2 y3 y4 y5 y6 h0 h1 h2 h3 h4 h5 h6 = omega arith

-- ---- the cosine, term by term
cos_0 : (R D : ℕ) → 1 * (bot (D * D) (2 ∷ 12 ∷ 30 ∷ 56 ∷ 90 ∷ 132 ∷ 182 ∷ [])) ≡ term 14 0 R D
unfolding bot
cos_0 R D = go ∙ sym (term_is (fact 14 / fact 0) R D 0 14)
  where
    go : 1 * (bot (D * D) (2 ∷ 12 ∷ 30 ∷ 56 ∷ 90 ∷ 132 ∷ 182 ∷ [])) ≡ fact 14 / fact 0 * (pw R 0 * pw D 14)
    go = omega arith

cos_2 : (R D : ℕ) → 1 * (R * R) * (bot (D * D) (12 ∷ 30 ∷ 56 ∷ 90 ∷ 132 ∷ 182 ∷ [])) ≡ term 14 2 R D
unfolding bot
cos_2 R D = go ∙ sym (term_is (fact 14 / fact 2) R D 2 12)
  where
    go : 1 * (R * R) * (bot (D * D) (12 ∷ 30 ∷ 56 ∷ 90 ∷ 132 ∷ 182 ∷ [])) ≡ fact 14 / fact 2 * (pw R 2 * pw D 12)
    go = omega arith

cos_4 : (R D : ℕ) → 1 * (R * R) * (R * R) * (bot (D * D) (30 ∷ 56 ∷ 90 ∷ 132 ∷ 182 ∷ [])) ≡ term 14 4 R D
unfolding bot
cos_4 R D = go ∙ sym (term_is (fact 14 / fact 4) R D 4 10)
  where
    go : 1 * (R * R) * (R * R) * (bot (D * D) (30 ∷ 56 ∷ 90 ∷ 132 ∷ 182 ∷ [])) ≡ fact 14 / fact 4 * (pw R 4 * pw D 10)
    go = omega arith

cos_6 : (R D : ℕ) → 1 * (R * R) * (R * R) * (R * R) * (bot (D * D) (56 ∷ 90 ∷ 132 ∷ 182 ∷ [])) ≡ term 14 6 R D
unfolding bot
cos_6 R D = go ∙ sym (term_is (fact 14 / fact 6) R D 6 8)
  where
    go : 1 * (R * R) * (R * R) * (R * R) * (bot (D * D) (56 ∷ 90 ∷ 132 ∷ 182 ∷ [])) ≡ fact 14 / fact 6 * (pw R 6 * pw D 8)
    go = omega arith

cos_8 : (R D : ℕ) → 1 * (R * R) * (R * R) * (R * R) * (R * R) * (bot (D * D) (90 ∷ 132 ∷ 182 ∷ [])) ≡ term 14 8 R D
unfolding bot
cos_8 R D = go ∙ sym (term_is (fact 14 / fact 8) R D 8 6)
  where
    go : 1 * (R * R) * (R * R) * (R * R) * (R * R) * (bot (D * D) (90 ∷ 132 ∷ 182 ∷ [])) ≡ fact 14 / fact 8 * (pw R 8 * pw D 6)
    go = omega arith

cos_10 : (R D : ℕ) → 1 * (R * R) * (R * R) * (R * R) * (R * R) * (R * R) * (bot (D * D) (132 ∷ 182 ∷ [])) ≡ term 14 10 R D
unfolding bot
cos_10 R D = go ∙ sym (term_is (fact 14 / fact 10) R D 10 4)
  where
    go : 1 * (R * R) * (R * R) * (R * R) * (R * R) * (R * R) * (bot (D * D) (132 ∷ 182 ∷ [])) ≡ fact 14 / fact 10 * (pw R 10 * pw D 4)
    go = omega arith

cos_12 : (R D : ℕ) → 1 * (R * R) * (R * R) * (R * R) * (R * R) * (R * R) * (R * R) * (bot (D * D) (182 ∷ [])) ≡ term 14 12 R D
unfolding bot
cos_12 R D = go ∙ sym (term_is (fact 14 / fact 12) R D 12 2)
  where
    go : 1 * (R * R) * (R * R) * (R * R) * (R * R) * (R * R) * (R * R) * (bot (D * D) (182 ∷ [])) ≡ fact 14 / fact 12 * (pw R 12 * pw D 2)
    go = omega arith

cos_14 : (R D : ℕ) → 1 * (R * R) * (R * R) * (R * R) * (R * R) * (R * R) * (R * R) * (R * R) * (bot (D * D) ([])) ≡ term 14 14 R D
unfolding bot
cos_14 R D = go ∙ sym (term_is (fact 14 / fact 14) R D 14 0)
  where
    go : 1 * (R * R) * (R * R) * (R * R) * (R * R) * (R * R) * (R * R) * (R * R) * (bot (D * D) ([])) ≡ fact 14 / fact 14 * (pw R 14 * pw D 0)
    go = omega arith

cos_glue : (a0 a1 a2 a3 a4 a5 a6 a7 y0 y1 y2 y3 y4 y5 y6 y7 : ℕ) → a0 + a1 ≡ y0 → a1 + a2 ≡ y1 → a2 + a3 ≡ y2 → a3 + a4 ≡ y3 → a4 + a5 ≡ y4 → a5 + a6 ≡ y5 → a6 + a7 ≡ y6 → a7 ≡ y7 → y0 + y2 + y4 + y6 - (y1 + y3 + y5 + y7) ≡ a0
cos_glue a0 a1 a2 a3 a4 a5 a6 a7 y0 y1 y2 y3 y4 y5 y6 y7 h0 h1 h2 h3 h4 h5 h6 h7 = omega arith

pub sin_nested : (R D : ℕ) → R ≤ D → sin_top R D ≡ R * top (R * R) (D * D) sin_divs
unfolding sin_top top bot
sin_nested R D h =
    let u = R * R in
    let v = D * D in
    let k : u ≤ v = mul-le-mul h h in
    sin_glue _ _ _ _ _ _ _ _ _ _ _ _ _ _
    (lifted (R) u _ _ _ (top_sum u v 6 (20 ∷ 42 ∷ 72 ∷ 110 ∷ 156 ∷ []) tt k) ∙ sin_1 R D)
    (lifted (R * (R * R)) u _ _ _ (top_sum u v 20 (42 ∷ 72 ∷ 110 ∷ 156 ∷ []) tt k) ∙ sin_3 R D)
    (lifted (R * (R * R) * (R * R)) u _ _ _ (top_sum u v 42 (72 ∷ 110 ∷ 156 ∷ []) tt k) ∙ sin_5 R D)
    (lifted (R * (R * R) * (R * R) * (R * R)) u _ _ _ (top_sum u v 72 (110 ∷ 156 ∷ []) tt k) ∙ sin_7 R D)
    (lifted (R * (R * R) * (R * R) * (R * R) * (R * R)) u _ _ _ (top_sum u v 110 (156 ∷ []) tt k) ∙ sin_9 R D)
    (lifted (R * (R * R) * (R * R) * (R * R) * (R * R) * (R * R)) u _ _ _ (top_sum u v 156 ([]) tt k) ∙ sin_11 R D)
    (sin_13 R D)

pub cos_nested : (R D : ℕ) → R ≤ D → cos_top R D ≡ top (R * R) (D * D) cos_divs
unfolding cos_top top bot
cos_nested R D h =
    let u = R * R in
    let v = D * D in
    let k : u ≤ v = mul-le-mul h h in
    cos_glue _ _ _ _ _ _ _ _ _ _ _ _ _ _ _ _
    (lifted (1) u _ _ _ (top_sum u v 2 (12 ∷ 30 ∷ 56 ∷ 90 ∷ 132 ∷ 182 ∷ []) tt k) ∙ cos_0 R D)
    (lifted (1 * (R * R)) u _ _ _ (top_sum u v 12 (30 ∷ 56 ∷ 90 ∷ 132 ∷ 182 ∷ []) tt k) ∙ cos_2 R D)
    (lifted (1 * (R * R) * (R * R)) u _ _ _ (top_sum u v 30 (56 ∷ 90 ∷ 132 ∷ 182 ∷ []) tt k) ∙ cos_4 R D)
    (lifted (1 * (R * R) * (R * R) * (R * R)) u _ _ _ (top_sum u v 56 (90 ∷ 132 ∷ 182 ∷ []) tt k) ∙ cos_6 R D)
    (lifted (1 * (R * R) * (R * R) * (R * R) * (R * R)) u _ _ _ (top_sum u v 90 (132 ∷ 182 ∷ []) tt k) ∙ cos_8 R D)
    (lifted (1 * (R * R) * (R * R) * (R * R) * (R * R) * (R * R)) u _ _ _ (top_sum u v 132 (182 ∷ []) tt k) ∙ cos_10 R D)
    (lifted (1 * (R * R) * (R * R) * (R * R) * (R * R) * (R * R) * (R * R)) u _ _ _ (top_sum u v 182 ([]) tt k) ∙ cos_12 R D)
    (cos_14 R D)
    ∙ one-mul _

pub sin_bot_lem : (D : ℕ) → sin_bot D ≡ D * bot (D * D) sin_divs
unfolding sin_bot bot
sin_bot_lem D = ap (λ (z : ℕ). fact 13 * z) (pw_is D 13) ∙ go
  where
    go : fact 13 * pw D 13 ≡ D * bot (D * D) sin_divs
    go = omega arith

pub cos_bot_lem : (D : ℕ) → cos_bot D ≡ bot (D * D) cos_divs
unfolding cos_bot bot
cos_bot_lem D = ap (λ (z : ℕ). fact 14 * z) (pw_is D 14) ∙ go
  where
    go : fact 14 * pw D 14 ≡ bot (D * D) cos_divs
    go = omega arith
