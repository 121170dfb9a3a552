-- The nested form in fixed point stays within E units of the exact one: one step, and then every list of divisors from 2 up.
-- Each nonlinear fact is one product of an order with a factor, brought into a fixed order of factors by `omega` in a lemma of its own
-- (omega multiplies out, but stops at a bound of its own where many products are in reach); the glue is then linear over named numbers. Assumes nothing.
use Prim.Native.Nat.{ℕ, ◌*◌, ◌/◌, ◌≤◌, ◌+◌, ◌<◌, ◌-◌}
use native.Mathlib.Nat.{sub-add_cancel, le_trans, mul-le-mul_right, div-mul-le_self, lt-div-mul-add, mul-le-mul_left, le_of_mul-le-mul_left, le_of_eq, one-mul, sub-le, div-le_of_le-mul, mul-le-mul, div-le_self, le_refl}
use native.Mathlib.Omega.{arith}
use mathlib.Core.Path.{◌≡◌, subst, sym, ap}
use mathlib.Core.List.{List, ◌∷◌, []}
use mathlib.Core.Bool.{Bool, true, ◌&&◌}
use lib.Dec.{leb, leb→le}
use lib.Ieee.Fits.{and_l, and_r}
use lib.Dec as dec
use Rattle.angle_laws.specs.Series.{bot, top}
use Rattle.sines.specs.Steps.{nest}

-- ---- a / P / c, as bounds
pub div_low : (a P c : ℕ) → a / P / c * c * P ≤ a
div_low a P c = le_trans (mul-le-mul_right P (div-mul-le_self (a / P) c)) (div-mul-le_self a P)

pub div_high : (a P c : ℕ) → 0 < P → 0 < c → a ≤ (a / P / c * c + c) * P
div_high a P c pp cp =
    let h : a < a / P * P + P = lt-div-mul-add pp in
    let k : a / P < a / P / c * c + c = lt-div-mul-add cp in
    let m : (a / P + 1) * P ≤ (a / P / c * c + c) * P = mul-le-mul_right P (omega arith) in
    omega arith

-- ---- the products, each in its fixed order
q1 : (P c T H D Q G : ℕ) → G * c * P ≤ T * H → P * (G * (c * (D * Q))) ≤ T * H * D * Q
q1 P c T H D Q G h = let f : G * c * P * (D * Q) ≤ T * H * (D * Q) = mul-le-mul_right (D * Q) h in go f
  where
    go : G * c * P * (D * Q) ≤ T * H * (D * Q) → P * (G * (c * (D * Q))) ≤ T * H * D * Q
    go f = omega arith

q1' : (P c T H D Q G : ℕ) → T * H ≤ (G * c + c) * P → T * H * D * Q ≤ P * (G * (c * (D * Q))) + P * (c * (D * Q))
q1' P c T H D Q G h = go (mul-le-mul_right (D * Q) h)
  where
    go : T * H * (D * Q) ≤ (G * c + c) * P * (D * Q) → T * H * D * Q ≤ P * (G * (c * (D * Q))) + P * (c * (D * Q))
    go f = omega arith

q2 : (P T H D R Q e : ℕ) → T * D ≤ P * R + e * D → T * H * D * Q ≤ P * R * H * Q + e * D * H * Q
q2 P T H D R Q e h = go (mul-le-mul_right (H * Q) h)
  where
    go : T * D * (H * Q) ≤ (P * R + e * D) * (H * Q) → T * H * D * Q ≤ P * R * H * Q + e * D * H * Q
    go f = omega arith

q2' : (P T H D R Q e : ℕ) → P * R ≤ T * D + e * D → P * R * H * Q ≤ T * H * D * Q + e * D * H * Q
q2' P T H D R Q e h = go (mul-le-mul_right (H * Q) h)
  where
    go : P * R * (H * Q) ≤ (T * D + e * D) * (H * Q) → P * R * H * Q ≤ T * H * D * Q + e * D * H * Q
    go f = omega arith

q3 : (P H R Q N E : ℕ) → H * Q ≤ P * N + E * Q → P * R * H * Q ≤ P * (P * (R * N)) + P * R * E * Q
q3 P H R Q N E h = go (mul-le-mul_left (P * R) h)
  where
    go : P * R * (H * Q) ≤ P * R * (P * N + E * Q) → P * R * H * Q ≤ P * (P * (R * N)) + P * R * E * Q
    go f = omega arith

q3' : (P H R Q N E : ℕ) → P * N ≤ H * Q + E * Q → P * (P * (R * N)) ≤ P * R * H * Q + P * R * E * Q
q3' P H R Q N E h = go (mul-le-mul_left (P * R) h)
  where
    go : P * R * (P * N) ≤ P * R * (H * Q + E * Q) → P * (P * (R * N)) ≤ P * R * H * Q + P * R * E * Q
    go f = omega arith

q4 : (P H D Q e : ℕ) → H ≤ P → e * D * H * Q ≤ P * (e * (D * Q))
q4 P H D Q e h = go (mul-le-mul_right (e * D * Q) h)
  where
    go : H * (e * D * Q) ≤ P * (e * D * Q) → e * D * H * Q ≤ P * (e * (D * Q))
    go f = omega arith

q5 : (P D R Q E : ℕ) → R ≤ D → P * R * E * Q ≤ P * (E * (D * Q))
q5 P D R Q E h = go (mul-le-mul_right (P * E * Q) h)
  where
    go : R * (P * E * Q) ≤ D * (P * E * Q) → P * R * E * Q ≤ P * (E * (D * Q))
    go f = omega arith

glue_over : (a b c d e f g h : ℕ) → a ≤ b → b ≤ c + d → c ≤ e + f → d ≤ g → f ≤ h → a ≤ e + (h + g)
glue_over a b c d e f g h x y z u v = omega arith

glue_under : (a b c d e f g h i j : ℕ) → a ≤ b + i → i ≤ j → b ≤ c + d → d ≤ e → c ≤ f + g → a ≤ f + (g + (j + e))
glue_under a b c d e f g h i j x y z u v = omega arith

pull3 : (P a b c : ℕ) → P * a + (P * b + P * c) ≡ P * (a + (b + c))
pull3 P a b c = omega arith

pull4 : (P a b c d : ℕ) → P * a + (P * b + (P * c + P * d)) ≡ P * (a + (b + (c + d)))
pull4 P a b c d = omega arith

-- ---- the step, over the quotient G
over : (P c T H D R Q N e E G : ℕ) → 0 < P → H ≤ P → R ≤ D → T * D ≤ P * R + e * D → H * Q ≤ P * N + E * Q → G * c * P ≤ T * H
    → G * (c * (D * Q)) ≤ P * (R * N) + (E * (D * Q) + e * (D * Q))
over P c T H D R Q N e E G pp hp rd t h g =
    le_of_mul-le-mul_left
    (subst (λ (z : ℕ). P * (G * (c * (D * Q))) ≤ z) (pull3 P (P * (R * N)) (E * (D * Q)) (e * (D * Q)))
    (glue_over _ _ _ _ _ _ _ _ (q1 P c T H D Q G g) (q2 P T H D R Q e t) (q3 P H R Q N E h) (q4 P H D Q e hp) (q5 P D R Q E rd)))
    pp

under : (P c T H D R Q N e E G : ℕ) → 0 < P → H ≤ P → R ≤ D → P * R ≤ T * D + e * D → P * N ≤ H * Q + E * Q → T * H ≤ (G * c + c) * P
    → P * (R * N) ≤ G * (c * (D * Q)) + (c * (D * Q) + (E * (D * Q) + e * (D * Q)))
under P c T H D R Q N e E G pp hp rd t h g =
    le_of_mul-le-mul_left
    (subst (λ (z : ℕ). P * (P * (R * N)) ≤ z) (pull4 P (G * (c * (D * Q))) (c * (D * Q)) (E * (D * Q)) (e * (D * Q)))
    (glue_under _ _ _ _ _ _ _ 0 _ _ (q3' P H R Q N E h) (q5 P D R Q E rd) (q2' P T H D R Q e t) (q4 P H D Q e hp) (q1' P c T H D Q G g)))
    pp

-- c * E units are at least what the step adds, where E is at least e + 2
room : (c e E W : ℕ) → 2 ≤ c → e + 2 ≤ E → c * W + (E * W + e * W) ≤ E * (c * W)
room c e E W two ef =
    let F = E - 1 in
    let eq : E ≡ F + 1 = omega arith in
    let f1 : 2 * (F * W) ≤ c * (F * W) = mul-le-mul_right (F * W) two in
    let f2 : (e + 1) * W ≤ F * W = mul-le-mul_right W (omega arith) in
    subst (λ (z : ℕ). c * W + (z * W + e * W) ≤ z * (c * W)) (sym eq) (go F f1 f2)
  where
    go : (F : ℕ) → 2 * (F * W) ≤ c * (F * W) → (e + 1) * W ≤ F * W → c * W + ((F + 1) * W + e * W) ≤ (F + 1) * (c * W)
    go F f1 f2 = omega arith

-- ---- the differences, taken apart
fin_low : (P H G Q N M E : ℕ) → H + G ≡ P → N + M ≡ Q → P * M ≤ G * Q + E * Q → H * Q ≤ P * N + E * Q
fin_low P H G Q N M E h n k = go (ap (λ (z : ℕ). z * Q) h) (ap (λ (z : ℕ). P * z) n)
  where
    go : (H + G) * Q ≡ P * Q → P * (N + M) ≡ P * Q → H * Q ≤ P * N + E * Q
    go a b = omega arith

fin_high : (P H G Q N M E : ℕ) → H + G ≡ P → N + M ≡ Q → G * Q ≤ P * M + E * Q → P * N ≤ H * Q + E * Q
fin_high P H G Q N M E h n k = go (ap (λ (z : ℕ). z * Q) h) (ap (λ (z : ℕ). P * z) n)
  where
    go : (H + G) * Q ≡ P * Q → P * (N + M) ≡ P * Q → P * N ≤ H * Q + E * Q
    go a b = omega arith

-- H / P is within E / P of N / Q, and neither is above 1
pub record Close (P H Q N E : ℕ) : Type 0 where
  pub below_one : H ≤ P
  pub proper : N ≤ Q
  pub low : H * Q ≤ P * N + E * Q
  pub high : P * N ≤ H * Q + E * Q

-- T / P is within e / P of R / D, and neither is above 1
pub record Square (P T D R e : ℕ) : Type 0 where
  pub one : 0 < P
  pub below_one : T ≤ P
  pub proper : R ≤ D
  pub low : T * D ≤ P * R + e * D
  pub high : P * R ≤ T * D + e * D

sum_le : (a b c d : ℕ) → a ≤ b + c → c ≤ d → a ≤ b + d
sum_le a b c d x y = omega arith

pub step : (P c T D R e E H Q N : ℕ) → 2 ≤ c → e + 2 ≤ E → Square P T D R e → Close P H Q N E
    → Close P (P - T * H / P / c) (c * (D * Q)) (c * (D * Q) - R * N) E
step P c T D R e E H Q N two ef s k =
    let G = T * H / P / c in
    let cp : 0 < c = omega arith in
    let gp : G ≤ P = le_trans (div-le_self (T * H / P) c) (div-le_of_le-mul P (mul-le-mul s.below_one k.below_one)) in
    let nq : R * N ≤ c * (D * Q) = le_trans (mul-le-mul s.proper k.proper) (le_trans (le_of_eq (sym (one-mul (D * Q)))) (mul-le-mul_right (D * Q) cp)) in
    let W = D * Q in
    let rm : c * W + (E * W + e * W) ≤ E * (c * W) = room c e E W two ef in
    record {
      below_one = sub-le P G;
      proper = sub-le (c * (D * Q)) (R * N);
      low = fin_low P (P - G) G (c * W) (c * W - R * N) (R * N) E (sub-add_cancel gp) (sub-add_cancel nq)
          (sum_le _ _ _ _ (under P c T H D R Q N e E G s.one k.below_one s.proper s.high k.high (div_high (T * H) P c s.one cp)) rm);
      high = fin_high P (P - G) G (c * W) (c * W - R * N) (R * N) E (sub-add_cancel gp) (sub-add_cancel nq)
          (sum_le _ _ _ _ (over P c T H D R Q N e E G s.one k.below_one s.proper s.low k.low (div_low (T * H) P c)) (omega (arith, rm)));
    }

-- every divisor is at least 2
abbrev pub twos : List ℕ → Bool
twos [] = true
twos (c ∷ cs) = leb 2 c && twos cs

pub nested : (P T D R e E : ℕ) (cs : List ℕ) → dec.T (twos cs) → e + 2 ≤ E → Square P T D R e → Close P (nest P T cs) (bot D cs) (top R D cs) E
unfolding nest bot top
nested P T D R e E [] t ef s = record { below_one = le_refl P; proper = le_refl 1; low = omega arith; high = omega arith }
nested P T D R e E (c ∷ cs) t ef s =
    step P c T D R e E (nest P T cs) (bot D cs) (top R D cs) (leb→le 2 c (and_l (leb 2 c) (twos cs) t)) ef s
    (nested P T D R e E cs (and_r (leb 2 c) (twos cs) t) ef s)
