-- |S| ≤ 1 and |C| ≤ 1, and so the sine and cosine of every float have a size of at most 1 + 2^-20. Assumes nothing.
use Prim.Native.Nat.{ℕ, zero, suc, ◌+◌, ◌-◌, ◌*◌, ◌≤◌, ◌<◌}
use mathlib.Core.Path.{refl}
use mathlib.Core.Bool.{Bool, true, false, cond, beq}
use native.Mathlib.Nat.{le_of_eq, mul-le-mul, mul-pos, div-mul-le_self, lt-div-mul-add, le_of_mul-le-mul_right}
use native.Mathlib.Omega.{arith}
use lib.Dec.{T}
use lib.IntN.{negsuc}
use lib.Ieee.{Float, nan, inf, fin, binary32, fits, up, down, le}
use lib.Ieee.Fits.{down_pos}
use Rattle.floats.specs.Floats.{abs_of}
use Rattle.floats.proofs.Cross.{cross→le}
use Rattle.sines.specs.Steps.{dist}
use Rattle.sines.specs.Sines.{plus_zero, in_range, sine_steps, cosine_steps}
use Rattle.angles.specs.Says.{sin_of, cos_of}
use Rattle.angle_laws.specs.Angle.{Ratio, pi_top, pi_bot, quarters, turn, rest_top, rest_bot, rest_neg, pick_s, pick_c, sine, cosine, S, C, close_to}
use Rattle.angle_laws.proofs.Chosen.{sin_le, cos_le}
use Rattle.angle_laws.proofs.Reduce.{rest_small, rest_proper}
use Rattle.angle_laws.proofs.Line.{sin_bot_pos, cos_bot_pos}
use Rattle.angle_laws.proofs.Near.{sine_near, cosine_near}
use Rattle.coords.proofs.Size.{Small}

-- ---- r is at most 1 in size, for any x

abbrev drop : Bool → ℕ
drop neg = cond neg 0 1

at_most_one : (neg : Bool) → drop neg ≤ 1
at_most_one true = omega arith
at_most_one false = omega arith

rest_one : (neg : Bool) (n d : ℕ) → 0 < d → rest_top (quarters neg n d) n d ≤ rest_bot d
unfolding quarters
rest_one neg n d dp =
    let W = pi_top * d in
    let Y = 4 * pi_bot * n in
    let k = quarters neg n d in
    rest_proper n d k (rest_small n d k
    (low Y W (drop neg) k (div-mul-le_self (Y + W - drop neg) (2 * W)))
    (high Y W (drop neg) k (at_most_one neg) (lt-div-mul-add {a = Y + W - drop neg} {b = 2 * W} (twice d dp))))
  where
    twice : (d : ℕ) → 0 < d → 0 < 2 * (pi_top * d)
    twice d h = mul-pos {m = 2} (omega arith) (mul-pos {m = pi_top} (omega arith) h)

    low : (Y W c k : ℕ) → k * (2 * W) ≤ Y + W - c → 2 * k * W ≤ Y + W
    low Y W c k h = omega arith

    high : (Y W c k : ℕ) → c ≤ 1 → Y + W - c < k * (2 * W) + 2 * W → Y ≤ 2 * k * W + W
    high Y W c k l h = omega arith

-- ---- S and C

-- at most 1 in size, with a denominator above zero
pub record Proper (ρ : Ratio) : Type 0 where
  pub below : ρ.top ≤ ρ.bot
  pub some : 0 < ρ.bot

module _ (R D : ℕ) (h : R ≤ D) (p : 0 < D) where
  picked_s : (k : ℕ) (rn : Bool) → Proper (pick_s k rn R D)
  picked_s zero rn = record { below = sin_le R D h; some = sin_bot_pos D p }
  picked_s (suc zero) rn = record { below = cos_le R D h; some = cos_bot_pos D p }
  picked_s (suc (suc zero)) rn = record { below = sin_le R D h; some = sin_bot_pos D p }
  picked_s (suc (suc (suc k))) rn = record { below = cos_le R D h; some = cos_bot_pos D p }

  picked_c : (k : ℕ) (rn : Bool) → Proper (pick_c k rn R D)
  picked_c zero rn = record { below = cos_le R D h; some = cos_bot_pos D p }
  picked_c (suc zero) rn = record { below = sin_le R D h; some = sin_bot_pos D p }
  picked_c (suc (suc zero)) rn = record { below = cos_le R D h; some = cos_bot_pos D p }
  picked_c (suc (suc (suc k))) rn = record { below = sin_le R D h; some = sin_bot_pos D p }

bot_pos : (d : ℕ) → 0 < d → 0 < rest_bot d
bot_pos d h = mul-pos {m = 2 * pi_bot} (omega arith) h

pub S-proper : (x : Float) → Proper (S x)
unfolding S sine
S-proper nan = record { below = omega arith; some = omega arith }
S-proper (inf s) = record { below = omega arith; some = omega arith }
S-proper (fin s m e) =
    let n = m * up e in
    let d = down e in
    let k = quarters s n d in
    picked_s (rest_top k n d) (rest_bot d) (rest_one s n d (down_pos e)) (bot_pos d (down_pos e)) (turn s k) (rest_neg s k n d)

pub C-proper : (x : Float) → Proper (C x)
unfolding C cosine
C-proper nan = record { below = omega arith; some = omega arith }
C-proper (inf s) = record { below = omega arith; some = omega arith }
C-proper (fin s m e) =
    let n = m * up e in
    let d = down e in
    let k = quarters s n d in
    picked_c (rest_top k n d) (rest_bot d) (rest_one s n d (down_pos e)) (bot_pos d (down_pos e)) (turn s k) (rest_neg s k n d)

-- ---- near a ratio of size at most 1

-- 1 + 2^-20
abbrev pub rim : Float
rim = fin false 1048577 (negsuc 19)

near_rim : (x : Float) (ρ : Ratio) → Proper ρ → close_to 1048576 x ρ → Small rim x
unfolding close_to abs_of
near_rim nan ρ p w = absurd w
near_rim (inf s) ρ p w = absurd w
near_rim (fin s m e) ρ p w =
    record { held = tt; most = cross→le (fin false m e) rim tt tt (omega (arith, bound (m * up e) (down e) (beq s ρ.neg) ρ.top ρ.bot p.below p.some w)) }
  where
    reach : (a b t q : ℕ) (same : Bool) → a * q ≤ t * b + cond same (dist (a * q) (t * b)) (a * q + t * b)
    reach a b t q true = far (a * q) (t * b)
      where
        far : (x y : ℕ) → x ≤ y + dist x y
        far x y = omega arith
    reach a b t q false = omega arith

    glue : (a b q A t : ℕ) → a * q ≤ t * b + A → t * b ≤ q * b → A * 1048576 ≤ b * q → a * 1048576 * q ≤ b * 1048577 * q
    glue a b q A t h k l = omega arith

    bound : (a b : ℕ) (same : Bool) (t q : ℕ) → t ≤ q → 0 < q → cond same (dist (a * q) (t * b)) (a * q + t * b) * 1048576 ≤ b * q → a * 1048576 ≤ b * 1048577
    bound a b same t q h z w = le_of_mul-le-mul_right (glue a b q (cond same (dist (a * q) (t * b)) (a * q + t * b)) t (reach a b t q same) (mul-le-mul h (le_of_eq refl)) w) z

-- ---- for every float: +0 where a call would be refused

by_range : (x y : Float) (b : Bool) → (T b → Small rim y) → Small rim (cond b y plus_zero)
unfolding abs_of
by_range x y true h = h tt
by_range x y false h = record { held = tt; most = unfold le in tt }

pub sin_small : (x : Float) → T (fits binary32 x) → Small rim (sin_of x)
unfolding sin_of
sin_small x f = by_range x (sine_steps x) (in_range x) (λ r. near_rim (sine_steps x) (S x) (S-proper x) (sine_near x f r))

pub cos_small : (x : Float) → T (fits binary32 x) → Small rim (cos_of x)
unfolding cos_of
cos_small x f = by_range x (cosine_steps x) (in_range x) (λ r. near_rim (cosine_steps x) (C x) (C-proper x) (cosine_near x f r))
