-- The arctangent of any two floats in degrees, and one turn more: above 0 and below two turns, so that a remainder by one turn is one subtraction. Assumes nothing.
use Prim.Native.Nat.{ℕ, zero, suc, ◌+◌, ◌-◌, ◌*◌, ◌<◌, ◌≤◌}
use mathlib.Core.Path.{◌≡◌, refl, sym, subst}
use mathlib.Core.Bool.{Bool, true, false, cond}
use native.Mathlib.Omega.{arith}
use lib.Dec.{T, ltb, lt→ltb}
use lib.IntN.{ℤ, pos}
use lib.Ieee.{Float, nan, inf, fin, binary32, up, down, round, neg, sum, add, mul, div, le, lt, eq, of_bits}
use lib.Ieee.Bits.{is_true}
use lib.Ieee.Fits.{down_pos}
use lib.Ieee.Order.{round_mono}
use Rattle.floats.specs.Floats.{zero32, abs_of}
use Rattle.floats.proofs.Cross.{cross→le, nonneg_cross}
use Rattle.floats.proofs.Preorder.{lt_le_trans, le_lt_trans}
use Rattle.sines.specs.Sines.{plus_zero}
use Rattle.angles.specs.Arc.{signed_pi32, arctan_steps}
use Rattle.angles.specs.Says.{atan2_of}
use Rattle.angle_laws.specs.Asked.{IsArc, Arctan}
use Rattle.angle_laws.proofs.Zero.{arctan_good}
use Rattle.limits.specs.Allowed.{nearest32}
use Rattle.coords.specs.Coords.{per_radian, full32, two_turns}
use Rattle.coords.proofs.Size.{Small, small_mul, small_add, small_between}

-- of any two floats it is at most the f32 nearest π: +0 where a call would be refused
zero_small : Small (signed_pi32 false) plus_zero
unfolding le lt eq abs_of
zero_small = record { held = tt; most = tt }

from_arc : (s : Bool) (m : ℕ) (e : ℤ) (t : Bool) (n : ℕ) (d : ℤ) (r : Float) → IsArc (fin s m e) (fin t n d) r → Small (signed_pi32 false) r
unfolding IsArc abs_of
from_arc s m e t n d nan h = absurd h
from_arc s m e t n d (inf u) h = absurd h
from_arc s m e t n d (fin u k g) h = record { held = tt; most = cross→le (fin false k g) (signed_pi32 false) tt tt (omega (arith, h.1.1.0)) }

pub arc_small : (y x : Float) → Small (signed_pi32 false) (atan2_of y x)
unfolding atan2_of Arctan abs_of
arc_small nan x = zero_small
arc_small (inf s) x = zero_small
arc_small (fin s m e) nan = zero_small
arc_small (fin s m e) (inf t) = zero_small
arc_small (fin s zero e) (fin t n d) = subst (Small (signed_pi32 false)) (sym ((arctan_good (fin s 0 e) (fin t n d) tt).0 refl)) (go t)
  where
    go : (b : Bool) → Small (signed_pi32 false) (cond b (signed_pi32 s) (fin s 0 e))
    go true = record { held = tt; most = unfold le lt eq in tt }
    go false = record { held = tt; most = cross→le (fin false 0 e) (signed_pi32 false) tt tt (omega arith) }
arc_small (fin s (suc m) e) (fin t n d) = from_arc s (suc m) e t n d (arctan_steps (fin s (suc m) e) (fin t n d)) ((arctan_good (fin s (suc m) e) (fin t n d) tt).1 (λ z. omega arith))

-- ---- in degrees, and raised by one turn
pub degrees_small : (a : Float) → Small (signed_pi32 false) a → Small (nearest32 180 1) (mul binary32 a per_radian)
unfolding round mul div of_bits le lt eq abs_of
degrees_small a h = small_mul binary32 (signed_pi32 false) per_radian (nearest32 180 1) a per_radian tt tt tt tt h (record { held = tt; most = tt })

pub raised_small : (a : Float) → Small (nearest32 180 1) a → Small (nearest32 540 1) (add binary32 a full32)
unfolding round add of_bits le lt eq abs_of
raised_small a h = small_add binary32 (nearest32 180 1) full32 (nearest32 540 1) a full32 tt tt tt tt h (record { held = tt; most = tt })

-- from half a turn on
raised_low : (a : Float) → Small (nearest32 180 1) a → T (le (nearest32 180 1) (add binary32 a full32))
unfolding round add sum of_bits abs_of
raised_low nan h = absurd h.held
raised_low (inf s) h = absurd h.held
raised_low (fin false m e) h = round_mono binary32 180 1 (m * up e * 1 + 360 * down e) (down e * 1) lit (more (down e) (down_pos e)) (sum_most (m * up e) (down e))
  where
    lit : 0 < 1
    lit = omega arith

    more : (d : ℕ) → 0 < d → 0 < d * 1
    more d h = omega arith

    sum_most : (n d : ℕ) → 180 * (d * 1) ≤ (n * 1 + 360 * d) * 1
    sum_most n d = omega arith
raised_low (fin true m e) h =
    let b : m * up e * 1 ≤ 180 * down e = nonneg_cross m e 45 (pos 2) h.most in
    rw (under (m * up e * 1) (down e) (down_pos e) b) (round_mono binary32 180 1 (360 * down e - m * up e * 1) (down e * 1) lit (more (down e) (down_pos e)) (rest_most (m * up e * 1) (down e) b))
  where
    lit : 0 < 1
    lit = omega arith

    more : (d : ℕ) → 0 < d → 0 < d * 1
    more d h = omega arith

    under : (n d : ℕ) → 0 < d → n ≤ 180 * d → ltb n (360 * d) ≡ true
    under n d D h = is_true (ltb n (360 * d)) (lt→ltb n (360 * d) (omega arith))

    rest_most : (n d : ℕ) → n ≤ 180 * d → 180 * (d * 1) ≤ (360 * d - n) * 1
    rest_most n d h = omega arith

half_positive : T (lt zero32 (nearest32 180 1))
half_positive = unfold round lt in tt

above_most : T (lt (nearest32 540 1) two_turns)
above_most = unfold round of_bits lt in tt

-- of a size below two turns, it is below two turns
below_two : (z : Float) → Small (nearest32 540 1) z → T (lt z two_turns)
below_two z h = le_lt_trans z (nearest32 540 1) two_turns (small_between (nearest32 540 1) z (unfold round neg le lt eq in tt) (unfold round neg le lt eq in tt) h).1 above_most

pub raised_between : (y x : Float) → (lt zero32 (add binary32 (mul binary32 (atan2_of y x) per_radian) full32) ≡ true) × (lt (add binary32 (mul binary32 (atan2_of y x) per_radian) full32) two_turns ≡ true)
raised_between y x =
    let a = mul binary32 (atan2_of y x) per_radian in
    let d : Small (nearest32 180 1) a = degrees_small (atan2_of y x) (arc_small y x) in
    let low : T (le (nearest32 180 1) (add binary32 a full32)) = raised_low a d in
    (is_true (lt zero32 (add binary32 a full32)) (lt_le_trans zero32 (nearest32 180 1) (add binary32 a full32) half_positive low), is_true (lt (add binary32 a full32) two_turns) (below_two (add binary32 a full32) (raised_small a d)))
