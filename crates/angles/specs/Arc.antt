-- The exact steps of the arctangent (docs/ANGLES.md): what the code answers, bit for bit. Definitions only.
use Rattle.std.specs.Prelude.{ℕ, zero, suc, ◌+◌, ◌-◌, ◌*◌, ◌/◌, ◌%◌, min, Bool, true, false, cond, not, ◌&&◌, pos, negsuc, nat_le, Float}
use Rattle.std.specs.Bool.{beq}
use Rattle.std.specs.Float.Ieee.{eq, neg, lt, mul, div, to_unsigned, of_int, le, down}
use Rattle.std.specs.Float.{fin, binary32}
use Rattle.std.specs.Float.Ieee.Scale.{finite}
use Rattle.bits.specs.Parts.{places}
use Rattle.floats.specs.Floats.{abs_of}
use Rattle.sines.specs.Steps.{dist, seek, xor, scan, rest, sin_fix, cos_fix}
use Rattle.sines.specs.Sines.{plus_zero, one, half, odd}
use Rattle.angles.specs.Guess.{arc_guess}

-- the size of ± u - ± v
abbrev pub minus_size : Bool → ℕ → Bool → ℕ → ℕ
minus_size a u b v = cond (beq a b) (dist u v) (u + v)

-- finite, and y not zero
abbrev pub usable : Float → Float → Bool
usable y x = finite y && (finite x && not (eq y plus_zero))

-- ---- the steps, for y not zero
abbrev pub unit24 : Float
unit24 = fin false 1 (negsuc 23)

abbrev pub unit23 : Float
unit23 = fin false 1 (negsuc 22)

abbrev pub unit22 : Float
unit22 = fin false 1 (negsuc 21)

-- lo / big in units of 2^-31, cut
unfoldable pub ratio_of : Float → Float → ℕ
unfolding mul div to_unsigned
ratio_of lo big = to_unsigned 64 (mul binary32 (div binary32 lo big) (fin false 1 (pos 31)))

-- the lesser of |y| and |x| over the larger
unfoldable pub slope_of : Float → Float → ℕ
unfolding abs_of ratio_of
slope_of y x = cond (le (abs_of y) (abs_of x)) (ratio_of (abs_of y) (abs_of x)) (ratio_of (abs_of x) (abs_of y))

-- the angle of the eighth o, as a float: j, π/2 - j, π/2 + j, π - j
unfoldable pub angle_of : ℕ → ℕ → Float
unfolding mul of_int
angle_of zero j = mul binary32 (of_int binary32 (pos j)) unit24
angle_of (suc zero) j = mul binary32 (of_int binary32 (pos (13176794 - (min j 13176792 + 1) / 2))) unit23
angle_of (suc (suc zero)) j = mul binary32 (of_int binary32 (pos (6588398 + min j 13176788 / 4))) unit22
angle_of (suc (suc (suc o))) j = mul binary32 (of_int binary32 (pos (13176794 - (min j 13176788 + 3) / 4))) unit22

-- o, from whether |y| ≤ |x| and whether x < 0
abbrev pub eighth_of : Bool → Bool → ℕ
eighth_of true false = 0
eighth_of false false = 1
eighth_of false true = 2
eighth_of true true = 3

unfoldable pub arc_steps : Float → Float → Float
unfolding abs_of ratio_of angle_of
arc_steps y x =
    let b = le (abs_of y) (abs_of x) in
    let a = angle_of (eighth_of b (lt x plus_zero)) (seek 24 (cond b (ratio_of (abs_of y) (abs_of x)) (ratio_of (abs_of x) (abs_of y))) 0 13176795) in
    cond (lt y plus_zero) (neg a) a

-- ± the f32 nearest π
abbrev pub signed_pi32 : Bool → Float
signed_pi32 s = fin s 13176795 (negsuc 21)

-- ---- the certificate of a guessed angle c, over whole numbers: py, px stand for |y|, |x| in units of 2^-31 of the larger
-- ± u + ± v ≥ 2^60
abbrev pub plus_over : Bool → ℕ → Bool → ℕ → Bool
plus_over false u false v = nat_le 1152921504606846976 (u + v)
plus_over false u true v = nat_le (v + 1152921504606846976) u
plus_over true u false v = nat_le (u + 1152921504606846976) v
plus_over true u true v = false

-- sine ± vs and cosine ± vc in units of 2^-31, x below zero where `back`: |y C - x S| ≤ 2^-19, and x C + y S ≥ 1/4
unfoldable pub line_test : Bool → ℕ → ℕ → Bool → ℕ → Bool → ℕ → Bool
line_test back py px ns vs nc vc = cond (nat_le (minus_size nc (py * vc) (xor back ns) (px * vs)) 8796093022208) (plus_over (xor back nc) (px * vc) ns (py * vs)) false

-- by k mod 4, for the sine s and the cosine c of |r|, r below zero where `down`
abbrev pub turn_test : ℕ → Bool → Bool → ℕ → ℕ → ℕ → ℕ → Bool
turn_test zero down back py px s c = line_test back py px down s false c
turn_test (suc zero) down back py px s c = line_test back py px false c (not down) s
turn_test (suc (suc zero)) down back py px s c = line_test back py px (not down) s true c
turn_test (suc (suc (suc k))) down back py px s c = line_test back py px true c down s

-- the angle X / 2^40
unfoldable pub grid_test : Bool → ℕ → ℕ → ℕ → Bool
unfolding line_test
grid_test back py px X = let q = scan 20 0 X in turn_test (half q % 4) (odd q) back py px (sin_fix (rest q X)) (cos_fix (rest q X))

-- an angle c from +0 to the f32 nearest π
unfoldable pub cert_of : Bool → ℕ → ℕ → Float → Bool
unfolding le places grid_test
cert_of back py px c = cond (le c (signed_pi32 false)) (grid_test back py px (places 40 c)) false

-- the guess where it is certified, the halving elsewhere
unfoldable pub best_steps : Float → Float → Float
unfolding abs_of ratio_of arc_guess cert_of arc_steps
best_steps y x =
    let p = abs_of y in
    let q = abs_of x in
    let b = le p q in
    let t = cond b (ratio_of p q) (ratio_of q p) in
    let c = abs_of (arc_guess (lt x plus_zero) p q) in
    cond (cert_of (lt x plus_zero) (cond b t 2147483648) (cond b 2147483648 t) c) (cond (lt y plus_zero) (neg c) c) (arc_steps y x)

-- ---- y zero
-- x is below zero or -0
unfoldable pub behind_of : Float → Bool
unfolding lt eq div
behind_of x = cond (lt x plus_zero) true (cond (eq x plus_zero) (lt (div binary32 one x) plus_zero) false)

unfoldable pub arctan_steps : Float → Float → Float
unfolding behind_of best_steps
arctan_steps y x = cond (eq y plus_zero) (cond (behind_of x) (cond (lt (div binary32 one y) plus_zero) (neg (signed_pi32 false)) (signed_pi32 false)) y) (best_steps y x)
