-- The exact steps of the sine and the cosine (docs/ANGLES.md): what the code answers, bit for bit. Definitions only.
-- The figures are those of the C library's sinf and cosf, by bit pattern; docs/ANGLES.md has them as decimals.
use Rattle.std.specs.Prelude.{ℕ, zero, suc, ◌+◌, ◌/◌, ◌%◌, Bool, true, false, cond, not, ◌&&◌, pos, negsuc, ◌==◌, Float}
use Rattle.std.specs.Float.{fin, binary64}
use Rattle.std.specs.Float.Ieee.{add, sub, mul, neg, lt, le, of_int, of_bits}
use Rattle.bits.specs.Parts.{places, narrowed}
use Rattle.sines.specs.Steps.{xor, even, scan}

-- +0, 1, 2^-12, 16
abbrev pub plus_zero : Float
plus_zero = fin false 0 (pos 0)

abbrev pub one : Float
one = fin false 1 (pos 0)

abbrev pub small : Float
small = fin false 1 (negsuc 11)

abbrev pub sixteen : Float
sixteen = fin false 1 (pos 4)

-- a number from -16 to 16
abbrev pub in_range : Float → Bool
in_range x = le (neg sixteen) x && le x sixteen

-- the size of x (-0 stays)
unfoldable pub absf : Float → Float
unfolding lt neg
absf x = cond (lt x plus_zero) (neg x) x

-- ---- in binary64, rounded at each operation
abbrev pub num : ℕ → Float
num n = of_bits binary64 n

abbrev pub plus : Float → Float → Float
plus a b = add binary64 a b

abbrev pub less : Float → Float → Float
less a b = sub binary64 a b

abbrev pub times : Float → Float → Float
times a b = mul binary64 a b

-- the size of a - 2 k π/4, for an a in the eighth q of a turn
unfoldable pub rest_of : ℕ → Float → Float
unfolding sub mul of_int of_bits absf
rest_of q a = absf (less a (times (of_int binary64 (pos (even q))) (num 4605249457297304856)))

-- (r - c s₁) + c z (s₂ - z s₃), with z = r² and c = r³
unfoldable pub sin_poly : Float → Float
unfolding add sub mul of_bits
sin_poly r =
    let z = times r r in
    let c = times r z in
    plus (less r (times c (num 4595172815570052611))) (times (times c z) (less (num 4575956795463502788) (times z (num 4551332636403224356))))

-- ((1 - z c₁) + y c₂) - y z (c₃ - z c₄), with z = r² and y = z²
unfoldable pub cos_poly : Float → Float
unfolding add sub mul of_bits
cos_poly r =
    let z = times r r in
    let y = times z z in
    less (plus (less one (times z (num 4602678819123126812))) (times y (num 4586165614292668185))) (times (times y z) (less (num 4564046962342114717) (times z (num 4537820015566256323))))

-- ---- by k mod 4, for the size r of the rest, which is below zero where `down`
abbrev pub half : ℕ → ℕ
half q = (q + 1) / 2

abbrev pub odd : ℕ → Bool
odd q = not (q % 2 == 0)

-- the size of the sine, and whether it is below zero: s, c, -s, -c
abbrev pub sin_value : ℕ → Float → Float
sin_value zero r = sin_poly r
sin_value (suc zero) r = cos_poly r
sin_value (suc (suc zero)) r = sin_poly r
sin_value (suc (suc (suc k))) r = cos_poly r

abbrev pub sin_minus : ℕ → Bool → Bool
sin_minus zero down = down
sin_minus (suc zero) down = false
sin_minus (suc (suc zero)) down = not down
sin_minus (suc (suc (suc k))) down = true

-- the same of the cosine: c, -s, -c, s
abbrev pub cos_value : ℕ → Float → Float
cos_value zero r = cos_poly r
cos_value (suc zero) r = sin_poly r
cos_value (suc (suc zero)) r = cos_poly r
cos_value (suc (suc (suc k))) r = sin_poly r

abbrev pub cos_minus : ℕ → Bool → Bool
cos_minus zero down = false
cos_minus (suc zero) down = not down
cos_minus (suc (suc zero)) down = true
cos_minus (suc (suc (suc k))) down = down

-- ± v, rounded to binary32, for v from 2^-60 to below 2; elsewhere +0, which the bounds allow for
unfoldable pub single : Bool → Float → Float
unfolding le lt narrowed
single minus v = cond (le (fin false 1 (negsuc 59)) v) (cond (lt v (fin false 1 (pos 1))) (narrowed minus v) plus_zero) plus_zero

-- of a, from 2^-12 to 16, the sine negated where `minus`
unfoldable pub sin_from : Bool → Float → Float
unfolding places rest_of
sin_from minus a =
    let q = scan 20 0 (places 40 a) in
    let k = half q % 4 in
    single (xor minus (sin_minus k (odd q))) (sin_value k (rest_of q a))

unfoldable pub cos_from : Float → Float
unfolding places rest_of
cos_from a =
    let q = scan 20 0 (places 40 a) in
    let k = half q % 4 in
    single (cos_minus k (odd q)) (cos_value k (rest_of q a))

-- both: the sine so many quarters of a turn on from a
unfoldable pub wave_from : ℕ → Bool → Float → Float
unfolding places rest_of
wave_from quarters minus a =
    let q = scan 20 0 (places 40 a) in
    let k = (half q + quarters) % 4 in
    single (xor minus (sin_minus k (odd q))) (sin_value k (rest_of q a))

-- ---- the steps
unfoldable pub sine_steps : Float → Float
unfolding absf sin_from
sine_steps x = cond (lt (absf x) small) x (sin_from (lt x plus_zero) (absf x))

unfoldable pub cosine_steps : Float → Float
unfolding absf cos_from
cosine_steps x = cond (lt (absf x) small) one (cos_from (absf x))
