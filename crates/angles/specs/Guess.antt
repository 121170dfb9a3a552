-- The arctangent's guess: steps in binary32 whose accuracy is measured and not proved. Nothing below is relied on: what is answered is certified by whole numbers (`Arc.cert_of`).
-- The steps and figures are those of the C library's atan2f, the figures by bit pattern; docs/ANGLES.md has them as decimals. Definitions only.
use Rattle.std.specs.Prelude.{ℕ, Bool, cond, Float}
use Rattle.std.specs.Float.{binary32}
use Rattle.std.specs.Float.Ieee.{add, sub, mul, div, lt, of_bits}

-- ---- in binary32, rounded at each operation
abbrev pub num32 : ℕ → Float
num32 n = of_bits binary32 n

abbrev pub plus32 : Float → Float → Float
plus32 a b = add binary32 a b

abbrev pub less32 : Float → Float → Float
less32 a b = sub binary32 a b

abbrev pub times32 : Float → Float → Float
times32 a b = mul binary32 a b

abbrev pub over32 : Float → Float → Float
over32 a b = div binary32 a b

-- about 1 - atan(u) / u: v (a₀ + a₂ w + .. + a₁₀ w⁵) - w (a₁ + a₃ w + .. + a₉ w⁴), with v = u² and w = v²
unfoldable pub tail_of : Float → Float
unfolding add sub mul of_bits
tail_of u =
    let v = times32 u u in
    let w = times32 v v in
    let e = times32 v (plus32 (num32 1051372203) (times32 w (plus32 (num32 1041385765) (times32 w (plus32 (num32 1035611758) (times32 w (plus32 (num32 1032350517) (times32 w (plus32 (num32 1028381273) (times32 w (num32 1015376343))))))))))) in
    let o = times32 w (plus32 (num32 1045220557) (times32 w (plus32 (num32 1038323256) (times32 w (plus32 (num32 1033734037) (times32 w (plus32 (num32 1030680939) (times32 w (num32 1024827937))))))))) in
    less32 e o

-- h + l + atan(u)
unfoldable pub raised_of : Float → Float → Float → Float
unfolding sub mul tail_of
raised_of h l u = less32 h (less32 (less32 (times32 u (tail_of u)) l) u)

-- π/2 - atan(t)
unfoldable pub lowered_of : Float → Float
unfolding add sub mul of_bits tail_of
lowered_of t = less32 (num32 1070141402) (less32 t (plus32 (times32 t (tail_of t)) (num32 866263400)))

-- atan(x) below 7/16: x itself below 2^-29
unfoldable pub atan_low : Float → Float
unfolding lt sub mul of_bits tail_of
atan_low x = cond (lt x (num32 822083584)) x (less32 x (times32 x (tail_of x)))

-- from 7/16 on: about atan(1/2), π/4 and atan(3/2), up to 39/16; then by 1 / x, up to 2^25
unfoldable pub atan_high : Float → Float
unfolding lt add sub mul div of_bits raised_of lowered_of
atan_high x =
    cond (lt x (num32 1060110336)) (raised_of (num32 1055744824) (num32 833369961) (over32 (less32 (times32 (num32 1073741824) x) (num32 1065353216)) (plus32 (num32 1073741824) x)))
    (cond (lt x (num32 1066926080)) (raised_of (num32 1061752794) (num32 857874792) (over32 (less32 x (num32 1065353216)) (plus32 x (num32 1065353216))))
    (cond (lt x (num32 1075576832)) (raised_of (num32 1065064542) (num32 856952756) (over32 (less32 x (num32 1069547520)) (plus32 (num32 1065353216) (times32 (num32 1069547520) x))))
    (cond (lt x (num32 1275068416)) (lowered_of (over32 (num32 1065353216) x)) (num32 1070141403))))

unfoldable pub atan_guess : Float → Float
unfolding lt of_bits atan_low atan_high
atan_guess x = cond (lt x (num32 1054867456)) (atan_low x) (atan_high x)

-- the size of the angle of (p, s), sizes of y and x: π - it, where x is below zero
unfoldable pub arc_guess : Bool → Float → Float → Float
unfolding add sub div of_bits atan_guess
arc_guess back p s = cond back (less32 (num32 1078530011) (plus32 (atan_guess (over32 p s)) (num32 867941678))) (atan_guess (over32 p s))
