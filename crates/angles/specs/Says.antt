-- What a call answers: the value by the steps where document 01 lets a call answer, and its refusal elsewhere. Definitions only.
use Rattle.std.specs.Prelude.{cond, ◌&&◌, Float, Result, Ok, Err}
use Rattle.std.specs.Float.Ieee.Scale.{finite}
use Rattle.sines.specs.Sines.{plus_zero, in_range, sine_steps, cosine_steps}
use Rattle.angles.specs.Arc.{arctan_steps}
use Rattle.refusals.specs.declared.Refusal.{Refusal}
use Rattle.refusals.specs.declared.Refusal.TheVariants.{BadValue}

-- sine and cosine answer from -16 to 16, the arctangent where both arguments are finite; elsewhere +0
unfoldable pub sin_of : Float → Float
sin_of x = cond (in_range x) (sine_steps x) plus_zero

unfoldable pub cos_of : Float → Float
cos_of x = cond (in_range x) (cosine_steps x) plus_zero

unfoldable pub atan2_of : Float → Float → Float
atan2_of y x = cond (finite y && finite x) (arctan_steps y x) plus_zero

-- the same with a refusal in the place of +0: the first argument that is not allowed, from 0
unfoldable pub sine_says : Float → Result Float Refusal
sine_says x = cond (in_range x) (Ok (sine_steps x)) (Err (BadValue 0))

unfoldable pub cosine_says : Float → Result Float Refusal
cosine_says x = cond (in_range x) (Ok (cosine_steps x)) (Err (BadValue 0))

unfoldable pub arctan_says : Float → Float → Result Float Refusal
arctan_says y x = cond (finite y) (cond (finite x) (Ok (arctan_steps y x)) (Err (BadValue 1))) (Err (BadValue 0))
