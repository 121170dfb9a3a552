-- `bits::narrow` meets its contract: the pattern's digits are the numerator, and its exponent's field tells the denominator. Assumes nothing.
use native.Mathlib.Omega.{arith}
use mathlib.Core.Path.{sym, subst}
use lib.Dec.{T}
use lib.Ieee.{binary64, fits}
use Rattle.bits.proofs.Wide.{Unit, unit_of, Read, read, no_nan, narrow_is}
use Rattle.bits.proofs.narrow.Goals as goal

-- what owning an `f64` tells: the format holds it
held : (c : goal.Start) → T (fits binary64 c.args.w)
held c = subst T (sym c.well_formed.1.0.1) tt

unit : (c : goal.Start) → Unit c.args.w
unit c = unit_of c.args.w c.requires.0 c.requires.1

pattern : (c : goal.Start) → Read c.args.w
pattern c = read c.args.w (held c) (unit c)

pub float_to_bits-b : goal.float_to_bits-b
float_to_bits-b c = no_nan c.args.w (unit c)

pub overflow_cast-field : goal.overflow_cast-field
overflow_cast-field c = let r = pattern c in omega (arith, r.field_high)

pub overflow_sub-field : goal.overflow_sub-field
overflow_sub-field c = let r = pattern c in omega (arith, r.field_high)

pub to_nearest-requires : goal.to_nearest-requires
to_nearest-requires c = let r = pattern c in omega (arith, r.field_low)

pub returns : goal.returns
returns c = narrow_is c.args.negative c.args.w _ _ c.to_nearest.result (pattern c.before).value c.to_nearest.ensures
