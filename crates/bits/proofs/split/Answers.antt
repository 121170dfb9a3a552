-- `bits::split` meets its contract: by the exponent's field, zero (a subnormal, whose digits are shifted up) or not. Assumes nothing.
use native.Mathlib.Omega.{arith}
use mathlib.Core.Path.{sym, subst}
use lib.Dec.{T}
use lib.Ieee.{binary32, fits}
use Rattle.bits.proofs.Laws.{numeric_no_nan, split_middle, split_low, low_zeros}
use Rattle.bits.proofs.split.Goals as goal

-- what owning an `f32` tells: the format holds it
held : (c : goal.Start) → T (fits binary32 c.args.x)
held c = subst T (sym c.well_formed.0.1) tt

pub float_to_bits-b : goal.float_to_bits-b
float_to_bits-b c = numeric_no_nan c.args.x c.requires

pub overflow_sub-result : goal.overflow_sub-result
overflow_sub-result c = let z = low_zeros c.args.x (held c.before) c.requires c.if-field-eq0.true in omega arith

pub overflow_shl-result : goal.overflow_shl-result
overflow_shl-result c = let z = low_zeros c.args.x (held c.before) c.requires c.if-field-eq0.true in omega arith

pub overflow_sub-result-then-field-eq0 : goal.overflow_sub-result-then-field-eq0
overflow_sub-result-then-field-eq0 c = let z = low_zeros c.args.x (held c.before) c.requires c.if-field-eq0.true in omega arith

pub returns-then-field-eq0 : goal.returns-then-field-eq0
returns-then-field-eq0 c = split_low c.args.x (held c.before) c.requires c.if-field-eq0.true

pub returns-else-field-eq0 : goal.returns-else-field-eq0
returns-else-field-eq0 c = split_middle c.args.x (held c.before) c.requires c.if-field-eq0.false
