-- `floats::value` meets its contract. Assumes nothing.
use Rattle.std.proofs.Common.{sym}
use lib.Ieee.{of_bits, div}
use Rattle.floats.proofs.Patterns.{pattern_nan, pattern_no_nan}
use Rattle.floats.proofs.value.Goals as goal

pub returns-then-bits-gt2139095040 : goal.returns-then-bits-gt2139095040
unfolding of_bits div
returns-then-bits-gt2139095040 c = sym (pattern_nan c.args.bits c.if-bits-gt2139095040.true)

pub float_from_bits-result : goal.float_from_bits-result
float_from_bits-result c = pattern_no_nan c.args.bits c.if-bits-gt2139095040.false
