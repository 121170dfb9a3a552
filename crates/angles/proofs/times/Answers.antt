-- `angles::times` meets its contract. Assumes nothing.
use lib.Ieee.{in_float}
use Rattle.std.proofs.Common.{le_of_lt, le→leb}
use Rattle.angles.proofs.times.Goals as goal

pub int_to_float-result : goal.int_to_float-result
unfolding in_float
int_to_float-result c = le→leb c.args.w 16777216 (le_of_lt c.requires)
