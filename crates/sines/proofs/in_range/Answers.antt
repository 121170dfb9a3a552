-- `sines::in_range` meets its contract. Assumes nothing.
use Rattle.std.proofs.Common.{refl}
use lib.Ieee.{of_bits, neg}
use Rattle.sines.proofs.in_range.Goals as goal

pub returns : goal.returns
unfolding of_bits neg
returns c = refl
