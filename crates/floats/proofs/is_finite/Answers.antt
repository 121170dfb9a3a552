-- `is_finite` meets its contract. Assumes nothing.
use lib.Ieee.{of_bits, div, neg}
use Rattle.floats.proofs.Tests.{finite_is}
use Rattle.floats.proofs.is_finite.Goals as goal

pub returns : goal.returns
unfolding of_bits div neg
returns c = finite_is c.args.x
