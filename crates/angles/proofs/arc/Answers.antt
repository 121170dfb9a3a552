-- `angles::arc` meets its contract. Assumes nothing.
use Rattle.std.proofs.Common.{ap₂}
use lib.Ieee.{Float, of_bits, le}
use Rattle.angles.proofs.Steps.{arc_is}
use Rattle.angles.proofs.arc.Goals as goal

pub returns : goal.returns
unfolding of_bits
returns c = arc_is c.args.y c.args.x (le c.abs.result c.abs-2.result) c.slope.result c.arc_size.result c.signed.result (ap₂ (λ (u v : Float). le u v) c.abs.ensures c.abs-2.ensures) c.slope.ensures.value c.arc_size.ensures c.signed.ensures
