use lib.Ieee.{round, of_bits}
use Rattle.limits.specs.Allowed.{radius_step_ok}
use Rattle.limits.proofs.radius_step_ok.Goals as goal

pub returns : goal.returns
unfolding radius_step_ok round of_bits
returns c = c.between.ensures
