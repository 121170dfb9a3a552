use lib.Ieee.{round, of_bits}
use Rattle.limits.specs.Allowed.{rate_ok}
use Rattle.limits.proofs.rate_ok.Goals as goal

pub returns : goal.returns
unfolding rate_ok round of_bits
returns c = c.between.ensures
