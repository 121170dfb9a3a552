use Rattle.neighbors.specs.Neighbors.{tilted, distant, moved}
use lib.Ieee.{of_bits, neg}
use Rattle.neighbors.proofs.step_to.Goals as goal

pub returns : goal.returns
unfolding moved tilted distant of_bits neg
returns c = cc
