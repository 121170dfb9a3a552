use lib.Ieee.{of_bits}
use Rattle.kdtree.proofs.OneProduct.{firm_zero}
use Rattle.kdtree.proofs.BoundingBox.dist_sq.Goals as goal

pub beyond-x-requires : goal.beyond-x-requires
unfolding of_bits
beyond-x-requires c = firm_zero
