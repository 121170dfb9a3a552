use Rattle.std.proofs.Common.{◌-◌}
use Rattle.kdtree.proofs.+nearest_rec.Given as goal

abbrev pub decreases-nearest_rec : goal.decreases-nearest_rec
decreases-nearest_rec l = l.tree.now.count - l.node
