use Rattle.std.proofs.Common.{◌-◌}
use Rattle.kdtree.proofs.+insert_rec.Given as goal

abbrev pub decreases-insert_rec : goal.decreases-insert_rec
decreases-insert_rec l = l.count - l.node
