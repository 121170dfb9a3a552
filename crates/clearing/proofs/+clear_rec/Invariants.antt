use Rattle.std.proofs.Common.{◌-◌}
use Rattle.clearing.proofs.+clear_rec.Given as goal

-- good links climb, so the count less the place falls
abbrev pub decreases-clear_rec : goal.decreases-clear_rec
decreases-clear_rec l = l.tree.now.count - l.node
