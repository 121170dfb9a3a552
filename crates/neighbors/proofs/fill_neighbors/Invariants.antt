use Rattle.std.proofs.Common.{◌≡◌, ◌-◌, ◌*◌}
use Rattle.neighbors.specs.Neighbors.{writing}
use Rattle.neighbors.proofs.Table.{entries}
use Rattle.neighbors.proofs.fill_neighbors.Given as goal

abbrev pub invariant-loop-i : goal.invariant-loop-i
invariant-loop-i l =
    writing (entries l.look l.tree l.steps) (6 * l.tree.count - 6 * l.i) (6 * l.i) l.neighbours ≡ writing (entries l.look l.tree l.steps) (6 * l.tree.count) 0 l.fn.neighbours
