use Rattle.std.proofs.Common.{◌≡◌, ◌+◌, ◌-◌, ◌*◌}
use Rattle.neighbors.specs.Neighbors.{writing}
use Rattle.neighbors.proofs.Table.{entries}
use Rattle.neighbors.proofs.Surroundings.find_neighbors.Given as goal

abbrev pub invariant-loop-direction : goal.invariant-loop-direction
invariant-loop-direction l =
    writing (entries l.self.look l.self.tree l.steps) (6 - l.direction-index) (6 * l.self.own + l.direction-index) l.neighbours ≡ writing (entries l.self.look l.self.tree l.steps) 6 (6 * l.self.own) l.fn.neighbours
