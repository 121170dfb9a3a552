use Rattle.std.proofs.Common.{◌≡◌, replicate}
use Rattle.floats.specs.Floats.{zero32}
use Rattle.lists.specs.Over.{over}
use Rattle.lists.proofs.zeros.Given as goal

abbrev pub invariant-loop-x : goal.invariant-loop-x
invariant-loop-x l = l.x-items ≡ over (replicate l.x-index zero32) l.initial.x-items
