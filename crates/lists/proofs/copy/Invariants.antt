use Rattle.std.proofs.Common.{◌≡◌, take}
use Rattle.lists.specs.Over.{over}
use Rattle.lists.proofs.copy.Given as goal

abbrev pub invariant-loop-i : goal.invariant-loop-i
invariant-loop-i g l = l.dst ≡ over (take l.i l.src) l.initial.dst
