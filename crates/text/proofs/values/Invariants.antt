use Rattle.std.proofs.Common.{◌≡◌, ◌+◌, ◌≤◌, true, length}
use Rattle.lists.specs.Over.{into, upto}
use Rattle.text.specs.Values.{values_ok, value_at}
use Rattle.text.proofs.values.Given as goal

abbrev pub invariant-loop-k : goal.invariant-loop-k
invariant-loop-k l = (l.at + l.n ≤ length l.initial.out) × (values_ok l.s l.n ≡ true) × (l.out ≡ into l.at (upto (value_at l.s) l.k) l.initial.out)
