use Rattle.std.proofs.Common.{◌≡◌, ◌≤◌, drop}
use Rattle.text.specs.Number.{num_from, at_most}
use Rattle.text.proofs.digits.Given as goal

abbrev pub invariant-loop-b : goal.invariant-loop-b
invariant-loop-b l = (l.most ≡ l.limit) × (l.v ≤ l.limit) × (at_most l.limit (num_from 10 l.v (drop l.b-index l.s)) ≡ at_most l.limit (num_from 10 0 l.s))
