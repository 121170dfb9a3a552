use Rattle.std.proofs.Common.{◌≡◌, drop}
use Rattle.limits.specs.Allowed.{bad_from, position_ok}
use Rattle.limits.proofs.judge_positions.Given as goal

abbrev pub invariant-loop-i : goal.invariant-loop-i
invariant-loop-i l = bad_from (position_ok l.kind) l.i (drop l.i l.xs) ≡ bad_from (position_ok l.kind) 0 l.xs
