use Rattle.std.proofs.Common.{reverse, ◌≡◌}
use Rattle.std.proofs.Math.ListN.{take}
use Rattle.sines.specs.Steps.{nest}
use Rattle.angles.proofs.nest.Given as goal

abbrev pub invariant-loop-c : goal.invariant-loop-c
invariant-loop-c l = l.h ≡ nest 1073741824 l.t (reverse (take l.c-index l.divisors))
