use mathlib.Core.Path.{◌≡◌}
use Rattle.lookup.specs.Build.{lookup_of}
use Rattle.lookup.proofs.Lookup.measured.Given as goal

abbrev pub invariant-loop-i : goal.invariant-loop-i
invariant-loop-i l = l.look ≡ lookup_of l.positions l.i
