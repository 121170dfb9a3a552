use Prim.Native.Nat.{◌-◌, ◌≤◌}
use mathlib.Core.Path.{◌≡◌}
use lib.ListN.{length, take, drop}
use Rattle.sofaquery.specs.Calls.{here, stand_at, Made}
use Rattle.sofaquery.proofs.run.Given as goal

abbrev pub invariant-loop : goal.invariant-loop
invariant-loop l =
    (l.counter ≤ 18446744073709551615) × (l.went.have ≤ 65536) × (length l.chunk ≡ 65536) × Made (18446744073709551615 - l.counter) (stand_at (here l.went.run l.memory) (drop l.went.at (take l.went.have l.chunk)) l.went.flow)
