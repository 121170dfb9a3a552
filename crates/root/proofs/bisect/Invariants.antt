use Prim.Native.Nat.{◌-◌, ◌*◌, ◌^◌, ◌≤◌, ◌<◌}
use Rattle.root.proofs.bisect.Given as goal

abbrev pub invariant-loop-low : goal.invariant-loop-low
invariant-loop-low l = (2 ^ 23 ≤ l.low) × (l.low < l.high) × (l.high ≤ 2 ^ 24) × (l.low * l.low ≤ l.n) × (l.n < l.high * l.high)

abbrev pub decreases-loop-low : goal.decreases-loop-low
decreases-loop-low l = l.high - l.low
