use Rattle.std.proofs.Common.{◌≡◌, ◌+◌, ◌*◌, true, length}
use Rattle.text.specs.Values.{good_at, all_below}
use Rattle.text.proofs.values_ok.Given as goal

abbrev pub invariant-loop-k : goal.invariant-loop-k
invariant-loop-k l = (length l.s + 1 ≡ 9 * l.n) × (all_below (good_at l.s l.n) l.k ≡ true)
