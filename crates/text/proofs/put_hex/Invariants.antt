use Rattle.std.proofs.Common.{◌≡◌, ◌-◌, ◌^◌, ◌≤◌, ◌<◌, length}
use Rattle.lists.specs.Over.{over, upto}
use Rattle.text.specs.Print.{digit_at}
use Rattle.text.proofs.put_hex.Given as goal

abbrev pub invariant-loop-i : goal.invariant-loop-i
invariant-loop-i l = (8 ≤ length l.initial.out) × (l.i < 8 → l.p ≡ 16 ^ (7 - l.i)) × (l.out ≡ over (upto (digit_at l.x) l.i) l.initial.out)
