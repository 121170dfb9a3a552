use Rattle.std.proofs.Common.{◌≡◌, ◌≤◌, length, take, drop}
use Rattle.lists.specs.Over.{over}
use Rattle.text.specs.Lines.{cut}
use Rattle.text.proofs.next_line.Given as goal

abbrev pub invariant-loop-i : goal.invariant-loop-i
invariant-loop-i l = (l.u ≤ length l.initial.buf) × (length l.buf ≡ length l.initial.buf) × (cut (take (length l.initial.buf)) (take l.u l.buf) (drop l.i l.chunk) ≡ cut (take (length l.initial.buf)) (take l.used l.initial.buf) (drop l.from l.chunk)) × (l.buf ≡ over (take l.u l.buf) l.initial.buf)
