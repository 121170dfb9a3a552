-- `sines::rounded` meets its contract. Assumes nothing.
use Rattle.std.proofs.Common.{T, sym, subst}
use lib.Ieee.{of_bits}
use Rattle.sines.proofs.Waves.{single_yes, single_over, single_under}
use Rattle.sines.proofs.rounded.Goals.{else-v-via-then-v+else-v-2, else-v-via-else-v}
use Rattle.sines.proofs.rounded.Goals as goal

pub narrow-requires : goal.narrow-requires
unfolding of_bits
narrow-requires c = (subst T (sym c.if-v.true) tt, subst T (sym c.if-v-2.true) tt)

pub returns-then-v-2 : goal.returns-then-v-2
unfolding of_bits
returns-then-v-2 c = single_yes c.args.minus c.args.v c.narrow.result c.if-v.true c.if-v-2.true c.narrow.ensures

pub returns-else-v : goal.returns-else-v
unfolding of_bits
returns-else-v c = elim c.else-v.branch [
  | else-v-via-then-v+else-v-2 w ↦ single_over c.args.minus c.args.v w.if-v.true w.if-v-2.false
  | else-v-via-else-v w ↦ single_under c.args.minus c.args.v w.if-v.false
]
