-- `angles::atan_of` meets its contract. Assumes nothing.
use Rattle.std.proofs.Common.{true, false}
use lib.Ieee.{of_bits, neg}
use Rattle.angles.proofs.Axis.{tan_pi, tan_zero, tan_arc, usable_of}
use Rattle.angles.proofs.atan_of.Goals as goal

pub arc_best-requires : goal.arc_best-requires
unfolding of_bits neg
arc_best-requires c = usable_of c.args.y c.args.x c.requires c.if-y.false

pub returns-then-y-2 : goal.returns-then-y-2
unfolding of_bits neg
returns-then-y-2 c = tan_pi c.args.y c.args.x c.behind.result true c.if-y.true c.behind.ensures c.if-behind.true c.if-y-2.true

pub returns-else-y-2 : goal.returns-else-y-2
unfolding of_bits neg
returns-else-y-2 c = tan_pi c.args.y c.args.x c.behind.result false c.if-y.true c.behind.ensures c.if-behind.true c.if-y-2.false

pub returns-else-behind : goal.returns-else-behind
unfolding of_bits neg
returns-else-behind c = tan_zero c.args.y c.args.x c.behind.result c.if-y.true c.behind.ensures c.if-behind.false

pub returns-else-y : goal.returns-else-y
unfolding of_bits neg
returns-else-y c = tan_arc c.args.y c.args.x c.arc_best.result c.if-y.false c.arc_best.ensures
