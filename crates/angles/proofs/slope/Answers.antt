-- `angles::slope` meets its contract. Assumes nothing.
use Rattle.std.proofs.Common.{ℕ, ◌≤◌, true, false, sym, subst}
use Rattle.angles.proofs.Sides.{flat_of_lem, steep_of}
use Rattle.angles.proofs.Steps.{slope_is}
use Rattle.angles.proofs.slope.Goals as goal

pub ratio_of-requires : goal.ratio_of-requires
ratio_of-requires c = let w = flat_of_lem c.args.y c.args.x c.abs-p.result c.abs-q.result c.requires c.abs-p.ensures c.abs-q.ensures c.if-p-q.true in (w.above, w.below)

pub ratio_of-requires-else-p-q : goal.ratio_of-requires-else-p-q
ratio_of-requires-else-p-q c = let w = steep_of c.args.y c.args.x c.abs-p.result c.abs-q.result c.requires c.abs-p.ensures c.abs-q.ensures c.if-p-q.false in (w.above, w.below)

pub returns-then-p-q-clause-value : goal.returns-then-p-q-clause-value
returns-then-p-q-clause-value c = slope_is c.args.y c.args.x c.abs-p.result c.abs-q.result true c.ratio_of.result c.abs-p.ensures c.abs-q.ensures c.if-p-q.true c.ratio_of.ensures

pub returns-then-p-q-clause-small : goal.returns-then-p-q-clause-small
returns-then-p-q-clause-small c = subst (λ (z : ℕ). z ≤ 2147484168) (sym c.ratio_of.ensures) (flat_of_lem c.args.y c.args.x c.abs-p.result c.abs-q.result c.requires c.abs-p.ensures c.abs-q.ensures c.if-p-q.true).top

pub returns-else-p-q-clause-value : goal.returns-else-p-q-clause-value
returns-else-p-q-clause-value c = slope_is c.args.y c.args.x c.abs-p.result c.abs-q.result false c.ratio_of-else-p-q.result c.abs-p.ensures c.abs-q.ensures c.if-p-q.false c.ratio_of-else-p-q.ensures

pub returns-else-p-q-clause-small : goal.returns-else-p-q-clause-small
returns-else-p-q-clause-small c = subst (λ (z : ℕ). z ≤ 2147484168) (sym c.ratio_of-else-p-q.ensures) (steep_of c.args.y c.args.x c.abs-p.result c.abs-q.result c.requires c.abs-p.ensures c.abs-q.ensures c.if-p-q.false).top
