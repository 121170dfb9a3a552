use mathlib.Core.Path.{sym, ◌∙◌}
use native.Mathlib.Omega.{arith}
use Rattle.kdtree.proofs.Step as step
use Rattle.kdtree.proofs.+insert_rec.Goals as goal

pub insert_rec-requires : goal.insert_rec-requires
insert_rec-requires t c =
    let i = step.link_to c.args.count c.args.node c.choose.result c.in-To.n (sym c.in-To.is ∙ c.link_of.ensures) in
    (omega arith, (i.below, c.requires.1))

pub returns-then-less : goal.returns-then-less
returns-then-less t c =
    let a = c.args in
    step.gone_left a.left.now a.right.now a.positions.now a.count a.p a.node a.axis c.point_at-x.result c.goes_left-less.result c.next_axis-next.result
    c.choose.result c.link_of.result c.requires.0 c.point_at-x.ensures c.goes_left-less.ensures c.next_axis-next.ensures c.choose.ensures c.link_of.ensures
    c.in-Gone.is c.if-less.true

pub returns-else-less : goal.returns-else-less
returns-else-less t c =
    let a = c.args in
    step.gone_right a.left.now a.right.now a.positions.now a.count a.p a.node a.axis c.point_at-x.result c.goes_left-less.result c.next_axis-next.result
    c.choose.result c.link_of.result c.requires.0 c.point_at-x.ensures c.goes_left-less.ensures c.next_axis-next.ensures c.choose.ensures c.link_of.ensures
    c.in-Gone.is c.if-less.false

pub returns-in-Bad : goal.returns-in-Bad
returns-in-Bad t c =
    let a = c.args in
    step.bad_at a.left.now a.right.now a.positions.now a.count a.p a.node a.axis c.point_at-x.result c.goes_left-less.result c.next_axis-next.result
    c.choose.result c.link_of.result c.requires.0 c.point_at-x.ensures c.goes_left-less.ensures c.next_axis-next.ensures c.choose.ensures c.link_of.ensures
    c.in-Bad.is

pub returns-in-To : goal.returns-in-To
returns-in-To t c =
    let a = c.args in
    step.deeper_at a.left.now a.right.now a.positions.now a.count a.p a.node a.axis c.point_at-x.result c.goes_left-less.result c.next_axis-next.result
    c.choose.result c.link_of.result c.requires.0 c.point_at-x.ensures c.goes_left-less.ensures c.next_axis-next.ensures c.choose.ensures c.link_of.ensures
    c.in-To.n c.insert_rec.result c.in-To.is c.insert_rec.ensures
