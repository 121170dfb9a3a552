use Rattle.std.proofs.Common.{false, ap, rules, sym, ◌∙◌}
use lib.Ieee.{Float}
use Rattle.clearing.specs.Clearing.{nearest_listed, listed_count, nearest_within}
use Rattle.clearing.proofs.Listed.{one, none_left, all_listed}
use Rattle.clearing.proofs.nearest_in.Goals as goal

pub loop-n-preserved : goal.loop-n-preserved
loop-n-preserved c =
    let a = c.args in
    one a.xs.now a.m a.q _ c.loop-n.n-index c.loop-n.s _ c.loop-n-test.true (rw (← c.from.ensures) c.beside-s.ensures) ∙ c.loop-n.invariant

pub returns : goal.returns
unfolding nearest_within
returns c =
    let a = c.args in
    let l = c.loop-n in
    sym (none_left a.xs.now a.m a.q _ l.n-index l.s c.loop-n-test.false) ∙ l.invariant ∙ all_listed a.xs.now a.m a.q a.c c.min.result _ c.min.ensures (search rules)
    ∙ ap (λ (d : Float). nearest_listed a.xs.now a.m a.q a.c.places (listed_count a.c) 0 (record { place = a.own; dist = d; tied = false })) (rw (← c.point_at.ensures) c.dist_sq.ensures)
