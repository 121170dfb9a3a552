-- `interpolate::Measurements::closer_neighbor` meets its contract. Assumes nothing.
use Prim.Native.Nat.{◌+◌}
use mathlib.Core.Path.{◌∙◌}
use Rattle.std.proofs.lemmas.Result.{err_from_is_err_and}
use Rattle.interpolate.specs.Blend.{distance_of, entry}
use Rattle.interpolate.proofs.Laws.{met_within, pair_bad, pair_met}
use Rattle.interpolate.proofs.Measurements.closer_neighbor.Goals as goal

pub meet-requires : goal.meet-requires
meet-requires c = met_within c.args.self.now.filters.responses.m _ _ c.entry_at-a.ensures

pub returns-in_err-first : goal.returns-in_err-first
returns-in_err-first c =
    let a = c.args in
    let t = a.self.now in
    let near = t.neighbours.now in
    (err_from_is_err_and c.from_residual.result c.from_residual.ensures.1).1
    ∙ pair_bad t.filters.responses.m (distance_of t.cartesian.now a.position) (entry near a.k a.j) (entry near a.k (a.j + 1)) _ _
    c.entry_at-a.ensures c.meet.ensures _ c.in_err-first.was

pub meet-requires-2 : goal.meet-requires-2
meet-requires-2 c = met_within c.args.self.now.filters.responses.m _ _ c.entry_at-b.ensures

pub returns : goal.returns
returns c =
    let a = c.args in
    let t = a.self.now in
    let near = t.neighbours.now in
    c.meet-2.ensures
    ∙ pair_met t.filters.responses.m (distance_of t.cartesian.now a.position) (entry near a.k a.j) (entry near a.k (a.j + 1)) _ _
    c.entry_at-a.ensures c.meet.ensures _ _ c.in_ok-first.was c.entry_at-b.ensures
