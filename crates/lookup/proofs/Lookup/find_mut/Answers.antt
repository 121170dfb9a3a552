use mathlib.Core.Path.{ap, ◌∙◌}
use Rattle.points.specs.Points.{point_at}
use Rattle.lookup.specs.Lookup.{find_of, find_mut_of, clamped_by}
use Rattle.lookup.proofs.Laws as laws
use Rattle.lookup.proofs.Lookup.find_mut.Goals as goal

pub returns-in_default : goal.returns-in_default
unfolding find_mut_of point_at
returns-in_default c =
    let a = c.args in
    laws.moved_not a.self a.coordinate.now _ _ _ (c.find-found.ensures ∙ ap (find_of a.self a.sizes a.cartesian.now a.left.now a.right.now) c.from-q.ensures) c.in_default.is

pub returns : goal.returns
unfolding find_mut_of point_at
returns c =
    let a = c.args in
    laws.moved_at a.self a.coordinate.now _ _ _ _ _ c.told-coordinate
    (c.find-found.ensures ∙ ap (find_of a.self a.sizes a.cartesian.now a.left.now a.right.now) c.from-q.ensures) c.in-At.is
    (c.normalize_radius-p.ensures ∙ ap (clamped_by a.self) c.from-q.ensures) c.into.ensures
