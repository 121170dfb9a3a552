-- `interpolate::distance` meets its contract. Assumes nothing.
use mathlib.Core.Path.{ap, ◌∙◌}
use Rattle.points.specs.declared.Point3.{Point3}
use Rattle.points.specs.Points.{dist_sq_of}
use Rattle.root.specs.Root.{root_of}
use Rattle.interpolate.specs.Blend.{distance_of}
use Rattle.interpolate.proofs.distance.Goals as goal

pub returns : goal.returns
unfolding distance_of
returns c =
    let a = c.args in
    c.root.ensures ∙ ap root_of (c.dist_sq.ensures ∙ ap (λ (x : Point3). dist_sq_of x a.position) c.point_at.ensures)
