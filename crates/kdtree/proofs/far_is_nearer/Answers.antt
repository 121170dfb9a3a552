use Rattle.points.specs.Points.{point_at}
use Rattle.kdtree.proofs.Plane.{passed_by, by_box}
use Rattle.kdtree.proofs.far_is_nearer.Goals as goal

pub returns-then-dist-to_plane : goal.returns-then-dist-to_plane
returns-then-dist-to_plane c =
    let o = c.before in
    let z = o.before.before in
    let a = z.args in
    passed_by a.rect a.axis a.v a.go_left (point_at a.q.now 0) a.dist o.query_coord-x.result o.min_at.result o.query_coord-x.ensures
    o.min_at.ensures z.requires.1 c.if-dist-to_plane.true

pub returns : goal.returns
returns c = by_box _ _ _ _ _ _ c.farther_box-far.ensures c.from.ensures c.dist_sq.ensures
