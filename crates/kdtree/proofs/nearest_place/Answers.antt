use Rattle.std.proofs.Common.{◌≡◌, ◌-◌, ◌≤◌, List, ap, ◌∙◌, Float, arith}
use Rattle.points.specs.declared.Point3.{Point3}
use Rattle.points.specs.Points.{point_at}
use Rattle.kdtree.specs.Tree.{subtree}
use Rattle.kdtree.specs.Search.{search, best_of}
use Rattle.kdtree.proofs.Whole.{found_place}
use Rattle.kdtree.proofs.nearest_place.Goals as goal

pub returns : goal.returns
unfolding point_at
returns c =
    let a = c.args in
    let t = a.tree.now in
    let h : t.count - a.root ≤ t.count = omega arith in
    let e : point_at c.into-at.result 0 ≡ a.q = ap (λ (xs : List Float). point_at xs 0) c.into-at.ensures in
    found_place t.positions.now t.left.now t.right.now t.count a.root a.bounds a.q c.point_at.result c.dist_sq-dist.result c.nearest_rec.result c.point_at.ensures
    c.dist_sq-dist.ensures
    (c.nearest_rec.ensures t.count h
    ∙ ap (λ (p : Point3). search t.count p (subtree t.left.now t.right.now t.positions.now t.count t.count a.root) a.bounds 0 (best_of c.dist_sq-dist.result a.root 0)) e)
