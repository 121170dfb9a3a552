use Rattle.kdtree.proofs.Corners.{made}
use Rattle.kdtree.proofs.BoundingBox.side.Goals as goal

pub returns : goal.returns
returns c =
    let o = c.before.before.before.before.before.before in
    let a = o.args in
    made a.self a.axis a.v a.left o.corner-k.result o.corner-k.ensures c.choose.ensures
    c.choose-2.ensures c.choose-3.ensures c.choose-4.ensures c.choose-5.ensures
    c.choose-6.ensures
