use native.Mathlib.Omega.{arith}
use Rattle.lookup.specs.Build.{links_of, owned_by}
use Rattle.lookup.proofs.Links as links
use Rattle.lookup.proofs.link_place.Goals as goal

pub point_at-p-requires : goal.point_at-p-requires
point_at-p-requires c = omega arith

pub link-requires : goal.link-requires
link-requires c =
    let a = c.args in
    let h = c.requires in
    let i = links.below a.positions.now a.n (links_of a.left.now a.right.now) c.requires.0 _ c.point_at-p.ensures _ c.insert_rec.ensures in
    (omega arith, omega arith, omega arith)

pub returns : goal.returns
unfolding owned_by
returns c =
    let a = c.args in
    let l = c.link.ensures.left in
    let r = c.link.ensures.right in
    let z = links.placed a.positions.now a.n (links_of a.left.now a.right.now) c.requires.0 _ c.point_at-p.ensures _ c.insert_rec.ensures in
    cc
