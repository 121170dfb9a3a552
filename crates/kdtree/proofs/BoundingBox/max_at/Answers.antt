use mathlib.Core.Path.{ap, ◌∙◌}
use mathlib.Core.List.{[], ◌∷◌}
use native.Mathlib.Omega.{arith}
use Prim.Native.Nat.{ℕ}
use lib.ListN.{get_or}
use lib.Ieee.{nan}
use Rattle.kdtree.specs.Geometry.{max_at}
use Rattle.kdtree.proofs.Corners.{low_most, at_index}
use Rattle.kdtree.proofs.BoundingBox.max_at.Goals as goal

pub offset_bounds-corners-at : goal.offset_bounds-corners-at
offset_bounds-corners-at c =
    let e = c.index_of-at.ensures in
    let h = low_most c.args.axis in
    omega arith

pub bounds-corners-at : goal.bounds-corners-at
bounds-corners-at c =
    let e = c.index_of-at.ensures in
    let h = low_most c.args.axis in
    omega arith

pub returns : goal.returns
unfolding max_at
returns c =
    let b = c.args.self in
    ap (λ (k : ℕ). get_or (b.max_x ∷ b.max_y ∷ b.max_z ∷ []) k nan) c.index_of-at.ensures ∙ at_index c.args.axis b.max_x b.max_y b.max_z
