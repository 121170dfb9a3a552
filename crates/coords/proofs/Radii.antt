-- The radius of a point without a NaN is a number and not negative, +∞ where it overflows. Assumes nothing.
use lib.Dec.{T}
use lib.Ieee.{binary32, add, mul}
use lib.Ieee.Fits.{add-fits}
use Rattle.floats.proofs.Preorder.{number}
use Rattle.floats.proofs.Sign.{nonneg}
use Rattle.floats.proofs.Ops.{sq_nonneg, add_nonneg}
use Rattle.points.specs.declared.Point3.{Point3}
use Rattle.root.proofs.Laws.{root_of_nonneg}
use Rattle.coords.specs.Coords.{flat_of, radius_of}

pub radius_nonneg : (p : Point3) → T (number p.x) → T (number p.y) → T (number p.z) → T (nonneg (radius_of p))
unfolding radius_of
radius_nonneg p x y z =
    let flat = add_nonneg binary32 (mul binary32 p.x p.x) (mul binary32 p.y p.y) (sq_nonneg binary32 p.x x) (sq_nonneg binary32 p.y y) in
    root_of_nonneg (add binary32 (flat_of p) (mul binary32 p.z p.z))
    (add-fits binary32 (flat_of p) (mul binary32 p.z p.z))
    (add_nonneg binary32 (flat_of p) (mul binary32 p.z p.z) flat (sq_nonneg binary32 p.z z))
