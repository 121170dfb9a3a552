-- The squared distance of two points: not negative for finite ones, NaN with a NaN. Assumes nothing.
use mathlib.Core.Path.{◌≡◌, ap, ◌∙◌}
use mathlib.Core.Logic.{◌⊎◌, inl, inr}
use lib.Dec.{T}
use lib.Ieee.{Float, nan, binary32, add, fits}
use lib.Ieee.Fits.{add-fits}
use Rattle.floats.proofs.Preorder.{number}
use Rattle.floats.proofs.Sign.{nonneg}
use Rattle.floats.proofs.Ops.{nonneg_number, add_nonneg}
use Rattle.points.specs.declared.Point3.{Point3}
use Rattle.points.specs.Points.{gap, dist_sq_of, Finite}
use Rattle.points.proofs.Gap.{add_nan_l, add_nan_r, gap_nan, gap_comm, gap_finite}

-- of finite points it is no `nan`: it is finite and not negative, or +infinity
pub dist_nonneg : (a b : Point3) → Finite a → Finite b → T (nonneg (dist_sq_of a b))
unfolding dist_sq_of
dist_nonneg a b p q =
    let x = gap a.x b.x in
    let y = gap a.y b.y in
    let z = gap a.z b.z in
    let X = gap_finite a.x b.x p.x q.x in
    let Y = gap_finite a.y b.y p.y q.y in
    let Z = gap_finite a.z b.z p.z q.z in
    add_nonneg binary32 (add binary32 x y) z (add_nonneg binary32 x y X Y) Z

pub dist_number : (a b : Point3) → Finite a → Finite b → T (number (dist_sq_of a b))
dist_number a b p q = nonneg_number (dist_sq_of a b) (dist_nonneg a b p q)

-- with a `nan` in a coordinate of either it is `nan`
gap_nan_r : (x y : Float) → y ≡ nan → gap x y ≡ nan
gap_nan_r x y e = gap_comm x y ∙ ap (λ (z : Float). gap z x) e ∙ gap_nan x

pub dist_nan : (a p : Point3) → (p.x ≡ nan) ⊎ ((p.y ≡ nan) ⊎ (p.z ≡ nan)) → dist_sq_of a p ≡ nan
unfolding dist_sq_of
dist_nan a p (inl e) =
    ap (λ (z : Float). add binary32 (add binary32 z (gap a.y p.y)) (gap a.z p.z)) (gap_nan_r a.x p.x e)
    ∙ ap (λ (z : Float). add binary32 z (gap a.z p.z)) (add_nan_l (gap a.y p.y)) ∙ add_nan_l (gap a.z p.z)
dist_nan a p (inr (inl e)) =
    ap (λ (z : Float). add binary32 (add binary32 (gap a.x p.x) z) (gap a.z p.z)) (gap_nan_r a.y p.y e)
    ∙ ap (λ (z : Float). add binary32 z (gap a.z p.z)) (add_nan_r (gap a.x p.x)) ∙ add_nan_l (gap a.z p.z)
dist_nan a p (inr (inr e)) =
    ap (λ (z : Float). add binary32 (add binary32 (gap a.x p.x) (gap a.y p.y)) z) (gap_nan_r a.z p.z e)
    ∙ add_nan_r (add binary32 (gap a.x p.x) (gap a.y p.y))

-- as a sum it is a value of the format
pub dist_fits : (a b : Point3) → T (fits binary32 (dist_sq_of a b))
unfolding dist_sq_of
dist_fits a b = add-fits binary32 (add binary32 (gap a.x b.x) (gap a.y b.y)) (gap a.z b.z)
