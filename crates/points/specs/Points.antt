-- A list of coordinates, three to a point, and the squared distance of document 01's "Distance, tree, tie". Definitions only.
use Rattle.std.specs.Prelude.{List, [], ◌∷◌, ℕ, ◌+◌, ◌*◌, get_or, T, Float}
use Rattle.std.specs.Float.{nan, binary32}
use Rattle.std.specs.Float.Ieee.{add, sub, mul}
use Rattle.std.specs.Float.Ieee.Scale.{finite}
use Rattle.points.specs.declared.Point3.{Point3}

-- the point at a place: places count from 0
unfoldable pub point_at : List Float → ℕ → Point3
point_at xs place = record { x = get_or xs (3 * place) nan; y = get_or xs (3 * place + 1) nan; z = get_or xs (3 * place + 2) nan }

-- a point's coordinates, as a list
abbrev pub listed : Point3 → List Float
listed p = p.x ∷ p.y ∷ p.z ∷ []

-- the square of a difference: the source's `powi(2)` is one product
abbrev pub gap : Float → Float → Float
gap a b = mul binary32 (sub binary32 a b) (sub binary32 a b)

-- (dx·dx + dy·dy) + dz·dz
unfoldable pub dist_sq_of : Point3 → Point3 → Float
dist_sq_of a b = add binary32 (add binary32 (gap a.x b.x) (gap a.y b.y)) (gap a.z b.z)

-- a point with finite coordinates
pub record Finite (p : Point3) : Type 0 where
  pub x : T (finite p.x)
  pub y : T (finite p.y)
  pub z : T (finite p.z)
