-- Coordinates and boxes, by the operations of binary32, as document 01 has them ("Distance, tree, tie").
use Rattle.std.specs.Prelude.{◌≡◌, refl, ℕ, zero, suc, ◌+◌, Bool, false, not, cond, T, Float}
use Rattle.std.specs.Float.{nan, inf, fin, binary32}
use Rattle.std.specs.Float.Ieee.{add, sub, lt, le}
use Rattle.floats.specs.Floats.{zero32}
use Rattle.points.specs.declared.Point3.{Point3}
use Rattle.points.specs.Points.{gap}
use Rattle.kdtree.specs.declared.BoundingBox.{BoundingBox}

-- one of three by the axis: 0, 1, and 2 (or anything else)
unfoldable pub byAxis {ℓ} : {A : Type ℓ} → ℕ → A → A → A → A
byAxis zero a b c = a
byAxis (suc zero) a b c = b
byAxis (suc (suc n)) a b c = c

pub byAxis-else {ℓ} : {A : Type ℓ} (n : ℕ) (a b c : A) → (n ≡ 0 → ⊥) → (n ≡ 1 → ⊥) → byAxis n a b c ≡ c
unfolding byAxis
byAxis-else zero a b c f g = absurd (f refl)
byAxis-else (suc zero) a b c f g = absurd (g refl)
byAxis-else (suc (suc n)) a b c f g = refl

unfoldable pub coord_of : Point3 → ℕ → Float
unfolding byAxis
coord_of p n = byAxis n p.x p.y p.z

-- the axis is the depth mod 3
unfoldable pub next_axis : ℕ → ℕ
unfolding byAxis
next_axis n = byAxis n 1 2 0

-- ---- distance to a box

-- one axis of a box's distance: added only where q lies outside of it
unfoldable pub outside : Float → Float → Float → Float → Float
outside sum min max q = cond (lt q min) (add binary32 sum (gap min q)) (cond (lt max q) (add binary32 sum (gap max q)) sum)

-- such a sum so far: a number, and not negative, so not -0
unfoldable pub firm : Float → Bool
firm nan = false
firm (inf s) = not s
firm (fin s m e) = not s

abbrev pub Firm : Float → Type 0
Firm x = T (firm x)

-- from +0, in the order x, y, z
unfoldable pub box_dist_sq : BoundingBox → Point3 → Float
box_dist_sq b q = outside (outside (outside zero32 b.min_x b.max_x q.x) b.min_y b.max_y q.y) b.min_z b.max_z q.z

-- ---- boxes

-- the box of one point
unfoldable pub box_at : Point3 → BoundingBox
box_at p = record { min_x = p.x; min_y = p.y; min_z = p.z; max_x = p.x; max_y = p.y; max_z = p.z }

abbrev pub lower : Float → Float → Float
lower m v = cond (lt v m) v m

abbrev pub upper : Float → Float → Float
upper m v = cond (lt m v) v m

-- the box grows by strict comparison
unfoldable pub grown : BoundingBox → Point3 → BoundingBox
grown b p = record {
  min_x = lower b.min_x p.x;
  min_y = lower b.min_y p.y;
  min_z = lower b.min_z p.z;
  max_x = upper b.max_x p.x;
  max_y = upper b.max_y p.y;
  max_z = upper b.max_z p.z;
}

-- the corner coordinates on an axis
unfoldable pub min_at : BoundingBox → ℕ → Float
min_at b n = byAxis n b.min_x b.min_y b.min_z

unfoldable pub max_at : BoundingBox → ℕ → Float
max_at b n = byAxis n b.max_x b.max_y b.max_z

-- one corner replaced
unfoldable pub with_min : BoundingBox → ℕ → Float → BoundingBox
unfolding byAxis
with_min b n v =
    byAxis n (record { min_x = v; min_y = b.min_y; min_z = b.min_z; max_x = b.max_x; max_y = b.max_y; max_z = b.max_z })
    (record { min_x = b.min_x; min_y = v; min_z = b.min_z; max_x = b.max_x; max_y = b.max_y; max_z = b.max_z })
    (record { min_x = b.min_x; min_y = b.min_y; min_z = v; max_x = b.max_x; max_y = b.max_y; max_z = b.max_z })

unfoldable pub with_max : BoundingBox → ℕ → Float → BoundingBox
unfolding byAxis
with_max b n v =
    byAxis n (record { min_x = b.min_x; min_y = b.min_y; min_z = b.min_z; max_x = v; max_y = b.max_y; max_z = b.max_z })
    (record { min_x = b.min_x; min_y = b.min_y; min_z = b.min_z; max_x = b.max_x; max_y = v; max_z = b.max_z })
    (record { min_x = b.min_x; min_y = b.min_y; min_z = b.min_z; max_x = b.max_x; max_y = b.max_y; max_z = v })

-- the number of such a corner, from 0 to 5: the least x, y, z, then the greatest
unfoldable pub corner_of : ℕ → Bool → ℕ
corner_of n greatest = byAxis n 0 1 2 + cond greatest 3 0

-- ---- the two sides of a node

-- insert: strictly less than the node's coordinate goes left, otherwise right
unfoldable pub goes_left : Point3 → Point3 → ℕ → Bool
goes_left p x axis = lt (coord_of p axis) (coord_of x axis)

-- search: query minus node ≤ 0 means left first
unfoldable pub left_first : Point3 → Point3 → ℕ → Bool
left_first q p axis = le (sub binary32 (coord_of q axis) (coord_of p axis)) zero32
