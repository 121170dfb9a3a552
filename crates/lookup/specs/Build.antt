-- What a set is looked up by, built from its Cartesian list: the links of its places in place order, the box, and the six bounds. Definitions only.
use Rattle.std.specs.Prelude.{List, [], ◌∷◌, ◌++◌, ℕ, zero, suc, Float}
use Rattle.std.specs.Float.{binary32}
use Rattle.std.specs.Float.Ieee.{of_bits}
use Rattle.floats.specs.Floats.{min_of, max_of}
use Rattle.lists.specs.Over.{over}
use Rattle.points.specs.Points.{point_at}
use Rattle.kdtree.specs.declared.BoundingBox.{BoundingBox}
use Rattle.kdtree.specs.declared.Slot.{Slot}
use Rattle.kdtree.specs.Geometry.{box_at, grown}
use Rattle.kdtree.specs.Tree.{subtree}
use Rattle.kdtree.specs.Insert.{slot_in, left_linked, right_linked}
use Rattle.coords.specs.declared.Spherical.{Spherical}
use Rattle.coords.specs.Coords.{spherical_of}
use Rattle.lookup.specs.declared.Lookup.{Lookup}

-- ---- the links

pub record Links : Type 0 where
  pub left : List ℕ
  pub right : List ℕ

abbrev pub links_of : List ℕ → List ℕ → Links
links_of l r = record { left = l; right = r }

-- the side that the place n goes to leads to it now
unfoldable pub owned_by : Slot → ℕ → Links → Links
owned_by s n a = links_of (left_linked s n a.left) (right_linked s n a.right)

-- where the place n goes in the tree of the n places before it: nowhere if there are none
abbrev pub slot_at : List Float → ℕ → Links → Slot
slot_at xs n a = slot_in (point_at xs n) (subtree a.left a.right xs n n 0) 0

unfoldable pub owned_at : List Float → ℕ → Links → Links
owned_at xs n a = owned_by (slot_at xs n a) n a

-- a new place, with both sides absent
abbrev pub with_leaf : Links → Links
with_leaf a = links_of (a.left ++ (65535 ∷ [])) (a.right ++ (65535 ∷ []))

-- the links of the first n places, filled in place order
unfoldable pub linked : List Float → ℕ → Links
linked xs zero = links_of [] []
linked xs (suc n) = with_leaf (owned_at xs n (linked xs n))

-- links written to the front of two lists
abbrev pub over_both : Links → Links → Links
over_both a d = links_of (over a.left d.left) (over a.right d.right)

-- ---- the box and the six bounds

-- of the places 0 to n
unfoldable pub box_to : List Float → ℕ → BoundingBox
box_to xs zero = box_at (point_at xs 0)
box_to xs (suc n) = grown (box_to xs n) (point_at xs (suc n))

-- of the first n places
unfoldable pub box_of : List Float → ℕ → BoundingBox
unfolding box_to
box_of xs zero = box_to xs 0
box_of xs (suc n) = box_to xs n

-- the largest f32, and its negative
abbrev pub top32 : Float
top32 = of_bits binary32 0x7f7fffff

abbrev pub bottom32 : Float
bottom32 = of_bits binary32 0xff7fffff

-- the least and the greatest azimuth, elevation or radius of the first n places
unfoldable pub least_of : (Spherical → Float) → List Float → ℕ → Float
least_of part xs zero = top32
least_of part xs (suc n) = min_of (least_of part xs n) (part (spherical_of (point_at xs n)))

unfoldable pub greatest_of : (Spherical → Float) → List Float → ℕ → Float
greatest_of part xs zero = bottom32
greatest_of part xs (suc n) = max_of (greatest_of part xs n) (part (spherical_of (point_at xs n)))

unfoldable pub lookup_of : List Float → ℕ → Lookup
lookup_of xs n = record {
  bounds = box_of xs n;
  phi_min = least_of (λ s. s.azimuth) xs n;
  phi_max = greatest_of (λ s. s.azimuth) xs n;
  theta_min = least_of (λ s. s.elevation) xs n;
  theta_max = greatest_of (λ s. s.elevation) xs n;
  radius_min = least_of (λ s. s.radius) xs n;
  radius_max = greatest_of (λ s. s.radius) xs n;
}

-- a lookup with the box given and nothing measured, and with one measurement more
unfoldable pub unmeasured : BoundingBox → Lookup
unmeasured b = record { bounds = b; phi_min = top32; phi_max = bottom32; theta_min = top32; theta_max = bottom32; radius_min = top32; radius_max = bottom32 }

unfoldable pub widened : Lookup → BoundingBox → Spherical → Lookup
widened look b s = record {
  bounds = b;
  phi_min = min_of look.phi_min s.azimuth;
  phi_max = max_of look.phi_max s.azimuth;
  theta_min = min_of look.theta_min s.elevation;
  theta_max = max_of look.theta_max s.elevation;
  radius_min = min_of look.radius_min s.radius;
  radius_max = max_of look.radius_max s.radius;
}

-- ---- the call

-- what a build answers, and what the two lists then hold
pub record Built : Type 0 where
  pub lookup : Lookup
  pub links : Links

abbrev pub built_as : Lookup → Links → Built
built_as look a = record { lookup = look; links = a }

unfoldable pub build_of : List Float → ℕ → Links → Built
build_of xs n d = built_as (lookup_of xs n) (over_both (linked xs n) d)
