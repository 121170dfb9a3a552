-- Document 01's proved examples, P1 to P12, as one table. P1 to P7: what is loaded into a bare tree, in this order, the query, and the answer; of P6 also that
-- both distances are infinite. P8 to P11: a point and what the radius clamp makes of it, radii all 1; of P11 also that r is infinite. P12: an angle step and its
-- cap. The theorem `table` is in proofs/Table.antt. Definitions only.
use Rattle.std.specs.Prelude.{◌≡◌, false, List, [], ◌∷◌, ℕ, replicate, Float, Option, None, Some, Result, Ok}
use Rattle.std.specs.Float.{nan, inf, binary32}
use Rattle.std.specs.Float.Ieee.{of_bits}
use Rattle.floats.specs.Floats.{one32}
use Rattle.points.specs.declared.Point3.{Point3}
use Rattle.refusals.specs.declared.Refusal.{Refusal}
use Rattle.lists.specs.Each.{Each}
use Rattle.kdtree_laws.specs.Demand3.{Numbered, dist_to, Bare, empty, fill, nearest_in}
use Rattle.coords.specs.Coords.{radius_of}
use Rattle.lookup.specs.Lookup.{clamped_to}
use Rattle.neighbors.specs.Neighbors.{angle_cap}

-- a point by the bits of its coordinates, and a measurement
abbrev point_from : ℕ → ℕ → ℕ → Point3
point_from x y z = record { x = of_bits binary32 x; y = of_bits binary32 y; z = of_bits binary32 z }

abbrev as_number : ℕ → Point3 → Numbered
as_number n p = record { number = n; point = p }

abbrev origin : Point3
origin = point_from 0 0 0

-- room for four, in lists and a box that hold nonsense
unfoldable pub blank : Bare
blank =
    empty (record { positions = replicate 12 nan; left = replicate 4 7; right = replicate 4 7; numbers = replicate 4 9 })
    (record { min_x = nan; min_y = nan; min_z = nan; max_x = nan; max_y = nan; max_z = nan })

pub data Row : Type 0 where
  -- measurements loaded, a query, the answer
  tree : List Numbered → Point3 → Result (Option ℕ) Refusal → Row
  -- measurements whose squared distance from a query is +infinity
  far : List Numbered → Point3 → Row
  -- a point, and what it is clamped to between the radii 1 and 1
  clamp : Point3 → Point3 → Row
  -- a point whose r is +infinity
  overflow : Point3 → Row
  -- an angle step, and its cap
  cap : Float → ℕ → Row

abbrev pub Holds : Row → Type 0
Holds (tree loaded query answer) = nearest_in (fill loaded blank) query ≡ answer
Holds (far measured query) = Each (λ (m : Numbered). dist_to query m ≡ inf false) measured
Holds (clamp point drawn) = clamped_to one32 one32 point ≡ drawn
Holds (overflow point) = radius_of point ≡ inf false
Holds (cap step steps) = angle_cap step ≡ steps

-- none: nothing
abbrev pub p1 : Row
p1 = tree [] origin (Ok None)

-- (0,0,0), (2,0,0), query (1,0,0): 0
abbrev pub p2 : Row
p2 = tree (as_number 0 origin ∷ as_number 1 (point_from 0x40000000 0 0) ∷ []) (point_from 0x3f800000 0 0) (Ok (Some 0))

-- the same two inserted in reverse, each keeping its number: 1
abbrev pub p3 : Row
p3 = tree (as_number 1 (point_from 0x40000000 0 0) ∷ as_number 0 origin ∷ []) (point_from 0x3f800000 0 0) (Ok (Some 1))

-- (10,0,0), (1,0,0), (-1,0,0), query origin: 1
abbrev pub p4 : Row
p4 = tree (as_number 0 (point_from 0x41200000 0 0) ∷ as_number 1 (point_from 0x3f800000 0 0) ∷ as_number 2 (point_from 0xbf800000 0 0) ∷ []) origin (Ok (Some 1))

-- (0,0,0), (0,1,0), query (0,1,0): 1
abbrev pub p5 : Row
p5 = tree (as_number 0 origin ∷ as_number 1 (point_from 0 0x3f800000 0) ∷ []) (point_from 0 0x3f800000 0) (Ok (Some 1))

-- (3e38,0,0), (1e38,0,0), query (-3e38,0,0): 0, both distances infinite
abbrev pub p6a : Row
p6a = tree (as_number 0 (point_from 0x7f61b1e6 0 0) ∷ as_number 1 (point_from 0x7e967699 0 0) ∷ []) (point_from 0xff61b1e6 0 0) (Ok (Some 0))

abbrev pub p6b : Row
p6b = far (as_number 0 (point_from 0x7f61b1e6 0 0) ∷ as_number 1 (point_from 0x7e967699 0 0) ∷ []) (point_from 0xff61b1e6 0 0)

-- P2's tree, NaN query: 0
abbrev pub p7 : Row
p7 = tree (as_number 0 origin ∷ as_number 1 (point_from 0x40000000 0 0) ∷ []) (point_from 0x7fc00000 0 0) (Ok (Some 0))

-- (2,0,0) to (1,0,0)
abbrev pub p8 : Row
p8 = clamp (point_from 0x40000000 0 0) (point_from 0x3f800000 0 0)

-- (0.5,0,0) to (1,0,0)
abbrev pub p9 : Row
p9 = clamp (point_from 0x3f000000 0 0) (point_from 0x3f800000 0 0)

-- the origin unchanged
abbrev pub p10 : Row
p10 = clamp origin origin

-- (3e38,0,0), r infinite, to the origin
abbrev pub p11a : Row
p11a = clamp (point_from 0x7f61b1e6 0 0) origin

abbrev pub p11b : Row
p11b = overflow (point_from 0x7f61b1e6 0 0)

-- caps: step 2 gives 23, 45 gives 1
abbrev pub p12a : Row
p12a = cap (of_bits binary32 0x40000000) 23

abbrev pub p12b : Row
p12b = cap (of_bits binary32 0x42340000) 1

abbrev pub rows : List Row
rows = p1 ∷ p2 ∷ p3 ∷ p4 ∷ p5 ∷ p6a ∷ p6b ∷ p7 ∷ p8 ∷ p9 ∷ p10 ∷ p11a ∷ p11b ∷ p12a ∷ p12b ∷ []
