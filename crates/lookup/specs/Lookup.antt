-- Document 01's "Radius clamp", and the nearest measurement of a query, refusals included. Definitions only.
use Rattle.std.specs.Prelude.{cond, ◌&&◌, List, ℕ, get_or, set, Option, Some, None, ⊤, Result, Ok, Err, Float}
use Rattle.std.specs.Float.{nan, binary32}
use Rattle.std.specs.Float.Ieee.{lt, mul, div}
use Rattle.floats.specs.Floats.{zero32}
use Rattle.points.specs.declared.Point3.{Point3}
use Rattle.kdtree.specs.declared.Best.{Best}
use Rattle.kdtree.specs.Nearest.{place_found}
use Rattle.coords.specs.Coords.{radius_of}
use Rattle.limits.specs.declared.Sizes.{Sizes}
use Rattle.limits.specs.Allowed.{tree_lengths}
use Rattle.refusals.specs.declared.Refusal.{Refusal}
use Rattle.refusals.specs.declared.Refusal.TheVariants.{BadLink}
use Rattle.limits.specs.Refusals.{verdict_of, find_lines}
use Rattle.lookup.specs.declared.Lookup.{Lookup}
use Rattle.lookup.specs.declared.Located.{Located}
use Rattle.lookup.specs.declared.Located.TheVariants.{At, Refused}

-- ---- the radius clamp

unfoldable pub scaled : Point3 → Float → Point3
scaled p k = record { x = mul binary32 p.x k; y = mul binary32 p.y k; z = mul binary32 p.z k }

-- r above the greatest radius: times greatest / r; else r below the least and above 0: times least / r
unfoldable pub clamped_to : Float → Float → Point3 → Point3
clamped_to least greatest p =
    let r = radius_of p in
    cond (lt greatest r) (scaled p (div binary32 greatest r)) (cond (lt r least && lt zero32 r) (scaled p (div binary32 least r)) p)

unfoldable pub clamped_by : Lookup → Point3 → Point3
clamped_by look p = clamped_to look.radius_min look.radius_max p

-- ---- the nearest measurement

-- a measurement's number is its place; a search that stopped is refused
unfoldable pub located_by : Option Best → Located
located_by (Some s) = At s.place
located_by None = Refused BadLink

-- of the clamped query, in a Cartesian list, links left and right, m places
unfoldable pub locate_of : Lookup → ℕ → List Float → List ℕ → List ℕ → Point3 → Located
locate_of look m xs left right q = located_by (place_found xs left right m look.bounds (clamped_by look q))

-- ---- find: 2, 3, 7, then 9 on the way

unfoldable pub unless : Result ⊤ Refusal → Located → Located
unless (Ok u) found = found
unless (Err r) found = Refused r

unfoldable pub find_of : Lookup → Sizes → List Float → List ℕ → List ℕ → Point3 → Located
find_of look s xs left right q = unless (verdict_of (find_lines s (tree_lengths xs left right) q)) (locate_of look s.m xs left right q)

-- ---- find_mut: its answer, and its three coordinates afterwards

pub record Moved : Type 0 where
  pub answer : Located
  pub coordinates : List Float

abbrev pub moved_as : Located → List Float → Moved
moved_as r l = record { answer = r; coordinates = l }

abbrev pub point_in : List Float → Point3
point_in l = record { x = get_or l 0 nan; y = get_or l 1 nan; z = get_or l 2 nan }

abbrev pub put_point : List Float → Point3 → List Float
put_point l p = set (set (set l 0 p.x) 1 p.y) 2 p.z

-- clamped, or as they were if refused
unfoldable pub moved_if_found : Located → Lookup → List Float → Moved
moved_if_found (At number) look l = moved_as (At number) (put_point l (clamped_by look (point_in l)))
moved_if_found (Refused r) look l = moved_as (Refused r) l

unfoldable pub find_mut_of : Lookup → Sizes → List Float → List ℕ → List ℕ → List Float → Moved
find_mut_of look s xs left right l = moved_if_found (find_of look s xs left right (point_in l)) look l
