-- Document 01's "Neighbours": the first found number other than its own, by steps in one of six directions, and the table of all of them. Definitions only.
use Rattle.std.specs.Prelude.{ℕ, zero, suc, ◌+◌, ◌*◌, ◌/◌, ◌%◌, Bool, true, false, cond, ◌||◌, List, pos, ◌==◌, from_bits, nat_lt, slice_set, Float, ⊤, Result, Ok, Err}
use Rattle.refusals.specs.declared.Refusal.{Refusal}
use Rattle.std.specs.Float.{binary32}
use Rattle.std.specs.Float.Ieee.{add, sub, mul, div, neg, lt, of_int}
use Rattle.floats.specs.Floats.{zero32, abs_of, max_of, clamp_of, ceil_of}
use Rattle.points.specs.Points.{point_at}
use Rattle.coords.specs.declared.Spherical.{Spherical}
use Rattle.coords.specs.Coords.{spherical_of, cartesian_of}
use Rattle.lookup.specs.declared.Lookup.{Lookup}
use Rattle.lookup.specs.declared.Located.{Located}
use Rattle.lookup.specs.declared.Located.TheVariants as located
use Rattle.lookup.specs.Lookup.{locate_of}
use Rattle.neighbors.specs.declared.Reached.{Reached}
use Rattle.neighbors.specs.declared.Reached.TheVariants.{At, Absent, Refused}

-- ---- one step

-- the value after s steps
unfoldable pub after : Float → Float → ℕ → Float
after v step s = add binary32 v (mul binary32 step (of_int binary32 (pos s)))

-- an elevation from -90 to 90, a radius of at least 0.001
unfoldable pub tilted : Float → Float
tilted v = clamp_of v (from_bits binary32 0xc2b40000) (from_bits binary32 0x42b40000)

unfoldable pub distant : Float → Float
distant v = max_of v (from_bits binary32 0x3a83126f)

unfoldable pub moved : Spherical → Spherical → ℕ → Spherical
moved from step s = record {
  azimuth = after from.azimuth step.azimuth s;
  elevation = tilted (after from.elevation step.elevation s);
  radius = distant (after from.radius step.radius s);
}

-- the radius is below least - |radius step|, or above greatest + |radius step|
unfoldable pub leaves : Lookup → Float → Float → Bool
leaves look step r = lt r (sub binary32 look.radius_min (abs_of step)) || lt (add binary32 look.radius_max (abs_of step)) r

-- ---- six directions

abbrev pub steps : Float → Float → Float → Spherical
steps a e r = record { azimuth = a; elevation = e; radius = r }

-- azimuth +, -, elevation +, -, radius +, -
unfoldable pub step_of : ℕ → Float → Float → Spherical
step_of d angle radius =
    cond (d == 0) (steps angle zero32 zero32)
    (cond (d == 1) (steps (neg angle) zero32 zero32)
    (cond (d == 2) (steps zero32 angle zero32)
    (cond (d == 3) (steps zero32 (neg angle) zero32)
    (cond (d == 4) (steps zero32 zero32 radius) (steps zero32 zero32 (neg radius))))))

-- the ceiling of the rounded 45 / step
unfoldable pub angle_cap : Float → ℕ
angle_cap angle = ceil_of (div binary32 (from_bits binary32 0x42340000) angle)

-- or 100 for radius
unfoldable pub cap_of : ℕ → Float → ℕ
cap_of d angle = cond (nat_lt d 4) (angle_cap angle) 100

-- ---- one search

-- a step's answer as that of its direction
abbrev pub passed_on : Located → Reached
passed_on (located.At n) = At n
passed_on (located.Refused refusal) = Refused refusal

-- a number other than its own is the neighbour, and a refusal is passed on
unfoldable pub unless_own : ℕ → Located → Reached → Reached
unless_own own (located.At n) further = cond (n == own) further (At n)
unless_own own (located.Refused refusal) further = Refused refusal

module _ (look : Lookup) (m : ℕ) (xs : List Float) (left right : List ℕ) where
  -- k steps are left when i are done
  unfoldable pub going : ℕ → Spherical → Spherical → ℕ → ℕ → Reached
  going own from step zero i = Absent
  going own from step (suc k) i =
      let there = moved from step (i + 1) in
      elim (leaves look step.radius there.radius) [ true ↦ Absent | false ↦ unless_own own (locate_of look m xs left right (cartesian_of there)) (going own from step k (i + 1)) ]

  unfoldable pub direction_of : ℕ → Spherical → Spherical → ℕ → Reached
  direction_of own from step cap = going own from step cap 0

  -- the neighbour of a measurement in a direction
  unfoldable pub neighbor_of : Float → Float → ℕ → ℕ → Reached
  neighbor_of angle radius own d = direction_of own (spherical_of (point_at xs own)) (step_of d angle radius) (cap_of d angle)

  -- the one at a place of the table
  unfoldable pub table_entry : Float → Float → ℕ → Reached
  table_entry angle radius k = neighbor_of angle radius (k / 6) (k % 6)

-- ---- the table

-- document 01's mark for absent in a list of 16-bit numbers
abbrev pub absent_mark : ℕ
absent_mark = 65535

-- what the table holds of it; a refused one is never written
abbrev pub mark_of : Reached → ℕ
mark_of (At n) = n
mark_of Absent = absent_mark
mark_of (Refused refusal) = absent_mark

-- what a call answers, and what the table then holds
pub record Tabled : Type 0 where
  pub answer : Result ⊤ Refusal
  pub table : List ℕ

abbrev pub tabled_as : Result ⊤ Refusal → List ℕ → Tabled
tabled_as v d = record { answer = v; table = d }

-- a number or the mark is written, and a refusal ends it
abbrev pub by_entry : Reached → List ℕ → (ℕ → Tabled) → Tabled
by_entry (At n) d f = f n
by_entry Absent d f = f absent_mark
by_entry (Refused refusal) d f = tabled_as (Err refusal) d

-- j entries from the place k on, until one refuses
module _ (entry : ℕ → Reached) where
  unfoldable pub writing : ℕ → ℕ → List ℕ → Tabled
  writing zero k d = tabled_as (Ok tt) d
  writing (suc j) k d = by_entry (entry k) d (λ n. writing j (k + 1) (slice_set d k n))

-- the six entries of a measurement
unfoldable pub row_of : Lookup → ℕ → List Float → List ℕ → List ℕ → Float → Float → ℕ → List ℕ → Tabled
row_of look m xs left right angle radius own d = writing (table_entry look m xs left right angle radius) 6 (6 * own) d

-- all 6m of them
unfoldable pub table_of : Lookup → ℕ → List Float → List ℕ → List ℕ → Float → Float → List ℕ → Tabled
table_of look m xs left right angle radius d = writing (table_entry look m xs left right angle radius) (6 * m) 0 d
