-- That the angles of the neighbour searches lie where `sine`, `cosine` and `arctangent` answer. Definitions only; the theorem is in proofs/Answered.antt.
use Rattle.std.specs.Prelude.{◌≡◌, true, ℕ, ◌≤◌, Float}
use Rattle.points.specs.declared.Point3.{Point3}
use Rattle.limits.specs.Allowed.{within}
use Rattle.coords.specs.declared.Spherical.{Spherical}
use Rattle.coords.specs.Coords.{spherical_of}
use Rattle.coord_laws.specs.Answered.{ToCartesian, ToSpherical}
use Rattle.neighbors.specs.Neighbors.{moved, step_of, cap_of}

-- where the s-th step of the search in the direction d from a measurement p looks
abbrev pub looks : Float → Float → Point3 → ℕ → ℕ → Spherical
looks angle radius p d s = moved (spherical_of p) (step_of d angle radius) s

-- from a measurement, in each direction, at each step up to the cap: azimuths from -450 to 450 degrees and elevations from -90 to 90, which are answered,
-- and so are the two arctangents of the place where the search starts
pub record SearchAnswered (angle radius : Float) (p : Point3) : Type 0 where
  pub start : ToSpherical p
  pub azimuth : (d s : ℕ) → s ≤ cap_of d angle → within 450 1 (looks angle radius p d s).azimuth ≡ true
  pub elevation : (d s : ℕ) → s ≤ cap_of d angle → within 90 1 (looks angle radius p d s).elevation ≡ true
  pub step : (d s : ℕ) → s ≤ cap_of d angle → ToCartesian (looks angle radius p d s)
