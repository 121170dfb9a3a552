-- That a conversion's angles lie where `sine`, `cosine` and `arctangent` answer. Definitions only; the theorem `conversions_answered` is in proofs/Answered.antt.
-- The conversions go by `sin_of`, `cos_of` and `atan2_of`, which give +0 where those calls refuse: here no +0 of theirs stands for a refusal.
use Rattle.std.specs.Prelude.{◌≡◌, ◌&&◌, List, ℕ, ◌+◌, ◌*◌, ◌<◌, T, length, Float, Ok}
use Rattle.std.specs.Float.{binary32}
use Rattle.std.specs.Float.Ieee.{mul}
use Rattle.std.specs.Float.Ieee.Scale.{finite}
use Rattle.points.specs.declared.Point3.{Point3}
use Rattle.points.specs.Points.{point_at}
use Rattle.root.specs.Root.{root_of}
use Rattle.sines.specs.Sines.{in_range}
use Rattle.angles.specs.Says.{atan2_of, sine_says, cosine_says, arctan_says}
use Rattle.angle_laws.specs.Angle.{S, C, close_to}
use Rattle.angle_laws.specs.Asked.{Arctan}
use Rattle.limits.specs.Refusals.{verdict_of, value_lines}
use Rattle.coords.specs.declared.Spherical.{Spherical}
use Rattle.coords.specs.Coords.{per_degree, turn_of, flat_of}
use Rattle.coords.specs.Arrays.{lifted}

-- an angle in degrees as sine and cosine are handed it
abbrev pub radians : Float → Float
radians degrees = mul binary32 degrees per_degree

-- from -16 to 16: the two calls give the turn's values and no refusal, within document 01's bounds
pub record TurnAnswered (degrees : Float) : Type 0 where
  pub within_range : T (in_range (radians degrees))
  pub sine_said : sine_says (radians degrees) ≡ Ok (turn_of degrees).sin
  pub cosine_said : cosine_says (radians degrees) ≡ Ok (turn_of degrees).cos
  pub near_sine : close_to 1048576 (turn_of degrees).sin (S (radians degrees))
  pub near_cosine : close_to 1048576 (turn_of degrees).cos (C (radians degrees))

-- both finite: the call gives the value and no refusal, by document 01's rules
pub record ArcAnswered (y x : Float) : Type 0 where
  pub both_finite : T (finite y && finite x)
  pub says : arctan_says y x ≡ Ok (atan2_of y x)
  pub good : Arctan y x (atan2_of y x)

-- what `cartesian_of` asks for: sine and cosine of two angles
pub record ToCartesian (s : Spherical) : Type 0 where
  pub azimuth : TurnAnswered s.azimuth
  pub elevation : TurnAnswered s.elevation

-- what `spherical_of` asks for: two arctangents
pub record ToSpherical (p : Point3) : Type 0 where
  pub azimuth : ArcAnswered p.y p.x
  pub elevation : ArcAnswered p.z (root_of (flat_of p))

-- of every list that a conversion accepts, each whole triplet
pub record ConversionsAnswered : Type 0 where
  pub to_cartesian : (xs : List Float) → verdict_of (value_lines 1 xs) ≡ Ok tt → (place : ℕ) → 3 * place + 2 < length xs → ToCartesian (lifted (point_at xs place))
  pub to_spherical : (xs : List Float) → verdict_of (value_lines 0 xs) ≡ Ok tt → (place : ℕ) → 3 * place + 2 < length xs → ToSpherical (point_at xs place)
