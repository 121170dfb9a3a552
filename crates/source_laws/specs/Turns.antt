-- coords.rs beside the port's conversions, with the port's sine, cosine and arctangent. Definitions only; the theorem `turns` is in proofs/Turns.antt.
use Rattle.std.specs.Prelude.{◌≡◌, List, Float, Ok}
use Rattle.points.specs.declared.Point3.{Point3}
use Rattle.limits.specs.Refusals.{verdict_of, value_lines}
use Rattle.coords.specs.Coords.{spherical_of, cartesian_of, radius_of}
use Rattle.coords.specs.Arrays.{laid, lifted, converted_as, convert_of}
use Rattle.source.specs.Coords.{cartesian_to_spherical, spherical_to_cartesian, radius, convert_array_to_spherical, convert_array_to_cartesian}
use Rattle.source_laws.specs.Drawn.{ported}

pub record SameTurns : Type 0 where
  -- one point, any f32
  pub spherical : (p : Point3) → cartesian_to_spherical ported p ≡ laid (spherical_of p)
  pub cartesian : (p : Point3) → spherical_to_cartesian ported p ≡ cartesian_of (lifted p)
  pub radii : (p : Point3) → radius p ≡ radius_of p
  -- a list of any length, where its values are allowed
  pub to_spherical : (xs : List Float) → verdict_of (value_lines 0 xs) ≡ Ok tt → convert_of 0 xs ≡ converted_as (Ok tt) (convert_array_to_spherical ported xs)
  pub to_cartesian : (xs : List Float) → verdict_of (value_lines 1 xs) ≡ Ok tt → convert_of 1 xs ≡ converted_as (Ok tt) (convert_array_to_cartesian ported xs)
