-- NO ANGLE OF A LOAD IS REFUSED, on one page (of the conversions by themselves: coord_laws, specs/Answered.antt). Definitions only; the theorems are
-- `angles_answered` in proofs/Angles.antt, and `any_converts`, `any_angles` in proofs/Any.antt.
-- `sin`, `cos` and `atan2`, which the code goes by, give +0 where `sine`, `cosine` and `arctangent` refuse (7): beyond 16, or where an argument is not finite.
-- Said twice: of the port, each use of an angle is one that those calls answer; of the source, what its angle functions give elsewhere changes nothing.
use Rattle.std.specs.Prelude.{◌≡◌, List, ℕ, ◌<◌, Float, Ok}
use Rattle.points.specs.Points.{point_at}
use Rattle.limits.specs.Refusals.{verdict_of, value_lines}
use Rattle.angles.specs.Says.{sine_says, cosine_says, arctan_says}
use Rattle.coords.specs.Arrays.{lifted}
use Rattle.coord_laws.specs.Answered.{ToCartesian, ToSpherical}
use Rattle.neighbor_laws.specs.Answered.{SearchAnswered}
use Rattle.source.specs.Rust.{Angles}
use Rattle.source.specs.Coords.{convert_array_to_spherical, convert_array_to_cartesian}
use Rattle.source.specs.Reader.{open_data}
use Rattle.source_laws.specs.Drawn.{ported}
use Rattle.load_laws.specs.Load.{Given, loaded, type_of, file}

-- every use of an angle by a load
pub record AnglesAnswered (g : Given) : Type 0 where
  -- a spherical position is converted: sine and cosine of its azimuth and of its elevation
  pub converted : g.kind ≡ 1 → (k : ℕ) → k < g.sizes.m → ToCartesian (lifted (point_at g.positions k))
  -- the bounds: two arctangents of each measurement, as it then stands in the Cartesian list
  pub bounds : (k : ℕ) → k < g.sizes.m → ToSpherical (point_at (loaded g).work.cartesian k)
  -- the neighbours: from there, in each direction, each step up to the cap
  pub searched : (k : ℕ) → k < g.sizes.m → SearchAnswered g.angle g.radius (point_at (loaded g).work.cartesian k)

-- functions for the source that give what `sine`, `cosine` and `arctangent` answer; where those refuse, anything
pub record Agree (platform : Angles) : Type 0 where
  pub sin : (x v : Float) → sine_says x ≡ Ok v → platform.sin x ≡ v
  pub cos : (x v : Float) → cosine_says x ≡ Ok v → platform.cos x ≡ v
  pub atan2 : (y x v : Float) → arctan_says y x ≡ Ok v → platform.atan2 y x ≡ v

-- with each of them the source converts what a conversion accepts, and opens what a load accepts, as it does with the port's
pub record ConvertsWithAny (platform : Angles) : Type 0 where
  pub to_spherical : (xs : List Float) → verdict_of (value_lines 0 xs) ≡ Ok tt → convert_array_to_spherical platform xs ≡ convert_array_to_spherical ported xs
  pub to_cartesian : (xs : List Float) → verdict_of (value_lines 1 xs) ≡ Ok tt → convert_array_to_cartesian platform xs ≡ convert_array_to_cartesian ported xs

abbrev pub OpensWithAny : Angles → Given → Type 0
OpensWithAny platform g =
    open_data platform (type_of g.kind) (file g) g.angle g.radius ≡ open_data ported (type_of g.kind) (file g) g.angle g.radius
