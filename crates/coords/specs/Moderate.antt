-- What a set's positions are once converted to Cartesian coordinates. Definitions only.
use Rattle.std.specs.Prelude.{◌≡◌, true}
use Rattle.points.specs.declared.Point3.{Point3}
use Rattle.limits.specs.Allowed.{within}

-- each coordinate has magnitude at most 10001
pub record Moderate (p : Point3) : Type 0 where
  pub x : within 10001 1 p.x ≡ true
  pub y : within 10001 1 p.y ≡ true
  pub z : within 10001 1 p.z ≡ true
