-- One triplet from degrees to Cartesian and back, by the operations of binary32 in the source's order. Definitions only.
use Rattle.std.specs.Prelude.{Float}
use Rattle.std.specs.Float.{binary32}
use Rattle.std.specs.Float.Ieee.{add, mul, div, rem, of_bits}
use Rattle.points.specs.declared.Point3.{Point3}
use Rattle.root.specs.Root.{root_of}
use Rattle.angles.specs.Says.{sin_of, cos_of, atan2_of}
use Rattle.coords.specs.declared.Spherical.{Spherical}
use Rattle.coords.specs.declared.Turn.{Turn}

-- the f32 nearest π; 180; 360
abbrev pub pi32 : Float
pi32 = of_bits binary32 0x40490fdb

abbrev pub half32 : Float
half32 = of_bits binary32 0x43340000

abbrev pub full32 : Float
full32 = of_bits binary32 0x43b40000

-- 720
abbrev pub two_turns : Float
two_turns = of_bits binary32 0x44340000

-- π / 180, and q = 180 / π: quotients of f32, rounded
abbrev pub per_degree : Float
per_degree = div binary32 pi32 half32

abbrev pub per_radian : Float
per_radian = div binary32 half32 pi32

-- an angle in degrees as its sine and cosine
unfoldable pub turn_of : Float → Turn
turn_of degrees = record { sin = sin_of (mul binary32 degrees per_degree); cos = cos_of (mul binary32 degrees per_degree) }

-- the point that lies that far in the direction of an azimuth and an elevation
unfoldable pub along_of : Turn → Turn → Float → Point3
along_of phi theta radius = record {
  x = mul binary32 phi.cos (mul binary32 theta.cos radius);
  y = mul binary32 phi.sin (mul binary32 theta.cos radius);
  z = mul binary32 theta.sin radius;
}

unfoldable pub cartesian_of : Spherical → Point3
cartesian_of s = along_of (turn_of s.azimuth) (turn_of s.elevation) s.radius

-- (x·x + y·y) + z·z, and its root
abbrev pub flat_of : Point3 → Float
flat_of p = add binary32 (mul binary32 p.x p.x) (mul binary32 p.y p.y)

unfoldable pub radius_of : Point3 → Float
radius_of p = root_of (add binary32 (flat_of p) (mul binary32 p.z p.z))

-- azimuth (a·q + 360) % 360
unfoldable pub spherical_of : Point3 → Spherical
spherical_of p = record {
  azimuth = rem binary32 (add binary32 (mul binary32 (atan2_of p.y p.x) per_radian) full32) full32;
  elevation = mul binary32 (atan2_of p.z (root_of (flat_of p))) per_radian;
  radius = radius_of p;
}
