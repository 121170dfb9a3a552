-- How the transcriptions read the language: `Option`, `[f32; 3]`, f32, slices, and the three functions of the platform's library. Definitions only.
use Rattle.std.specs.Prelude.{ℕ, zero, suc, List, from_bits, slice_index_or, Float}
use Rattle.std.specs.Float.{nan, binary32}
use Rattle.std.specs.Float.Ieee.{mul}
-- Option<A>
pub use Rattle.std.specs.Prelude.{Option, None, Some}
use Rattle.points.specs.declared.Point3.{Point3}

-- `sin`, `cos` and `atan2` of f32, which the platform's library decides: parameters
pub record Angles : Type 0 where
  pub sin : Float → Float
  pub cos : Float → Float
  pub atan2 : Float → Float → Float

-- `[f32; 3]` is a record of x, y and z; p[i], for an i below 3
unfoldable pub at : Point3 → ℕ → Float
at p zero = p.x
at p (suc zero) = p.y
at p (suc (suc i)) = p.z

-- p[i] = v, for an i below 3
unfoldable pub put : Point3 → ℕ → Float → Point3
put p zero v = record { x = v; y = p.y; z = p.z }
put p (suc zero) v = record { x = p.x; y = v; z = p.z }
put p (suc (suc i)) v = record { x = p.x; y = p.y; z = v }

abbrev pub array : Float → Float → Float → Point3
array x y z = record { x = x; y = y; z = z }

-- s[i] of a slice, for an i below its length
abbrev pub index : List Float → ℕ → Float
index s i = slice_index_or s i nan

-- f32's `abs`, `min`, `max`, `clamp` and `ceil() as i32` are those of the crate floats. Where `min` and `max` meet +0 and -0, Rust leaves the sign open:
-- they keep the earlier, as document 01 reads them. `sqrt` is IEEE 754's squareRoot, the crate root's `root_of`. An index past the end, where the Rust would
-- panic, is never met: the theorems' lists are long enough.
-- `x.powi(2)` is one product
abbrev pub powi2 : Float → Float
powi2 x = mul binary32 x x

-- f32::MAX, f32::MIN, std::f32::consts::PI
abbrev pub MAX : Float
MAX = from_bits binary32 0x7f7fffff

abbrev pub MIN : Float
MIN = from_bits binary32 0xff7fffff

abbrev pub PI : Float
PI = from_bits binary32 0x40490fdb
