-- What the laws of the clamp speak of. Definitions only; the theorems are in proofs/Clamp.antt.
use Rattle.std.specs.Prelude.{false, T, pos, Float}
use Rattle.std.specs.Float.{nan, inf, fin}
use Rattle.std.specs.Float.Ieee.{le}
use Rattle.floats.proofs.Sign.{nonneg}
use Rattle.floats.proofs.Ratio.{magnitude}
use Rattle.lookup.specs.declared.Lookup.{Lookup}

-- the zero with a value's sign
abbrev pub zero_like : Float → Float
zero_like nan = nan
zero_like (inf s) = fin s 0 (pos 0)
zero_like (fin s m e) = fin s 0 (pos 0)

-- 2 ^ 26: a loaded set's radii are below 2 ^ 15
abbrev pub reach : Float
reach = fin false 1 (pos 26)

-- bounds as a load gives them, or anything near: the greatest radius is not negative, the least is at most 2 ^ 26
pub record Radii (look : Lookup) : Type 0 where
  pub greatest : T (nonneg look.radius_max)
  pub some : T (magnitude look.radius_min)
  pub least : T (le look.radius_min reach)
