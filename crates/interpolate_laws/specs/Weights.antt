-- What is said of the weights of a blend. Definitions only.
use Rattle.std.specs.Prelude.{◌≡◌, List, map, ℕ, ◌≤◌, ◌<◌, T, length, Float}
use Rattle.std.specs.Float.Ieee.{le}
use Rattle.std.specs.Float.Ieee.Positive.{positive}
use Rattle.floats.specs.Floats.{one32}
use Rattle.floats.proofs.Sign.{nonneg}
use Rattle.points.specs.declared.Point3.{Point3}
use Rattle.lists.specs.Each.{Each}
use Rattle.points.specs.Points.{point_at, Finite}
use Rattle.mix.specs.declared.Share.{Share}
use Rattle.interpolate.specs.Blend.{total_of, part}

-- finite are the query and the first m points of the list
pub record AllFinite (m : ℕ) (cart : List Float) (q : Point3) : Type 0 where
  pub points : (j : ℕ) → j < m → Finite (point_at cart j)
  pub query : Finite q

-- from +0 (−0 is negative) to 1
pub record Portion (x : Float) : Type 0 where
  pub low : T (nonneg x)
  pub high : T (le x one32)

-- c points are blended, those of the list ps, which holds the weights before the division: one to four, their sum finite, above zero and no less
-- than any weight, and each weight divided by it from +0 to 1
pub record Shared (ps : List Share) (c : ℕ) : Type 0 where
  pub count : c ≡ length ps
  pub one : 1 ≤ c
  pub four : c ≤ 4
  pub sum : T (positive (total_of ps))
  pub over : Each (λ (p : Share). T (le p.weight (total_of ps))) ps
  pub portions : Each (λ (p : Share). Portion p.weight) (map (part (total_of ps)) ps)
