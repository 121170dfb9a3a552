-- The distance of a finite query from a finite measurement is a number and not negative: finite, or +infinity where a square or a sum overflows. Assumes nothing.
use mathlib.Core.List.{List}
use Prim.Native.Nat.{ℕ, ◌<◌}
use lib.Dec.{T}
use lib.Ieee.{Float}
use Rattle.floats.proofs.Sign.{nonneg}
use Rattle.points.specs.declared.Point3.{Point3}
use Rattle.points.specs.Points.{point_at, dist_sq_of}
use Rattle.points.proofs.Distance.{dist_nonneg, dist_fits}
use Rattle.root.proofs.Laws.{root_of_nonneg}
use Rattle.interpolate.specs.Blend.{distance_of}
use Rattle.interpolate_laws.specs.Weights.{AllFinite}

pub distance_nonneg : (m : ℕ) (cart : List Float) (q : Point3) (k : ℕ) → AllFinite m cart q → k < m → T (nonneg (distance_of cart q k))
unfolding distance_of
distance_nonneg m cart q k h b =
    root_of_nonneg (dist_sq_of (point_at cart k) q) (dist_fits (point_at cart k) q) (dist_nonneg (point_at cart k) q (h.points k b) h.query)
