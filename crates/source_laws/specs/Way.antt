-- Which way the source's `interpolate` goes, and so which outcome the port tells: exact, or blended from so many points. Definitions only; that it goes that
-- way is in proofs/Interpolate.antt (`way_taken`).
use Rattle.std.specs.Prelude.{cond, List, ℕ, ◌*◌, length, Float}
use Rattle.std.specs.Float.Ieee.{lt}
use Rattle.points.specs.declared.Point3.{Point3}
use Rattle.delays.specs.declared.Outcome.{Outcome}
use Rattle.delays.specs.declared.Outcome.TheVariants.{Exact, Blended}
use Rattle.interpolate.specs.Blend.{FilterAnswer, filter_of}
use Rattle.source.specs.Rust.{Option, None, Some}
use Rattle.source.specs.Lookup.{Hrtf, triplet}
use Rattle.source.specs.Neighbors.{Neighbors, get}
use Rattle.source.specs.Interpolate as source
use Rattle.source.specs.Interpolate.{InterpolatedFilter, Weighted, «1e-6», «1e-10», distance, extract_filter, weight_sum, add_points, silent}
use Rattle.source.specs.Reader as reader

-- the filter of the nearest measurement as it is, or the blend of a list of points
pub data Way : Type 0 where
  exactly : Way
  blending : List Weighted → Way

-- from the neighbours on
unfoldable pub way_by : Hrtf → Option Neighbors → ℕ → Float → Point3 → Way
way_by hrtf None nearest_idx nearest_dist position = exactly
way_by hrtf (Some neighbors) nearest_idx nearest_dist position =
    let l = source.points hrtf neighbors nearest_idx nearest_dist position in
    cond (lt (weight_sum l) «1e-10») exactly (blending l)

unfoldable pub way_of : Hrtf → List Neighbors → ℕ → Point3 → Way
way_of hrtf neighborhood nearest_idx position =
    let nearest_dist = distance (triplet hrtf.source_position (nearest_idx * hrtf.c)) position in
    cond (lt nearest_dist «1e-6») exactly (way_by hrtf (get neighborhood nearest_idx) nearest_idx nearest_dist position)

-- of an opened set
abbrev pub way_in : reader.Sofar → ℕ → Point3 → Way
way_in sofar nearest_idx position = way_of sofar.hrtf sofar.neighborhood nearest_idx position

-- what the source makes on each way
unfoldable pub made_by : Hrtf → ℕ → Way → Option InterpolatedFilter
made_by hrtf nearest_idx exactly = extract_filter hrtf nearest_idx hrtf.n hrtf.r
made_by hrtf nearest_idx (blending l) = Some (add_points hrtf (weight_sum l) (silent hrtf.n) l)

-- the port's outcome: the source's two delays, and how many points it blends
abbrev pub outcome_by : Way → Float → Float → Outcome
outcome_by exactly left right = Exact (record { 0 = left }) (record { 0 = right })
outcome_by (blending l) left right = Blended (record { 0 = left }) (record { 0 = right }) (length l)

-- what a filter query of the port leaves, by the `Filter` that the source fills
abbrev pub told : Way → reader.Filter → FilterAnswer
told way f = filter_of (outcome_by way f.ldelay f.rdelay) f.left f.right
