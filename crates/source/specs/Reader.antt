-- src/reader.rs: opening a set, filter, filter_nointerp, fill_filter and max_delay. Definitions only. A `Filter` that is filled is returned.
use Rattle.std.specs.Prelude.{ℕ, ◌-◌, min, List, [], ◌∷◌, ◌++◌, length, take, replicate, fold, Float}
use Rattle.std.specs.Float.{binary32}
use Rattle.std.specs.Float.Ieee.{div}
use Rattle.floats.specs.Floats.{zero32, max_of}
use Rattle.points.specs.declared.Point3.{Point3}
use Rattle.source.specs.Rust.{Option, None, Some, Angles, array}
use Rattle.source.specs.Lookup.{Hrtf, Lookup, new_lookup, find}
use Rattle.source.specs.Hrtf.{CoordType, convert_to_cartesian}
use Rattle.source.specs.Neighbors.{Neighbors, new_neighborhood}
use Rattle.source.specs.Interpolate.{InterpolatedFilter, interpolate, get_filter_nointerp}

-- struct Filter
pub record Filter : Type 0 where
  pub left : List Float
  pub right : List Float
  pub ldelay : Float
  pub rdelay : Float

-- struct Sofar
pub record Sofar : Type 0 where
  pub hrtf : Hrtf
  pub lookup : Lookup
  pub neighborhood : List Neighbors

-- OpenOptions::open_data, from `Lookup::new` on: what it makes of positions that are Cartesian; and from `convert_to_cartesian` on, without resampling and
-- normalising, for the values that a file holds and the attribute "Type" of its source positions
unfoldable pub opened_by : Angles → Hrtf → Float → Float → Option Lookup → Option Sofar
opened_by platform hrtf neighbor_angle_step neighbor_radius_step None = None
opened_by platform hrtf neighbor_angle_step neighbor_radius_step (Some lookup) =
    Some (record { hrtf = hrtf; lookup = lookup; neighborhood = new_neighborhood platform hrtf lookup neighbor_angle_step neighbor_radius_step })

unfoldable pub opened : Angles → Hrtf → Float → Float → Option Sofar
opened platform hrtf neighbor_angle_step neighbor_radius_step = opened_by platform hrtf neighbor_angle_step neighbor_radius_step (new_lookup platform hrtf)

unfoldable pub open_data : Angles → Option CoordType → Hrtf → Float → Float → Option Sofar
open_data platform coord_type hrtf neighbor_angle_step neighbor_radius_step =
    opened platform (convert_to_cartesian platform coord_type hrtf) neighbor_angle_step neighbor_radius_step

-- Sofar::fill_filter: one ear, copied up to the shorter length and +0 from there on; and the whole
unfoldable pub fill_ear : List Float → List Float → List Float
fill_ear out ir = let copy_len = min (length ir) (length out) in take copy_len ir ++ replicate (length out - copy_len) zero32

unfoldable pub fill_filter : Sofar → Filter → InterpolatedFilter → Filter
fill_filter sofar filter interp = record {
  left = fill_ear filter.left interp.left;
  right = fill_ear filter.right interp.right;
  ldelay = div binary32 interp.delay_left sofar.hrtf.sample_rate;
  rdelay = div binary32 interp.delay_right sofar.hrtf.sample_rate;
}

-- the fallback: zero filter
unfoldable pub zeroed : Filter → Filter
zeroed filter = record { left = replicate (length filter.left) zero32; right = replicate (length filter.right) zero32; ldelay = zero32; rdelay = zero32 }

unfoldable pub filled_or : Sofar → Filter → Option InterpolatedFilter → Filter
filled_or sofar filter None = zeroed filter
filled_or sofar filter (Some interp) = fill_filter sofar filter interp

-- Sofar::filter
unfoldable pub filter_at : Sofar → Point3 → Filter → Option ℕ → Filter
filter_at sofar position filter None = zeroed filter
filter_at sofar position filter (Some nearest_idx) = filled_or sofar filter (interpolate sofar.hrtf sofar.neighborhood nearest_idx position)

unfoldable pub filter : Sofar → Float → Float → Float → Filter → Filter
filter sofar x y z f = filter_at sofar (array x y z) f (find sofar.lookup (array x y z))

-- Sofar::filter_nointerp
unfoldable pub nointerp_at : Sofar → Filter → Option ℕ → Filter
nointerp_at sofar filter None = zeroed filter
nointerp_at sofar filter (Some nearest_idx) = filled_or sofar filter (get_filter_nointerp sofar.hrtf nearest_idx)

unfoldable pub filter_nointerp : Sofar → Float → Float → Float → Filter → Filter
filter_nointerp sofar x y z f = nointerp_at sofar f (find sofar.lookup (array x y z))

-- Sofar::max_delay: `.fold(0.0, f32::max)`
unfoldable pub max_delay : Sofar → Float
max_delay sofar = div binary32 (fold max_of zero32 sofar.hrtf.data_delay) sofar.hrtf.sample_rate
