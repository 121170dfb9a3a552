-- How the port's lists and structs stand for the source's values. Definitions only.
use Rattle.std.specs.Prelude.{List, ℕ, zero, suc, ◌*◌, take, Float}
use Rattle.kdtree.specs.declared.BoundingBox.{BoundingBox}
use Rattle.kdtree.specs.Geometry.{next_axis}
use Rattle.kdtree.specs.Tree.{Tree, gone, bad, node}
use Rattle.angles.specs.Says.{sin_of, cos_of, atan2_of}
use Rattle.neighbors.specs.declared.Reached.{Reached}
use Rattle.neighbors.specs.declared.Reached.TheVariants.{At, Absent}
use Rattle.source.specs.Rust.{Option, None, Some, Angles}
use Rattle.source.specs.Lookup.{Hrtf}
use Rattle.source.specs.Neighbors.{Neighbors}
use Rattle.source.specs.Reader as reader
use Rattle.delays.specs.Delays.{answer_of}
use Rattle.interpolate.specs.Blend as port
use Rattle.interpolate.specs.Blend.{FilterAnswer}
use Rattle.source.specs.Kdtree as source
use Rattle.source.specs.Kdtree.{Link, kd_node, none, some}

-- the source's tree that the links draw: `number` says which number is kept with a place. A set that was filled draws no bad side.
unfoldable pub boxed : (ℕ → ℕ) → Tree → ℕ → Link
boxed number gone axis = none
boxed number bad axis = none
boxed number (node n p l r) axis = some (kd_node p axis (number n) (boxed number l (next_axis axis)) (boxed number r (next_axis axis)))

-- the source's box as six corners
unfoldable pub flat : source.BoundingBox → BoundingBox
flat b = record { min_x = b.min.x; min_y = b.min.y; min_z = b.min.z; max_x = b.max.x; max_y = b.max.y; max_z = b.max.z }

-- the port's sine, cosine and arctangent for the source's
abbrev pub ported : Angles
ported = record { sin = sin_of; cos = cos_of; atan2 = atan2_of }

-- the source's set of m measurements, r receivers and n taps: its positions are the first 3m values of the Cartesian list
abbrev pub hrtf_of : ℕ → ℕ → ℕ → List Float → List Float → List Float → Float → Hrtf
hrtf_of m r n xs responses delays rate = record {
  m = m;
  c = 3;
  r = r;
  n = n;
  source_position = take (3 * m) xs;
  data_ir = responses;
  data_delay = delays;
  sample_rate = rate;
}

-- an Option as what the port's search of a direction answers
abbrev pub reached_as : Option ℕ → Reached
reached_as None = Absent
reached_as (Some k) = At k

-- an Option as an entry of the port's table: 65535 for None
unfoldable pub entered : Option ℕ → ℕ
entered None = 65535
entered (Some k) = k

-- the source's six by the order of the table
unfoldable pub sixth : Neighbors → ℕ → Option ℕ
sixth s zero = s.phi_plus
sixth s (suc zero) = s.phi_minus
sixth s (suc (suc zero)) = s.theta_plus
sixth s (suc (suc (suc zero))) = s.theta_minus
sixth s (suc (suc (suc (suc zero)))) = s.radius_plus
sixth s (suc (suc (suc (suc (suc d))))) = s.radius_minus

-- the six entries of a row that stand for the source's six
abbrev pub entered_all : Neighbors → port.Neighbors
entered_all s = record {
  phi_plus = entered s.phi_plus;
  phi_minus = entered s.phi_minus;
  theta_plus = entered s.theta_plus;
  theta_minus = entered s.theta_minus;
  radius_plus = entered s.radius_plus;
  radius_minus = entered s.radius_minus;
}

-- what a filter query leaves, as the source's `Filter`: both outputs, and the two delays in seconds (+0 where it is refused)
abbrev pub heard : FilterAnswer → reader.Filter
heard f = record { left = f.left; right = f.right; ldelay = (answer_of f.answer).left.0; rdelay = (answer_of f.answer).right.0 }
