-- src/sofa/interpolate.rs. Definitions only. An `ArrayVec` is a list, and so is a `Vec`.
use Rattle.std.specs.Prelude.{ℕ, zero, suc, ◌+◌, ◌*◌, cond, ◌||◌, leb, List, [], ◌∷◌, ◌++◌, length, take, drop, replicate, ◌==◌, from_bits, nat_le, nat_lt, slice_index_or, slice_set, Float}
use Rattle.std.specs.Float.{binary32}
use Rattle.std.specs.Float.Ieee.{add, sub, mul, div, neg, lt}
use Rattle.floats.specs.Floats.{zero32, one32}
use Rattle.points.specs.declared.Point3.{Point3}
use Rattle.root.specs.Root.{root_of}
use Rattle.source.specs.Rust.{Option, None, Some, at, index, powi2, MAX}
use Rattle.source.specs.Lookup.{Hrtf, triplet}
use Rattle.source.specs.Neighbors.{Neighbors, get}

-- struct InterpolatedFilter
pub record InterpolatedFilter : Type 0 where
  pub left : List Float
  pub right : List Float
  pub delay_left : Float
  pub delay_right : Float

-- a point and its weight: (usize, f32)
pub record Weighted : Type 0 where
  pub idx : ℕ
  pub weight : Float

-- the f32 nearest to 1e-6 and to 1e-10
abbrev pub «1e-6» : Float
«1e-6» = from_bits binary32 0x358637bd

abbrev pub «1e-10» : Float
«1e-10» = from_bits binary32 0x2edbe6ff

-- fn distance
unfoldable pub distance : Point3 → Point3 → Float
distance a b = root_of (add binary32 (add binary32 (powi2 (sub binary32 (at a 0) (at b 0))) (powi2 (sub binary32 (at a 1) (at b 1)))) (powi2 (sub binary32 (at a 2) (at b 2))))

-- fn add_closer_neighbor: `best_idx` and `best_dist`, the body of its loop, and what is pushed
pub record Closer : Type 0 where
  pub best_idx : Option ℕ
  pub best_dist : Float

unfoldable pub closer : Point3 → List Float → ℕ → Closer → Option ℕ → Closer
closer position source_pos c b None = b
closer position source_pos c b (Some idx) =
    let dist = distance (triplet source_pos (idx * c)) position in
    cond (nat_le (length source_pos) (idx * c + 2)) b (cond (lt dist b.best_dist) (record { best_idx = Some idx; best_dist = dist }) b)

unfoldable pub pushed : List Weighted → Option ℕ → Float → List Weighted
pushed points None dist = points
pushed points (Some idx) dist = cond (lt «1e-10» dist) (points ++ ((record { idx = idx; weight = div binary32 one32 dist }) ∷ [])) points

unfoldable pub add_closer_neighbor : List Weighted → Option ℕ → Option ℕ → Point3 → List Float → ℕ → List Weighted
add_closer_neighbor points neighbor_a neighbor_b position source_pos c =
    let start : Closer = record { best_idx = None; best_dist = MAX } in
    let b = closer position source_pos c (closer position source_pos c start neighbor_a) neighbor_b in
    pushed points b.best_idx b.best_dist

-- fn extract_filter: `.get(i).copied().unwrap_or(d)`, its two delays, and the whole
abbrev pub value_or : List Float → ℕ → Float → Float
value_or s i d = slice_index_or s i d

pub record Delays : Type 0 where
  pub delay_left : Float
  pub delay_right : Float

unfoldable pub extract_delays : List Float → ℕ → ℕ → ℕ → Delays
extract_delays delay_values m r idx =
    cond (length delay_values == m) (record { delay_left = value_or delay_values idx zero32; delay_right = value_or delay_values idx zero32 })
    (cond (nat_le (m * r) (length delay_values)) (record { delay_left = value_or delay_values (idx * r) zero32; delay_right = value_or delay_values (idx * r + 1) zero32 })
    (cond (nat_le r (length delay_values)) (record { delay_left = value_or delay_values 0 zero32; delay_right = value_or delay_values 1 (value_or delay_values 0 zero32) })
    (record { delay_left = zero32; delay_right = zero32 })))

unfoldable pub extract_filter : Hrtf → ℕ → ℕ → ℕ → Option InterpolatedFilter
extract_filter hrtf idx n r =
    let ir_values = hrtf.data_ir in
    let ir_offset_left = idx * r * n in
    let ir_offset_right = ir_offset_left + n in
    let delays = extract_delays hrtf.data_delay hrtf.m r idx in
    cond (nat_lt (length ir_values) (ir_offset_right + n)) None
    (Some (record {
      left = take n (drop ir_offset_left ir_values);
      right = take n (drop ir_offset_right ir_values);
      delay_left = delays.delay_left;
      delay_right = delays.delay_right;
    }))

-- fn interpolate: `points.iter().map(|(_, w)| w).sum()`, which starts from -0
unfoldable pub sum_from : Float → List Weighted → Float
sum_from s [] = s
sum_from s (p ∷ points) = sum_from (add binary32 s p.weight) points

abbrev pub weight_sum : List Weighted → Float
weight_sum points = sum_from (neg zero32) points

-- `for i in 0..n { left[i] += ir_values[offset + i] * norm_weight }`, k turns from i on
unfoldable pub adding : List Float → ℕ → Float → ℕ → ℕ → List Float → List Float
adding ir_values offset norm_weight zero i left = left
adding ir_values offset norm_weight (suc k) i left =
    adding ir_values offset norm_weight k (i + 1) (slice_set left i (add binary32 (index left i) (mul binary32 (index ir_values (offset + i)) norm_weight)))

-- one weighted point added to the result so far
unfoldable pub add_delays : List Float → ℕ → ℕ → ℕ → Float → Float → Float → Delays
add_delays delay_values m r idx norm_weight l t =
    let both : Float → Float → Delays = λ a b. record {
      delay_left = add binary32 l (mul binary32 a norm_weight);
      delay_right = add binary32 t (mul binary32 b norm_weight);
    } in
    let kept : Delays = record { delay_left = l; delay_right = t } in
    cond (length delay_values == m) (both (index delay_values idx) (index delay_values idx))
    (cond (nat_le (m * r) (length delay_values))
    (cond (nat_lt (idx * r + 1) (length delay_values)) (both (index delay_values (idx * r)) (index delay_values (idx * r + 1))) kept)
    (cond (nat_le r (length delay_values)) (both (index delay_values 0) (value_or delay_values 1 (index delay_values 0))) kept))

unfoldable pub add_point : Hrtf → Float → InterpolatedFilter → Weighted → InterpolatedFilter
add_point hrtf sum f p =
    let n = hrtf.n in
    let r = hrtf.r in
    let ir_values = hrtf.data_ir in
    let norm_weight = div binary32 p.weight sum in
    let ir_offset_left = p.idx * r * n in
    let ir_offset_right = ir_offset_left + n in
    let fits = leb (ir_offset_right + n) (length ir_values) in
    let delays = add_delays hrtf.data_delay hrtf.m r p.idx norm_weight f.delay_left f.delay_right in
    record {
      left = cond fits (adding ir_values ir_offset_left norm_weight n 0 f.left) f.left;
      right = cond fits (adding ir_values ir_offset_right norm_weight n 0 f.right) f.right;
      delay_left = delays.delay_left;
      delay_right = delays.delay_right;
    }

-- `for (idx, weight) in &points`
unfoldable pub add_points : Hrtf → Float → InterpolatedFilter → List Weighted → InterpolatedFilter
add_points hrtf sum f [] = f
add_points hrtf sum f (p ∷ points) = add_points hrtf sum (add_point hrtf sum f p) points

abbrev pub silent : ℕ → InterpolatedFilter
silent n = record { left = replicate n zero32; right = replicate n zero32; delay_left = zero32; delay_right = zero32 }

-- the points: the nearest, and the closer neighbour from each directional pair
unfoldable pub points : Hrtf → Neighbors → ℕ → Float → Point3 → List Weighted
points hrtf neighbors nearest_idx nearest_dist position =
    let add : List Weighted → Option ℕ → Option ℕ → List Weighted = λ l a b. add_closer_neighbor l a b position hrtf.source_position hrtf.c in
    let first : List Weighted = (record { idx = nearest_idx; weight = div binary32 one32 nearest_dist }) ∷ [] in
    add (add (add first neighbors.phi_plus neighbors.phi_minus) neighbors.theta_plus neighbors.theta_minus) neighbors.radius_plus neighbors.radius_minus

-- from `let neighbors = neighborhood.get(nearest_idx)?` on
unfoldable pub blended : Hrtf → Option Neighbors → ℕ → Float → Point3 → Option InterpolatedFilter
blended hrtf None nearest_idx nearest_dist position = None
blended hrtf (Some neighbors) nearest_idx nearest_dist position =
    let l = points hrtf neighbors nearest_idx nearest_dist position in
    cond (lt (weight_sum l) «1e-10») (extract_filter hrtf nearest_idx hrtf.n hrtf.r) (Some (add_points hrtf (weight_sum l) (silent hrtf.n) l))

unfoldable pub interpolate : Hrtf → List Neighbors → ℕ → Point3 → Option InterpolatedFilter
interpolate hrtf neighborhood nearest_idx position =
    let source_pos = hrtf.source_position in
    let nearest_dist = distance (triplet source_pos (nearest_idx * hrtf.c)) position in
    cond (nat_lt hrtf.r 2 || leb hrtf.m nearest_idx) None
    (cond (nat_le (length source_pos) (nearest_idx * hrtf.c + 2)) None
    (cond (lt nearest_dist «1e-6») (extract_filter hrtf nearest_idx hrtf.n hrtf.r)
    (blended hrtf (get neighborhood nearest_idx) nearest_idx nearest_dist position)))

-- fn get_filter_nointerp
unfoldable pub get_filter_nointerp : Hrtf → ℕ → Option InterpolatedFilter
get_filter_nointerp hrtf nearest_idx = extract_filter hrtf nearest_idx hrtf.n hrtf.r
