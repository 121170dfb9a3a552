-- src/sofa/lookup.rs, and what it reads of an `Hrtf`. Definitions only.
use Rattle.std.specs.Prelude.{ℕ, zero, suc, ◌+◌, ◌*◌, cond, not, ◌&&◌, ◌||◌, List, length, ◌==◌, nat_le, Float}
use Rattle.std.specs.Float.{binary32}
use Rattle.std.specs.Float.Ieee.{mul, div, lt}
use Rattle.floats.specs.Floats.{zero32, min_of, max_of}
use Rattle.points.specs.declared.Point3.{Point3}
use Rattle.source.specs.Rust.{Option, None, Some, Angles, array, index, MAX, MIN}
use Rattle.source.specs.Coords.{cartesian_to_spherical, radius}
use Rattle.source.specs.Kdtree.{KdTree, new_tree, insert, nearest, is_empty}

-- struct Hrtf: dimensions().m, c, r and n, source_position.values, data_ir.values, data_delay.values, sample_rate()
pub record Hrtf : Type 0 where
  pub m : ℕ
  pub c : ℕ
  pub r : ℕ
  pub n : ℕ
  pub source_position : List Float
  pub data_ir : List Float
  pub data_delay : List Float
  pub sample_rate : Float

-- struct Lookup
pub record Lookup : Type 0 where
  pub kdtree : KdTree
  pub phi_min : Float
  pub phi_max : Float
  pub theta_min : Float
  pub theta_max : Float
  pub radius_min : Float
  pub radius_max : Float

-- [source_pos[offset], source_pos[offset + 1], source_pos[offset + 2]]
abbrev pub triplet : List Float → ℕ → Point3
triplet source_pos offset = array (index source_pos offset) (index source_pos (offset + 1)) (index source_pos (offset + 2))

module _ (platform : Angles) where
  -- Lookup::new: what its loop starts with, its body, and the loop of k more turns from i on, with its `break`
  abbrev pub none_measured : Lookup
  none_measured = record { kdtree = new_tree; phi_min = MAX; phi_max = MIN; theta_min = MAX; theta_max = MIN; radius_min = MAX; radius_max = MIN }

  unfoldable pub measured : Lookup → Point3 → ℕ → Lookup
  measured look pos i =
      let spherical = cartesian_to_spherical platform pos in
      record {
        kdtree = insert look.kdtree pos i;
        phi_min = min_of look.phi_min spherical.x;
        phi_max = max_of look.phi_max spherical.x;
        theta_min = min_of look.theta_min spherical.y;
        theta_max = max_of look.theta_max spherical.y;
        radius_min = min_of look.radius_min spherical.z;
        radius_max = max_of look.radius_max spherical.z;
      }

  unfoldable pub measuring : List Float → ℕ → ℕ → ℕ → Lookup → Lookup
  measuring source_pos c zero i look = look
  measuring source_pos c (suc k) i look =
      cond (nat_le (length source_pos) (i * c + 2)) look (measuring source_pos c k (i + 1) (measured look (triplet source_pos (i * c)) i))

  unfoldable pub new_lookup : Hrtf → Option Lookup
  new_lookup hrtf =
      let look = measuring hrtf.source_position hrtf.c hrtf.m 0 none_measured in
      cond (length hrtf.source_position == 0 || not (hrtf.c == 3)) None (cond (is_empty look.kdtree) None (Some look))

-- Lookup::normalize_radius
unfoldable pub normalize_radius : Lookup → Point3 → Point3
normalize_radius look pos =
    let r = radius pos in
    let times : Float → Point3 = λ scale. array (mul binary32 pos.x scale) (mul binary32 pos.y scale) (mul binary32 pos.z scale) in
    cond (lt look.radius_max r) (times (div binary32 look.radius_max r))
    (cond (lt r look.radius_min && lt zero32 r) (times (div binary32 look.radius_min r)) pos)

-- Lookup::find
unfoldable pub find : Lookup → Point3 → Option ℕ
find look coordinate = nearest look.kdtree (normalize_radius look coordinate)

-- Lookup::find_mut: its answer, and the coordinate afterwards
pub record FoundMut : Type 0 where
  pub answer : Option ℕ
  pub coordinate : Point3

unfoldable pub find_mut : Lookup → Point3 → FoundMut
find_mut look coordinate =
    let moved = normalize_radius look coordinate in
    record { answer = nearest look.kdtree moved; coordinate = moved }
