-- src/sofa/neighbors.rs, without its step getters. Definitions only.
use Rattle.std.specs.Prelude.{ℕ, zero, suc, ◌+◌, ◌*◌, cond, ◌||◌, List, [], ◌∷◌, length, from_bits, nat_eq, nat_le, Float}
use Rattle.std.proofs.Math.IntN as int
use Rattle.std.specs.Float.{binary32}
use Rattle.std.specs.Float.Ieee.{add, sub, mul, div, neg, lt, of_int}
use Rattle.floats.specs.Floats.{zero32, abs_of, max_of, clamp_of, ceil_of}
use Rattle.points.specs.declared.Point3.{Point3}
use Rattle.source.specs.Rust.{Option, None, Some, Angles, array}
use Rattle.source.specs.Coords.{cartesian_to_spherical, spherical_to_cartesian}
use Rattle.source.specs.Lookup.{Hrtf, Lookup, find, triplet}

-- const MAX_SEARCH_ANGLE
abbrev pub MAX_SEARCH_ANGLE : Float
MAX_SEARCH_ANGLE = from_bits binary32 0x42340000

-- struct Neighbors
pub record Neighbors : Type 0 where
  pub phi_plus : Option ℕ
  pub phi_minus : Option ℕ
  pub theta_plus : Option ℕ
  pub theta_minus : Option ℕ
  pub radius_plus : Option ℕ
  pub radius_minus : Option ℕ

-- Neighbors::default
abbrev pub default_neighbors : Neighbors
default_neighbors = record { phi_plus = None; phi_minus = None; theta_plus = None; theta_minus = None; radius_plus = None; radius_minus = None }

-- Neighborhood::search_direction: `max_steps`
unfoldable pub max_steps : Float → Float → ℕ
max_steps phi_step theta_step =
    cond (lt zero32 (abs_of phi_step) || lt zero32 (abs_of theta_step)) (ceil_of (div binary32 MAX_SEARCH_ANGLE (max_of (abs_of phi_step) (abs_of theta_step)))) 100

-- `if let Some(idx) = .. && idx != current_idx { return Some(idx) }`
unfoldable pub other_than : ℕ → Option ℕ → Option ℕ → Option ℕ
other_than current_idx None onward = onward
other_than current_idx (Some idx) onward = cond (nat_eq idx current_idx) onward (Some idx)

module _ (platform : Angles) where
  -- the loop `for step in 1..=max_steps`, k turns from `step` on
  unfoldable pub stepping : ℕ → Float → Float → Float → Float → Float → Float → Lookup → ℕ → ℕ → Option ℕ
  stepping current_idx phi theta radius phi_step theta_step radius_step lookup zero step = None
  stepping current_idx phi theta radius phi_step theta_step radius_step lookup (suc k) step =
      let step_f = of_int binary32 (int.pos step) in
      let new_phi = add binary32 phi (mul binary32 phi_step step_f) in
      let new_theta = clamp_of (add binary32 theta (mul binary32 theta_step step_f)) (from_bits binary32 0xc2b40000) (from_bits binary32 0x42b40000) in
      let new_radius = max_of (add binary32 radius (mul binary32 radius_step step_f)) (from_bits binary32 0x3a83126f) in
      let cart = spherical_to_cartesian platform (array new_phi new_theta new_radius) in
      cond (lt new_radius (sub binary32 lookup.radius_min (abs_of radius_step)) || lt (add binary32 lookup.radius_max (abs_of radius_step)) new_radius) None
      (other_than current_idx (find lookup cart) (stepping current_idx phi theta radius phi_step theta_step radius_step lookup k (step + 1)))

  unfoldable pub search_direction : ℕ → Float → Float → Float → Float → Float → Float → Lookup → Option ℕ
  search_direction current_idx phi theta radius phi_step theta_step radius_step lookup =
      stepping current_idx phi theta radius phi_step theta_step radius_step lookup (max_steps phi_step theta_step) 1

  -- Neighborhood::find_neighbors
  unfoldable pub find_neighbors : ℕ → Point3 → Lookup → Float → Float → Neighbors
  find_neighbors current_idx pos lookup angle_step radius_step =
      let spherical = cartesian_to_spherical platform pos in
      let search = search_direction current_idx spherical.x spherical.y spherical.z in
      record {
        phi_plus = search angle_step zero32 zero32 lookup;
        phi_minus = search (neg angle_step) zero32 zero32 lookup;
        theta_plus = search zero32 angle_step zero32 lookup;
        theta_minus = search zero32 (neg angle_step) zero32 lookup;
        radius_plus = search zero32 zero32 radius_step lookup;
        radius_minus = search zero32 zero32 (neg radius_step) lookup;
      }

  -- Neighborhood::new: k more measurements from i on
  unfoldable pub pushing : List Float → ℕ → Lookup → Float → Float → ℕ → ℕ → List Neighbors
  pushing source_pos c lookup angle_step radius_step zero i = []
  pushing source_pos c lookup angle_step radius_step (suc k) i =
      cond (nat_le (length source_pos) (i * c + 2)) default_neighbors (find_neighbors i (triplet source_pos (i * c)) lookup angle_step radius_step)
      ∷ pushing source_pos c lookup angle_step radius_step k (i + 1)

  unfoldable pub new_neighborhood : Hrtf → Lookup → Float → Float → List Neighbors
  new_neighborhood hrtf lookup angle_step radius_step = pushing hrtf.source_position hrtf.c lookup angle_step radius_step hrtf.m 0

-- Neighborhood::get
unfoldable pub get : List Neighbors → ℕ → Option Neighbors
get [] index = None
get (a ∷ l) zero = Some a
get (a ∷ l) (suc index) = get l index
