-- The six neighbours of each measurement, and the whole table: the port's entries are the source's. Assumes nothing.
use mathlib.Core.Path.{◌≡◌, refl, sym, ap, ◌∙◌, subst}
use mathlib.Core.Bool.{Bool, true, cond}
use mathlib.Core.List.{List}
use Prim.Native.Nat.{ℕ, zero, suc, ◌+◌, ◌*◌, ◌/◌, ◌%◌, ◌<◌, ◌≤◌}
use native.Mathlib.Omega.{arith}
use lib.ListN.{length, take}
use lib.Ieee.{Float, neg}
use Rattle.std.specs.Prelude.{Ok}
use Rattle.floats.specs.Floats.{zero32, abs_of}
use Rattle.lists.specs.Over.{over, upto}
use Rattle.points.specs.declared.Point3.{Point3}
use Rattle.points.specs.Points.{point_at}
use Rattle.coords.specs.declared.Spherical.{Spherical}
use Rattle.coords.specs.Coords.{spherical_of}
use Rattle.limits.specs.Allowed.{angle_step_ok}
use Rattle.lookup.specs.Build.{lookup_of}
use Rattle.neighbors.specs.declared.Reached.{Reached}
use Rattle.neighbors.specs.Neighbors.{steps, step_of, angle_cap, cap_of, going, direction_of, neighbor_of, table_entry, tabled_as, table_of}
use Rattle.neighbors.proofs.Table.{Writes, writes_at, writes_absent, all_answered}
use Rattle.source.specs.Rust.{Option, None, Some}
use Rattle.source.specs.Coords.{cartesian_to_spherical}
use Rattle.source.specs.Lookup.{triplet}
use Rattle.source.specs.Neighbors.{Neighbors, default_neighbors, max_steps, stepping, search_direction, find_neighbors, pushing, new_neighborhood, get}
use Rattle.source_laws.specs.Drawn.{ported, hrtf_of, reached_as, entered, sixth}
use Rattle.source_laws.proofs.Linked.{Holds}
use Rattle.source_laws.proofs.Built.{measured_to, point_here, inside}
use Rattle.source_laws.proofs.Turns.{spherical_same}
use Rattle.source_laws.proofs.Caps.{above_zero, abs_positive, abs_negated, phi_cap, theta_cap, radius_cap}
use Rattle.source_laws.proofs.Steps.{InSet, steps_same}

-- what the port writes of the source's answer
writes_entered : (r : Reached) (o : Option ℕ) → r ≡ reached_as o → Writes r (entered o)
unfolding entered
writes_entered r None e = writes_absent r _ e refl
writes_entered r (Some k) e = writes_at r k k e refl

module _ (xs : List Float) (n : ℕ) (small : suc n ≤ 16384) (left right : List ℕ) (h : Holds xs n left right) (angle radius : Float) (ok : angle_step_ok angle ≡ true) where
  -- the source's six neighbours of a measurement
  abbrev pub six : ℕ → Neighbors
  six own = find_neighbors ported own (point_at xs own) (measured_to xs (suc n)) angle radius

  -- an entry and the source's answer
  abbrev pub Entry : ℕ → ℕ → Option ℕ → Type 0
  Entry own d o = (neighbor_of (lookup_of xs (suc n)) (suc n) xs left right angle radius own d ≡ reached_as o) × InSet (suc n) o

  module _ (own : ℕ) where
    abbrev from : Spherical
    from = spherical_of (point_at xs own)

    abbrev search : Point3 → Spherical → Option ℕ
    search p step = search_direction ported own p.x p.y p.z step.azimuth step.elevation step.radius (measured_to xs (suc n))

    -- the source's search along a step, so many turns
    abbrev goes : Spherical → ℕ → Option ℕ
    goes step k = stepping ported own from.azimuth from.elevation from.radius step.azimuth step.elevation step.radius (measured_to xs (suc n)) k 1

    source_goes : (step : Spherical) (cap : ℕ) → max_steps step.azimuth step.elevation ≡ cap → search (cartesian_to_spherical ported (point_at xs own)) step ≡ goes step cap
    unfolding search_direction
    source_goes step cap em = ap (λ (p : Point3). search p step) (spherical_same (point_at xs own)) ∙ ap (goes step) em

    port_goes : (d : ℕ) (step : Spherical) (cap : ℕ) → step_of d angle radius ≡ step → cap_of d angle ≡ cap → Entry own d (goes step cap)
    unfolding neighbor_of direction_of
    port_goes d step cap es ec =
        let s = steps_same xs n small left right h own from step cap 0 in
        let look = lookup_of xs (suc n) in (
          ap (λ (z : Spherical). going look (suc n) xs left right own from z (cap_of d angle) 0) es ∙ ap (λ (k : ℕ). going look (suc n) xs left right own from step k 0) ec ∙ s.0,
          s.1,
        )

    one : (d : ℕ) (step : Spherical) (cap : ℕ) → step_of d angle radius ≡ step → cap_of d angle ≡ cap → max_steps step.azimuth step.elevation ≡ cap
        → Entry own d (search (cartesian_to_spherical ported (point_at xs own)) step)
    one d step cap es ec em = subst (Entry own d) (sym (source_goes step cap em)) (port_goes d step cap es ec)

    up : abs_of angle ≡ angle
    up = abs_positive angle (above_zero angle ok)

    down : abs_of (neg angle) ≡ angle
    down = abs_negated angle ∙ up

    -- THE SIX NEIGHBOURS, by the order of the table
    pub six_same : (d : ℕ) → d < 6 → Entry own d (sixth (six own) d)
    unfolding find_neighbors sixth step_of cap_of
    six_same zero l = one 0 (steps angle zero32 zero32) (angle_cap angle) refl refl (phi_cap angle ok angle up)
    six_same (suc zero) l = one 1 (steps (neg angle) zero32 zero32) (angle_cap angle) refl refl (phi_cap angle ok (neg angle) down)
    six_same (suc (suc zero)) l = one 2 (steps zero32 angle zero32) (angle_cap angle) refl refl (theta_cap angle ok angle up)
    six_same (suc (suc (suc zero))) l = one 3 (steps zero32 (neg angle) zero32) (angle_cap angle) refl refl (theta_cap angle ok (neg angle) down)
    six_same (suc (suc (suc (suc zero)))) l = one 4 (steps zero32 zero32 radius) 100 refl refl radius_cap
    six_same (suc (suc (suc (suc (suc zero))))) l = one 5 (steps zero32 zero32 (neg radius)) 100 refl refl radius_cap
    six_same (suc (suc (suc (suc (suc (suc d)))))) l = absurd (omega arith)

  -- the entry at a place of the table
  abbrev pub entry_at : ℕ → ℕ
  entry_at k = entered (sixth (six (k / 6)) (k % 6))

  entry_same : (k : ℕ) → Writes (table_entry (lookup_of xs (suc n)) (suc n) xs left right angle radius k) (entry_at k)
  unfolding table_entry
  entry_same k = writes_entered _ (sixth (six (k / 6)) (k % 6)) (six_same (k / 6) (k % 6) (omega arith)).0

  -- THE WHOLE TABLE: no entry refuses, and the 6m entries are the source's
  pub table_same : (d : List ℕ) → 6 * suc n ≤ length d
      → table_of (lookup_of xs (suc n)) (suc n) xs left right angle radius d ≡ tabled_as (Ok tt) (over (upto entry_at (6 * suc n)) d)
  unfolding table_of
  table_same d l = all_answered (table_entry (lookup_of xs (suc n)) (suc n) xs left right angle radius) entry_at d (6 * suc n) (λ k b. entry_same k) l

  -- ---- Neighborhood::new

  module _ (long : 3 * suc n ≤ length xs) where
    pushed : (k i j : ℕ) → i + k ≤ suc n → j < k → get (pushing ported (take (3 * suc n) xs) 3 (measured_to xs (suc n)) angle radius k i) j ≡ Some (six (i + j))
    unfolding pushing get
    pushed zero i j h l = absurd (omega arith)
    pushed (suc k) i zero h l =
        let e : i ≡ i + 0 = omega arith in
        ap (λ (b : Bool). Some (cond b default_neighbors (find_neighbors ported i (triplet (take (3 * suc n) xs) (i * 3)) (measured_to xs (suc n)) angle radius))) (inside xs (suc n) i long (omega arith))
        ∙ ap (λ (p : Point3). Some (find_neighbors ported i p (measured_to xs (suc n)) angle radius)) (point_here xs (suc n) i (omega arith))
        ∙ ap (λ (a : ℕ). Some (six a)) e
    pushed (suc k) i (suc j) h l = let e : i + 1 + j ≡ i + suc j = omega arith in pushed k (i + 1) j (omega arith) (omega arith) ∙ ap (λ (a : ℕ). Some (six a)) e

    -- NEIGHBORHOOD::NEW has these six for each measurement
    pub neighborhood_same : (r k : ℕ) (resp delays : List Float) (rate : Float) (own : ℕ) → own < suc n
        → get (new_neighborhood ported (hrtf_of (suc n) r k xs resp delays rate) (measured_to xs (suc n)) angle radius) own ≡ Some (six own)
    unfolding new_neighborhood
    neighborhood_same r k resp delays rate own l = let e : 0 + own ≡ own = omega arith in pushed (suc n) 0 own (omega arith) l ∙ ap (λ (a : ℕ). Some (six a)) e
