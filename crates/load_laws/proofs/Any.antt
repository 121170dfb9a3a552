-- WHAT THE SOURCE'S ANGLES GIVE WHERE DOCUMENT 01 REFUSES A CALL CHANGES NOTHING: with any functions that agree with `sine`, `cosine` and `arctangent` where those
-- answer, the source converts and opens as with the port's. Assumes nothing.
use mathlib.Core.Path.{◌≡◌, refl, sym, ap, ◌∙◌, subst}
use mathlib.Core.Bool.{Bool, true, false, not, cond, ◌&&◌, ◌||◌}
use mathlib.Core.List.{List, [], ◌∷◌}
use Prim.Native.Nat.{ℕ, zero, suc, ◌+◌, ◌*◌, ◌/◌, ◌%◌, ◌<◌, ◌≤◌}
use native.Mathlib.Omega.{arith}
use lib.Dec.{leb, eqb}
use lib.ListN.{length, take, get_or}
use lib.Ieee.Scale.{finite}
use lib.Ieee.{Float, nan, binary32, add, sub, mul, rem, neg, lt}
use Rattle.std.specs.Prelude.{Ok, Err}
use Rattle.floats.specs.Floats.{zero32, abs_of, min_of, max_of}
use Rattle.points.specs.declared.Point3.{Point3}
use Rattle.points.specs.Points.{point_at}
use Rattle.root.specs.Root.{root_of}
use Rattle.limits.specs.Allowed.{kind_ok, cartesian_ok, angle_ok, radius_ok, position_ok, angle_step_ok}
use Rattle.limits.specs.Refusals.{triplets}
use Rattle.limits.proofs.Passed.{Allowed, values_passed}
use Rattle.lookup.specs.declared.Lookup as port
use Rattle.sines.specs.Sines.{plus_zero, in_range, sine_steps, cosine_steps}
use Rattle.refusals.specs.declared.Refusal.TheVariants.{BadValue}
use Rattle.angles.specs.Arc.{arctan_steps}
use Rattle.angles.specs.Says.{sin_of, cos_of, atan2_of, sine_says, cosine_says, arctan_says}
use Rattle.coords.specs.declared.Spherical.{Spherical}
use Rattle.coords.specs.Coords.{full32, per_radian, turn_of, flat_of, spherical_of}
use Rattle.coords.specs.Arrays.{laid, lifted}
use Rattle.coord_laws.specs.Answered.{ToCartesian, ToSpherical}
use Rattle.coord_laws.proofs.Inside.{list_copied}
use Rattle.coord_laws.proofs.Answered.{triplet_answered, spherical_answered}
use Rattle.neighbors.specs.Neighbors.{after, tilted, distant, moved, steps, step_of, angle_cap, cap_of}
use Rattle.neighbor_laws.specs.Answered.{SearchAnswered}
use Rattle.loads.specs.Load.{indexed}
use Rattle.source.specs.Rust.{Option, None, Some, Angles, array}
use Rattle.source.specs.Coords.{cartesian_to_spherical, spherical_to_cartesian, convert_array_to_spherical, convert_array_to_cartesian}
use Rattle.source.specs.Kdtree.{insert, is_empty}
use Rattle.source.specs.Lookup.{Hrtf, Lookup, find, triplet, none_measured, measured, measuring, new_lookup}
use Rattle.source.specs.Hrtf.{convert_array_to_cartesian_if_spherical, convert_to_cartesian}
use Rattle.source.specs.Neighbors.{Neighbors, other_than, stepping, max_steps, search_direction, find_neighbors, pushing, default_neighbors, new_neighborhood}
use Rattle.source.specs.Reader.{opened, opened_by, open_data}
use Rattle.source_laws.specs.Drawn.{ported}
use Rattle.source_laws.specs.Same.{hrtf}
use Rattle.source_laws.proofs.Turns.{spherical_same}
use Rattle.source_laws.proofs.Built.{point_here}
use Rattle.source_laws.proofs.Caps.{above_zero, abs_positive, abs_negated, phi_cap, theta_cap, radius_cap}
use Rattle.load_laws.specs.Load.{Given, judged, loaded, set_in, type_of, file}
use Rattle.load_laws.specs.Domain.{Domain}
use Rattle.load_laws.specs.Angles.{Agree, ConvertsWithAny, OpensWithAny}
use Rattle.load_laws.proofs.Positions.{one_of}
use Rattle.load_laws.proofs.Loaded.{done, cart, went}
use Rattle.load_laws.proofs.Load.{converts, ready_fine}
use Rattle.load_laws.proofs.Domain.{accepts, demand_2}
use Rattle.load_laws.proofs.Angles.{place_searched}

-- ---- the port's own are such functions

one_test : (b : Bool) (s v : Float) → cond b (Ok s) (Err (BadValue 0)) ≡ Ok v → cond b s plus_zero ≡ v
one_test true s v e = cc
one_test false s v e = cc

two_tests : (a b : Bool) (s v : Float) → cond a (cond b (Ok s) (Err (BadValue 1))) (Err (BadValue 0)) ≡ Ok v → cond (a && b) s plus_zero ≡ v
two_tests true true s v e = cc
two_tests true false s v e = cc
two_tests false b s v e = cc

pub ported_agree : Agree ported
unfolding sin_of cos_of atan2_of sine_says cosine_says arctan_says
ported_agree = record {
  sin = λ x v. one_test (in_range x) (sine_steps x) v;
  cos = λ x v. one_test (in_range x) (cosine_steps x) v;
  atan2 = λ y x v. two_tests (finite y) (finite x) (arctan_steps y x) v;
}

-- ---- lists of whole triplets

-- past one triplet the same kinds of values stand
same_kind : (kind i : ℕ) (x : Float) → position_ok kind (suc (suc (suc i))) x ≡ position_ok kind i x
unfolding position_ok
same_kind kind i x =
    let e : suc (suc (suc i)) % 3 ≡ i % 3 = omega arith in
    ap (λ (r : ℕ). cond (eqb kind 0) (cartesian_ok x) (cond (eqb kind 1) (cond (eqb r 2) (radius_ok x) (angle_ok x)) false)) e

past_triplet : (kind : ℕ) (a b c : Float) (rest : List Float) (k : ℕ) → Allowed kind (a ∷ b ∷ c ∷ rest) (3 * suc k) → Allowed kind rest (3 * k)
past_triplet kind a b c rest k ok i h = sym (same_kind kind i (get_or rest i nan)) ∙ ok (suc (suc (suc i))) (omega arith)

module _ (platform : Angles) (A : Agree platform) where
  -- ---- one point

  point_to_cartesian : (p : Point3) → ToCartesian (lifted p) → spherical_to_cartesian platform p ≡ spherical_to_cartesian ported p
  unfolding spherical_to_cartesian turn_of
  point_to_cartesian p t =
      let sp = A.sin _ _ t.azimuth.sine_said in
      let cp = A.cos _ _ t.azimuth.cosine_said in
      let st = A.sin _ _ t.elevation.sine_said in
      let ct = A.cos _ _ t.elevation.cosine_said in
      λ i. array (mul binary32 (cp i) (mul binary32 (ct i) p.z)) (mul binary32 (sp i) (mul binary32 (ct i) p.z)) (mul binary32 (st i) p.z)

  point_to_spherical : (p : Point3) → ToSpherical p → cartesian_to_spherical platform p ≡ cartesian_to_spherical ported p
  unfolding cartesian_to_spherical
  point_to_spherical p t =
      let phi = A.atan2 _ _ _ t.azimuth.says in
      let theta = A.atan2 _ _ _ t.elevation.says in
      λ i. array (rem binary32 (add binary32 (mul binary32 (phi i) per_radian) full32) full32) (mul binary32 (theta i) per_radian) (root_of (add binary32 (flat_of p) (mul binary32 p.z p.z)))

  -- ---- a list

  list_to_cartesian : (xs : List Float) (k : ℕ) → Allowed 1 xs (3 * k) → length xs < 3 * k + 3 → convert_array_to_cartesian platform xs ≡ convert_array_to_cartesian ported xs
  unfolding convert_array_to_cartesian
  list_to_cartesian [] k ok l = refl
  list_to_cartesian (a ∷ []) k ok l = refl
  list_to_cartesian (a ∷ b ∷ []) k ok l = refl
  list_to_cartesian (a ∷ b ∷ c ∷ rest) zero ok l = absurd (omega arith)
  list_to_cartesian (a ∷ b ∷ c ∷ rest) (suc k) ok l =
      ap (λ (p : Point3). p.x ∷ p.y ∷ p.z ∷ convert_array_to_cartesian platform rest) (point_to_cartesian (array a b c) (unfold point_at in triplet_answered (a ∷ b ∷ c ∷ rest) (3 * suc k) ok 0 (omega arith)))
      ∙ ap (λ (r : List Float). let p = spherical_to_cartesian ported (array a b c) in p.x ∷ p.y ∷ p.z ∷ r) (list_to_cartesian rest k (past_triplet 1 a b c rest k ok) (omega arith))

  list_to_spherical : (xs : List Float) (k : ℕ) → Allowed 0 xs (3 * k) → length xs < 3 * k + 3 → convert_array_to_spherical platform xs ≡ convert_array_to_spherical ported xs
  unfolding convert_array_to_spherical
  list_to_spherical [] k ok l = refl
  list_to_spherical (a ∷ []) k ok l = refl
  list_to_spherical (a ∷ b ∷ []) k ok l = refl
  list_to_spherical (a ∷ b ∷ c ∷ rest) zero ok l = absurd (omega arith)
  list_to_spherical (a ∷ b ∷ c ∷ rest) (suc k) ok l =
      ap (λ (p : Point3). p.x ∷ p.y ∷ p.z ∷ convert_array_to_spherical platform rest) (point_to_spherical (array a b c) (spherical_answered (array a b c) (unfold point_at in list_copied (a ∷ b ∷ c ∷ rest) (3 * suc k) ok 0 (omega arith))))
      ∙ ap (λ (r : List Float). let p = cartesian_to_spherical ported (array a b c) in p.x ∷ p.y ∷ p.z ∷ r) (list_to_spherical rest k (past_triplet 0 a b c rest k ok) (omega arith))

  -- WHATEVER A CONVERSION ACCEPTS
  pub any_converts : ConvertsWithAny platform
  any_converts = record {
    to_spherical = λ xs fine. list_to_spherical xs (length xs / 3) (subst (Allowed 0 xs) (whole xs) (values_passed 0 xs fine)) (rest xs);
    to_cartesian = λ xs fine. list_to_cartesian xs (length xs / 3) (subst (Allowed 1 xs) (whole xs) (values_passed 1 xs fine)) (rest xs);
  }
    where
      whole : (xs : List Float) → triplets xs ≡ 3 * (length xs / 3)
      whole xs = omega arith

      rest : (xs : List Float) → length xs < 3 * (length xs / 3) + 3
      rest xs = omega arith

  -- ---- Lookup::new

  measured_any : (look : Lookup) (p : Point3) (i : ℕ) → ToSpherical p → measured platform look p i ≡ measured ported look p i
  unfolding measured
  measured_any look p i t = ap (λ (s : Point3). record {
    kdtree = insert look.kdtree p i;
    phi_min = min_of look.phi_min s.x;
    phi_max = max_of look.phi_max s.x;
    theta_min = min_of look.theta_min s.y;
    theta_max = max_of look.theta_max s.y;
    radius_min = min_of look.radius_min s.z;
    radius_max = max_of look.radius_max s.z;
  }) (point_to_spherical p t)

  module _ (sp : List Float) (c m : ℕ) (angle radius : Float) (ok : angle_step_ok angle ≡ true) (all : (i : ℕ) → i < m → SearchAnswered angle radius (triplet sp (i * c))) where
    measuring_any : (k i : ℕ) (look : Lookup) → i + k ≤ m → measuring platform sp c k i look ≡ measuring ported sp c k i look
    unfolding measuring
    measuring_any zero i look l = refl
    measuring_any (suc k) i look l =
        ap (λ (z : Lookup). cond (leb (length sp) (i * c + 2)) look (measuring platform sp c k (i + 1) z)) (measured_any look (triplet sp (i * c)) i (all i (omega arith)).start)
        ∙ ap (λ (z : Lookup). cond (leb (length sp) (i * c + 2)) look z) (measuring_any k (i + 1) (measured ported look (triplet sp (i * c)) i) (omega arith))

    -- ---- Neighborhood::new

    module _ (look : Lookup) where
      -- k turns from the step s on
      steps_any : (own : ℕ) (from step : Spherical) (k s : ℕ) → ((j : ℕ) → s ≤ j → j < s + k → ToCartesian (moved from step j))
          → stepping platform own from.azimuth from.elevation from.radius step.azimuth step.elevation step.radius look k s
          ≡ stepping ported own from.azimuth from.elevation from.radius step.azimuth step.elevation step.radius look k s
      unfolding stepping moved after tilted distant
      steps_any own from step zero s h = refl
      steps_any own from step (suc k) s h =
          let there = moved from step s in
          let ends = lt there.radius (sub binary32 look.radius_min (abs_of step.radius)) || lt (add binary32 look.radius_max (abs_of step.radius)) there.radius in
          let further : Angles → Option ℕ = λ a. stepping a own from.azimuth from.elevation from.radius step.azimuth step.elevation step.radius look k (s + 1) in
          ap (λ (p : Point3). cond ends None (other_than own (find look p) (further platform))) (point_to_cartesian (laid there) (h s (omega arith) (omega arith)))
          ∙ ap (λ (o : Option ℕ). cond ends None (other_than own (find look (spherical_to_cartesian ported (laid there))) o)) (steps_any own from step k (s + 1) (λ j a b. h j (omega arith) (omega arith)))

      -- from a place, by a step: `max_steps` turns are those of the cap
      direction_any : (own : ℕ) (p : Point3) (step : Spherical) (cap : ℕ) → max_steps step.azimuth step.elevation ≡ cap → ((s : ℕ) → s ≤ cap → ToCartesian (moved (spherical_of p) step s))
          → (let f = spherical_of p in
          search_direction platform own f.azimuth f.elevation f.radius step.azimuth step.elevation step.radius look
          ≡ search_direction ported own f.azimuth f.elevation f.radius step.azimuth step.elevation step.radius look)
      unfolding search_direction
      direction_any own p step cap e h = steps_any own (spherical_of p) step (max_steps step.azimuth step.elevation) 1 (λ j a b. h j (omega (arith, e)))

      -- the six searches from a place
      six : Angles → ℕ → Point3 → Neighbors
      six a own s =
          let search = search_direction a own s.x s.y s.z in
          record {
            phi_plus = search angle zero32 zero32 look;
            phi_minus = search (neg angle) zero32 zero32 look;
            theta_plus = search zero32 angle zero32 look;
            theta_minus = search zero32 (neg angle) zero32 look;
            radius_plus = search zero32 zero32 radius look;
            radius_minus = search zero32 zero32 (neg radius) look;
          }

      neighbors_any : (own : ℕ) (p : Point3) → SearchAnswered angle radius p → find_neighbors platform own p look angle radius ≡ find_neighbors ported own p look angle radius
      unfolding find_neighbors step_of cap_of six
      neighbors_any own p t =
          let up = abs_positive angle (above_zero angle ok) in
          let down = abs_negated angle ∙ up in
          let e0 = direction_any own p (steps angle zero32 zero32) (angle_cap angle) (phi_cap angle ok angle up) (t.step 0) in
          let e1 = direction_any own p (steps (neg angle) zero32 zero32) (angle_cap angle) (phi_cap angle ok (neg angle) down) (t.step 1) in
          let e2 = direction_any own p (steps zero32 angle zero32) (angle_cap angle) (theta_cap angle ok angle up) (t.step 2) in
          let e3 = direction_any own p (steps zero32 (neg angle) zero32) (angle_cap angle) (theta_cap angle ok (neg angle) down) (t.step 3) in
          let e4 = direction_any own p (steps zero32 zero32 radius) 100 radius_cap (t.step 4) in
          let e5 = direction_any own p (steps zero32 zero32 (neg radius)) 100 radius_cap (t.step 5) in
          let there = point_to_spherical p t.start ∙ spherical_same p in
          let found : six platform own (laid (spherical_of p)) ≡ six ported own (laid (spherical_of p)) = λ i. record {
            phi_plus = e0 i;
            phi_minus = e1 i;
            theta_plus = e2 i;
            theta_minus = e3 i;
            radius_plus = e4 i;
            radius_minus = e5 i;
          } in
          ap (six platform own) there ∙ found ∙ ap (six ported own) (sym (spherical_same p))

      pushing_any : (k i : ℕ) → i + k ≤ m → pushing platform sp c look angle radius k i ≡ pushing ported sp c look angle radius k i
      unfolding pushing
      pushing_any zero i l = refl
      pushing_any (suc k) i l =
          ap (λ (n : Neighbors). cond (leb (length sp) (i * c + 2)) default_neighbors n ∷ pushing platform sp c look angle radius k (i + 1)) (neighbors_any i (triplet sp (i * c)) (all i (omega arith)))
          ∙ ap (λ (r : List Neighbors). cond (leb (length sp) (i * c + 2)) default_neighbors (find_neighbors ported i (triplet sp (i * c)) look angle radius) ∷ r) (pushing_any k (i + 1) (omega arith))

  -- ---- OpenOptions::open_data

  module _ (h : Hrtf) (angle radius : Float) (ok : angle_step_ok angle ≡ true) (all : (i : ℕ) → i < h.m → SearchAnswered angle radius (triplet h.source_position (i * h.c))) where
    new_any : new_lookup platform h ≡ new_lookup ported h
    unfolding new_lookup
    new_any = ap (λ (l : Lookup). cond (eqb (length h.source_position) 0 || not (eqb h.c 3)) None (cond (is_empty l.kdtree) None (Some l)))
        (measuring_any h.source_position h.c h.m angle radius ok all h.m 0 (none_measured ported) (omega arith))

    by_lookup : (o : Option Lookup) → opened_by platform h angle radius o ≡ opened_by ported h angle radius o
    unfolding opened_by new_neighborhood
    by_lookup None = refl
    by_lookup (Some l) = ap (λ (n : List Neighbors). Some (record { hrtf = h; lookup = l; neighborhood = n })) (pushing_any h.source_position h.c h.m angle radius ok all l h.m 0 (omega arith))

    opened_any : opened platform h angle radius ≡ opened ported h angle radius
    unfolding opened
    opened_any = ap (opened_by platform h angle radius) new_any ∙ by_lookup (new_lookup ported h)

  positions_any : (kind : ℕ) (xs : List Float) (m : ℕ) → kind_ok kind ≡ true → length xs ≡ 3 * m → Allowed kind xs (length xs)
      → convert_array_to_cartesian_if_spherical platform (type_of kind) xs ≡ convert_array_to_cartesian_if_spherical ported (type_of kind) xs
  unfolding convert_array_to_cartesian_if_spherical
  positions_any zero xs m known e a = refl
  positions_any (suc k) xs m known e a = list_to_cartesian xs m (subst (λ (n : ℕ). Allowed 1 xs n) e (subst (λ (j : ℕ). Allowed (suc j) xs (length xs)) (one_of k known) a)) (omega arith)

  module _ (g : Given) (fine : judged g ≡ Ok tt) where
    abbrev placed : Hrtf
    placed = hrtf (set_in g (done g).work)

    convert_any : convert_to_cartesian platform (type_of g.kind) (file g) ≡ placed
    unfolding convert_to_cartesian
    convert_any = ap with_positions (positions_any g.kind g.positions g.sizes.m (went g fine).known (went g fine).room.exact (went g fine).values) ∙ converts g fine
      where
        with_positions : List Float → Hrtf
        with_positions l = record {
          m = g.sizes.m;
          c = g.sizes.c;
          r = g.sizes.r;
          n = g.sizes.n;
          source_position = l;
          data_ir = g.responses;
          data_delay = g.delays;
          sample_rate = g.rate;
        }

    all_searched : (i : ℕ) → i < g.sizes.m → SearchAnswered g.angle g.radius (triplet (take (3 * g.sizes.m) (done g).work.cartesian) (i * 3))
    unfolding indexed
    all_searched i l = subst (SearchAnswered g.angle g.radius) (sym (point_here (cart g) g.sizes.m i l)) (place_searched g fine i l)

    fine_opens : OpensWithAny platform g
    unfolding open_data
    fine_opens =
        ap (λ (h : Hrtf). opened platform h g.angle g.radius) convert_any
        ∙ opened_any placed g.angle g.radius (went g fine).angle all_searched
        ∙ sym (ap (λ (h : Hrtf). opened ported h g.angle g.radius) (converts g fine))

  -- WHATEVER A LOAD ACCEPTS
  pub any_angles : (g : Given) (look : port.Lookup) → (loaded g).answer ≡ Ok look → OpensWithAny platform g
  any_angles g look e = fine_opens g (ready_fine g look e)

  -- DEMAND 2 WITH ANY OF THEM, for every input in document 01's domain: the set that the source opens is the one that `load` leaves (`demand_2`)
  pub any_domain : (g : Given) (D : Domain g) → open_data platform (type_of g.kind) (file g) g.angle g.radius ≡ Some (demand_2 g D).same.sofar
  any_domain g D = any_angles g _ (accepts g D) ∙ (demand_2 g D).opens
