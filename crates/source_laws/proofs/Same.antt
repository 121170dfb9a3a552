-- THE THEOREM: what a loaded set answers is what the source answers (specs/Same.antt). Assumes nothing.
use mathlib.Core.Path.{◌≡◌, refl, sym, ap, ◌∙◌}
use mathlib.Core.List.{List, []}
use Prim.Native.Nat.{ℕ, zero, suc, ◌<◌}
use native.Mathlib.Omega.{arith}
use lib.Ieee.{Float}
use Rattle.floats.specs.Floats.{zero32}
use Rattle.points.specs.declared.Point3.{Point3}
use Rattle.points.specs.Points.{Finite}
use Rattle.interpolate.specs.Blend.{neighbors_of}
use Rattle.lookup.specs.Build.{build_of, box_of, lookup_of}
use Rattle.lookup.specs.Lookup.{clamped_by}
use Rattle.neighbors.specs.Neighbors.{Tabled}
use Rattle.source.specs.Rust.{Option, Some}
use Rattle.source.specs.Lookup.{find_mut, find, normalize_radius}
use Rattle.source.specs.Neighbors.{Neighbors, new_neighborhood, get}
use Rattle.source.specs.Interpolate.{interpolate, extract_filter, get_filter_nointerp}
use Rattle.source.specs.Reader as reader
use Rattle.source.specs.Reader.{Sofar, opened, opened_by, filled_or, filter_at, filter, nointerp_at, filter_nointerp}
use Rattle.source_laws.specs.Drawn.{ported, entered_all, heard}
use Rattle.source_laws.specs.Way.{Way, way_in, made_by, told}
use Rattle.source_laws.specs.Same.{Set, Loaded, hrtf, look, blend, plain, SameAsSource}
use Rattle.source_laws.proofs.Linked.{Holds, Finds, finds, tree_same}
use Rattle.source_laws.proofs.Built.{measured_to, box_by, bounds_same, box_same, six_same, new_same}
use Rattle.source_laws.proofs.Find.{clamp_same}
use Rattle.source_laws.proofs.Table.{six, table_same, neighborhood_same}
use Rattle.source_laws.proofs.Blend.{extract_same}
use Rattle.source_laws.proofs.Interpolate.{interpolate_same, way_taken, told_same}
use Rattle.source_laws.proofs.Rows.{row_same, row_in}

-- the set with m = suc n measurements
module _ (n r t : ℕ) (xs : List Float) (left right near : List ℕ) (resp delays : List Float) (angle radius rate : Float)
    (L : Loaded (record { m = suc n; r = r; n = t; cartesian = xs; left = left; right = right; neighbours = near; responses = resp; delays = delays; angle = angle; radius = radius; rate = rate })) where
  abbrev s : Set
  s = record { m = suc n; r = r; n = t; cartesian = xs; left = left; right = right; neighbours = near; responses = resp; delays = delays; angle = angle; radius = radius; rate = rate }

  holds : Holds xs n left right
  unfolding build_of
  holds = record {
    before = L.links_before;
    room = record { some = L.some; most = L.most; positions = L.positions; left = L.left_room; right = L.right_room };
    left_is = L.left_links;
    right_is = L.right_links;
  }

  abbrev ours : ℕ → Neighbors
  ours = six xs n L.most left right holds angle radius L.angle_step

  abbrev built : Sofar
  built = record { hrtf = hrtf s; lookup = measured_to xs (suc n); neighborhood = new_neighborhood ported (hrtf s) (measured_to xs (suc n)) angle radius }

  opens : opened ported (hrtf s) angle radius ≡ Some built
  unfolding opened opened_by
  opens = ap (opened_by ported (hrtf s) angle radius) (new_same (suc n) r t xs resp delays rate L.some L.positions)

  entries : (k : ℕ) → k < suc n → neighbors_of near k ≡ entered_all (ours k)
  entries k h =
      ap (λ (l : List ℕ). neighbors_of l k) (L.table ∙ ap (λ (x : Tabled). x.table) (table_same xs n L.most left right holds angle radius L.angle_step L.table_before L.table_room))
      ∙ row_same xs n L.most left right holds angle radius L.angle_step L.table_before k h

  rows : (k : ℕ) → k < suc n → get built.neighborhood k ≡ Some (ours k)
  rows k h = neighborhood_same xs n L.most left right holds angle radius L.angle_step L.positions r t resp delays rate k h

  found : (q : Point3) → Finds xs n left right q
  found q = finds xs n left right holds q

  moves : (q : Point3) → find_mut (measured_to xs (suc n)) q ≡ record { answer = Some (found q).number; coordinate = clamped_by (look s) q }
  unfolding find_mut find
  moves q =
      ap (λ (o : Option ℕ). record { answer = o; coordinate = normalize_radius (measured_to xs (suc n)) q }) (found q).in_source
      ∙ ap (λ (p : Point3). record { answer = Some (found q).number; coordinate = p }) (clamp_same xs (suc n) q)

  plainly : (k : ℕ) → k < suc n → (out : reader.Filter) → filled_or built out (extract_filter (hrtf s) k t r) ≡ heard (plain s out k)
  plainly k h out = extract_same (suc n) r t xs resp delays rate L.most L.positions L.ears L.taps built refl out k h

  fills : (q : Point3) → Finite q → (out : reader.Filter) → filter built q.x q.y q.z out ≡ heard (blend s out q (found q).number)
  unfolding filter filter_at
  fills q f out =
      let k = (found q).number in
      ap (filter_at built q out) (found q).in_source
      ∙ interpolate_same (suc n) r t xs resp delays rate L.most L.positions L.ears L.taps built refl out q k (found q).below (record { points = L.finite; query = f })
      (ours k) (row_in xs n L.most left right holds angle radius L.angle_step k) built.neighborhood near (rows k (found q).below) (entries k (found q).below)

  abbrev way : Point3 → Way
  way q = way_in built (found q).number q

  -- the way does not depend on the filter that is filled
  abbrev unfilled : reader.Filter
  unfilled = record { left = []; right = []; ldelay = zero32; rdelay = zero32 }

  goes : (q : Point3) → Finite q → interpolate (hrtf s) built.neighborhood (found q).number q ≡ made_by (hrtf s) (found q).number (way q)
  goes q f =
      let k = (found q).number in
      way_taken (suc n) r t xs resp delays rate L.most L.positions L.ears L.taps built refl unfilled q k (found q).below (record { points = L.finite; query = f }) (ours k)
      (row_in xs n L.most left right holds angle radius L.angle_step k) built.neighborhood (rows k (found q).below)

  filters : (q : Point3) → Finite q → (out : reader.Filter) → blend s out q (found q).number ≡ told (way q) (filter built q.x q.y q.z out)
  filters q f out =
      let k = (found q).number in
      told_same (suc n) r t xs resp delays rate L.most L.positions L.ears L.taps built refl out q k (found q).below (record { points = L.finite; query = f })
      (ours k) (row_in xs n L.most left right holds angle radius L.angle_step k) built.neighborhood near (rows k (found q).below) (entries k (found q).below)
      ∙ ap (told (way q)) (sym (fills q f out))

  filters_plain : (q : Point3) (out : reader.Filter) → filter_nointerp built q.x q.y q.z out ≡ heard (plain s out (found q).number)
  unfolding filter_nointerp nointerp_at get_filter_nointerp
  filters_plain q out = ap (nointerp_at built out) (found q).in_source ∙ plainly (found q).number (found q).below out

  by_number : (k : ℕ) → k < suc n → (out : reader.Filter) → filled_or built out (get_filter_nointerp (hrtf s) k) ≡ heard (plain s out k)
  unfolding get_filter_nointerp
  by_number k h out = plainly k h out

  some_set : SameAsSource s
  unfolding lookup_of box_of
  some_set =
      let b = six_same xs (suc n) in
      record {
        sofar = built;
        of_set = refl;
        opens = opens;
        tree = tree_same xs n left right holds;
        box = box_by xs n;
        has_box = bounds_same xs n;
        corners = box_same xs n;
        same_phi_min = b.phi_least;
        same_phi_max = b.phi_greatest;
        same_theta_min = b.theta_least;
        same_theta_max = b.theta_greatest;
        same_radius_min = b.least;
        same_radius_max = b.greatest;
        row = ours;
        has_row = rows;
        entries = entries;
        clamp = clamp_same xs (suc n);
        number = λ q. (found q).number;
        below = λ q. (found q).below;
        port_finds = λ q. (found q).in_port;
        source_finds = λ q. (found q).in_source;
        source_moves = moves;
        goes = goes;
        filters = filters;
        filters_plain = filters_plain;
        by_number = by_number;
      }

-- DEMAND 2: a loaded set answers what the source answers
pub same : (s : Set) → Loaded s → SameAsSource s
same s L = go s.m s.r s.n s.cartesian s.left s.right s.neighbours s.responses s.delays s.angle s.radius s.rate L
  where
    made : ℕ → ℕ → ℕ → List Float → List ℕ → List ℕ → List ℕ → List Float → List Float → Float → Float → Float → Set
    made m r t xs left right near resp delays angle radius rate = record {
      m = m;
      r = r;
      n = t;
      cartesian = xs;
      left = left;
      right = right;
      neighbours = near;
      responses = resp;
      delays = delays;
      angle = angle;
      radius = radius;
      rate = rate;
    }

    go : (m r t : ℕ) (xs : List Float) (left right near : List ℕ) (resp delays : List Float) (angle radius rate : Float)
        → Loaded (made m r t xs left right near resp delays angle radius rate) → SameAsSource (made m r t xs left right near resp delays angle radius rate)
    go zero r t xs left right near resp delays angle radius rate L = let z = L.some in absurd (omega arith)
    go (suc n) r t xs left right near resp delays angle radius rate L = some_set n r t xs left right near resp delays angle radius rate L
