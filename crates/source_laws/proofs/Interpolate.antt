-- The source's interpolate, filled in, and the port's filter query: the same samples and delays. Assumes nothing.
use mathlib.Core.Path.{◌≡◌, refl, sym, ap, ◌∙◌}
use mathlib.Core.Bool.{Bool, true, false, cond, ◌||◌}
use mathlib.Core.List.{List, [], ◌∷◌, ◌++◌, map}
use Prim.Native.Nat.{ℕ, ◌+◌, ◌*◌, ◌<◌, ◌≤◌}
use native.Mathlib.Omega.{arith}
use lib.Dec.{leb}
use lib.ListN.{length, length-map, take}
use lib.Ieee.{Float, binary32, div, lt, neg}
use borrow.Author.Tests.{le-ltb, lt-leb, lt-ltb, ne_eqb}
use Rattle.floats.specs.Floats.{zero32, one32}
use Rattle.points.specs.declared.Point3.{Point3}
use Rattle.mix.specs.declared.Share.{Share}
use Rattle.interpolate.specs.Blend as port
use Rattle.interpolate.specs.Blend.{close32, tiny32, distance_of, entry_of, known, all_known, neighbors_of, pair_of, points_of, total_from, total_of, part, FilterAnswer, filter_of, blend_delay, extract_of, blend_of, weighed_of, interpolate_of, refused_of}
use Rattle.delays.specs.declared.Outcome.TheVariants.{Blended}
use Rattle.delays.specs.Delays.{seconds_of}
use Rattle.interpolate_laws.specs.Weights.{AllFinite}
use Rattle.interpolate_laws.proofs.Distances.{distance_nonneg}
use Rattle.interpolate_laws.proofs.Weights.{weight_nonneg}
use Rattle.source.specs.Rust.{Option, None, Some}
use Rattle.source.specs.Lookup.{Hrtf, triplet}
use Rattle.source.specs.Neighbors.{Neighbors, get}
use Rattle.source.specs.Interpolate as source
use Rattle.source.specs.Interpolate.{InterpolatedFilter, Weighted, distance, add_closer_neighbor, extract_filter, weight_sum, add_points, silent, blended, interpolate}
use Rattle.source.specs.Reader as reader
use Rattle.source.specs.Reader.{Sofar, filled_or}
use Rattle.source_laws.specs.Drawn.{hrtf_of, entered, entered_all, heard}
use Rattle.source_laws.specs.Way.{Way, exactly, blending, way_by, way_of, made_by, told}
use Rattle.source_laws.proofs.Built.{inside}
use Rattle.source_laws.proofs.Steps.{InSet}
use Rattle.source_laws.proofs.Points.{shared, listed, dist_here, pair_same, AllIn, added_in, minus_zero, sum_same}
use Rattle.source_laws.proofs.Blend.{extract_same, blend_same}

-- each of the six is absent or one of the m measurements
pub record SixIn (m : ℕ) (s : Neighbors) : Type 0 where
  pub a : InSet m s.phi_plus
  pub b : InSet m s.phi_minus
  pub c : InSet m s.theta_plus
  pub d : InSet m s.theta_minus
  pub e : InSet m s.radius_plus
  pub f : InSet m s.radius_minus

known_entry : (m : ℕ) (o : Option ℕ) → m ≤ 16384 → InSet m o → known m (entered o) ≡ true
unfolding known entry_of entered
known_entry m None h i = refl
known_entry m (Some k) h i = rw (ne_eqb k 65535 (λ e. omega arith), lt-ltb k m i)

all_known_lem : (m : ℕ) (s : Neighbors) → m ≤ 16384 → SixIn m s → all_known m (entered_all s) ≡ true
unfolding all_known
all_known_lem m s h i =
    rw (known_entry m s.phi_plus h i.a, known_entry m s.phi_minus h i.b, known_entry m s.theta_plus h i.c, known_entry m s.theta_minus h i.d, known_entry m s.radius_plus h i.e, known_entry m s.radius_minus h i.f)

module _ (m r n : ℕ) (xs resp delays : List Float) (rate : Float) (small : m ≤ 16384) (long : 3 * m ≤ length xs) (two : 2 ≤ r) (taps : m * r * n ≤ length resp)
    (sofar : Sofar) (is : sofar.hrtf ≡ hrtf_of m r n xs resp delays rate) (out : reader.Filter) where
  abbrev set : Hrtf
  set = hrtf_of m r n xs resp delays rate

  -- one of two, on either side
  either : (g : Bool) (a b : Option InterpolatedFilter) (u v : FilterAnswer) → filled_or sofar out a ≡ heard u → filled_or sofar out b ≡ heard v
      → filled_or sofar out (cond g a b) ≡ heard (cond g u v)
  either true a b u v e f = e
  either false a b u v e f = f

  abbrev plain : ℕ → FilterAnswer
  plain = extract_of m r n resp delays rate (length out.left) (length out.right)

  abbrev mixed : List Share → FilterAnswer
  mixed = blend_of m r n resp delays rate (length out.left) (length out.right)

  module _ (q : Point3) (k : ℕ) (hk : k < m) (finite : AllFinite m xs q) (s : Neighbors) (six : SixIn m s) where
    abbrev d : ℕ → Float
    d = distance_of xs q

    abbrev first : List Weighted
    first = (record { idx = k; weight = div binary32 one32 (d k) }) ∷ []

    abbrev sp : List Float
    sp = take (3 * m) xs

    abbrev one : List Weighted
    one = add_closer_neighbor first s.phi_plus s.phi_minus q sp 3

    abbrev second : List Weighted
    second = add_closer_neighbor one s.theta_plus s.theta_minus q sp 3

    abbrev all : List Weighted
    all = add_closer_neighbor second s.radius_plus s.radius_minus q sp 3

    -- THE POINTS
    points_same : listed all ≡ points_of d (entered_all s) k
    unfolding points_of
    points_same =
        let p = pair_same xs m small long q in
        let u = p first s.phi_plus s.phi_minus six.a six.b in
        let v = p one s.theta_plus s.theta_minus six.c six.d in
        let w = p second s.radius_plus s.radius_minus six.e six.f in
        w ∙ ap (λ (l : List Share). l ++ pair_of d (entered s.radius_plus) (entered s.radius_minus))
        (v ∙ ap (λ (l : List Share). l ++ pair_of d (entered s.theta_plus) (entered s.theta_minus)) u)

    all_in : AllIn m all
    all_in =
        added_in m second s.radius_plus s.radius_minus q sp
        (added_in m one s.theta_plus s.theta_minus q sp (added_in m first s.phi_plus s.phi_minus q sp (hk, tt) six.a six.b) six.c six.d) six.e six.f

    -- THE SUM OF THE WEIGHTS
    total_same : weight_sum all ≡ total_of (points_of d (entered_all s) k)
    total_same = sum_same (neg zero32) all ∙ ap (total_from (neg zero32)) points_same ∙ from_zero
      where
        from_zero : total_from (neg zero32) (points_of d (entered_all s) k) ≡ total_from zero32 (points_of d (entered_all s) k)
        from_zero = unfold points_of total_from in
            ap (λ (z : Float). total_from z ((([] ++ pair_of d (entered s.phi_plus) (entered s.phi_minus)) ++ pair_of d (entered s.theta_plus) (entered s.theta_minus)) ++ pair_of d (entered s.radius_plus) (entered s.radius_minus)))
            (minus_zero (div binary32 one32 (d k)) (weight_nonneg (d k) (distance_nonneg m xs q k finite hk)))

    -- the blend, or the plain filter where the sum is small
    blended_same : filled_or sofar out (blended set (Some s) k (d k) q) ≡ heard (weighed_of m r n resp delays rate (length out.left) (length out.right) k (points_of d (entered_all s) k))
    unfolding blended source.points weighed_of
    blended_same =
        let ps = points_of d (entered_all s) k in
        ap (λ (t : Float). filled_or sofar out (cond (lt t tiny32) (extract_filter set k n r) (Some (add_points set t (silent n) all)))) total_same
        ∙ either (lt (total_of ps) tiny32) (extract_filter set k n r) (Some (add_points set (total_of ps) (silent n) all)) (plain k) (mixed (map (part (total_of ps)) ps))
        (extract_same m r n xs resp delays rate small long two taps sofar is out k hk)
        (blend_same m r n xs resp delays rate small long two taps sofar is out (total_of ps) all all_in ∙ ap (λ (l : List Share). heard (mixed (map (part (total_of ps)) l))) points_same)

    abbrev weighed : port.Neighbors → FilterAnswer
    weighed z = weighed_of m r n resp delays rate (length out.left) (length out.right) k (points_of d z k)

    -- the source past its tests, at the distance x
    abbrev past : Option Neighbors → Float → Option InterpolatedFilter
    past o x = cond (lt x close32) (extract_filter set k n r) (blended set o k x q)

    source_opens : (table : List Neighbors) → get table k ≡ Some s → interpolate set table k q ≡ past (Some s) (d k)
    unfolding interpolate
    source_opens table eg =
        let x = distance (triplet sp (k * 3)) q in
        let rest = past (get table k) x in
        ap (λ (b : Bool). cond (b || leb m k) None (cond (leb (length sp) (k * 3 + 2)) None rest)) (le-ltb r 2 two)
        ∙ ap (λ (b : Bool). cond b None (cond (leb (length sp) (k * 3 + 2)) None rest)) (lt-leb m k hk)
        ∙ ap (λ (b : Bool). cond b None rest) (inside xs m k long hk)
        ∙ ap (past (get table k)) (dist_here xs m small long q k hk)
        ∙ ap (λ (o : Option Neighbors). past o (d k)) eg

    port_opens : (near : List ℕ) → neighbors_of near k ≡ entered_all s
        → interpolate_of m r n resp delays rate (length out.left) (length out.right) xs near q k ≡ cond (lt (d k) close32) (plain k) (weighed (entered_all s))
    unfolding interpolate_of
    port_opens near en =
        let no = refused_of 9 0 (length out.left) (length out.right) in
        ap (λ (z : port.Neighbors). cond (lt (d k) close32) (plain k) (cond (all_known m z) (weighed z) no)) en
        ∙ ap (λ (b : Bool). cond (lt (d k) close32) (plain k) (cond b (weighed (entered_all s)) no)) (all_known_lem m s small six)

    -- THE FILTER QUERY, its nearest measurement known
    pub interpolate_same : (table : List Neighbors) (near : List ℕ) → get table k ≡ Some s → neighbors_of near k ≡ entered_all s
        → filled_or sofar out (interpolate set table k q) ≡ heard (interpolate_of m r n resp delays rate (length out.left) (length out.right) xs near q k)
    interpolate_same table near eg en =
        ap (filled_or sofar out) (source_opens table eg)
        ∙ either (lt (d k) close32) (extract_filter set k n r) (blended set (Some s) k (d k) q) (plain k) (weighed (entered_all s))
        (extract_same m r n xs resp delays rate small long two taps sofar is out k hk) blended_same
        ∙ ap heard (sym (port_opens near en))

    -- ---- the way that the source goes

    abbrev way_here : Float → Way
    way_here x = cond (lt x close32) exactly (way_by set (Some s) k x q)

    way_here_lem : (table : List Neighbors) → get table k ≡ Some s → way_of set table k q ≡ way_here (d k)
    unfolding way_of
    way_here_lem table eg =
        let x = distance (triplet sp (k * 3)) q in
        ap (λ (o : Option Neighbors). cond (lt x close32) exactly (way_by set o k x q)) eg ∙ ap way_here (dist_here xs m small long q k hk)

    -- IT GOES THAT WAY
    pub way_taken : (table : List Neighbors) → get table k ≡ Some s → interpolate set table k q ≡ made_by set k (way_of set table k q)
    way_taken table eg = source_opens table eg ∙ past_is ∙ ap (made_by set k) (sym (way_here_lem table eg))
      where
        near_or : (g h : Bool) → cond g (extract_filter set k n r) (cond h (extract_filter set k n r) (Some (add_points set (weight_sum all) (silent n) all)))
            ≡ made_by set k (cond g exactly (cond h exactly (blending all)))
        near_or true h = unfold made_by in refl
        near_or false true = unfold made_by in refl
        near_or false false = unfold made_by in refl

        past_is : past (Some s) (d k) ≡ made_by set k (way_here (d k))
        past_is = unfold blended way_by source.points in near_or (lt (d k) close32) (lt (weight_sum all) tiny32)

    -- THE PORT'S OUTCOME tells that way, and how many points it blends
    pub told_same : (table : List Neighbors) (near : List ℕ) → get table k ≡ Some s → neighbors_of near k ≡ entered_all s
        → interpolate_of m r n resp delays rate (length out.left) (length out.right) xs near q k
        ≡ told (way_of set table k q) (heard (interpolate_of m r n resp delays rate (length out.left) (length out.right) xs near q k))
    told_same table near eg en =
        port_opens near en ∙ opens ∙ ap (λ (w : Way). told w (heard here)) (sym (way_here_lem table eg)) ∙ ap (λ (f : FilterAnswer). told (way_of set table k q) (heard f)) (sym (port_opens near en))
      where
        ps : List Share
        ps = points_of d (entered_all s) k

        here : FilterAnswer
        here = cond (lt (d k) close32) (plain k) (weighed (entered_all s))

        blend : FilterAnswer
        blend = mixed (map (part (total_of ps)) ps)

        plain_told : plain k ≡ told exactly (heard (plain k))
        plain_told = unfold extract_of in refl

        as_many : length (map (part (total_of ps)) ps) ≡ length all
        as_many = length-map ps (part (total_of ps)) ∙ sym (ap length points_same) ∙ length-map all shared

        blend_told : blend ≡ told (blending all) (heard blend)
        blend_told = unfold blend_of in ap (λ (c : ℕ). filter_of (Blended (seconds_of (blend_delay delays m r 0 (map (part (total_of ps)) ps)) rate) (seconds_of (blend_delay delays m r 1 (map (part (total_of ps)) ps)) rate) c) blend.left blend.right) as_many

        by_tests : (g h : Bool) → cond g (plain k) (cond h (plain k) blend) ≡ told (cond g exactly (cond h exactly (blending all))) (heard (cond g (plain k) (cond h (plain k) blend)))
        by_tests true h = plain_told
        by_tests false true = plain_told
        by_tests false false = blend_told

        opens : here ≡ told (way_here (d k)) (heard here)
        opens = unfold weighed_of way_by source.points in
            by_tests (lt (d k) close32) (lt (total_of ps) tiny32)
            ∙ ap (λ (t : Float). told (cond (lt (d k) close32) exactly (cond (lt t tiny32) exactly (blending all))) (heard here)) (sym total_same)
