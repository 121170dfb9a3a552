-- The points of a blend and the sum of their weights: the source's are the port's. Assumes nothing.
use mathlib.Core.Path.{◌≡◌, refl, sym, ap, ◌∙◌, subst}
use mathlib.Core.Bool.{Bool, true, false, cond, ◌&&◌}
use mathlib.Core.List.{List, [], ◌∷◌, ◌++◌, map, append-nil}
use Prim.Native.Nat.{ℕ, ◌+◌, ◌-◌, ◌*◌, ◌<◌, ◌≤◌}
use native.Mathlib.Omega.{arith}
use lib.Dec.{T, leb, ltb}
use lib.ListN.{length, take}
use lib.Ieee.{Float, nan, inf, fin, binary32, up, down, add, sum, div, neg, lt, round}
use borrow.Author.Tests.{ne_eqb, ltb-false, le-ltb}
use Rattle.std.specs.declared.option.Option as maybe
use Rattle.std.specs.declared.option.Option.TheVariants as port
use Rattle.floats.specs.Floats.{zero32, one32}
use Rattle.lists.specs.Each.{Each}
use Rattle.floats.proofs.Sign.{nonneg}
use Rattle.points.specs.declared.Point3.{Point3}
use Rattle.points.specs.Points.{point_at, dist_sq_of}
use Rattle.mix.specs.declared.Share.{Share}
use Rattle.interpolate.specs.declared.Near.{Near}
use Rattle.interpolate.specs.Blend as blend
use Rattle.interpolate.specs.Blend.{tiny32, largest32, distance_of, entry_of, least, beside, closest_of, taken, pair_of, total_from}
use Rattle.source.specs.Rust.{Option, None, Some, at, MAX}
use Rattle.source.specs.Lookup.{triplet}
use Rattle.source.specs.Interpolate.{«1e-10», Weighted, Closer, distance, closer, pushed, add_closer_neighbor, sum_from}
use Rattle.source_laws.specs.Drawn.{entered}
use Rattle.source_laws.proofs.Built.{point_here, inside}
use Rattle.source_laws.proofs.Steps.{InSet}

-- ---- the list of points

abbrev pub shared : Weighted → Share
shared w = record { number = w.idx; weight = w.weight }

abbrev pub listed : List Weighted → List Share
listed l = map shared l

listed_more : (l : List Weighted) (w : Weighted) → listed (l ++ (w ∷ [])) ≡ listed l ++ (shared w ∷ [])
listed_more [] w = refl
listed_more (x ∷ l) w = ap (λ (z : List Share). shared x ∷ z) (listed_more l w)

abbrev weighed : ℕ → Float → Weighted
weighed k x = record { idx = k; weight = div binary32 one32 x }

if_listed : (g : Bool) (l : List Weighted) (w : Weighted) → listed (cond g (l ++ (w ∷ [])) l) ≡ listed l ++ cond g (shared w ∷ []) []
if_listed true l w = listed_more l w
if_listed false l w = sym (append-nil (listed l))

-- ---- the distance

pub distance_same : (xs : List Float) (q : Point3) (k : ℕ) → distance (point_at xs k) q ≡ distance_of xs q k
unfolding distance distance_of dist_sq_of at
distance_same xs q k = refl

module _ (xs : List Float) (m : ℕ) (small : m ≤ 16384) (long : 3 * m ≤ length xs) (q : Point3) where
  abbrev sp : List Float
  sp = take (3 * m) xs

  abbrev d : ℕ → Float
  d = distance_of xs q

  pub dist_here : (k : ℕ) → k < m → distance (triplet sp (k * 3)) q ≡ d k
  dist_here k h = ap (λ (p : Point3). distance p q) (point_here xs m k h) ∙ distance_same xs q k

  -- ---- the closer of a pair

  -- nothing yet at the largest f32, or the same measurement
  abbrev Twin : Option ℕ → Float → maybe.Option Near → Type 0
  Twin None x port.None = x ≡ largest32
  Twin None x (port.Some e) = ⊥
  Twin (Some k) x port.None = ⊥
  Twin (Some k) x (port.Some e) = (k ≡ e.number) × (x ≡ e.distance)

  least_same : (o : Option ℕ) (x : Float) (c : maybe.Option Near) → Twin o x c → x ≡ least c
  least_same None x port.None t = t
  least_same None x (port.Some e) t = absurd t
  least_same (Some k) x port.None t = absurd t
  least_same (Some k) x (port.Some e) t = t.1

  abbrev Same : Closer → maybe.Option Near → Type 0
  Same b c = Twin b.best_idx b.best_dist c

  wins : (k : ℕ) (b : Closer) (c : maybe.Option Near) → Same b c → Same (cond (lt (d k) b.best_dist) (record { best_idx = Some k; best_dist = d k }) b) (blend.closer_of d c k)
  unfolding blend.closer_of
  wins k b c t = subst (λ (x : Float). Same (cond (lt (d k) x) won b) (cond (lt (d k) (least c)) (port.Some (blend.near_at k (d k))) c)) (sym (least_same b.best_idx b.best_dist c t)) (go (lt (d k) (least c)))
    where
      won : Closer
      won = record { best_idx = Some k; best_dist = d k }

      go : (g : Bool) → Same (cond g won b) (cond g (port.Some (blend.near_at k (d k))) c)
      go true = (refl, refl)
      go false = t

  closer_same : (o : Option ℕ) (b : Closer) (c : maybe.Option Near) → InSet m o → Same b c → Same (closer q sp 3 b o) (beside d c (entry_of (entered o)))
  unfolding closer entry_of entered
  closer_same None b c h t = t
  closer_same (Some k) b c h t =
      rw (inside xs m k long h) (rw (dist_here k h) (rw (ne_eqb k 65535 (λ e. omega arith)) (wins k b c t)))

  -- what is pushed
  pushed_same : (l : List Weighted) (o : Option ℕ) (x : Float) (c : maybe.Option Near) → Twin o x c → listed (pushed l o x) ≡ listed l ++ taken c
  unfolding pushed
  pushed_same l None x port.None t = sym (append-nil (listed l))
  pushed_same l None x (port.Some e) t = absurd t
  pushed_same l (Some k) x port.None t = absurd t
  pushed_same l (Some k) x (port.Some e) t = rw (t.0, t.1) (if_listed (lt tiny32 e.distance) l (weighed e.number e.distance))

  pub pair_same : (l : List Weighted) (a b : Option ℕ) → InSet m a → InSet m b → listed (add_closer_neighbor l a b q sp 3) ≡ listed l ++ pair_of d (entered a) (entered b)
  unfolding add_closer_neighbor closest_of
  pair_same l a b ha hb =
      let none : Closer = record { best_idx = None; best_dist = MAX } in
      let first = beside d port.None (entry_of (entered a)) in
      let z = closer q sp 3 (closer q sp 3 none a) b in
      pushed_same l z.best_idx z.best_dist (beside d first (entry_of (entered b))) (closer_same b (closer q sp 3 none a) first hb (closer_same a none port.None ha refl))

-- ---- the points are measurements of the set

module _ (m : ℕ) where
  abbrev pub AllIn : List Weighted → Type 0
  AllIn l = Each (λ (w : Weighted). w.idx < m) l

  all_more : (l : List Weighted) (w : Weighted) → AllIn l → w.idx < m → AllIn (l ++ (w ∷ []))
  all_more [] w h g = (g, tt)
  all_more (x ∷ l) w h g = (h.0, all_more l w h.1 g)

  pushed_in : (l : List Weighted) (o : Option ℕ) (x : Float) → AllIn l → InSet m o → AllIn (pushed l o x)
  unfolding pushed
  pushed_in l None x h g = h
  pushed_in l (Some k) x h g = go (lt «1e-10» x)
    where
      go : (b : Bool) → AllIn (cond b (l ++ (weighed k x ∷ [])) l)
      go true = all_more l (weighed k x) h g
      go false = h

  closer_in : (q : Point3) (ps : List Float) (b : Closer) (o : Option ℕ) → InSet m b.best_idx → InSet m o → InSet m (closer q ps 3 b o).best_idx
  unfolding closer
  closer_in q ps b None h g = h
  closer_in q ps b (Some k) h g = go (leb (length ps) (k * 3 + 2)) (lt (distance (triplet ps (k * 3)) q) b.best_dist)
    where
      go : (u v : Bool) → InSet m (cond u b (cond v (record { best_idx = Some k; best_dist = distance (triplet ps (k * 3)) q }) b)).best_idx
      go true v = h
      go false true = g
      go false false = h

  pub added_in : (l : List Weighted) (a b : Option ℕ) (q : Point3) (sp : List Float) → AllIn l → InSet m a → InSet m b → AllIn (add_closer_neighbor l a b q sp 3)
  unfolding add_closer_neighbor
  added_in l a b q sp h ha hb =
      let none : Closer = record { best_idx = None; best_dist = MAX } in
      let z = closer q sp 3 (closer q sp 3 none a) b in
      pushed_in l z.best_idx z.best_dist h (closer_in q sp (closer q sp 3 none a) b (closer_in q sp none a tt ha) hb)

-- ---- the sum of the weights

-- a first weight that is not -0: from -0, as the source adds, and from +0 the sum is the same
sum_zero : (a b c : ℕ) → a ≡ 0 → sum binary32 true a false b c ≡ sum binary32 false a false b c
unfolding sum
sum_zero a b c e = go (ltb a b) refl
  where
    go : (g : Bool) → ltb a b ≡ g → cond g (round binary32 false (b - a) c) (round binary32 (true && ltb b a) (a - b) c) ≡ round binary32 false (a + b) c
    go true h = let z : b - a ≡ a + b = omega arith in ap (λ (k : ℕ). round binary32 false k c) z
    go false h =
        let l = ltb-false a b h in
        let z : a - b ≡ a + b = omega arith in
        ap (λ (g : Bool). round binary32 g (a - b) c) (le-ltb b a (omega arith)) ∙ ap (λ (k : ℕ). round binary32 false k c) z

pub minus_zero : (w : Float) → T (nonneg w) → add binary32 (neg zero32) w ≡ add binary32 zero32 w
unfolding add neg
minus_zero nan h = absurd h
minus_zero (inf s) h = refl
minus_zero (fin true n e) h = absurd h
minus_zero (fin false n e) h = sum_zero (0 * 1 * down e) (n * up e * 1) (1 * down e) (omega arith)

pub sum_same : (s : Float) (l : List Weighted) → sum_from s l ≡ total_from s (listed l)
unfolding sum_from total_from
sum_same s [] = refl
sum_same s (w ∷ l) = sum_same (add binary32 s w.weight) l
