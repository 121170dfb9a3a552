-- The entries as they are met, the points in four places against the list of points, a pair's closest, the delay rule, and the ways through the
-- blend. Assumes nothing.
use Prim.Native.Nat.{ℕ, zero, suc, ◌+◌, ◌-◌, ◌*◌, ◌≤◌, ◌<◌}
use mathlib.Core.Path.{◌≡◌, refl, sym, ap, subst, ◌∙◌}
use mathlib.Core.Bool.{Bool, true, false, cond, ◌&&◌}
use mathlib.Core.List.{List, [], ◌∷◌, ◌++◌, map}
use native.Mathlib.Nat.{mul-le-mul_right, suc-mul, mul-le-mul}
use native.Mathlib.Omega.{arith}
use lib.Dec.{leb, eqb, ltb}
use lib.ListN.{length, take, replicate}
use lib.Ieee.{Float, lt}
use borrow.Author.Tests.{eqb-true, leb-true, eq-eqb, ne_eqb, ltb-true, le-leb, lt-leb, lt-ltb, le-ltb}
use Rattle.points.specs.declared.Point3.{Point3}
use Rattle.floats.specs.Floats.{zero32}
use Rattle.floats.proofs.Cross.{and_left, and_right, and6}
use Rattle.delays.specs.declared.Samples.{Samples}
use Rattle.delays.specs.declared.Seconds.{Seconds}
use Rattle.delays.specs.declared.Outcome.TheVariants.{Exact, Blended}
use Rattle.delays.specs.Delays.{seconds_of}
use Rattle.mix.specs.declared.Share.{Share}
use Rattle.mix.specs.declared.Points.{Points}
use Rattle.mix.specs.Mix.{list_of, sums, tailed, plus_product, out_of, tap_of, sample_of}
use Rattle.interpolate.specs.declared.Stride.{Stride}
use Rattle.interpolate.specs.Blend.{delay_at, plain_delay, blend_delay, stride_at, stride_of, Leads, entry_of, bad_beyond, entry_in, good, known, all_known, least, near_at, closer_of, beside, closest_of, met_if, Held, share_of, taken, tiny32, close32, Neighbors, neighbors_of, distance_of, points_of, Gathers, FilterAnswer, filter_of, extract_of, blend_of, refused_of, weighed_of, interpolate_of, total_of, part}
use Rattle.interpolate.specs.declared.Entry.{Entry}
use Rattle.interpolate.specs.declared.Entry.TheVariants.{Absent, Measured, Bad}
use Rattle.interpolate.specs.declared.BadEntry.{BadEntry}
use Rattle.interpolate.specs.declared.Near.{Near}
use Rattle.std.proofs.Common.{Option, None, Some, Result, Ok, Err}

-- ---- a delay that was computed, in seconds
pub seconds : (rate : Float) {s : Seconds} {d d' : Samples} → s ≡ seconds_of d rate → d ≡ d' → s ≡ seconds_of d' rate
seconds rate e h = e ∙ ap (λ (x : Samples). seconds_of x rate) h

-- ---- an entry
module _ (m k : ℕ) where
  pub entry_absent : k ≡ 65535 → Absent ≡ entry_in m k
  unfolding entry_of
  entry_absent e = rw (eq-eqb k 65535 e)

  pub entry_measured : (k ≡ 65535 → ⊥) → k < m → Measured k ≡ entry_in m k
  unfolding entry_of
  entry_measured e h = rw (ne_eqb k 65535 e, lt-ltb k m h)

  pub entry_bad : (k ≡ 65535 → ⊥) → m ≤ k → Bad ≡ entry_in m k
  unfolding entry_of
  entry_bad e h = rw (ne_eqb k 65535 e, le-ltb k m h)

  -- one that is met as a measurement is one
  pub within_below : bad_beyond m (Measured k) ≡ Measured k → k < m
  within_below e = go (ltb k m) refl e
    where
      go : (b : Bool) → ltb k m ≡ b → cond b (Measured k) Bad ≡ Measured k → k < m
      go true h q = ltb-true k m h
      go false h q = let w : ◌≡◌ {A = ℕ} 0 1 = cc in absurd (omega arith)

within_twice : (m : ℕ) (e : Entry) → bad_beyond m (bad_beyond m e) ≡ bad_beyond m e
within_twice m Absent = refl
within_twice m Bad = refl
within_twice m (Measured k) = go (ltb k m) refl
  where
    go : (b : Bool) → ltb k m ≡ b → bad_beyond m (cond b (Measured k) Bad) ≡ cond b (Measured k) Bad
    go true h = rw h
    go false h = refl

pub met_within : (m k : ℕ) (e : Entry) → e ≡ entry_in m k → bad_beyond m e ≡ e
met_within m k e q = rw q (within_twice m (entry_of k))

good_within : (m : ℕ) (e : Entry) → good (bad_beyond m e) ≡ true → bad_beyond m e ≡ e
good_within m Absent h = refl
good_within m Bad h = let w : ◌≡◌ {A = ℕ} 0 1 = cc in absurd (omega arith)
good_within m (Measured k) h = go (ltb k m) h
  where
    go : (b : Bool) → good (cond b (Measured k) Bad) ≡ true → cond b (Measured k) Bad ≡ Measured k
    go true h = refl
    go false h = let w : ◌≡◌ {A = ℕ} 0 1 = cc in absurd (omega arith)

-- a known one is met as it stands
pub known_within : (m k : ℕ) → known m k ≡ true → entry_in m k ≡ entry_of k
unfolding known
known_within m k h = good_within m (entry_of k) h

-- ---- the six entries
pub record Neighbors-known (m : ℕ) (s : Neighbors) : Type 0 where
  pub a_known : known m s.phi_plus ≡ true
  pub b_known : known m s.phi_minus ≡ true
  pub c_known : known m s.theta_plus ≡ true
  pub d_known : known m s.theta_minus ≡ true
  pub e_known : known m s.radius_plus ≡ true
  pub f_known : known m s.radius_minus ≡ true

pub neighbors_known : (m : ℕ) (s : Neighbors) → all_known m s ≡ true → Neighbors-known m s
unfolding all_known
neighbors_known m s h =
    let t = and6 (known m s.phi_plus) (known m s.phi_minus) (known m s.theta_plus) (known m s.theta_minus) (known m s.radius_plus) (known m s.radius_minus) h in
    record { a_known = t.0; b_known = t.1; c_known = t.2; d_known = t.3; e_known = t.4; f_known = t.5 }

-- where a pair has a bad entry, and where two have none
module _ (m : ℕ) (s : Neighbors) where
  pub first_bad_lem : (known m s.phi_plus && known m s.phi_minus) ≡ false → all_known m s ≡ false
  unfolding all_known
  first_bad_lem h = rw h

  pub second_bad : (known m s.phi_plus && known m s.phi_minus) ≡ true → (known m s.theta_plus && known m s.theta_minus) ≡ false → all_known m s ≡ false
  unfolding all_known
  second_bad h g = go (known m s.phi_plus && known m s.phi_minus) (known m s.theta_plus) (known m s.theta_minus) (known m s.radius_plus) (known m s.radius_minus) h g
    where
      go : (x c d e f : Bool) → x ≡ true → (c && d) ≡ false → (x && c && d && e && f) ≡ false
      go x c d e f h g = rw (h, g)

  pub third_is : (known m s.phi_plus && known m s.phi_minus) ≡ true → (known m s.theta_plus && known m s.theta_minus) ≡ true
      → (t : Bool) → (known m s.radius_plus && known m s.radius_minus) ≡ t → all_known m s ≡ t
  unfolding all_known
  third_is h g t w = go (known m s.phi_plus && known m s.phi_minus) (known m s.theta_plus) (known m s.theta_minus) (known m s.radius_plus) (known m s.radius_minus) h g ∙ w
    where
      go : (x c d e f : Bool) → x ≡ true → (c && d) ≡ true → (x && c && d && e && f) ≡ (e && f)
      go x c d e f h g = rw (h, g)

-- ---- the four places
abbrev pub fours : Points → List Share
fours p = p.a ∷ p.b ∷ p.c ∷ p.d ∷ []

pub count_length : (p : Points) → p.count ≤ 4 → length (list_of p) ≡ p.count
unfolding list_of
count_length p h = go p.count h
  where
    go : (k : ℕ) → k ≤ 4 → length (take k (fours p)) ≡ k
    go zero h = refl
    go (suc zero) h = refl
    go (suc (suc zero)) h = refl
    go (suc (suc (suc zero))) h = refl
    go (suc (suc (suc (suc zero)))) h = refl
    go (suc (suc (suc (suc (suc k))))) h = absurd (omega arith)

pub take_map : {A : Type 0} {B : Type 0} (f : A → B) (k : ℕ) (l : List A) → take k (map f l) ≡ map f (take k l)
take_map f zero l = refl
take_map f (suc k) [] = refl
take_map {B = B} f (suc k) (x ∷ l) = ap (λ (t : List B). f x ∷ t) (take_map f k l)

-- ---- sums over the list, by the count
module _ (p : Points) (f : ℕ → Float) where
  abbrev summed : ℕ → Float
  summed k = sums f zero32 (take k (fours p))

  pub sums_at : (k : ℕ) → p.count ≡ k → summed k ≡ sums f zero32 (list_of p)
  unfolding list_of
  sums_at k e = ap summed (sym e)

-- what f says of each place, weighed and added up as it was computed
module _ (p : Points) (f : ℕ → Float) (x : Float) (ex : x ≡ f p.a.number) where
  pub weighed1 : p.count ≡ 1 → plus_product zero32 p.a.weight x ≡ sums f zero32 (list_of p)
  unfolding sums
  weighed1 h = rw ex (sums_at p f 1 h)

  module _ (y : Float) (ey : y ≡ f p.b.number) where
    pub weighed2 : p.count ≡ 2 → plus_product (plus_product zero32 p.a.weight x) p.b.weight y ≡ sums f zero32 (list_of p)
    unfolding sums
    weighed2 h = rw (ex, ey) (sums_at p f 2 h)

    module _ (z : Float) (ez : z ≡ f p.c.number) where
      pub weighed3 : p.count ≡ 3 → plus_product (plus_product (plus_product zero32 p.a.weight x) p.b.weight y) p.c.weight z ≡ sums f zero32 (list_of p)
      unfolding sums
      weighed3 h = rw (ex, ey, ez) (sums_at p f 3 h)

      pub weighed4 : (v : Float) → v ≡ f p.d.number → p.count ≡ 4
          → plus_product (plus_product (plus_product (plus_product zero32 p.a.weight x) p.b.weight y) p.c.weight z) p.d.weight v ≡ sums f zero32 (list_of p)
      unfolding sums
      weighed4 v ev h = rw (ex, ey, ez, ev) (sums_at p f 4 h)

pub total_at : (p : Points) (k : ℕ) → p.count ≡ k → total_of (take k (fours p)) ≡ total_of (list_of p)
unfolding list_of
total_at p k e = ap (λ (j : ℕ). total_of (take j (fours p))) (sym e)

-- ---- a pair
module _ (d : ℕ → Float) (best : Option Near) (k : ℕ) (x l : Float) (ex : x ≡ d k) (el : l ≡ least best) where
  pub closer_wins : lt x l ≡ true → Some (near_at k x) ≡ closer_of d best k
  unfolding closer_of
  closer_wins h = rw (← ex, ← el, h)

  pub closer_stays : lt x l ≡ false → best ≡ closer_of d best k
  unfolding closer_of
  closer_stays h = rw (← ex, ← el, h)

-- what it says that the entries so far were met
pub met_best : (g : Bool) (c x : Option Near) → met_if g c ≡ Ok x → (g ≡ true) × (c ≡ x)
met_best true c x h = (refl, cc)
met_best false c x h = let w : ◌≡◌ {A = ℕ} 0 1 = cc in absurd (omega arith)

pub met_bad : (g : Bool) (c : Option Near) (bad : BadEntry) → met_if g c ≡ Err bad → g ≡ false
met_bad true c bad h = let w : ◌≡◌ {A = ℕ} 0 1 = cc in absurd (omega arith)
met_bad false c bad h = refl

-- a pair: its first entry was met, with this outcome
module _ (m : ℕ) (d : ℕ → Float) (x y : ℕ) (a : Entry) (one : Result (Option Near) BadEntry) (ea : a ≡ entry_in m x) (e1 : one ≡ met_if (good a) (beside d None a)) where
  pub pair_bad : (bad : BadEntry) → one ≡ Err bad → Err bad ≡ met_if (known m x && known m y) (closest_of d x y)
  unfolding known
  pair_bad bad g = let h = met_bad (good a) (beside d None a) bad (sym e1 ∙ g) in rw (← ea, h)

  pub pair_met : (b : Entry) (first : Option Near) → one ≡ Ok first → b ≡ entry_in m y → met_if (good b) (beside d first b) ≡ met_if (known m x && known m y) (closest_of d x y)
  unfolding known closest_of
  pair_met b first g eb =
      let h = met_best (good a) (beside d None a) first (sym e1 ∙ g) in
      let kx : known m x ≡ true = rw (← ea) h.0 in
      let f : first ≡ beside d None (entry_of x) = sym h.1 ∙ ap (beside d None) (ea ∙ known_within m x kx) in
      rw (eb, f, kx) (go (known m y) refl)
    where
      go : (t : Bool) → known m y ≡ t → met_if (good (entry_in m y)) (beside d (beside d None (entry_of x)) (entry_in m y)) ≡ met_if (good (entry_in m y)) (beside d (beside d None (entry_of x)) (entry_of y))
      go true e = ap (λ (z : Entry). met_if (good (entry_in m y)) (beside d (beside d None (entry_of x)) z)) (known_within m y e)
      go false e = rw e

-- at most one is taken
pub taken_length : (b : Option Near) → length (taken b) ≤ 1
taken_length None = omega arith
taken_length (Some near) = two (lt tiny32 near.distance) (share_of near.number near.distance)
  where
    two : (t : Bool) (s : Share) → length (cond t (s ∷ []) []) ≤ 1
    two true s = omega arith
    two false s = omega arith

pub taken_yes : (near : Near) (b : Option Near) → b ≡ Some near → lt tiny32 near.distance ≡ true → taken b ≡ share_of near.number near.distance ∷ []
taken_yes near b e h = ap taken e ∙ rw h

pub taken_no : (near : Near) (b : Option Near) → b ≡ Some near → lt tiny32 near.distance ≡ false → taken b ≡ []
taken_no near b e h = ap taken e ∙ rw h

-- a closest is a measurement
held_closer : (m : ℕ) (d : ℕ → Float) (b : Option Near) (k : ℕ) → k < m → Held m b → Held m (closer_of d b k)
unfolding closer_of
held_closer m d b k hk h = go (lt (d k) (least b))
  where
    go : (t : Bool) → Held m (cond t (Some (near_at k (d k))) b)
    go true = hk
    go false = h

held_beside : (m : ℕ) (d : ℕ → Float) (b : Option Near) (e : Entry) → bad_beyond m e ≡ e → Held m b → Held m (beside d b e)
held_beside m d b Absent w h = h
held_beside m d b (Measured k) w h = held_closer m d b k (within_below m k w) h
held_beside m d b Bad w h = h

pub closest_held : (m : ℕ) (d : ℕ → Float) (x y : ℕ) → (known m x && known m y) ≡ true → Held m (closest_of d x y)
unfolding closest_of
closest_held m d x y h =
    held_beside m d (beside d None (entry_of x)) (entry_of y) (known_within m y (and_right (known m x) (known m y) h))
    (held_beside m d None (entry_of x) (known_within m x (and_left (known m x) (known m y) h)) tt)

-- ---- one point more
pub push1 : (p : Points) (s : Share) → p.count ≡ 1 → list_of (record { count = 2; a = p.a; b = s; c = p.c; d = p.d }) ≡ list_of p ++ (s ∷ [])
unfolding list_of
push1 p s e = sym (ap (λ (j : ℕ). take j (fours p) ++ (s ∷ [])) e)

pub push2 : (p : Points) (s : Share) → p.count ≡ 2 → list_of (record { count = 3; a = p.a; b = p.b; c = s; d = p.d }) ≡ list_of p ++ (s ∷ [])
unfolding list_of
push2 p s e = sym (ap (λ (j : ℕ). take j (fours p) ++ (s ∷ [])) e)

pub push3 : (p : Points) (s : Share) → p.count ≡ 3 → list_of (record { count = 4; a = p.a; b = p.b; c = p.c; d = s }) ≡ list_of p ++ (s ∷ [])
unfolding list_of
push3 p s e = sym (ap (λ (j : ℕ). take j (fours p) ++ (s ∷ [])) e)

pub divided_list : (p : Points) (sum : Float) (a b c d : Share) → a ≡ part sum p.a → b ≡ part sum p.b → c ≡ part sum p.c → d ≡ part sum p.d
    → list_of (record { count = p.count; a = a; b = b; c = c; d = d }) ≡ map (part sum) (list_of p)
unfolding list_of
divided_list p sum a b c d ea eb ec ed = rw (ea, eb, ec, ed) (take_map (part sum) p.count (fours p))

-- ---- delays
some_same : {A : Type 0} {x y : A} → Some x ≡ Some y → x ≡ y
some_same e = cc

module _ (len m r e : ℕ) where
  pub by_one : len ≡ m → stride_at 1 0 ≡ stride_of len m r e
  unfolding stride_of
  by_one h = rw (eq-eqb len m h)

  pub by_each : (len ≡ m → ⊥) → m * r ≤ len → stride_at r e ≡ stride_of len m r e
  unfolding stride_of
  by_each g h = rw (ne_eqb len m g, le-leb (m * r) len h)

  pub by_two : (len ≡ m → ⊥) → len < m * r → r ≤ len → stride_at 0 e ≡ stride_of len m r e
  unfolding stride_of
  by_two g h i = rw (ne_eqb len m g, lt-leb (m * r) len h, le-leb r len i)

  pub by_none : (len ≡ m → ⊥) → len < m * r → len < r → None ≡ stride_of len m r e
  unfolding stride_of
  by_none g h i = rw (ne_eqb len m g, lt-leb (m * r) len h, lt-leb r len i)

  -- a measurement's delay lies inside the list
  pub stride_in : (k : ℕ) (s : Stride) → Some s ≡ stride_of len m r e → k < m → 2 ≤ r → e ≤ 1 → Leads s len k
  unfolding stride_of
  stride_in k s q hk hr he = go (eqb len m) (leb (m * r) len) (leb r len) refl refl refl q
    where
      each : m * r ≤ len → k * r + e < len
      each g = omega (arith, suc-mul k r, mul-le-mul_right r hk)

      go : (a b c : Bool) → eqb len m ≡ a → leb (m * r) len ≡ b → leb r len ≡ c → Some s ≡ cond a (stride_at 1 0) (cond b (stride_at r e) (cond c (stride_at 0 e) None))
          → k * s.times + s.plus < len
      go true b c ea eb ec t = rw (some_same t) (omega (arith, eqb-true len m ea))
      go false true c ea eb ec t = rw (some_same t) (each (leb-true (m * r) len eb))
      go false false true ea eb ec t = rw (some_same t) (omega (arith, leb-true r len ec))
      go false false false ea eb ec t = let z : ◌≡◌ {A = ℕ} 0 1 = cc in absurd (omega arith)

-- a delay where there are some, and where there are none
module _ (delays : List Float) (m r e : ℕ) where
  pub plain_some : (s : Stride) → Some s ≡ stride_of (length delays) m r e → (k : ℕ) → record { 0 = delay_at delays s k } ≡ plain_delay delays m r e k
  unfolding plain_delay
  plain_some s q k = rw (← q)

  pub plain_none : None ≡ stride_of (length delays) m r e → (k : ℕ) → record { 0 = zero32 } ≡ plain_delay delays m r e k
  unfolding plain_delay
  plain_none q k = rw (← q)

  pub blend_some : (s : Stride) → Some s ≡ stride_of (length delays) m r e → (ps : List Share) (x : Float) → x ≡ sums (delay_at delays s) zero32 ps → record { 0 = x } ≡ blend_delay delays m r e ps
  unfolding blend_delay
  blend_some s q ps x t = rw (← q, t)

  pub blend_none : None ≡ stride_of (length delays) m r e → (ps : List Share) → record { 0 = zero32 } ≡ blend_delay delays m r e ps
  unfolding blend_delay
  blend_none q ps = rw (← q)

-- the three coordinates and the six entries of a measurement are there
pub three_in : (k m len : ℕ) → k < m → 3 * m ≤ len → 3 * k + 2 < len
three_in k m len h g = omega arith

pub times : (m r : ℕ) → m ≤ 16384 → r ≤ 8 → m * r ≤ 131072
times m r hm hr = mul-le-mul {n₂ = 16384} {m₂ = 8} hm hr

-- ---- the four ways through
module _ (m r n : ℕ) (resp delays : List Float) (rate : Float) (ll rl : ℕ) (cart : List Float) (near : List ℕ) (q : Point3) (k : ℕ) where
  abbrev answer : FilterAnswer
  answer = interpolate_of m r n resp delays rate ll rl cart near q k

  pub way_close : {o : FilterAnswer} (x : Float) → o ≡ extract_of m r n resp delays rate ll rl k → x ≡ distance_of cart q k → lt x close32 ≡ true → o ≡ answer
  unfolding interpolate_of
  way_close x eo e h = eo ∙ rw (← e, h)

  abbrev here : Result Points BadEntry → Type 0
  here g = Gathers m (all_known m (neighbors_of near k)) (points_of (distance_of cart q) (neighbors_of near k) k) g

  pub way_refused : {o : FilterAnswer} (x : Float) (g : Result Points BadEntry) (bad : BadEntry) → o ≡ refused_of 9 0 ll rl → x ≡ distance_of cart q k → lt x close32 ≡ false → here g → g ≡ Err bad → o ≡ answer
  unfolding interpolate_of
  way_refused x g bad eo e h w eg = let a = subst here eg w in eo ∙ rw (← e, h, a)

  pub way_light : {o : FilterAnswer} (x : Float) (p : Points) (t : Float) → o ≡ extract_of m r n resp delays rate ll rl k → x ≡ distance_of cart q k → lt x close32 ≡ false → here (Ok p)
      → t ≡ total_of (list_of p) → lt t tiny32 ≡ true → o ≡ answer
  unfolding interpolate_of weighed_of
  way_light x p t eo e h w et ht = eo ∙ rw (← e, h, w.0, ← w.1, ← et, ht)

  pub way_blended : {o : FilterAnswer} (x : Float) (p : Points) (t : Float) (qs : List Share) → o ≡ blend_of m r n resp delays rate ll rl qs → x ≡ distance_of cart q k → lt x close32 ≡ false → here (Ok p)
      → t ≡ total_of (list_of p) → lt t tiny32 ≡ false → qs ≡ map (part t) (list_of p) → o ≡ answer
  unfolding interpolate_of weighed_of
  way_blended x p t qs eo e h w et ht eq = eo ∙ rw (← e, h, w.0, ← w.1, ← et, ht, ← eq)

-- ---- an answer and two outputs, as they were made
module _ (m r n : ℕ) (resp delays : List Float) (rate : Float) (ll rl : ℕ) (a b : Samples) (s t : Seconds) (left right : List Float) where
  pub extracted : (k : ℕ) → a ≡ plain_delay delays m r 0 k → b ≡ plain_delay delays m r 1 k → s ≡ seconds_of a rate → t ≡ seconds_of b rate
      → left ≡ out_of (λ i. tap_of resp r n 0 i k) n ll → right ≡ out_of (λ i. tap_of resp r n 1 i k) n rl → filter_of (Exact s t) left right ≡ extract_of m r n resp delays rate ll rl k
  unfolding extract_of
  extracted k ea eb es et el er =
      λ i. record { answer = Exact (seconds rate es ea i) (seconds rate et eb i); left = el i; right = er i }

  pub blended : (p : Points) → p.count ≤ 4 → a ≡ blend_delay delays m r 0 (list_of p) → b ≡ blend_delay delays m r 1 (list_of p) → s ≡ seconds_of a rate → t ≡ seconds_of b rate
      → left ≡ out_of (sample_of resp r n 0 (list_of p)) n ll → right ≡ out_of (sample_of resp r n 1 (list_of p)) n rl
      → filter_of (Blended s t p.count) left right ≡ blend_of m r n resp delays rate ll rl (list_of p)
  unfolding blend_of
  blended p h ea eb es et el er =
      λ i. record { answer = Blended (seconds rate es ea i) (seconds rate et eb i) (sym (count_length p h) i); left = el i; right = er i }

pub silent : (d : List Float) → tailed 0 d ≡ replicate (length d) zero32
unfolding tailed
silent d = ap (λ (j : ℕ). replicate j zero32) (less (length d))
  where
    less : (j : ℕ) → j - 0 ≡ j
    less j = omega arith
