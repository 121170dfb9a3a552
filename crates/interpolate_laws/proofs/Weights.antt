-- The weights of a blend: none is a NaN or negative, their sum is no less than any of them, and divided by it each lies from +0 to 1. Assumes nothing.
use mathlib.Core.Path.{◌≡◌, refl, sym, subst, ◌∙◌}
use mathlib.Core.Bool.{Bool, true, false, cond}
use mathlib.Core.List.{List, [], ◌∷◌, ◌++◌, map}
use Prim.Native.Nat.{ℕ, zero, suc, ◌≤◌, ◌<◌}
use native.Mathlib.Nat.{zero-lt-suc}
use native.Mathlib.Omega.{arith}
use lib.IntN.{ℤ, pos}
use lib.Dec.{T, T_not, lt→ltb}
use lib.ListN.{length, length-append, length-map}
use lib.Ieee.{Float, nan, inf, fin, binary32, round, sum, add, div, le, lt, fits, is_nan, of_bits}
use lib.Ieee.Fits.{add-fits, div-fits}
use lib.Ieee.Positive.{positive}
use lib.Ieee.Scale.{finite}
use Rattle.floats.specs.Floats.{zero32, one32}
use Rattle.floats.proofs.Cross.{of_taken, of_left, is_false, and_left}
use Rattle.floats.proofs.Sign.{nonneg}
use Rattle.floats.proofs.Preorder.{number, le_refl_f, le_trans_f, le_lt_trans, lt→le, not_lt→le, le→not_lt, eq_both, zeros_eq}
use Rattle.floats.proofs.Ops.{nonneg_number, add_nonneg, add_mono, add_grows, add_grows_r}
use Rattle.floats.proofs.Ratio.{magnitude, magnitude_below, div_nonneg, div_le_one, div_mono}
use Rattle.points.specs.declared.Point3.{Point3}
use Rattle.mix.specs.declared.Share.{Share}
use Rattle.delays.specs.declared.Seconds.{Seconds}
use Rattle.delays.specs.declared.Outcome.TheVariants.{Exact, Blended, Refused}
use Rattle.interpolate.specs.Blend.{close32, tiny32, largest32, total_from, total_of, part, share_of, entry_of, bad_beyond, known, all_known, least, near_at, closer_of, beside, closest_of, taken, pair_of, Neighbors, points_of, distance_of, neighbors_of, FilterAnswer, extract_of, blend_of, weighed_of, refused_of, interpolate_of}
use Rattle.interpolate.specs.declared.Entry.{Entry}
use Rattle.interpolate.specs.declared.Entry.TheVariants as entry
use Rattle.std.proofs.Common.{Option, None, Some}
use Rattle.interpolate.specs.declared.Near.{Near}
use Rattle.interpolate.proofs.Laws.{within_below, known_within, neighbors_known, taken_length}
use Rattle.lists.specs.Each.{Each}
use Rattle.lists.proofs.Laws.{each_append}
use Rattle.interpolate_laws.specs.Weights.{AllFinite, Portion, Shared}
use Rattle.interpolate_laws.proofs.Distances.{distance_nonneg}

-- 1 / d, for a distance that is +0, positive or +infinity: never a NaN, never negative
pub weight_nonneg : (d : Float) → T (nonneg d) → T (nonneg (div binary32 one32 d))
unfolding div
weight_nonneg nan p = absurd p
weight_nonneg (inf true) p = absurd p
weight_nonneg (inf false) p = tt
weight_nonneg (fin true n e) p = absurd p
weight_nonneg (fin false zero e) p = tt
weight_nonneg (fin false (suc n) e) p = div_nonneg binary32 one32 (fin false (suc n) e) tt (lt→ltb 0 (suc n) (zero-lt-suc n))

-- a value that is not below 1e-10 is not zero
zero_le : (e : ℤ) → T (le (fin false 0 e) zero32)
zero_le e = of_taken (and_left (le (fin false 0 e) zero32) (le zero32 (fin false 0 e)) (sym (eq_both (fin false 0 e) zero32) ∙ zeros_eq false false e (pos 0)))

pub above_zero : (n : ℕ) (e : ℤ) → lt (fin false n e) tiny32 ≡ false → T (positive (fin false n e))
above_zero zero e h = absurd (no (subst T h (le_lt_trans (fin false 0 e) zero32 tiny32 (zero_le e) zero_below)))
  where
    no : T false → ⊥
    no x = x

    zero_below : T (lt zero32 tiny32)
    zero_below = unfold lt of_bits in tt
above_zero (suc n) e h = lt→ltb 0 (suc n) (zero-lt-suc n)

-- 1 / 1e-10, which no weight exceeds
unfoldable pub most32 : Float
most32 = div binary32 one32 tiny32

ends : T (magnitude one32) × T (positive tiny32) × T (le one32 one32)
unfolding le of_bits
ends = (tt, tt, tt)

pub weight_most : (d : Float) → T (nonneg d) → T (le tiny32 d) → T (le (div binary32 one32 d) most32)
weight_most nan p h = absurd p
weight_most (inf true) p h = absurd p
weight_most (inf false) p h = unfold most32 div le of_bits round in tt
weight_most (fin true n e) p h = absurd p
weight_most (fin false n e) p h =
    let d = fin false n e in
    let q = above_zero n e (is_false (lt d tiny32) (T_not (lt d tiny32) (le→not_lt tiny32 d h))) in
    unfold most32 in div_mono binary32 one32 one32 d tiny32 ends.0 ends.0 q ends.1 ends.2 h

largest_finite : T (finite largest32)
unfolding of_bits
largest_finite = tt

most_finite : T (le most32 largest32)
unfolding most32 le div of_bits round
most_finite = tt

-- ---- a share whose weight is a number, not negative; and one whose weight is at most 1 / 1e-10 too
pub record Good (p : Share) : Type 0 where
  pub sign : T (nonneg p.weight)
  pub fit : T (fits binary32 p.weight)

pub record Sound (p : Share) : Type 0 where
  pub good : Good p
  pub most : T (le p.weight most32)

share_good : (k : ℕ) (d : Float) → T (nonneg d) → Good (share_of k d)
share_good k d h = record { sign = weight_nonneg d h; fit = div-fits binary32 one32 d }

share_sound : (k : ℕ) (d : Float) → T (nonneg d) → T (le tiny32 d) → Sound (share_of k d)
share_sound k d h b = record { good = share_good k d h; most = weight_most d h b }

goods : (ps : List Share) → Each Sound ps → Each Good ps
goods [] e = tt
goods (p ∷ ps) e = (e.0.good, goods ps e.1)

-- ---- the sum
total_nonneg : (ps : List Share) (s : Float) → T (nonneg s) → Each Good ps → T (nonneg (total_from s ps))
unfolding total_from
total_nonneg [] s h g = h
total_nonneg (p ∷ ps) s h g = total_nonneg ps (add binary32 s p.weight) (add_nonneg binary32 s p.weight h g.0.sign) g.1

total_grows : (ps : List Share) (s : Float) → T (nonneg s) → T (fits binary32 s) → Each Good ps → T (le s (total_from s ps))
unfolding total_from
total_grows [] s h k g = le_refl_f s (nonneg_number s h)
total_grows (p ∷ ps) s h k g =
    le_trans_f s (add binary32 s p.weight) (total_from (add binary32 s p.weight) ps) (add_grows binary32 s p.weight h g.0.sign k)
    (total_grows ps (add binary32 s p.weight) (add_nonneg binary32 s p.weight h g.0.sign) (add-fits binary32 s p.weight) g.1)

total_from_lem : (ps : List Share) (s : Float) → T (nonneg s) → T (fits binary32 s) → Each Good ps → Each (λ (p : Share). T (le p.weight (total_from s ps))) ps
unfolding total_from
total_from_lem [] s h k g = tt
total_from_lem (p ∷ ps) s h k g = (
  le_trans_f p.weight (add binary32 s p.weight) (total_from (add binary32 s p.weight) ps) (add_grows_r binary32 s p.weight h g.0.sign g.0.fit)
      (total_grows ps (add binary32 s p.weight) (add_nonneg binary32 s p.weight h g.0.sign) (add-fits binary32 s p.weight) g.1),
  total_from_lem ps (add binary32 s p.weight) (add_nonneg binary32 s p.weight h g.0.sign) (add-fits binary32 s p.weight) g.1,
)

zero_fits : T (fits binary32 zero32)
unfolding fits
zero_fits = tt

-- the sum is no less than any weight
pub total_over : (ps : List Share) → Each Good ps → Each (λ (p : Share). T (le p.weight (total_of ps))) ps
total_over ps g = total_from_lem ps zero32 tt zero_fits g

-- ---- the sum of at most four is finite
heap : ℕ → Float → Float
heap zero s = s
heap (suc n) s = heap n (add binary32 s most32)

most_nonneg : T (nonneg most32)
unfolding most32 div of_bits round
most_nonneg = tt

total_under : (ps : List Share) (s t : Float) → T (nonneg s) → T (nonneg t) → T (le s t) → Each Sound ps → T (le (total_from s ps) (heap (length ps) t))
unfolding total_from heap
total_under [] s t hs ht h e = h
total_under (p ∷ ps) s t hs ht h e =
    total_under ps (add binary32 s p.weight) (add binary32 t most32) (add_nonneg binary32 s p.weight hs e.0.good.sign) (add_nonneg binary32 t most32 ht most_nonneg)
    (add_mono binary32 s t p.weight most32 hs ht e.0.good.sign most_nonneg h e.0.most) e.1

heap_finite : (n : ℕ) → n ≤ 4 → T (le (heap n zero32) largest32)
unfolding heap most32 add div sum le of_bits round
heap_finite zero h = tt
heap_finite (suc zero) h = tt
heap_finite (suc (suc zero)) h = tt
heap_finite (suc (suc (suc zero))) h = tt
heap_finite (suc (suc (suc (suc zero)))) h = tt
heap_finite (suc (suc (suc (suc (suc n))))) h = absurd (omega arith)

-- so a sum that is not below 1e-10 is finite and above zero
pub total_positive : (ps : List Share) → length ps ≤ 4 → Each Sound ps → lt (total_of ps) tiny32 ≡ false → T (positive (total_of ps))
total_positive ps h e t =
    over (total_of ps) t (magnitude_below (total_of ps) largest32 (total_nonneg ps zero32 tt (goods ps e)) largest_finite
    (le_trans_f (total_of ps) (heap (length ps) zero32) largest32 (total_under ps zero32 zero32 tt tt (le_refl_f zero32 (nonneg_number zero32 tt)) e) (heap_finite (length ps) h)))
  where
    over : (x : Float) → lt x tiny32 ≡ false → T (magnitude x) → T (positive x)
    over nan t m = absurd m
    over (inf u) t m = absurd m
    over (fin true n d) t m = absurd m
    over (fin false n d) t m = above_zero n d t

-- ---- a weight divided by the sum: from +0 to 1
portions_by : (s : Float) (ps : List Share) → T (positive s) → Each Sound ps → Each (λ (p : Share). T (le p.weight s)) ps
    → Each (λ (p : Share). Portion p.weight) (map (part s) ps)
portions_by s [] h e l = tt
portions_by s (p ∷ ps) h e l =
    let m = magnitude_below p.weight largest32 e.0.good.sign largest_finite (le_trans_f p.weight most32 largest32 e.0.most most_finite) in
    (record { low = div_nonneg binary32 p.weight s m h; high = div_le_one binary32 p.weight s m h l.0 }, portions_by s ps h e.1 l.1)

pub portions : (ps : List Share) → length ps ≤ 4 → Each Sound ps → lt (total_of ps) tiny32 ≡ false → Each (λ (p : Share). Portion p.weight) (map (part (total_of ps)) ps)
portions ps h e t = portions_by (total_of ps) ps (total_positive ps h e t) e (total_over ps (goods ps e))

-- ---- the points: one to four of them
pub points_count : (d : ℕ → Float) (s : Neighbors) (k : ℕ) → (1 ≤ length (points_of d s k)) × (length (points_of d s k) ≤ 4)
unfolding points_of
points_count d s k = (
  simp length-append (omega arith),
  simp length-append (omega (arith, taken_length (closest_of d s.phi_plus s.phi_minus), taken_length (closest_of d s.theta_plus s.theta_minus), taken_length (closest_of d s.radius_plus s.radius_minus))),
)

-- ---- all of them sound, where no measurement's distance is negative or a NaN and the nearest's is not below 1e-6
module _ (m : ℕ) (d : ℕ → Float) (h : (j : ℕ) → j < m → T (nonneg (d j))) where
  closer_nonneg : (b : Option Near) (k : ℕ) → k < m → T (nonneg (least b)) → T (nonneg (least (closer_of d b k)))
  unfolding closer_of
  closer_nonneg b k e g = go (lt (d k) (least b))
    where
      go : (u : Bool) → T (nonneg (least (cond u (Some (near_at k (d k))) b)))
      go true = h k e
      go false = g

  beside_nonneg : (b : Option Near) (e : Entry) → bad_beyond m e ≡ e → T (nonneg (least b)) → T (nonneg (least (beside d b e)))
  beside_nonneg b entry.Absent w g = g
  beside_nonneg b (entry.Measured k) w g = closer_nonneg b k (within_below m k w) g
  beside_nonneg b entry.Bad w g = g

  taken_sound : (b : Option Near) → T (nonneg (least b)) → Each Sound (taken b)
  taken_sound None g = tt
  taken_sound (Some near) g = go (lt tiny32 near.distance) refl
    where
      go : (u : Bool) → lt tiny32 near.distance ≡ u → Each Sound (cond u (share_of near.number near.distance ∷ []) [])
      go true q = (share_sound near.number near.distance g (lt→le tiny32 near.distance (of_taken q)), tt)
      go false q = tt

  largest_nonneg : T (nonneg largest32)
  unfolding of_bits
  largest_nonneg = tt

  pair_sound : (a b : ℕ) → known m a ≡ true → known m b ≡ true → Each Sound (pair_of d a b)
  unfolding closest_of
  pair_sound a b ka kb =
      let first = beside d None (entry_of a) in
      taken_sound (beside d first (entry_of b)) (beside_nonneg first (entry_of b) (known_within m b kb) (beside_nonneg None (entry_of a) (known_within m a ka) largest_nonneg))

  pub points_sound : (s : Neighbors) (k : ℕ) → k < m → all_known m s ≡ true → lt (d k) close32 ≡ false → Each Sound (points_of d s k)
  unfolding points_of
  points_sound s k hk ha hc =
      let g = neighbors_known m s ha in
      let a = pair_of d s.phi_plus s.phi_minus in
      let b = pair_of d s.theta_plus s.theta_minus in
      let c = pair_of d s.radius_plus s.radius_minus in
      let one = share_of k (d k) ∷ [] in
      let far = not_lt→le (d k) close32 (nonneg_number (d k) (h k hk)) close_number (of_left hc) in
      let first = share_sound k (d k) (h k hk) (le_trans_f tiny32 close32 (d k) tiny_close far) in
      each_append Sound ((one ++ a) ++ b) c (each_append Sound (one ++ a) b (each_append Sound one a (first, tt) (pair_sound _ _ g.a_known g.b_known)) (pair_sound _ _ g.c_known g.d_known))
      (pair_sound _ _ g.e_known g.f_known)
    where
      close_number : T (number close32)
      close_number = unfold is_nan of_bits in tt

      tiny_close : T (le tiny32 close32)
      tiny_close = unfold le of_bits in tt

-- ---- an answer that is blended went past all three exits
record Past (t u v : Bool) (y : FilterAnswer) (l r : Seconds) (c : ℕ) : Type 0 where
  far : t ≡ false
  met : u ≡ true
  heavy : v ≡ false
  says : y.answer ≡ Blended l r c

past : (t u v : Bool) (x y z : FilterAnswer) (l r a b : Seconds) (c i j : ℕ) → x.answer ≡ Exact a b → z.answer ≡ Refused i j
    → (cond t x (cond u (cond v x y) z)).answer ≡ Blended l r c → Past t u v y l r c
past true u v x y z l r a b c i j ex ez e = let w : ◌≡◌ {A = ℕ} 0 1 = cc in absurd (omega arith)
past false false v x y z l r a b c i j ex ez e = let w : ◌≡◌ {A = ℕ} 0 1 = cc in absurd (omega arith)
past false true true x y z l r a b c i j ex ez e = let w : ◌≡◌ {A = ℕ} 0 1 = cc in absurd (omega arith)
past false true false x y z l r a b c i j ex ez e = record { far = refl; met = refl; heavy = refl; says = e }

-- where the answer is blended with c points: what `Shared` says of the list of points
pub blended : (m r n : ℕ) (resp delays : List Float) (rate : Float) (ll rl : ℕ) (cart : List Float) (near : List ℕ) (q : Point3) (k : ℕ)
    → k < m → AllFinite m cart q → (x y : Seconds) (c : ℕ)
    → (interpolate_of m r n resp delays rate ll rl cart near q k).answer ≡ Blended x y c → Shared (points_of (distance_of cart q) (neighbors_of near k) k) c
unfolding interpolate_of weighed_of extract_of blend_of
blended m r n resp delays rate ll rl cart near q k hk fine x y c e =
    let d : ℕ → Float = distance_of cart q in
    let s = neighbors_of near k in
    let ps = points_of d s k in
    let p = past (lt (d k) close32) (all_known m s) (lt (total_of ps) tiny32) (extract_of m r n resp delays rate ll rl k) (blend_of m r n resp delays rate ll rl (map (part (total_of ps)) ps)) (refused_of 9 0 ll rl) x y _ _ c 9 0 refl refl e in
    let good = points_sound m d (λ j b. distance_nonneg m cart q j fine b) s k hk p.met p.far in
    let len : c ≡ length ps = sym (count p.says) ∙ length-map ps (part (total_of ps)) in
    let bounds = points_count d s k in
    record { count = len; one = rw len bounds.0; four = rw len bounds.1; over = total_over ps (goods ps good); sum = total_positive ps bounds.1 good p.heavy; portions = portions ps bounds.1 good p.heavy }
  where
    count : {a b : Seconds} {i : ℕ} → Blended a b i ≡ Blended x y c → i ≡ c
    count h = cc
