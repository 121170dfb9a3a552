-- The nearest of those listed, a place at a time: the walk over a list's front is the walk over as many entries of the whole. Assumes nothing.
use Rattle.std.proofs.Common.{◌≡◌, ℕ, zero, suc, ◌+◌, ◌-◌, ◌<◌, ◌≤◌, cond, ltb, List, length, take, get_or, refl, ap, ◌∙◌, arith, rules, min}
use Rattle.std.proofs.lemmas.List.{length-take-le}
use lib.Seq.{get_or-take}
use lib.Ieee.{Float}
use Rattle.points.specs.declared.Point3.{Point3}
use Rattle.points.specs.Points.{point_at, dist_sq_of}
use Rattle.clearing.specs.declared.Clearing.{Clearing}
use Rattle.clearing.specs.declared.Nearest.{Nearest}
use Rattle.clearing.specs.Clearing.{nearer, nearest_listed, listed_count}

counted : (c : Clearing) → min c.count 24 ≡ listed_count c
unfolding listed_count
counted c = search rules

module _ (xs : List Float) (m : ℕ) (q : Point3) where
  -- one entry more
  pub one : (places : List ℕ) (i : ℕ) (s t : Nearest) → i < length places → t ≡ (let n = get_or places i 0 in cond (ltb n m) (nearer s n (dist_sq_of (point_at xs n) q)) s)
      → nearest_listed xs m q places (length places - (i + 1)) (i + 1) t ≡ nearest_listed xs m q places (length places - i) i s
  unfolding nearest_listed
  one places i s t h e =
      let k : length places - i ≡ suc (length places - (i + 1)) = omega arith in
      rw k (ap (nearest_listed xs m q places (length places - (i + 1)) (i + 1)) e)

  pub none_left : (places : List ℕ) (i : ℕ) (s : Nearest) → length places ≤ i → nearest_listed xs m q places (length places - i) i s ≡ s
  unfolding nearest_listed
  none_left places i s h = let k : length places - i ≡ 0 = omega arith in rw k

  front_from : (places : List ℕ) (n k i : ℕ) (s : Nearest) → i + k ≤ n → nearest_listed xs m q (take n places) k i s ≡ nearest_listed xs m q places k i s
  unfolding nearest_listed
  front_from places n zero i s h = refl
  front_from places n (suc k) i s h = rw (get_or-take n places i 0 (omega arith)) (front_from places n k (i + 1) _ (omega arith))

  -- of a clearing's places those that are listed, n of them
  pub all_listed : (c : Clearing) (n : ℕ) (s : Nearest) → n ≡ min c.count 24 → 24 ≤ length c.places
      → nearest_listed xs m q (take n c.places) (length (take n c.places)) 0 s ≡ nearest_listed xs m q c.places (listed_count c) 0 s
  all_listed c n s e h =
      let r : n ≤ length c.places = omega (arith, e) in
      let k : n ≡ listed_count c = e ∙ counted c in
      rw (length-take-le n c.places r, front_from c.places n n 0 s (omega arith), k)
