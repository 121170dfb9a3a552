-- The nearest of a measurement and those listed in its clearing: where no other is as near, all others are farther, unless their distance is no number. Assumes nothing.
use mathlib.Core.Path.{◌≡◌, refl, sym, ap, ◌∙◌, subst}
use mathlib.Core.Logic.{◌⊎◌, inl, inr}
use mathlib.Core.Bool.{Bool, true, false, cond, not}
use mathlib.Core.List.{List}
use Prim.Native.Nat.{ℕ, zero, suc, ◌+◌, ◌<◌, ◌≤◌}
use native.Mathlib.Omega.{arith}
use lib.Dec.{T, eqb, ltb, eqb→eq, ltb→lt, lt→ltb, nltb→le, T_not}
use lib.ListN.{get_or}
use lib.Ieee.{Float, lt, le}
use lib.Ieee.Bits.{is_true}
use borrow.Author.Tests.{eqb-false}
use Rattle.floats.proofs.Preorder.{number, lt_not_le, lt→le, lt_irrefl_f, le_lt_trans}
use Rattle.floats.proofs.Cross.{of_taken, of_left, is_false}
use Rattle.points.specs.declared.Point3.{Point3}
use Rattle.points.specs.Points.{point_at, dist_sq_of}
use Rattle.kdtree_laws.proofs.First.{tf}
use Rattle.clearing.specs.declared.Clearing.{Clearing}
use Rattle.clearing.specs.declared.Nearest.{Nearest}
use Rattle.clearing.specs.Clearing.{most, nearer, nearest_listed, listed_count, nearest_within}
use Rattle.clearing_laws.proofs.Cleared.{Sound, Listed}

module _ (xs : List Float) (m : ℕ) (q : Point3) where
  abbrev D : ℕ → Float
  D n = dist_sq_of (point_at xs n) q

  -- ---- one place beside the nearest so far

  -- the distance is that of the place, which is one among m
  record Right (s : Nearest) : Type 0 where
    dist : s.dist ≡ D s.place
    below : s.place < m

  -- a place met: no nearer, and if as near then that is said
  abbrev Met : Nearest → ℕ → Type 0
  Met s n = (n ≡ s.place) ⊎ ((lt (D n) s.dist ≡ false) × (le (D n) s.dist ≡ true → s.tied ≡ true))

  no_nearer : (s : Nearest) (n : ℕ) → Right s → Met s n → T (lt (D n) s.dist) → ⊥
  no_nearer s n r (inl e) t = T_not (lt (D n) (D n)) (lt_irrefl_f (D n)) (subst (λ (z : Float). T (lt (D n) z)) (r.dist ∙ ap D (sym e)) t)
  no_nearer s n r (inr h) t = T_not (lt (D n) s.dist) (of_left h.0) t

  nearer_right : (s : Nearest) (n : ℕ) → Right s → n < m → Right (nearer s n (D n))
  unfolding nearer
  nearer_right s n r h = go (lt (D n) s.dist) (le (D n) s.dist)
    where
      go : (a b : Bool) → Right (cond a (record { place = n; dist = D n; tied = false }) (cond b (record { place = s.place; dist = s.dist; tied = true }) s))
      go true b = record { dist = refl; below = h }
      go false true = record { dist = r.dist; below = r.below }
      go false false = r

  nearer_new : (s : Nearest) (n : ℕ) → Met (nearer s n (D n)) n
  unfolding nearer
  nearer_new s n = go (lt (D n) s.dist) (le (D n) s.dist) refl refl
    where
      go : (a b : Bool) → lt (D n) s.dist ≡ a → le (D n) s.dist ≡ b
          → Met (cond a (record { place = n; dist = D n; tied = false }) (cond b (record { place = s.place; dist = s.dist; tied = true }) s)) n
      go true b e f = inl refl
      go false true e f = inr (e, λ h. refl)
      go false false e f = inr (e, λ h. tf (le (D n) s.dist) h f)

  nearer_old : (s : Nearest) (n i : ℕ) → Right s → Met s i → Met (nearer s n (D n)) i
  unfolding nearer
  nearer_old s n i r h = go (lt (D n) s.dist) (le (D n) s.dist) refl h
    where
      -- what is below the nearest so far is below all that were met
      not_le : lt (D n) s.dist ≡ true → T (le (D i) (D n)) → ⊥
      not_le e t = no_nearer s i r h (le_lt_trans (D i) (D n) s.dist t (of_taken e))

      go : (a b : Bool) → lt (D n) s.dist ≡ a → Met s i
          → Met (cond a (record { place = n; dist = D n; tied = false }) (cond b (record { place = s.place; dist = s.dist; tied = true }) s)) i
      go true b e k = inr (is_false (lt (D i) (D n)) (λ t. not_le e (lt→le (D i) (D n) t)), λ t. absurd (not_le e (of_taken t)))
      go false true e (inl k) = inl k
      go false true e (inr k) = inr (k.0, λ t. refl)
      go false false e k = k

  -- ---- all of a list

  -- one that is no place among m is passed over
  abbrev step : Nearest → ℕ → Nearest
  step s n = cond (ltb n m) (nearer s n (D n)) s

  step_right : (s : Nearest) (n : ℕ) → Right s → Right (step s n)
  step_right s n r = go (ltb n m) refl
    where
      go : (g : Bool) → ltb n m ≡ g → Right (cond g (nearer s n (D n)) s)
      go true e = nearer_right s n r (ltb→lt n m (of_taken e))
      go false e = r

  step_old : (s : Nearest) (n i : ℕ) → Right s → Met s i → Met (step s n) i
  step_old s n i r h = go (ltb n m)
    where
      go : (g : Bool) → Met (cond g (nearer s n (D n)) s) i
      go true = nearer_old s n i r h
      go false = h

  step_new : (s : Nearest) (n : ℕ) → n < m → Met (step s n) n
  step_new s n h = subst (λ (g : Bool). Met (cond g (nearer s n (D n)) s) n) (sym (is_true (ltb n m) (lt→ltb n m h))) (nearer_new s n)

  not_here : (i j : ℕ) → i ≤ j → eqb i j ≡ false → i + 1 ≤ j
  not_here i j h e = let d : i ≡ j → ⊥ = eqb-false i j e in omega arith

  module _ (places : List ℕ) where
    all_right : (k i : ℕ) (s : Nearest) → Right s → Right (nearest_listed xs m q places k i s)
    unfolding nearest_listed
    all_right zero i s r = r
    all_right (suc k) i s r = all_right k (i + 1) (step s (get_or places i 0)) (step_right s (get_or places i 0) r)

    all_old : (k i : ℕ) (s : Nearest) (n : ℕ) → Right s → Met s n → Met (nearest_listed xs m q places k i s) n
    unfolding nearest_listed
    all_old zero i s n r h = h
    all_old (suc k) i s n r h = all_old k (i + 1) (step s (get_or places i 0)) n (step_right s (get_or places i 0) r) (step_old s (get_or places i 0) n r h)

    all_new : (k i : ℕ) (s : Nearest) (j : ℕ) → Right s → i ≤ j → j < i + k → get_or places j 0 < m → Met (nearest_listed xs m q places k i s) (get_or places j 0)
    unfolding nearest_listed
    all_new zero i s j r a b h = absurd (omega arith)
    all_new (suc k) i s j r a b h = go (eqb i j) refl (all_new k (i + 1) (step s (get_or places i 0)) j (step_right s (get_or places i 0) r))
      where
        u : Nearest
        u = step s (get_or places i 0)

        go : (g : Bool) → eqb i j ≡ g → (i + 1 ≤ j → j < i + 1 + k → get_or places j 0 < m → Met (nearest_listed xs m q places k (i + 1) u) (get_or places j 0))
            → Met (nearest_listed xs m q places k (i + 1) u) (get_or places j 0)
        go true e ih =
            let f : j ≡ i = sym (eqb→eq i j (of_taken e)) in
            let here : get_or places i 0 < m = subst (λ (z : ℕ). get_or places z 0 < m) f h in
            subst (λ (z : ℕ). Met (nearest_listed xs m q places k (i + 1) u) (get_or places z 0)) (sym f)
            (all_old k (i + 1) u (get_or places i 0) (step_right s (get_or places i 0) r) (step_new s (get_or places i 0) here))
        go false e ih = ih (not_here i j a e) (omega arith) h

-- ---- a clearing

module _ (xs : List Float) (m : ℕ) (q : Point3) (own : ℕ) (c : Clearing) where
  abbrev s : Nearest
  s = nearest_within xs m q own c

  abbrev start : Nearest
  start = record { place = own; dist = dist_sq_of (point_at xs own) q; tied = false }

  start_right : own < m → Right xs m q start
  start_right h = record { dist = refl; below = h }

  right : own < m → Right xs m q s
  unfolding nearest_within
  right h = all_right xs m q c.places (listed_count c) 0 start (start_right h)

  pub nearest_dist : own < m → s.dist ≡ dist_sq_of (point_at xs s.place) q
  nearest_dist h = (right h).dist

  pub nearest_below : own < m → s.place < m
  nearest_below h = (right h).below

  -- as many as are listed
  all_entries : c.count ≤ 24 → listed_count c ≡ c.count
  unfolding listed_count
  all_entries h = go (ltb c.count most) refl
    where
      go : (g : Bool) → ltb c.count most ≡ g → cond g c.count most ≡ c.count
      go true e = refl
      go false e = let k : most ≤ c.count = nltb→le c.count most (of_left e) in omega arith

  met : Sound c → own < m → (n : ℕ) → n < m → (n ≡ own) ⊎ Listed c n → Met xs m q s n
  unfolding nearest_within
  met t h n k (inl e) = all_old xs m q c.places (listed_count c) 0 start n (start_right h) (inl e)
  met t h n k (inr l) =
      subst (λ (z : ℕ). Met xs m q s z) l.is
      (all_new xs m q c.places (listed_count c) 0 start l.at (start_right h) (omega arith) inside (subst (λ (z : ℕ). z < m) (sym l.is) k))
    where
      under : l.at < c.count
      under = l.under

      inside : l.at < 0 + listed_count c
      inside = let e : listed_count c ≡ c.count = all_entries t.few in omega arith

  -- ALL OTHERS ARE FARTHER, unless their distance is no number
  pub nearest_listed_lem : Sound c → own < m → s.tied ≡ false → T (number s.dist) → (n : ℕ) → n < m → (n ≡ own) ⊎ Listed c n
      → (n ≡ s.place) ⊎ (T (number (dist_sq_of (point_at xs n) q)) → lt s.dist (dist_sq_of (point_at xs n) q) ≡ true)
  nearest_listed_lem t h u d n k w = go (met t h n k w)
    where
      go : Met xs m q s n → (n ≡ s.place) ⊎ (T (number (dist_sq_of (point_at xs n) q)) → lt s.dist (dist_sq_of (point_at xs n) q) ≡ true)
      go (inl e) = inl e
      go (inr f) =
          let x = dist_sq_of (point_at xs n) q in
          let above : le x s.dist ≡ false = is_false (le x s.dist) (λ z. tf s.tied (f.1 (is_true (le x s.dist) z)) u) in
          inr (λ a. lt_not_le s.dist x d a ∙ ap not above)
