-- THE THEOREM on a clearing: over links that were built, a query for which the nearest of those listed passes the test finds that one, whatever the floats. Assumes nothing.
use mathlib.Core.Path.{◌≡◌, sym, ap, ◌∙◌, subst}
use mathlib.Core.Logic.{◌⊎◌, inl, inr}
use mathlib.Core.Bool.{true, false}
use mathlib.Core.List.{List, ◌∷◌}
use Prim.Native.Nat.{ℕ, suc, ◌+◌, ◌<◌}
use native.Mathlib.Omega.{arith}
use lib.Dec.{T}
use lib.Ieee.{Float, lt}
use Rattle.std.specs.Prelude.{None, Option, Some}
use Rattle.kdtree.specs.declared.Best.{Best}
use Rattle.lists.specs.Over.{over}
use Rattle.lists.specs.Each.{Each}
use Rattle.floats.proofs.Preorder.{number, lt_numbers}
use Rattle.floats.proofs.Cross.{of_taken}
use Rattle.points.specs.declared.Point3.{Point3}
use Rattle.points.specs.Points.{point_at, dist_sq_of}
use Rattle.kdtree.specs.Tree.{Tree, subtree}
use Rattle.kdtree.specs.Search as pruned
use Rattle.kdtree.specs.Nearest.{start_at, start_at_root, found_from, place_found}
use Rattle.kdtree.specs.Unpruned.{Pick, pick_of, Item, order, size}
use Rattle.kdtree.proofs.Nodes.{All}
use Rattle.kdtree_laws.specs.Demand3.{Numbered}
use Rattle.kdtree_laws.proofs.Lists.{each_right, each_in, each_ordered}
use Rattle.kdtree_laws.proofs.First.{tf, scan, walk_scan, all_order, scan_least, Named, scan_first}
use Rattle.kdtree_laws.proofs.Pruned.{Agrees, prune}
use Rattle.kdtree_laws.proofs.Rep.{rep_at}
use Rattle.kdtree_laws.proofs.Sides.{all_map, all_both, sorted_within}
use Rattle.kdtree_laws.proofs.Filled.{Filled, root_clean, root_nodes}
use Rattle.kdtree_laws.proofs.Demand3.{each_standing}
use Rattle.lookup.specs.declared.Located.TheVariants.{At}
use Rattle.lookup.specs.Build.{Links, linked, box_of, box_to}
use Rattle.lookup.specs.Lookup.{located_by}
use Rattle.lookup_laws.specs.Loaded.{placed, placed_from, Room}
use Rattle.lookup_laws.proofs.Loaded as built
use Rattle.lookup_laws.proofs.Nearest.{in_placed}
use Rattle.clearing.specs.declared.Clearing.{Clearing}
use Rattle.clearing.specs.declared.Nearest.{Nearest}
use Rattle.clearing.specs.Clearing.{around, cleared, alone_in, nearest_within}
use Rattle.clearing_laws.proofs.Cleared.{Sound, Listed, Standing, around_sound, cleared_sound, cleared_out}
use Rattle.clearing_laws.proofs.Faces.{Tested, tested, out_farther}
use Rattle.clearing_laws.proofs.Listed.{nearest_listed_lem, nearest_dist, nearest_below}

module _ (xs : List Float) (k : ℕ) (d : Links) (room : Room xs (suc k) d) (own : ℕ) (below : own < suc k) where
  abbrev m : ℕ
  m = suc k

  abbrev left : List ℕ
  left = over (linked xs m).left d.left

  abbrev right : List ℕ
  right = over (linked xs m).right d.right

  abbrev p : Point3
  p = point_at xs own

  abbrev F : Filled (placed xs 0) (placed_from xs k 1) (record { lists = built.lists xs m d room m; count = m; bounds = built.rect xs m d room m })
  F = built.drawn xs m d room k (omega arith)

  abbrev t : Tree
  t = F.tree

  tree_is : subtree left right xs m m 0 ≡ t
  tree_is = rep_at left right xs m F.small t 0 m (omega arith) F.rep

  module _ (w : Float) where
    abbrev c : Clearing
    c = cleared own p (subtree left right xs m m 0) 0 (around p w)

    sound : Sound c
    sound = cleared_sound own p (subtree left right xs m m 0) 0 (around p w) (around_sound p w)

    standing : All (Standing own p c) t
    standing =
        subst (λ (u : Tree). All (Standing own p (cleared own p u 0 (around p w))) t) (sym tree_is)
        (cleared_out own p t 0 (around p w) (around_sound p w) F.sorted)

    module _ (q : Point3) where
      abbrev s : Nearest
      s = nearest_within xs m q own c

      module _ (tied : s.tied ≡ false) (alone : alone_in c.faces s.place (point_at xs s.place) (point_at xs 0) q ≡ true) where
        abbrev dist : Float
        dist = dist_sq_of (point_at xs s.place) q

        abbrev start : Pick
        start = record { place = 0; dist = dist_sq_of (point_at xs 0) q }

        abbrev found : Pick
        found = scan q start (order q t 0)

        test : Tested c.faces s.place (point_at xs s.place) (point_at xs 0) q
        test = tested c.faces s.place (point_at xs s.place) (point_at xs 0) q alone

        -- its distance is below that of a face
        dist_number : T (number s.dist)
        dist_number = subst (λ (z : Float). T (number z)) (sym (nearest_dist xs m q own c below)) (lt_numbers dist _ (of_taken (test.faces 0).to_low)).0

        -- every other measurement is farther, unless its distance is no number
        abbrev Farther : ℕ → Point3 → Type 0
        Farther i x = (i ≡ s.place) ⊎ (T (number (dist_sq_of x q)) → lt dist (dist_sq_of x q) ≡ true)

        listed_farther : (i : ℕ) (x : Point3) → (i < m) × (x ≡ point_at xs i) → (i ≡ own) ⊎ Listed c i → Farther i x
        listed_farther i x h l =
            subst (λ (y : Point3). Farther i y) (sym h.1)
            (subst (λ (z : Float). (i ≡ s.place) ⊎ (T (number (dist_sq_of (point_at xs i) q)) → lt z (dist_sq_of (point_at xs i) q) ≡ true)) (nearest_dist xs m q own c below)
            (nearest_listed_lem xs m q own c sound below tied dist_number i h.0 l))

        all_farther : All Farther t
        all_farther = all_both (Standing own p c) (λ i x. (i < m) × (x ≡ point_at xs i)) Farther t go standing (root_nodes left right xs m t 0 F.rep)
          where
            go : (i : ℕ) (x : Point3) → Standing own p c i x → (i < m) × (x ≡ point_at xs i) → Farther i x
            go i x (inl e) h = listed_farther i x h (inl e)
            go i x (inr (inl l)) h = listed_farther i x h (inr l)
            go i x (inr (inr o)) h = inr (λ n. out_farther c.faces s.place (point_at xs s.place) (point_at xs 0) q x test o n)

        -- its distance is not undercut by what is found
        not_undercut : lt dist found.dist ≡ false
        unfolding placed_from
        not_undercut =
            let within : s.place < 0 + m = (let b : s.place < m = nearest_below xs m q own c below in omega arith) in
            let P : Point3 → Type 0 = λ x. lt (dist_sq_of x q) found.dist ≡ false in
            let nodes = root_nodes left right xs m t 0 F.rep in
            let points = all_order q (λ i x. x ≡ point_at xs i) t 0 (all_map (λ i x. (i < m) × (x ≡ point_at xs i)) (λ i x. x ≡ point_at xs i) t (λ i x h. h.1) nodes) in
            let met = each_standing (built.lists xs m d room m) P (order q t 0) points (scan_least q (order q t 0) start) in
            each_in (λ (x : Numbered). P x.point) (placed_from xs m 0) (placed xs s.place) (each_ordered (λ (x : Numbered). P x.point) (F.holds q) met) (in_placed xs m 0 s.place (omega arith) within)

        -- SO IT IS THE ONE FOUND by the walk
        place_is : found.place ≡ s.place
        place_is = go (scan_first q (order q t 0) start) test.start
          where
            named : (n : Named q start (order q t 0)) → Farther n.item.place n.item.point → found.place ≡ s.place
            named n (inl e) = ap (λ (z : Pick). z.place) n.is ∙ e
            named n (inr f) =
                let i = dist_sq_of n.item.point q in
                tf (lt dist i) (f (lt_numbers i start.dist (of_taken n.start_farther)).0) (sym (ap (λ (z : Pick). lt dist z.dist) n.is) ∙ not_undercut)

            item_far : (n : Named q start (order q t 0)) → Farther n.item.place n.item.point
            item_far n =
                let O : Item → Type 0 = λ i. Farther i.place i.point in
                (each_right O n.before (n.item ∷ n.after) (subst (Each O) n.split (all_order q Farther t 0 all_farther))).0

            go : (found ≡ start) ⊎ Named q start (order q t 0) → (s.place ≡ 0) ⊎ (lt dist (dist_sq_of (point_at xs 0) q) ≡ true) → found.place ≡ s.place
            go (inr n) z = named n (item_far n)
            go (inl e) (inl o) = ap (λ (z : Pick). z.place) e ∙ sym o
            go (inl e) (inr l) = tf (lt dist start.dist) l (sym (ap (λ (z : Pick). lt dist z.dist) e) ∙ not_undercut)

        -- and by the search, whose box is the one built
        agrees : Agrees found (0 + size t) (place_found xs left right m (box_of xs m) q)
        unfolding found_from start_at pick_of box_of built.rect
        agrees =
            let cl = root_clean left right xs m t 0 F.rep in
            let z = F.whole in
            subst (λ (u : Tree). Agrees found (0 + size t) (pruned.search m q u (box_to xs k) 0 (start_at_root xs q))) (sym tree_is)
            (subst (λ (v : Pick). Agrees v (0 + size t) (pruned.search m q t (box_to xs k) 0 (start_at_root xs q))) (walk_scan q t 0 start)
            (prune m q t (box_to xs k) 0 (start_at_root xs q) (sorted_within t (box_to xs k) 0 cl F.sorted F.inside) (omega arith)))

        pub alone_found : located_by (place_found xs left right m (box_of xs m) q) ≡ At s.place
        unfolding located_by pick_of
        alone_found = go (place_found xs left right m (box_of xs m) q) agrees
          where
            go : (v : Option Best) → Agrees found (0 + size t) v → located_by v ≡ At s.place
            go (Some r) a = ap At (ap (λ (z : Pick). z.place) a.0 ∙ place_is)
            go None a = absurd a
