-- THE THEOREMS on a loaded set: its links are those of the bare tree filled in place order, and what that means for a search. Assumes nothing.
use mathlib.Core.Path.{◌≡◌, refl, sym, ap, ◌∙◌, subst}
use mathlib.Core.Bool.{Bool, cond}
use mathlib.Core.List.{List, [], ◌∷◌, ◌++◌}
use Prim.Native.Nat.{ℕ, zero, suc, ◌+◌, ◌*◌, ◌-◌, ◌<◌, ◌≤◌}
use native.Mathlib.Omega.{arith}
use native.Mathlib.Numerals.{add-one}
use lib.ListN.{length, get_or, set, replicate, length-replicate}
use lib.Seq.{set-get_or}
use lib.Dec.{eqb}
use lib.Ieee.{Float, nan}
use borrow.Author.Tests.{lt-ltb, ne_eqb}
use Rattle.std.specs.Prelude.{None, Option, Some, Result, Ok}
use Rattle.lists.specs.Over.{over, upto}
use Rattle.lists.proofs.Laws.{over_nil, length_over, length_upto, get_or_over_upto, upto_more}
use Rattle.points.specs.declared.Point3.{Point3}
use Rattle.points.specs.Points.{point_at}
use Rattle.kdtree.specs.declared.BoundingBox.{BoundingBox}
use Rattle.kdtree.specs.declared.Best.{Best}
use Rattle.kdtree.specs.declared.Slot.{Slot}
use Rattle.kdtree.specs.declared.Slot.TheVariants as slots
use Rattle.refusals.specs.declared.Refusal.{Refusal}
use Rattle.kdtree.specs.Geometry.{box_at, grown}
use Rattle.kdtree.specs.Tree.{Tree, subtree}
use Rattle.kdtree.specs.Search.{search}
use Rattle.kdtree.specs.Unpruned.{size}
use Rattle.kdtree.specs.Insert.{Lists, lists_of, Stored, stored_as, written, left_linked, right_linked, linked_at, by_slot, insert_of}
use Rattle.kdtree.specs.Nearest.{start_at, start_at_root, found_from, place_found}
use Rattle.kdtree.proofs.Nodes.{subtree_below, found_below}
use Rattle.kdtree.proofs.Whole as whole
use Rattle.kdtree_laws.specs.Demand3.{Numbered, Bare, kept, fill, insert_into, Accepted}
use Rattle.kdtree_laws.proofs.Rep.{rep_at}
use Rattle.kdtree_laws.proofs.Filled.{Filled, Next, first, next, root_clean}
use Rattle.lookup.specs.declared.Lookup.{Lookup}
use Rattle.lookup.specs.Build.{Links, links_of, owned_by, slot_at, owned_at, linked, over_both, box_to, box_of}
use Rattle.lookup.specs.Lookup.{clamped_by, located_by, locate_of}
use Rattle.lookup.proofs.Links.{linked_left_lem, linked_right_lem, turn_over, root_over}
use Rattle.lookup_laws.specs.Loaded.{placed, placed_from, Room, lent, filled_with, Below}
use Rattle.lookup_laws.proofs.Answered.{WithinVisits, answered}

-- ---- writing a point where it stands

in_place : (xs : List Float) (c : ℕ) → set (set (set xs (3 * c) (point_at xs c).x) (3 * c + 1) (point_at xs c).y) (3 * c + 2) (point_at xs c).z ≡ xs
unfolding point_at
in_place xs c =
    ap (λ (l : List Float). set (set l (3 * c + 1) (get_or xs (3 * c + 1) nan)) (3 * c + 2) (get_or xs (3 * c + 2) nan)) (set-get_or xs (3 * c) nan)
    ∙ ap (λ (l : List Float). set l (3 * c + 2) (get_or xs (3 * c + 2) nan)) (set-get_or xs (3 * c + 1) nan)
    ∙ set-get_or xs (3 * c + 2) nan

abbrev pub itself : ℕ → ℕ
itself i = i

pub number_at_lem : (m i : ℕ) (d : List ℕ) → i < m → get_or (over (upto itself m) d) i 0 ≡ i
number_at_lem m i d h = get_or_over_upto itself m i d 0 h

module _ (xs : List Float) (m : ℕ) (d : Links) (room : Room xs m d) where
  -- ---- the bare tree after n inserts

  abbrev numbers : ℕ → List ℕ
  numbers n = over (upto itself n) (replicate m zero)

  abbrev links : ℕ → Links
  links n = over_both (linked xs n) d

  abbrev pub lists : ℕ → Lists
  lists n = lists_of xs (links n).left (links n).right (numbers n)

  unfoldable pub rect : ℕ → BoundingBox
  rect zero = box_at (point_at xs 0)
  rect (suc n) = box_to xs n

  abbrev state : ℕ → Bare
  state n = record { lists = lists n; count = n; bounds = rect n }

  has_room : (n : ℕ) → n < m → whole.Room (lists n) n
  has_room n h =
      let a = length_over (linked xs n).left d.left (let z = linked_left_lem xs n in let y = room.left in omega arith) in
      let b = length_over (linked xs n).right d.right (let z = linked_right_lem xs n in let y = room.right in omega arith) in
      let k : length (replicate m zero) ≡ m = length-replicate m zero in
      let c = length_over (upto itself n) (replicate m zero) (let z = length_upto itself n in omega arith) in
      let u = room.most in
      let v = room.positions in
      let w = room.left in
      let t = room.right in
      record { most = omega arith; positions = omega arith; left = omega arith; right = omega arith; numbers = omega arith }

  -- ---- one insert

  module _ (n : ℕ) (h : n < m) where
    abbrev p : Point3
    p = point_at xs n

    abbrev chosen : Bool → Stored
    chosen g = cond g (stored_as (Ok (box_at p)) (written (lists n) n p n)) (by_slot (slot_at xs n (links n)) (lists n) n (rect n) p n)

    with_room : insert_of (lists n) n (rect n) p n ≡ chosen (eqb n 0)
    unfolding insert_of
    with_room =
        let r = has_room n h in
        simp (lt-ltb _ _ r.most, lt-ltb _ _ r.positions, lt-ltb _ _ r.left, lt-ltb _ _ r.right, lt-ltb _ _ r.numbers)

    numbered : set (numbers n) n n ≡ numbers (n + 1)
    numbered = upto_more itself n (replicate m zero) (subst (λ (k : ℕ). n < k) (sym (length-replicate m zero)) h)

    abbrev both_sides : Links → Links
    both_sides a = links_of (set a.left n 65535) (set a.right n 65535)

    wrote : (a : Links) → both_sides a ≡ links (n + 1) → written (lists_of xs a.left a.right (numbers n)) n p n ≡ lists (n + 1)
    unfolding written
    wrote a e =
        let ex = in_place xs n in
        let en = numbered in
        let el : set a.left n 65535 ≡ (links (n + 1)).left = ap (λ (k : Links). k.left) e in
        let er : set a.right n 65535 ≡ (links (n + 1)).right = ap (λ (k : Links). k.right) e in
        cc

    later : (s : Slot) → 0 < n → slot_at xs n (links n) ≡ s → Accepted (by_slot s (lists n) n (rect n) p n).out
        → by_slot s (lists n) n (rect n) p n ≡ stored_as (Ok (grown (rect n) p)) (lists (n + 1))
    unfolding by_slot linked_at left_linked right_linked owned_by owned_at
    later (slots.Left o) some e a =
        ap (stored_as (Ok (grown (rect n) p)))
        (wrote (owned_by (slots.Left o) n (links n)) (turn_over xs n d _ some (omega (arith, room.left)) (omega (arith, room.right)) (ap (λ (s : Slot). owned_by s n (links n)) (sym e))))
    later (slots.Right o) some e a =
        ap (stored_as (Ok (grown (rect n) p)))
        (wrote (owned_by (slots.Right o) n (links n)) (turn_over xs n d _ some (omega (arith, room.left)) (omega (arith, room.right)) (ap (λ (s : Slot). owned_by s n (links n)) (sym e))))
    later slots.Blocked some e a = absurd a

  none : links 0 ≡ links_of d.left d.right
  unfolding linked
  none = let u = over_nil d.left in let v = over_nil d.right in cc

  -- what an accepted insert leaves
  one : (n : ℕ) (h : n < m) → Accepted (insert_into (state n) (placed xs n)).out → insert_into (state n) (placed xs n) ≡ stored_as (Ok (rect (suc n))) (lists (suc n))
  unfolding rect box_to
  one zero h a =
      with_room 0 h
      ∙ ap (stored_as (Ok (box_at (point_at xs 0))))
      (wrote 0 h (links 0)
      (ap (both_sides 0 h) none ∙ root_over xs d (omega (arith, room.left)) (omega (arith, room.right))))
  one (suc n) h a =
      let w = with_room (suc n) h ∙ ap (chosen (suc n) h) (ne_eqb (suc n) 0 (λ e. omega arith)) in
      w ∙ later (suc n) h (slot_at xs (suc n) (links (suc n))) (omega arith) refl (subst (λ (s : Stored). Accepted s.out) w a)
      ∙ ap (λ (k : ℕ). stored_as (Ok (box_to xs (suc n))) (lists k)) (add-one (suc n))

  -- ---- the tree that is drawn

  snoc : (n i : ℕ) → placed_from xs n i ++ (placed xs (i + n) ∷ []) ≡ placed_from xs (suc n) i
  unfolding placed_from
  snoc zero i = let e : i + 0 ≡ i = omega arith in ap (λ (k : ℕ). placed xs k ∷ []) e
  snoc (suc n) i = let e : i + suc n ≡ suc i + n = omega arith in ap (λ (l : List Numbered). placed xs i ∷ l) (ap (λ (k : ℕ). placed_from xs n (suc i) ++ (placed xs k ∷ [])) e ∙ snoc n (suc i))

  accepted : (n : ℕ) (x : Numbered) (ms : List Numbered) → Next (state n) (placed xs n) x ms → Accepted (insert_into (state n) (placed xs n)).out
  accepted n x ms N = subst (λ (s : Stored). Accepted s.out) (sym N.is) tt

  -- an insert that goes through leads to the next state
  onward : (n : ℕ) (h : n < m) (x : Numbered) (ms : List Numbered) → Next (state n) (placed xs n) x ms → Filled x ms (state (suc n))
  onward n h x ms N =
      let e : stored_as (Ok N.bounds) N.lists ≡ stored_as (Ok (rect (suc n))) (lists (suc n)) = sym N.is ∙ one n h (accepted n x ms N) in
      let el : N.lists ≡ lists (suc n) = ap (λ (s : Stored). s.lists) e in
      let eo : ◌≡◌ {A = Result BoundingBox Refusal} (Ok N.bounds) (Ok (rect (suc n))) = ap (λ (s : Stored). s.out) e in
      let eb : N.bounds ≡ rect (suc n) = cc in
      let et : ◌≡◌ {A = Bare} (record { lists = N.lists; count = suc n; bounds = N.bounds }) (state (suc n)) = cc in
      subst (Filled x ms) et N.filled

  abbrev to_first : (h : 0 < m) → Next (state 0) (placed xs 0) (placed xs 0) []
  to_first h = first (state 0) (placed xs 0) (has_room 0 h) refl

  abbrev to_next : (n : ℕ) → suc n < m → Filled (placed xs 0) (placed_from xs n 1) (state (suc n)) → Next (state (suc n)) (placed xs (suc n)) (placed xs 0) (placed_from xs n 1 ++ (placed xs (suc n) ∷ []))
  to_next n h F = next (state (suc n)) (placed xs (suc n)) (placed xs 0) (placed_from xs n 1) (has_room (suc n) h) F

  -- THE LINKS DRAW A TREE of the first n places
  pub drawn : (n : ℕ) → n < m → Filled (placed xs 0) (placed_from xs n 1) (state (suc n))
  unfolding placed_from
  drawn zero h = onward 0 h (placed xs 0) [] (to_first h)
  drawn (suc n) h =
      let e : suc n ≡ 1 + n = omega arith in
      subst (λ (l : List Numbered). Filled (placed xs 0) l (state (suc (suc n)))) (ap (λ (k : ℕ). placed_from xs n 1 ++ (placed xs k ∷ [])) e ∙ snoc n 1)
      (onward (suc n) h (placed xs 0) (placed_from xs n 1 ++ (placed xs (suc n) ∷ [])) (to_next n h (drawn n (omega arith))))

  -- ---- filling in place order

  taken : (n : ℕ) → n < m → Accepted (insert_into (state n) (placed xs n)).out
  taken zero h = accepted 0 (placed xs 0) [] (to_first h)
  taken (suc n) h = accepted (suc n) (placed xs 0) (placed_from xs n 1 ++ (placed xs (suc n) ∷ [])) (to_next n h (drawn n (omega arith)))

  kept_one : (n : ℕ) → n < m → kept (insert_into (state n) (placed xs n)) (state n) ≡ state (suc n)
  unfolding kept
  kept_one n h = ap (λ (s : Stored). kept s (state n)) (one n h (taken n h))

  grows : (k n : ℕ) → n + k ≤ m → fill (placed_from xs k n) (state n) ≡ state (n + k)
  unfolding fill placed_from
  grows zero n h = let e : n ≡ n + 0 = omega arith in ap state e
  grows (suc k) n h =
      let e : suc n + k ≡ n + suc k = omega arith in
      ap (fill (placed_from xs k (suc n))) (kept_one n (omega arith)) ∙ grows k (suc n) (omega arith) ∙ ap state e

  started : state 0 ≡ lent xs m d
  unfolding rect upto
  started =
      let e = none in
      let el : (links 0).left ≡ d.left = ap (λ (k : Links). k.left) e in
      let er : (links 0).right ≡ d.right = ap (λ (k : Links). k.right) e in
      let en = over_nil (replicate m zero) in
      cc

  -- A LOADED SET'S TREE IS THE BARE ONE FILLED IN PLACE ORDER: its positions stay, its links and its box are those that are built
  pub loaded : filled_with xs m d ≡ record { lists = lists_of xs (over (linked xs m).left d.left) (over (linked xs m).right d.right) (over (upto itself m) (replicate m zero)); count = m; bounds = box_of xs m }
  unfolding filled_with
  loaded =
      let e : 0 + m ≡ m = omega arith in
      ap (fill (placed_from xs m 0)) (sym started) ∙ grows m 0 (omega arith) ∙ ap state e ∙ ap (λ (b : BoundingBox). record { lists = lists m; count = m; bounds = b }) (same m room.some)
    where
      same : (n : ℕ) → 0 < n → rect n ≡ box_of xs n
      same zero h = absurd (omega arith)
      same (suc n) h = unfold rect box_of in refl

  -- ---- every search answers

  all_drawn : Filled (placed xs 0) (placed_from xs (m - 1) 1) (state m)
  all_drawn = let s = room.some in let h : m - 1 < m = omega arith in let e : suc (m - 1) ≡ m = omega arith in subst (λ (n : ℕ). Filled (placed xs 0) (placed_from xs (m - 1) 1) (state n)) e (drawn (m - 1) h)

  module _ (b : BoundingBox) (q : Point3) where
    pub record Placed : Type 0 where
      pub best : Best
      pub is : place_found xs (links m).left (links m).right m b q ≡ Some best
      pub below : best.place < m

    -- FOR ANY BOX AND ANY QUERY a place is found
    pub found : Placed
    found = go (search m q F.tree b 0 s) from (answered m q F.tree 0 (root_clean (links m).left (links m).right xs m F.tree 0 F.rep) b s start_small)
      where
        F : Filled (placed xs 0) (placed_from xs (m - 1) 1) (state m)
        F = all_drawn

        s : Best
        s = start_at_root xs q

        start_small : s.visits + size F.tree ≤ m
        start_small = unfold start_at in let z = F.whole in omega arith

        from : search m q F.tree b 0 s ≡ place_found xs (links m).left (links m).right m b q
        from = unfold found_from in ap (λ (t : Tree). search m q t b 0 s) (sym (rep_at (links m).left (links m).right xs m F.small F.tree 0 m (omega arith) F.rep))

        small : (r : Best) → place_found xs (links m).left (links m).right m b q ≡ Some r → r.place < m
        small r e =
            let z = room.some in
            unfold found_from start_at in found_below m m q (subtree (links m).left (links m).right xs m m 0) b 0 s r (subtree_below (links m).left (links m).right xs m m 0 z) z (sym e)

        go : (w : Option Best) → w ≡ place_found xs (links m).left (links m).right m b q → WithinVisits (s.visits + size F.tree) w → Placed
        go (Some r) e v = record { best = r; is = sym e; below = small r (sym e) }
        go None e v = absurd v

  -- SO NO SEARCH OVER A LOADED SET IS REFUSED, whatever the box, the bounds and the query
  pub never_refused : (look : Lookup) (q : Point3) → Below m (locate_of look m xs (links m).left (links m).right q)
  unfolding locate_of located_by
  never_refused look q = let P = found look.bounds (clamped_by look q) in record { number = P.best.place; is = ap located_by P.is; below = P.below }
