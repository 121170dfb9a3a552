-- Demand 3 carried over to a loaded set: what is found is what the unpruned walk names, no measurement is nearer, one that alone is nearest is found, and of
-- several the first that the walk meets. Assumes nothing.
use mathlib.Core.Path.{◌≡◌, refl, sym, ap, ◌∙◌, subst}
use mathlib.Core.Logic.{◌⊎◌, inl, inr}
use mathlib.Core.Bool.{Bool, true, false}
use mathlib.Core.List.{List, ◌∷◌}
use Prim.Native.Nat.{ℕ, zero, suc, ◌+◌, ◌<◌, ◌≤◌}
use native.Mathlib.Omega.{arith}
use lib.ListN.{length, replicate, length-replicate}
use lib.Dec.{T, eqb, ltb, ltb→lt, lt→ltb}
use lib.Ieee.{Float}
use borrow.Author.Tests.{eqb-true, eq-eqb}
use Rattle.lists.specs.Over.{over, upto}
use Rattle.lists.proofs.Laws.{length_over, length_upto}
use Rattle.points.specs.declared.Point3.{Point3}
use Rattle.points.specs.Points.{point_at, Finite}
use Rattle.kdtree.specs.declared.BoundingBox.{BoundingBox}
use Rattle.std.specs.Prelude.{Some, Ok}
use Rattle.kdtree.specs.Geometry.{box_at}
use Rattle.kdtree.specs.Insert.{Lists, lists_of}
use Rattle.kdtree.specs.Nearest.{place_found, number_of}
use Rattle.kdtree.specs.Tree.{Tree, subtree}
use Rattle.kdtree.specs.Unpruned.{Item, order}
use Rattle.kdtree.proofs.Nodes.{subtree_below}
use Rattle.kdtree.proofs.Whole as whole
use Rattle.lists.specs.Each.{Each, In}
use Rattle.kdtree_laws.specs.Demand3.{Numbered, Nearer, NotNearer, Reordered, Bare, RoomFor, nearest_in, standing, root_in, walk_names, visiting, FirstNearest, NamesNearest}
use Rattle.kdtree_laws.proofs.Lists.{each_in, each_to, map_same}
use Rattle.kdtree_laws.proofs.First.{tf, all_order}
use Rattle.kdtree_laws.proofs.Demand3 as demand
use Rattle.lookup.specs.declared.Lookup.{Lookup}
use Rattle.lookup.specs.declared.Located.{Located}
use Rattle.lookup.specs.declared.Located.TheVariants.{At}
use Rattle.lookup.specs.Build.{Links, linked, box_of}
use Rattle.lookup.specs.Lookup.{clamped_by, located_by, locate_of}
use Rattle.lookup.proofs.Links.{linked_left_lem, linked_right_lem}
use Rattle.lookup_laws.specs.Loaded.{placed, placed_from, walked, Room, filled_with}
use Rattle.lookup_laws.proofs.Loaded as built

-- ---- lists of measurements in place order

pub length_placed : (xs : List Float) (n i : ℕ) → length (placed_from xs n i) ≡ n
unfolding placed_from
length_placed xs zero i = refl
length_placed xs (suc n) i = ap suc (length_placed xs n (suc i))

each_placed : (P : Numbered → Type 0) (xs : List Float) (n i : ℕ) → ((j : ℕ) → j < i + n → P (placed xs j)) → Each P (placed_from xs n i)
unfolding placed_from
each_placed P xs zero i f = tt
each_placed P xs (suc n) i f = (f i (omega arith), each_placed P xs n (suc i) (λ j h. f j (omega arith)))

pub in_placed : (xs : List Float) (n i j : ℕ) → i ≤ j → j < i + n → In (placed xs j) (placed_from xs n i)
unfolding placed_from
in_placed xs zero i j h k = absurd (omega arith)
in_placed xs (suc n) i j h k = go (ltb i j) (ltb→lt i j) (lt→ltb i j) (λ l. in_placed xs n (suc i) j l (omega arith))
  where
    go : (b : Bool) → (T b → i < j) → (i < j → T b) → (i < j → In (placed xs j) (placed_from xs n (suc i))) → (placed xs j ≡ placed xs i) ⊎ In (placed xs j) (placed_from xs n (suc i))
    go true f g r = inr (r (f tt))
    go false f g r = let z : (i < j → ⊥) = g in let e : j ≡ i = omega (arith, h) in inl (ap (placed xs) e)

placed_of : (xs : List Float) (n i : ℕ) (w : Numbered) → In w (placed_from xs n i) → w ≡ placed xs w.number
unfolding placed_from
placed_of xs zero i w h = absurd h
placed_of xs (suc n) i w (inl e) = e ∙ ap (placed xs) (sym (ap (λ (x : Numbered). x.number) e))
placed_of xs (suc n) i w (inr h) = placed_of xs n (suc i) w h

-- ---- the search of a set and that of the bare tree

module _ (xs : List Float) (k : ℕ) (d : Links) (room : Room xs (suc k) d) where
  abbrev m : ℕ
  m = suc k

  abbrev left : List ℕ
  left = over (linked xs m).left d.left

  abbrev right : List ℕ
  right = over (linked xs m).right d.right

  abbrev numbers : List ℕ
  numbers = over (upto built.itself m) (replicate m zero)

  abbrev tree : Bare
  tree = filled_with xs m d

  abbrev begun : Lists
  begun = lists_of xs d.left d.right (replicate m zero)

  room_for : RoomFor begun (length (placed xs 0 ∷ placed_from xs k 1))
  room_for =
      let e = length_placed xs k 1 in
      let r : length (replicate m zero) ≡ m = length-replicate m zero in
      let a = room.most in
      let b = room.positions in
      let c = room.left in
      let f = room.right in
      record { most = omega arith; positions = omega arith; left = omega arith; right = omega arith; numbers = omega arith }

  readable : whole.Readable (lists_of xs left right numbers) m
  readable =
      let a = length_over (linked xs m).left d.left (let z = linked_left_lem xs m in let y = room.left in omega arith) in
      let b = length_over (linked xs m).right d.right (let z = linked_right_lem xs m in let y = room.right in omega arith) in
      let r : length (replicate m zero) ≡ m = length-replicate m zero in
      let c = length_over (upto built.itself m) (replicate m zero) (let z = length_upto built.itself m in omega arith) in
      let u = room.left in
      let v = room.right in
      record { most = room.most; positions = room.positions; left = omega arith; right = omega arith; numbers = omega arith }

  module _ (p : Point3) where
    abbrev P : built.Placed xs m d room (box_of xs m) p
    P = built.found xs m d room (box_of xs m) p

    nearest_is : nearest_in tree p ≡ Ok (Some P.best.place)
    unfolding number_of
    nearest_is =
        ap (λ (t : Bare). nearest_in t p) (built.loaded xs m d room)
        ∙ sym (whole.read (lists_of xs left right numbers) m (box_of xs m) p readable (λ e. omega arith) (place_found xs left right m (box_of xs m) p) refl)
        ∙ ap (number_of numbers) P.is ∙ ap (λ (k : ℕ). Ok (Some k)) (built.number_at_lem m P.best.place (replicate m zero) P.below)

    named : nearest_in tree p ≡ Ok (Some (walk_names tree p).number)
    unfolding filled_with placed_from
    named = demand.names begun (box_at (point_at xs 0)) (placed xs 0) (placed_from xs k 1) room_for p

    visits : Reordered (placed_from xs m 0) (visiting tree p)
    unfolding filled_with placed_from
    visits = demand.visits_all begun (box_at (point_at xs 0)) (placed xs 0) (placed_from xs k 1) room_for p

    place_is : P.best.place ≡ (walk_names tree p).number
    place_is = let a = nearest_is in let b = named in cc

    module _ (finite : (i : ℕ) → i < m → Finite (point_at xs i)) (fp : Finite p) where
      all_finite : Each (λ (x : Numbered). Finite x.point) (placed xs 0 ∷ placed_from xs k 1)
      unfolding placed_from
      all_finite = each_placed (λ (x : Numbered). Finite x.point) xs (suc k) 0 (λ j h. finite j (omega arith))

      nearest : NamesNearest p (placed_from xs m 0) tree
      unfolding filled_with placed_from
      nearest = demand.names_nearest begun (box_at (point_at xs 0)) (placed xs 0) (placed_from xs k 1) room_for p all_finite fp

      named_is : walk_names tree p ≡ placed xs (walk_names tree p).number
      named_is = placed_of xs m 0 (walk_names tree p) nearest.one_of

      not_nearer : (i : ℕ) → i < m → NotNearer p (placed xs i) (walk_names tree p)
      not_nearer i h = each_in (λ (x : Numbered). NotNearer p x (walk_names tree p)) (placed_from xs m 0) (placed xs i) nearest.least (in_placed xs m 0 i (omega arith) (omega arith))

      alone_is : (i : ℕ) → i < m → ((j : ℕ) → j < m → (j ≡ i → ⊥) → Nearer p (placed xs i) (placed xs j)) → (walk_names tree p).number ≡ i
      alone_is i h f = let a = named in let b = nearest.alone (placed xs i) (record { stands = in_placed xs m 0 i (omega arith) (omega arith); farther = each_placed _ xs m 0 (λ j l. other j (omega arith)) }) in cc
        where
          other : (j : ℕ) → j < m → (placed xs j ≡ placed xs i) ⊎ Nearer p (placed xs i) (placed xs j)
          other j l = go (eqb j i) refl
            where
              go : (b : Bool) → eqb j i ≡ b → (placed xs j ≡ placed xs i) ⊎ Nearer p (placed xs i) (placed xs j)
              go true e = inl (ap (placed xs) (eqb-true j i e))
              go false e = inr (f j l (λ z. tf (eqb j i) (eq-eqb j i z) e))

    -- ---- the walk over the set's own links

    abbrev drawn : Tree
    drawn = subtree left right xs m m 0

    stands : (j : ℕ) → j < m → standing (lists_of xs left right numbers) j ≡ placed xs j
    stands j h = ap (λ (n : ℕ). record { number = n; point = point_at xs j }) (built.number_at_lem m j (replicate m zero) h)

    root_is : root_in tree ≡ placed xs 0
    root_is = ap root_in (built.loaded xs m d room) ∙ stands 0 (omega arith)

    walk_is : visiting tree p ≡ walked xs m left right p
    unfolding visiting
    walk_is =
        ap (λ (t : Bare). visiting t p) (built.loaded xs m d room)
        ∙ map_same (λ (i : Item). standing (lists_of xs left right numbers) i.place) (λ (i : Item). placed xs i.place) (order p drawn 0)
        (each_to (λ (i : Item). i.place < m) (λ (i : Item). standing (lists_of xs left right numbers) i.place ≡ placed xs i.place) (λ i h. stands i.place h) (order p drawn 0)
        (all_order p (λ n x. n < m) drawn 0 (subtree_below left right xs m m 0 (omega arith))))

-- ---- THE LAWS, for a lookup whose box is the one built

abbrev answer : List Float → ℕ → Links → Lookup → Point3 → Located
answer xs m d look q = locate_of look m xs (over (linked xs m).left d.left) (over (linked xs m).right d.right) q

-- FOUND IS what the unpruned walk of the bare tree names, from the clamped query
pub names : (xs : List Float) (m : ℕ) (d : Links) → Room xs m d → (look : Lookup) → look.bounds ≡ box_of xs m → (q : Point3)
    → answer xs m d look q ≡ At (walk_names (filled_with xs m d) (clamped_by look q)).number
unfolding locate_of located_by
names xs zero d room look eb q = let z = room.some in absurd (omega arith)
names xs (suc k) d room look eb q =
    let p = clamped_by look q in
    ap (λ (b : BoundingBox). located_by (place_found xs (over (linked xs (suc k)).left d.left) (over (linked xs (suc k)).right d.right) (suc k) b p)) eb
    ∙ ap located_by (built.found xs (suc k) d room (box_of xs (suc k)) p).is ∙ ap At (place_is xs k d room p)

named_as : (xs : List Float) (m : ℕ) (d : Links) → Room xs m d → (look : Lookup) → look.bounds ≡ box_of xs m → (q : Point3)
    → (n : ℕ) → answer xs m d look q ≡ At n → (walk_names (filled_with xs m d) (clamped_by look q)).number ≡ n
named_as xs m d room look eb q n e = let a = names xs m d room look eb q in cc

-- NO MEASUREMENT IS NEARER to the clamped query than the one found, coordinates being finite; sums that overflow are no exception
pub least : (xs : List Float) (m : ℕ) (d : Links) → Room xs m d → (look : Lookup) → look.bounds ≡ box_of xs m → (q : Point3)
    → ((i : ℕ) → i < m → Finite (point_at xs i)) → Finite (clamped_by look q) → (n : ℕ) → answer xs m d look q ≡ At n → (i : ℕ) → i < m
    → NotNearer (clamped_by look q) (placed xs i) (placed xs n)
least xs zero d room look eb q f fp n e i h = absurd (omega arith)
least xs (suc k) d room look eb q f fp n e i h =
    let p = clamped_by look q in
    let z = named_as xs (suc k) d room look eb q n e in
    subst (λ (x : Numbered). NotNearer p (placed xs i) x) (named_is xs k d room p f fp ∙ ap (placed xs) z) (not_nearer xs k d room p f fp i h)

-- A MEASUREMENT THAT ALONE IS NEAREST to the clamped query IS FOUND
pub alone : (xs : List Float) (m : ℕ) (d : Links) → Room xs m d → (look : Lookup) → look.bounds ≡ box_of xs m → (q : Point3)
    → ((i : ℕ) → i < m → Finite (point_at xs i)) → Finite (clamped_by look q) → (n : ℕ) → answer xs m d look q ≡ At n → (i : ℕ) → i < m
    → ((j : ℕ) → j < m → (j ≡ i → ⊥) → Nearer (clamped_by look q) (placed xs i) (placed xs j)) → n ≡ i
alone xs zero d room look eb q f fp n e i h g = absurd (omega arith)
alone xs (suc k) d room look eb q f fp n e i h g = sym (named_as xs (suc k) d room look eb q n e) ∙ alone_is xs k d room (clamped_by look q) f fp i h g

-- OF SEVERAL, THE FIRST THAT THE UNPRUNED WALK MEETS, the root before all
pub first_met : (xs : List Float) (m : ℕ) (d : Links) → Room xs m d → (look : Lookup) → look.bounds ≡ box_of xs m → (q : Point3)
    → ((i : ℕ) → i < m → Finite (point_at xs i)) → Finite (clamped_by look q) → (n : ℕ) → answer xs m d look q ≡ At n
    → FirstNearest (clamped_by look q) (placed xs n) (placed xs 0 ∷ walked xs m (over (linked xs m).left d.left) (over (linked xs m).right d.right) (clamped_by look q))
first_met xs zero d room look eb q f fp n e = let z = room.some in absurd (omega arith)
first_met xs (suc k) d room look eb q f fp n e =
    let p = clamped_by look q in
    let w : walk_names (filled_with xs (suc k) d) p ≡ placed xs n = named_is xs k d room p f fp ∙ ap (placed xs) (named_as xs (suc k) d room look eb q n e) in
    subst (λ (l : List Numbered). FirstNearest p (placed xs n) (placed xs 0 ∷ l)) (walk_is xs k d room p)
    (subst (λ (r : Numbered). FirstNearest p (placed xs n) (r ∷ visiting (filled_with xs (suc k) d) p)) (root_is xs k d room p)
    (subst (λ (x : Numbered). FirstNearest p x (root_in (filled_with xs (suc k) d) ∷ visiting (filled_with xs (suc k) d) p)) w (nearest xs k d room p f fp).first_met))

-- THE WALK COMES TO EACH MEASUREMENT ONCE
pub meets : (xs : List Float) (m : ℕ) (d : Links) → Room xs m d → (p : Point3)
    → Reordered (placed_from xs m 0) (walked xs m (over (linked xs m).left d.left) (over (linked xs m).right d.right) p)
meets xs zero d room p = let z = room.some in absurd (omega arith)
meets xs (suc k) d room p = subst (Reordered (placed_from xs (suc k) 0)) (walk_is xs k d room p) (visits xs k d room p)
