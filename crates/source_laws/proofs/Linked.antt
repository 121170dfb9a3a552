-- A loaded set is the bare tree filled in place order (lookup_laws), which is the source's (proofs/Bare.antt): its links draw the source's tree, and both find
-- the same number. Assumes nothing.
use mathlib.Core.Path.{◌≡◌, refl, sym, ap, ◌∙◌, subst}
use mathlib.Core.List.{List}
use Prim.Native.Nat.{ℕ, zero, suc, ◌+◌, ◌<◌}
use native.Mathlib.Omega.{arith}
use lib.ListN.{length, replicate, length-replicate}
use lib.Ieee.{Float}
use Rattle.lists.specs.Over.{over, upto}
use Rattle.lists.proofs.Laws.{length_over, length_upto}
use Rattle.points.specs.declared.Point3.{Point3}
use Rattle.points.specs.Points.{point_at}
use Rattle.std.specs.Prelude.{Result, Ok}
use Rattle.refusals.specs.declared.Refusal.{Refusal}
use Rattle.kdtree.specs.Geometry.{box_at}
use Rattle.kdtree.specs.Tree.{subtree}
use Rattle.kdtree.specs.Insert.{lists_of}
use Rattle.kdtree.specs.Nearest.{place_found}
use Rattle.kdtree.proofs.Whole as whole
use Rattle.kdtree_laws.specs.Demand3.{Bare, RoomFor, tree_in}
use Rattle.kdtree_laws.proofs.Rep.{Mem, rep_at}
use Rattle.kdtree_laws.proofs.Filled.{Filled, root_below}
use Rattle.lookup.specs.Build.{Links, linked, box_of, lookup_of}
use Rattle.lookup.specs.Lookup.{clamped_by, located_by, locate_of}
use Rattle.lookup.specs.declared.Located.TheVariants.{At}
use Rattle.lookup.proofs.Links.{linked_left_lem, linked_right_lem}
use Rattle.lookup_laws.proofs.Nearest.{length_placed}
use Rattle.lookup_laws.specs.Loaded.{placed, placed_from, Room, filled_with}
use Rattle.lookup_laws.proofs.Loaded as filled
use Rattle.lookup_laws.proofs.Loaded.{itself, number_at_lem}
use Rattle.source.specs.Rust.{Option, Some}
use Rattle.source.specs.Kdtree.{KdTree, new_tree, insert, nearest}
use Rattle.source.specs.Lookup.{measured, find}
use Rattle.source_laws.specs.Drawn.{boxed}
use Rattle.source_laws.specs.Bare.{inserted, number_at, SameTree}
use Rattle.source_laws.proofs.Insert.{boxed_same}
use Rattle.source_laws.proofs.Built.{measured_to}
use Rattle.source_laws.proofs.Find.{clamp_same}
use Rattle.source_laws.proofs.Bare.{bare}

-- lists that hold the links of a set of n + 1 measurements, written over what they were
pub record Holds (xs : List Float) (n : ℕ) (left right : List ℕ) : Type 0 where
  pub before : Links
  pub room : Room xs (suc n) before
  pub left_is : left ≡ over (linked xs (suc n)).left before.left
  pub right_is : right ≡ over (linked xs (suc n)).right before.right

-- ---- the source's inserts are those in place order

inserts : (xs : List Float) (k i : ℕ) → inserted (placed_from xs k i) (measured_to xs i).kdtree ≡ (measured_to xs (i + k)).kdtree
unfolding inserted placed_from
inserts xs zero i = let e : i ≡ i + 0 = omega arith in ap (λ (j : ℕ). (measured_to xs j).kdtree) e
inserts xs (suc k) i =
    let e : suc i + k ≡ i + suc k = omega arith in
    one ∙ inserts xs k (suc i) ∙ ap (λ (j : ℕ). (measured_to xs j).kdtree) e
  where
    one : inserted (placed_from xs k (suc i)) (insert (measured_to xs i).kdtree (point_at xs i) i) ≡ inserted (placed_from xs k (suc i)) (measured_to xs (suc i)).kdtree
    one = unfold measured_to measured in refl

-- ---- the set

-- both name the same number, which is one of the set's
pub record Finds (xs : List Float) (n : ℕ) (left right : List ℕ) (q : Point3) : Type 0 where
  pub number : ℕ
  pub below : number < suc n
  pub in_port : locate_of (lookup_of xs (suc n)) (suc n) xs left right q ≡ At number
  pub in_source : find (measured_to xs (suc n)) q ≡ Some number

module _ (xs : List Float) (n : ℕ) (left right : List ℕ) (H : Holds xs n left right) where
  abbrev numbers : List ℕ
  numbers = over (upto itself (suc n)) (replicate (suc n) 0)

  -- the bare tree, filled
  abbrev set : Bare
  set = record { lists = lists_of xs left right numbers; count = suc n; bounds = box_of xs (suc n) }

  filled_is : filled_with xs (suc n) H.before ≡ set
  filled_is =
      filled.loaded xs (suc n) H.before H.room
      ∙ ap (λ (l : List ℕ). record { lists = lists_of xs l (over (linked xs (suc n)).right H.before.right) numbers; count = suc n; bounds = box_of xs (suc n) }) (sym H.left_is)
      ∙ ap (λ (l : List ℕ). record { lists = lists_of xs left l numbers; count = suc n; bounds = box_of xs (suc n) }) (sym H.right_is)

  is_source : SameTree (placed_from xs (suc n) 0) set
  is_source = subst (SameTree (placed_from xs (suc n) 0)) filled_is (unfold filled_with in
      bare (lists_of xs H.before.left H.before.right (replicate (suc n) 0)) (box_at (point_at xs 0)) (placed_from xs (suc n) 0) room)
    where
      room : RoomFor (lists_of xs H.before.left H.before.right (replicate (suc n) 0)) (length (placed_from xs (suc n) 0))
      room = rw (length_placed xs (suc n) 0)
          (record { most = H.room.most; positions = H.room.positions; left = H.room.left; right = H.room.right; numbers = let z = length-replicate (suc n) zero in omega arith })

  built_by : inserted (placed_from xs (suc n) 0) new_tree ≡ (measured_to xs (suc n)).kdtree
  built_by = start ∙ inserts xs (suc n) 0 ∙ (let e : 0 + suc n ≡ suc n = omega arith in ap (λ (k : ℕ). (measured_to xs k).kdtree) e)
    where
      start : inserted (placed_from xs (suc n) 0) new_tree ≡ inserted (placed_from xs (suc n) 0) (measured_to xs 0).kdtree
      start = unfold measured_to in refl

  -- each place of the tree is one of the set's, and its number is the place
  drawn : Filled (placed xs 0) (placed_from xs n 1) set
  drawn =
      subst (λ (l : List ℕ). Filled (placed xs 0) (placed_from xs n 1) (record { lists = lists_of xs left l numbers; count = suc n; bounds = box_of xs (suc n) })) (sym H.right_is)
      (subst (λ (l : List ℕ). Filled (placed xs 0) (placed_from xs n 1) (record { lists = lists_of xs l (over (linked xs (suc n)).right H.before.right) numbers; count = suc n; bounds = box_of xs (suc n) })) (sym H.left_is)
      (unfold box_of filled.rect in filled.drawn xs (suc n) H.before H.room n (omega arith)))

  below : (i : ℕ) → Mem i (tree_in set) → i < suc n
  below i k =
      let e = rep_at left right xs (suc n) drawn.small drawn.tree 0 (suc n) (omega arith) drawn.rep in
      root_below left right xs (suc n) drawn.tree 0 i drawn.rep (subst (Mem i) e k)

  -- THE LINKS DRAW THE SOURCE'S TREE
  pub tree_same : (measured_to xs (suc n)).kdtree.root ≡ boxed (λ i. i) (subtree left right xs (suc n) (suc n) 0) 0
  tree_same =
      ap (λ (k : KdTree). k.root) (sym built_by) ∙ is_source.tree
      ∙ boxed_same (number_at set) (λ i. i) (tree_in set) 0 (λ i k. number_at_lem (suc n) i (replicate (suc n) 0) (below i k))

  -- ---- find

  readable : whole.Readable (lists_of xs left right numbers) (suc n)
  readable =
      let r = H.room in
      let a = length_over (linked xs (suc n)).left H.before.left (let z = linked_left_lem xs (suc n) in let y = r.left in omega arith) in
      let b = length_over (linked xs (suc n)).right H.before.right (let z = linked_right_lem xs (suc n) in let y = r.right in omega arith) in
      let k : length (replicate (suc n) zero) ≡ suc n = length-replicate (suc n) zero in
      let c = length_over (upto itself (suc n)) (replicate (suc n) zero) (let z = length_upto itself (suc n) in omega arith) in
      let u = ap length H.left_is in
      let v = ap length H.right_is in
      let x = r.left in
      let y = r.right in
      record { most = r.most; positions = r.positions; left = omega arith; right = omega arith; numbers = omega arith }

  only_some : (o : Option ℕ) (k : ℕ) → ◌≡◌ {A = Result (Option ℕ) Refusal} (Ok o) (Ok (Some k)) → o ≡ Some k
  only_some o k e = cc

  module _ (q : Point3) where
    abbrev p : Point3
    p = clamped_by (lookup_of xs (suc n)) q

    abbrev P : filled.Placed xs (suc n) H.before H.room (box_of xs (suc n)) p
    P = filled.found xs (suc n) H.before H.room (box_of xs (suc n)) p

    place_is : place_found xs left right (suc n) (box_of xs (suc n)) p ≡ Some P.best
    place_is =
        ap (λ (l : List ℕ). place_found xs l right (suc n) (box_of xs (suc n)) p) H.left_is
        ∙ ap (λ (l : List ℕ). place_found xs (over (linked xs (suc n)).left H.before.left) l (suc n) (box_of xs (suc n)) p) H.right_is ∙ P.is

    source_names : nearest (measured_to xs (suc n)).kdtree p ≡ Some P.best.place
    source_names = only_some (nearest (measured_to xs (suc n)).kdtree p) P.best.place
        (ap (λ (k : KdTree). Ok (nearest k p)) (sym built_by) ∙ sym (is_source.names p)
        ∙ sym (whole.found_number (lists_of xs left right numbers) (suc n) (box_of xs (suc n)) p readable (λ e. omega arith) (place_found xs left right (suc n) (box_of xs (suc n)) p) refl P.best place_is)
        ∙ ap (λ (k : ℕ). Ok (Some k)) (number_at_lem (suc n) P.best.place (replicate (suc n) 0) P.below))

    -- FIND ANSWERS WHAT THE SOURCE'S FINDS
    pub finds : Finds xs n left right q
    unfolding find locate_of lookup_of located_by
    finds = record {
      number = P.best.place;
      below = P.below;
      in_port = ap located_by place_is;
      in_source = ap (nearest (measured_to xs (suc n)).kdtree) (clamp_same xs (suc n) q) ∙ source_names;
    }
