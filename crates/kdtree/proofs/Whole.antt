-- The exported functions' definitions in the terms of the code: the lengths' test, then the tree. Assumes nothing.
use mathlib.Core.Path.{◌≡◌, refl, sym, ap, ◌∙◌, subst}
use Rattle.std.proofs.Common.{Option, Some, None, Ok, Err}
use mathlib.Core.Bool.{Bool, true, false, cond, ◌&&◌}
use Prim.Native.Nat.{ℕ, ◌+◌, ◌*◌, ◌-◌, ◌<◌, ◌≤◌}
use native.Mathlib.Omega.{arith}
use mathlib.Core.List.{List}
use lib.ListN.{length, get_or}
use lib.Ieee.{Float}
use borrow.Author.Tests.{lt-ltb, le-leb, eq-eqb, ne_eqb, ltb-true, leb-true}
use Rattle.points.specs.declared.Point3.{Point3}
use Rattle.kdtree.specs.declared.BoundingBox.{BoundingBox}
use Rattle.kdtree.specs.declared.Best.{Best}
use Rattle.kdtree.specs.declared.Slot.{Slot}
use Rattle.kdtree.specs.declared.Slot.TheVariants.{Left, Right, Blocked}
use Rattle.refusals.specs.declared.Refusal.TheVariants.{ShortLists, BadLink}
use Rattle.points.specs.Points.{point_at, dist_sq_of}
use Rattle.kdtree.specs.Geometry.{box_at, grown}
use Rattle.kdtree.specs.Tree.{subtree}
use Rattle.kdtree.specs.Search.{search, best_of}
use Rattle.kdtree.specs.Insert.{Lists, stored_as, tree_of, slot_in, owner_of, written, linked_at, has_room, by_slot, insert_of}
use Rattle.kdtree.specs.Nearest.{readable, number_of, start_at, start_at_root, found_from, place_found, nearest_of}
use Rattle.kdtree.proofs.Nodes.{subtree_below, found_below, slot_below}

-- both of two tests
pub both : (x y : Bool) → (x && y) ≡ true → (x ≡ true) × (y ≡ true)
both true y e = (refl, e)
both false y e = let z : ◌≡◌ {A = ℕ} 0 1 = ap (λ (b : Bool). cond b 1 0) e in absurd (omega arith)

-- ---- nearest

pub record Readable (a : Lists) (c : ℕ) : Type 0 where
  pub most : c ≤ 16384
  pub positions : 3 * c ≤ length a.positions
  pub left : c ≤ length a.left
  pub right : c ≤ length a.right
  pub numbers : c ≤ length a.numbers

pub readable_says : (a : Lists) (c : ℕ) → readable a c ≡ true → Readable a c
readable_says a c e =
    let f = both _ _ e in
    let g = both _ _ f.1 in
    let h = both _ _ g.1 in
    let k = both _ _ h.1 in
    record { most = leb-true _ _ f.0; positions = leb-true _ _ g.0; left = leb-true _ _ h.0; right = leb-true _ _ k.0; numbers = leb-true _ _ k.1 }

module _ (a : Lists) (c : ℕ) (b : BoundingBox) (q : Point3) where
  pub too_short : readable a c ≡ false → Err ShortLists ≡ nearest_of a c b q
  unfolding nearest_of
  too_short e = simp e

  pub nothing_in : readable a c ≡ true → c ≡ 0 → Ok None ≡ nearest_of a c b q
  unfolding nearest_of
  nothing_in e z = simp (e, eq-eqb _ _ z)

  module _ (h : Readable a c) (some : c ≡ 0 → ⊥) (w : Option Best) (ew : w ≡ place_found a.positions a.left a.right c b q) where
    pub read : number_of a.numbers w ≡ nearest_of a c b q
    unfolding nearest_of
    read =
        simp (le-leb _ _ h.most, le-leb _ _ h.positions, le-leb _ _ h.left, le-leb _ _ h.right, le-leb _ _ h.numbers, ne_eqb _ _ some)
        (ap (number_of a.numbers) ew)

    pub found_number : (r : Best) → w ≡ Some r → Ok (Some (get_or a.numbers r.place 0)) ≡ nearest_of a c b q
    unfolding number_of
    found_number r e = ap (number_of a.numbers) (sym e) ∙ read

    pub found_none : w ≡ None → Err BadLink ≡ nearest_of a c b q
    unfolding number_of
    found_none e = ap (number_of a.numbers) (sym e) ∙ read

    pub found_in : (r : Best) → w ≡ Some r → r.place < c
    unfolding found_from start_at
    found_in r e =
        found_below c c q (tree_of a c c) b 0 (start_at_root a.positions q) r (subtree_below a.left a.right a.positions c c 0 (omega arith)) (omega arith)
        (sym e ∙ ew)

-- the search from a root, in the terms of the code: the point that stands there, its distance, and what the search says of them
pub found_place : (xs : List Float) (left right : List ℕ) (c root : ℕ) (b : BoundingBox) (q x : Point3) (d : Float) (w : Option Best) → x ≡ point_at xs root → d ≡ dist_sq_of x q
    → w ≡ search c q (subtree left right xs c c root) b 0 (best_of d root 0) → w ≡ found_from xs left right c root b q
unfolding found_from start_at
found_place xs left right c root b q x d w ex ed ew = ew ∙ ap (λ (d : Float). search c q (subtree left right xs c c root) b 0 (best_of d root 0)) (ed ∙ ap (λ (p : Point3). dist_sq_of p q) ex)

-- ---- insert

pub record Room (a : Lists) (c : ℕ) : Type 0 where
  pub most : c < 16384
  pub positions : 3 * c + 2 < length a.positions
  pub left : c < length a.left
  pub right : c < length a.right
  pub numbers : c < length a.numbers

pub room_says : (a : Lists) (c : ℕ) → has_room a c ≡ true → Room a c
room_says a c e =
    let f = both _ _ e in
    let g = both _ _ f.1 in
    let h = both _ _ g.1 in
    let k = both _ _ h.1 in
    record { most = ltb-true _ _ f.0; positions = ltb-true _ _ g.0; left = ltb-true _ _ h.0; right = ltb-true _ _ k.0; numbers = ltb-true _ _ k.1 }

module _ (a : Lists) (c : ℕ) (b : BoundingBox) (p : Point3) (number : ℕ) where
  pub no_room : has_room a c ≡ false → stored_as (Err ShortLists) a ≡ insert_of a c b p number
  unfolding insert_of
  no_room e = simp e

  module _ (h : Room a c) where
    pub first : c ≡ 0 → (l : Lists) (bx : BoundingBox) → l ≡ written a c p number → bx ≡ box_at p → stored_as (Ok bx) l ≡ insert_of a c b p number
    unfolding insert_of
    first z l bx el eb =
        simp (lt-ltb _ _ h.most, lt-ltb _ _ h.positions, lt-ltb _ _ h.left, lt-ltb _ _ h.right, lt-ltb _ _ h.numbers, eq-eqb _ _ z)
        (cc)

    module _ (some : c ≡ 0 → ⊥) (sl : Slot) (es : (f : ℕ) → c - 0 ≤ f → sl ≡ slot_in p (tree_of a c f) 0) where
      later : by_slot sl a c b p number ≡ insert_of a c b p number
      unfolding insert_of
      later =
          simp (lt-ltb _ _ h.most, lt-ltb _ _ h.positions, lt-ltb _ _ h.left, lt-ltb _ _ h.right, lt-ltb _ _ h.numbers, ne_eqb _ _ some)
          (ap (λ (s : Slot). by_slot s a c b p number) (es c (omega arith)))

      pub owner : owner_of sl < c
      owner =
          subst (λ (s : Slot). owner_of s < c) (sym (es c (omega arith)))
          (slot_below c p (omega arith) (tree_of a c c) 0 (subtree_below a.left a.right a.positions c c 0 (omega arith)))

      -- a slot that is one
      pub at_slot : (l : Lists) (bx : BoundingBox) → (sl ≡ Blocked → ⊥) → l ≡ written (linked_at sl c a) c p number → bx ≡ grown b p
          → stored_as (Ok bx) l ≡ insert_of a c b p number
      unfolding by_slot
      at_slot l bx e el eb =
          let z : stored_as (Ok bx) l ≡ stored_as (Ok (grown b p)) (written (linked_at sl c a) c p number) = cc in
          z ∙ go sl e ∙ later
        where
          go : (s : Slot) → (s ≡ Blocked → ⊥) → stored_as (Ok (grown b p)) (written (linked_at s c a) c p number) ≡ by_slot s a c b p number
          go (Left o) e = refl
          go (Right o) e = refl
          go Blocked e = absurd (e refl)

      pub at_none : sl ≡ Blocked → stored_as (Err BadLink) a ≡ insert_of a c b p number
      unfolding by_slot
      at_none e = ap (λ (s : Slot). by_slot s a c b p number) (sym e) ∙ later
