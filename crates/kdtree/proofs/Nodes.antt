-- What holds of every node of a tree, and what a search and the way down to a slot keep of it. Assumes nothing.
use mathlib.Core.Path.{◌≡◌, sym, subst}
use Rattle.std.proofs.Common.{Option, Some, None}
use mathlib.Core.Bool.{Bool, true, false, cond}
use mathlib.Core.List.{List}
use Prim.Native.Nat.{ℕ, zero, suc, ◌<◌}
use lib.ListN.{get_or}
use lib.Dec.{ltb}
use lib.Ieee.{Float, lt}
use Rattle.points.specs.declared.Point3.{Point3}
use Rattle.kdtree.specs.declared.BoundingBox.{BoundingBox}
use Rattle.kdtree.specs.declared.Best.{Best}
use Rattle.kdtree.specs.declared.Link.{Link}
use Rattle.kdtree.specs.declared.Slot.{Slot}
use Rattle.kdtree.specs.declared.Slot.TheVariants.{Left, Right}
use Rattle.points.specs.Points.{dist_sq_of}
use Rattle.kdtree.specs.Geometry.{coord_of, box_dist_sq, next_axis, left_first, goes_left}
use Rattle.kdtree.specs.Tree.{Tree, gone, bad, node, side_of, subtree}
use Rattle.kdtree.specs.Search.{search, improve, visited, farther, after_near, nearer_box, farther_box, Go}
use Rattle.kdtree.specs.Insert.{slot_in, side_slot, owner_of}
use Rattle.kdtree.proofs.Step.{Said, said, said_gone, said_bad, said_to}

module _ (P : ℕ → Point3 → Type 0) where
  abbrev pub All : Tree → Type 0
  All gone = Unit
  All bad = Unit
  All (node n p l r) = P n p × (All l × All r)

abbrev pub Below : ℕ → Tree → Type 0
Below count = All (λ n p. n < count)

module _ (left right : List ℕ) (xs : List Float) (count : ℕ) where
  side_below : (n l : ℕ) (lk : Link) (t : Tree) → Said count n l lk → (l < count → Below count t) → Below count (side_of lk t)
  unfolding side_of
  side_below n l lk t said_gone h = tt
  side_below n l lk t said_bad h = tt
  side_below n l lk t (said_to a b) h = h b

  pub subtree_below : (f n : ℕ) → n < count → Below count (subtree left right xs count f n)
  unfolding subtree
  subtree_below zero n h = tt
  subtree_below (suc k) n h = (
    h,
    (
      side_below n (get_or left n 0) _ _ (said count n (get_or left n 0)) (subtree_below k (get_or left n 0)),
      side_below n (get_or right n 0) _ _ (said count n (get_or right n 0)) (subtree_below k (get_or right n 0)),
    ),
  )

-- ---- an invariant of the best so far

module _ (Q : Best → Type 0) where
  abbrev pub Good : Option Best → Type 0
  Good (Some s) = Q s
  Good None = Unit

  abbrev pub GoodGo : Go → Type 0
  GoodGo go = (b : BoundingBox) (axis : ℕ) (s : Best) → Q s → Good (go b axis s)

  cond_good : (c : Bool) (v w : Option Best) → Good v → Good w → Good (cond c v w)
  cond_good true v w a b = a
  cond_good false v w a b = b

  cond_go : (c : Bool) (v w : Go) → GoodGo v → GoodGo w → GoodGo (cond c v w)
  cond_go true v w a b = a
  cond_go false v w a b = b

  after_good : (w : Option Best) (k : Best → Option Best) → Good w → ((t : Best) → Q t → Good (k t)) → Good (after_near w k)
  unfolding after_near
  after_good (Some s) k h g = g s h
  after_good None k h g = tt

  farther_good : (q : Point3) (t : Tree) (go : Go) (b : BoundingBox) (axis : ℕ) (s : Best) → GoodGo go → Q s → Good (farther q t go b axis s)
  unfolding farther
  farther_good q gone go b axis s h g = g
  farther_good q bad go b axis s h g = tt
  farther_good q (node n p l r) go b axis s h g = cond_good (lt (box_dist_sq b q) s.dist) _ _ (h b axis s g) g

  module _ (M : ℕ) (q : Point3) (kept : (s : Best) → Q s → Q (visited s)) where
    pub search_good : (t : Tree) → All (λ n p. (s : Best) → Q s → Q (improve n (dist_sq_of p q) s)) t → GoodGo (search M q t)
    unfolding search
    search_good gone a b axis s g = g
    search_good bad a b axis s g = tt
    search_good (node n p l r) a b axis s g =
        let u = search_good l a.1.0 in
        let v = search_good r a.1.1 in
        let lf = left_first q p axis in
        cond_good (ltb s.visits M) _ None
        (after_good (cond lf (search M q l) (search M q r) (nearer_box lf b axis (coord_of p axis)) (next_axis axis) (visited s)) _
        (cond_go lf (search M q l) (search M q r) u v (nearer_box lf b axis (coord_of p axis)) (next_axis axis) (visited s) (kept s g))
        (λ t h. farther_good q (cond lf r l) (cond lf (search M q r) (search M q l)) (farther_box lf b axis (coord_of p axis)) (next_axis axis) (improve n (dist_sq_of p q) t)
        (cond_go lf (search M q r) (search M q l) v u) (a.0 t h)))
        tt

-- the place found is below the count
module _ (count M : ℕ) (q : Point3) where
  improve_at : (n : ℕ) (d : Float) (s : Best) → n < count → s.place < count → (improve n d s).place < count
  unfolding improve
  improve_at n d s h g = go (lt d s.dist)
    where
      go : (c : Bool) → (cond c (record { place = n; dist = d; visits = s.visits }) s).place < count
      go true = h
      go false = g

  below_kept : (t : Tree) → Below count t → All (λ n p. (s : Best) → s.place < count → (improve n (dist_sq_of p q) s).place < count) t
  below_kept gone a = tt
  below_kept bad a = tt
  below_kept (node n p l r) a = ((λ s h. improve_at n (dist_sq_of p q) s a.0 h), (below_kept l a.1.0, below_kept r a.1.1))

  pub found_below : (t : Tree) (b : BoundingBox) (axis : ℕ) (s r : Best) → Below count t → s.place < count → Some r ≡ search M q t b axis s → r.place < count
  unfolding visited
  found_below t b axis s r a h e =
      subst (Good (λ s. s.place < count)) (sym e) (search_good (λ s. s.place < count) M q (λ s g. g) t (below_kept t a) b axis s h)

-- the owner of a slot is below the count
module _ (count : ℕ) (p : Point3) (some : 0 < count) where
  abbrev OwnerBelow : Slot → Type 0
  OwnerBelow s = owner_of s < count

  side_owner : (t : Tree) (v w : Slot) → OwnerBelow v → OwnerBelow w → OwnerBelow (side_slot t v w)
  unfolding side_slot
  side_owner gone v w a b = a
  side_owner bad v w a b = some
  side_owner (node n x l r) v w a b = b

  cond_owner : (c : Bool) (v w : Slot) → OwnerBelow v → OwnerBelow w → OwnerBelow (cond c v w)
  cond_owner true v w a b = a
  cond_owner false v w a b = b

  pub slot_below : (t : Tree) (axis : ℕ) → Below count t → OwnerBelow (slot_in p t axis)
  unfolding slot_in
  slot_below gone axis a = some
  slot_below bad axis a = some
  slot_below (node n x l r) axis a =
      cond_owner (goes_left p x axis) _ _ (side_owner l (Left n) (slot_in p l (next_axis axis)) a.0 (slot_below l (next_axis axis) a.1.0))
      (side_owner r (Right n) (slot_in p r (next_axis axis)) a.0 (slot_below r (next_axis axis) a.1.1))
