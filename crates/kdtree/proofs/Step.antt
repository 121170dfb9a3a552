-- One step of the search and of the way down to a slot, in the terms of the code: each value that the code has, with the equation that it
-- has for it, and what the definition then says. Assumes nothing.
use mathlib.Core.Path.{◌≡◌, refl, sym, ap, ◌∙◌}
use Rattle.std.proofs.Common.{Option, Some, None}
use mathlib.Core.Bool.{Bool, true, false, cond, ◌&&◌}
use mathlib.Core.List.{List}
use Prim.Native.Nat.{ℕ, zero, suc, ◌+◌, ◌*◌, ◌-◌, ◌<◌, ◌≤◌}
use native.Mathlib.Omega.{arith}
use lib.ListN.{get_or}
use lib.Dec.{ltb, eqb}
use lib.Ieee.{Float, nan, binary32, sub, lt, le}
use borrow.Author.Tests.{le-ltb, lt-ltb, ltb-true, eqb-true, eq-eqb}
use Rattle.floats.specs.Floats.{zero32}
use Rattle.points.specs.declared.Point3.{Point3}
use Rattle.kdtree.specs.declared.BoundingBox.{BoundingBox}
use Rattle.kdtree.specs.declared.Best.{Best}
use Rattle.kdtree.specs.declared.Link.{Link}
use Rattle.kdtree.specs.declared.Link.TheVariants.{Gone, To, Bad}
use Rattle.kdtree.specs.Geometry.{byAxis, coord_of, box_dist_sq, next_axis, left_first, goes_left}
use Rattle.kdtree.specs.Tree.{Tree, link_of, side_of, subtree}
use Rattle.points.specs.Points.{point_at, dist_sq_of}
use Rattle.kdtree.specs.declared.Slot.{Slot}
use Rattle.kdtree.specs.declared.Slot.TheVariants.{Left, Right, Blocked}
use Rattle.kdtree.specs.Insert.{side_slot, slot_in}
use Rattle.kdtree.specs.Search.{search, improve, visited, farther, after_near, nearer_box, farther_box, Go}

-- ---- what a link says

pub data Said (count o l : ℕ) : Link → Type 0 where
  said_gone : Said count o l Gone
  said_bad : Said count o l Bad
  said_to : o < l → l < count → Said count o l (To l)

pub said : (count o l : ℕ) → Said count o l (link_of count o l)
unfolding link_of
said count o l = go (eqb l 65535) (ltb o l) (ltb l count) refl refl
  where
    go : (a b c : Bool) → ltb o l ≡ b → ltb l count ≡ c → Said count o l (cond a Gone (cond b (cond c (To l) Bad) Bad))
    go true b c e f = said_gone
    go false true true e f = said_to (ltb-true _ _ e) (ltb-true _ _ f)
    go false true false e f = said_bad
    go false false c e f = said_bad

abbrev ToIs : (count o l m : ℕ) → Link → Type 0
ToIs count o l m k = k ≡ To m → record { is : m ≡ l; above : o < m; below : m < count }

to_is : (count o l m : ℕ) (k : Link) → Said count o l k → ToIs count o l m k
to_is count o l m k said_gone e = let z : ◌≡◌ {A = ℕ} 0 1 = cc in absurd (omega arith)
to_is count o l m k said_bad e = let z : ◌≡◌ {A = ℕ} 0 1 = cc in absurd (omega arith)
to_is count o l m k (said_to h g) e =
    let z : m ≡ l = cc in record { is = z; above = omega arith; below = omega arith }

pub link_to : (count o l m : ℕ) → To m ≡ link_of count o l → record { is : m ≡ l; above : o < m; below : m < count }
link_to count o l m e = to_is count o l m (link_of count o l) (said count o l) (sym e)

-- only 65535 says that a side is absent
gone_is : (count o l : ℕ) → link_of count o l ≡ Gone → l ≡ 65535
unfolding link_of
gone_is count o l e = go (eqb l 65535) refl (ltb o l) (ltb l count) e
  where
    go : (a : Bool) → eqb l 65535 ≡ a → (b c : Bool) → cond a Gone (cond b (cond c (To l) Bad) Bad) ≡ Gone → l ≡ 65535
    go true ea b c z = eqb-true _ _ ea
    go false ea true true z = let y : ◌≡◌ {A = ℕ} 0 1 = cc in absurd (omega arith)
    go false ea true false z = let y : ◌≡◌ {A = ℕ} 0 1 = cc in absurd (omega arith)
    go false ea false c z = let y : ◌≡◌ {A = ℕ} 0 1 = cc in absurd (omega arith)

-- a link that leads nowhere, as the code's `else` knows it
abbrev pub Nowhere : Link → Type 0
Nowhere lk = (x : ℕ) → lk ≡ To x → ⊥

-- of the two links of a node that has a side not both are absent, whichever is the nearer
both_gone : (g : Bool) (l r : ℕ) → eqb l 65535 && eqb r 65535 ≡ false → cond g l r ≡ 65535 → cond g r l ≡ 65535 → ⊥
both_gone g l r z e f = go g e f
  where
    one : l ≡ 65535 → r ≡ 65535 → ⊥
    one x y =
        let w : eqb l 65535 && eqb r 65535 ≡ true = simp (eq-eqb _ _ x, eq-eqb _ _ y) in
        let v : ◌≡◌ {A = ℕ} 0 1 = ap (λ (b : Bool). cond b 1 0) (sym z ∙ w) in
        omega (arith, v)

    go : (g : Bool) → cond g l r ≡ 65535 → cond g r l ≡ 65535 → ⊥
    go true e f = one e f
    go false e f = one f e

-- ---- coordinates by the axis

-- the coordinates of a point stand one after the other
pub at_axis : (xs : List Float) (i axis : ℕ) → axis < 3 → get_or xs (3 * i + axis) nan ≡ coord_of (point_at xs i) axis
unfolding coord_of byAxis point_at
at_axis xs i zero h = let e : 3 * i + zero ≡ 3 * i = omega arith in ap (λ (k : ℕ). get_or xs k nan) e
at_axis xs i (suc zero) h = refl
at_axis xs i (suc (suc zero)) h = refl
at_axis xs i (suc (suc (suc axis))) h = absurd (omega arith)

pub first_axis : (xs : List Float) (axis : ℕ) → axis < 3 → get_or xs axis nan ≡ coord_of (point_at xs 0) axis
first_axis xs axis h = let e : axis ≡ 3 * 0 + axis = omega arith in ap (λ (k : ℕ). get_or xs k nan) e ∙ at_axis xs 0 axis h

pub next_below : (axis nx : ℕ) → nx ≡ next_axis axis → nx < 3
unfolding next_axis byAxis
next_below zero nx e = omega (arith, e)
next_below (suc zero) nx e = omega (arith, e)
next_below (suc (suc axis)) nx e = omega (arith, e)

-- the side from the two coordinates
pub first_left : (q p : Point3) (axis : ℕ) (x v : Float) (g : Bool) → x ≡ coord_of q axis → v ≡ coord_of p axis
    → g ≡ le (sub binary32 x v) zero32 → g ≡ left_first q p axis
unfolding left_first
first_left q p axis x v g ex ev eg = cc

-- the same of the coordinate of the query alone
pub side_first : (x y v : Float) (g : Bool) → x ≡ y → g ≡ le (sub binary32 x v) zero32 → g ≡ le (sub binary32 y v) zero32
side_first x y v g ex eg = cc

-- ---- one step

module _ (left right : List ℕ) (xs : List Float) (count : ℕ) where
  abbrev pub T : ℕ → ℕ → Tree
  T = subtree left right xs count

  -- the side that the link l of the node n leads to
  unfoldable pub side : ℕ → ℕ → ℕ → Tree
  side k n l = side_of (link_of count n l) (T k l)

  abbrev pub near : Bool → ℕ → ℕ
  near g n = cond g (get_or left n 0) (get_or right n 0)

  abbrev pub far : Bool → ℕ → ℕ
  far g n = cond g (get_or right n 0) (get_or left n 0)

  module _ (q : Point3) where
    -- what follows the nearer side
    abbrev pub rest : ℕ → ℕ → Bool → BoundingBox → ℕ → Best → Option Best
    rest k n g b axis t =
        farther q (side k n (far g n)) (search count q (side k n (far g n))) (farther_box g b axis (coord_of (point_at xs n) axis)) (next_axis axis)
        (improve n (dist_sq_of (point_at xs n) q) t)

    abbrev pub deeper : ℕ → ℕ → Bool → BoundingBox → ℕ → Best → Option Best
    deeper k n g b axis s =
        after_near (search count q (side k n (near g n)) (nearer_box g b axis (coord_of (point_at xs n) axis)) (next_axis axis) (visited s)) (rest k n g b axis)

    step : (k n : ℕ) (b : BoundingBox) (axis : ℕ) (s : Best) (g : Bool) → left_first q (point_at xs n) axis ≡ g → s.visits < count
        → search count q (T (suc k) n) b axis s ≡ deeper k n g b axis s
    unfolding search subtree side
    step k n b axis s true e h = simp (e, lt-ltb _ _ h)
    step k n b axis s false e h = simp (e, lt-ltb _ _ h)

    -- the code's answer w at the node n, for every fuel that suffices
    abbrev pub After : ℕ → BoundingBox → ℕ → Best → Option Best → Type 0
    After n b axis s w = (f : ℕ) → count - n ≤ f → w ≡ search count q (T f n) b axis s

    -- no visit is left
    pub full : (n : ℕ) (b : BoundingBox) (axis : ℕ) (s : Best) → n < count → count ≤ s.visits → After n b axis s None
    unfolding search subtree
    full n b axis s h v zero le = absurd (omega arith)
    full n b axis s h v (suc k) le = simp (le-ltb _ _ v)

    -- a node with neither side: both sides are passed over
    pub leaf : (n : ℕ) (b : BoundingBox) (axis : ℕ) (s : Best) → n < count → s.visits < count → get_or left n 0 ≡ 65535 → get_or right n 0 ≡ 65535
        → (d : Float) (u r : Best) → d ≡ dist_sq_of (point_at xs n) q → u ≡ visited s → r ≡ improve n d u → After n b axis s (Some r)
    unfolding search side link_of side_of farther after_near
    leaf n b axis s h v el er d u r ed eu e zero le = absurd (omega arith)
    leaf n b axis s h v el er d u r ed eu e (suc k) le = sym (go (left_first q (point_at xs n) axis) refl)
      where
        go : (g : Bool) → left_first q (point_at xs n) axis ≡ g → search count q (T (suc k) n) b axis s ≡ Some r
        go true eg = step k n b axis s true eg v ∙ simp (el, er) (cc)
        go false eg = step k n b axis s false eg v ∙ simp (el, er) (cc)

    farther_node : (k m : ℕ) (go : Go) (b : BoundingBox) (axis : ℕ) (s : Best) → m < count → count - m ≤ k
        → farther q (T k m) go b axis s ≡ cond (lt (box_dist_sq b q) s.dist) (go b axis s) (Some s)
    unfolding subtree farther
    farther_node zero m go b axis s h le = absurd (omega arith)
    farther_node (suc k) m go b axis s h le = refl

    module _ (n : ℕ) (b : BoundingBox) (axis : ℕ) (s : Best) where
      -- what the code knows past its first calls
      pub record Here : Type 0 where
        pub v : Float
        pub g : Bool
        pub nx : ℕ
        pub below : n < count
        pub room : s.visits < count
        pub ev : v ≡ coord_of (point_at xs n) axis
        pub eg : g ≡ left_first q (point_at xs n) axis
        pub en : nx ≡ next_axis axis

      module _ (h : Here) where
        abbrev pub Near : Option Best → Type 0
        Near w = (k : ℕ) → count - suc n ≤ k
            → w ≡ search count q (side k n (near h.g n)) (nearer_box h.g b axis (coord_of (point_at xs n) axis)) (next_axis axis) (visited s)

        -- the farther side, t being the best after the node
        abbrev pub Far : Best → Option Best → Type 0
        Far t r = (k : ℕ) → count - suc n ≤ k
            → r ≡ farther q (side k n (far h.g n)) (search count q (side k n (far h.g n))) (farther_box h.g b axis (coord_of (point_at xs n) axis)) (next_axis axis) t

        pub near_gone : (l : ℕ) (lk : Link) → l ≡ near h.g n → lk ≡ link_of count n l → lk ≡ Gone → Near (Some (visited s))
        unfolding search side side_of
        near_gone l lk el ek e k hk =
            let z : link_of count n (near h.g n) ≡ Gone = cc in
            rw z

        pub near_bad : (l : ℕ) (lk : Link) → l ≡ near h.g n → lk ≡ link_of count n l → lk ≡ Bad → Near None
        unfolding search side side_of
        near_bad l lk el ek e k hk =
            let z : link_of count n (near h.g n) ≡ Bad = cc in
            rw z

        pub near_to : (l m : ℕ) (lk : Link) (u : Best) (nb : BoundingBox) (r : Option Best) → l ≡ near h.g n → lk ≡ link_of count n l → lk ≡ To m
            → u ≡ visited s → nb ≡ nearer_box h.g b axis h.v → After m nb h.nx u r → Near r
        unfolding side side_of
        near_to l m lk u nb r el ek e eu eb after k hk =
            let z : link_of count n (near h.g n) ≡ To m = cc in
            let i = link_to count n (near h.g n) m (sym z) in
            let a : r ≡ search count q (T k m) nb h.nx u = after k (omega arith) in
            let w : m ≡ near h.g n = i.is in
            rw z (cc)

        pub stopped_near : Near None → After n b axis s None
        unfolding after_near
        stopped_near nr zero le = let i = h.below in absurd (omega arith)
        stopped_near nr (suc k) le =
            let i = h.below in
            let z : left_first q (point_at xs n) axis ≡ h.g = cc in
            sym (step k n b axis s h.g z h.room ∙ ap (λ (y : Option Best). after_near y (rest k n h.g b axis)) (sym (nr k (omega arith))))

        found_near : (t : Best) (r : Option Best) → Near (Some t) → Far (improve n (dist_sq_of (point_at xs n) q) t) r → After n b axis s r
        unfolding after_near
        found_near t r nr fr zero le = let i = h.below in absurd (omega arith)
        found_near t r nr fr (suc k) le =
            let i = h.below in
            let z : left_first q (point_at xs n) axis ≡ h.g = cc in
            fr k (omega arith) ∙ sym (step k n b axis s h.g z h.room ∙ ap (λ (y : Option Best). after_near y (rest k n h.g b axis)) (sym (nr k (omega arith))))

        -- t is what the nearer side found, d the node's distance, u the best after the node
        module _ (t u : Best) (d : Float) (nr : Near (Some t)) (ed : d ≡ dist_sq_of (point_at xs n) q) (eu : u ≡ improve n d t) where
          pub went_on : (r : Option Best) → Far u r → After n b axis s r
          went_on r fr =
              found_near t r nr
              (λ k hk. fr k hk
              ∙ ap (λ (t : Best). farther q (side k n (far h.g n)) (search count q (side k n (far h.g n))) (farther_box h.g b axis (coord_of (point_at xs n) axis)) (next_axis axis) t)
              (eu ∙ ap (λ (d : Float). improve n d t) ed))

          -- no farther side: what the node made of the nearer side is the answer
          pub one_sided : (l : ℕ) → l ≡ far h.g n → l ≡ 65535 → After n b axis s (Some u)
          unfolding side link_of side_of farther
          one_sided l el e =
              let z : far h.g n ≡ 65535 = sym el ∙ e in
              went_on (Some u) (λ k hk. simp z)

        -- what the code knows past the farther side's link, t being the best after the node
        pub record There (t : Best) : Type 0 where
          pub l : ℕ
          pub lk : Link
          pub el : l ≡ far h.g n
          pub ek : lk ≡ link_of count n l

        module _ (t : Best) (k : There t) where
          far_bad : k.lk ≡ Bad → Far t None
          unfolding side side_of farther
          far_bad e f hf =
              let z : link_of count n (far h.g n) ≡ Bad = cc in
              rw z

          -- a farther side that is not absent and leads nowhere is bad
          pub far_nowhere : (k.l ≡ 65535 → ⊥) → Nowhere k.lk → Far t None
          far_nowhere z w = go k.lk refl w
            where
              go : (x : Link) → k.lk ≡ x → Nowhere x → Far t None
              go Gone ex w = absurd (z (gone_is count n k.l (sym k.ek ∙ ex)))
              go Bad ex w = far_bad ex
              go (To j) ex w = absurd (w j refl)

          pub far_in : (m : ℕ) (fb : BoundingBox) (y : Bool) (r : Option Best) → k.lk ≡ To m → fb ≡ farther_box h.g b axis h.v
              → y ≡ lt (box_dist_sq (farther_box h.g b axis h.v) q) t.dist → y ≡ true → After m fb h.nx t r → Far t r
          unfolding side side_of
          far_in m fb y r e ef ey less after f hf =
              let z : link_of count n (far h.g n) ≡ To m = cc in
              let i = link_to count n (far h.g n) m (sym z) in
              let a : r ≡ search count q (T f m) fb h.nx t = after f (omega arith) in
              let w : m ≡ far h.g n = i.is in
              let lo : lt (box_dist_sq fb q) t.dist ≡ true = cc in
              let z2 : farther q (T f m) (search count q (T f m)) fb h.nx t ≡ search count q (T f m) fb h.nx t
              = farther_node f m (search count q (T f m)) fb h.nx t i.below (omega arith) ∙ rw lo in
              rw z (cc)

          pub far_out : (m : ℕ) (y : Bool) → k.lk ≡ To m → y ≡ lt (box_dist_sq (farther_box h.g b axis h.v) q) t.dist → y ≡ false → Far t (Some t)
          unfolding side side_of
          far_out m y e ey less f hf =
              let z : link_of count n (far h.g n) ≡ To m = cc in
              let i = link_to count n (far h.g n) m (sym z) in
              let w : m ≡ far h.g n = i.is in
              let fb = farther_box h.g b axis h.v in
              let lo : lt (box_dist_sq fb q) t.dist ≡ false = cc in
              let z2 : farther q (T f m) (search count q (T f m)) fb h.nx t ≡ Some t
              = farther_node f m (search count q (T f m)) fb h.nx t i.below (omega arith) ∙ rw lo in
              rw z (cc)

        -- a node that has a side, and no farther one: a nearer link that leads nowhere is bad
        pub nowhere : (l l' : ℕ) (lk : Link) → l ≡ near h.g n → l' ≡ far h.g n → l' ≡ 65535 → lk ≡ link_of count n l → Nowhere lk
            → eqb (get_or left n 0) 65535 && eqb (get_or right n 0) 65535 ≡ false → After n b axis s None
        nowhere l l' lk el el' e ek w z = go lk refl w
          where
            none : near h.g n ≡ 65535 → far h.g n ≡ 65535 → ⊥
            none = both_gone h.g (get_or left n 0) (get_or right n 0) z

            go : (x : Link) → lk ≡ x → Nowhere x → After n b axis s None
            go Gone ex w = absurd (none (sym el ∙ gone_is count n l (sym ek ∙ ex)) (sym el' ∙ e))
            go Bad ex w = stopped_near (near_bad l lk el ek ex)
            go (To j) ex w = absurd (w j refl)

  -- ---- insertion: the slot of a new point p
  module _ (p : Point3) where
    abbrev pub Slotted : ℕ → ℕ → Slot → Type 0
    Slotted n axis r = (f : ℕ) → count - n ≤ f → r ≡ slot_in p (T f n) axis

    side_slot_node : (k m : ℕ) (a b : Slot) → m < count → count - m ≤ k → side_slot (T k m) a b ≡ b
    unfolding subtree side_slot
    side_slot_node zero m a b h le = absurd (omega arith)
    side_slot_node (suc k) m a b h le = refl

    slot_step : (k n axis : ℕ) (g : Bool) → goes_left p (point_at xs n) axis ≡ g
        → slot_in p (T (suc k) n) axis ≡ side_slot (side k n (near g n)) (cond g (Left n) (Right n)) (slot_in p (side k n (near g n)) (next_axis axis))
    unfolding slot_in subtree side
    slot_step k n axis true e = simp e
    slot_step k n axis false e = simp e

    module _ (n axis : ℕ) (x : Point3) (g : Bool) (nx l : ℕ) (lk : Link) (below : n < count) (ex : x ≡ point_at xs n) (eg : g ≡ goes_left p x axis)
        (en : nx ≡ next_axis axis) (el : l ≡ near g n) (ek : lk ≡ link_of count n l) where
      gone_at : lk ≡ Gone → Slotted n axis (cond g (Left n) (Right n))
      unfolding side side_of side_slot
      gone_at e zero le = absurd (omega arith)
      gone_at e (suc k) le =
          let y : goes_left p (point_at xs n) axis ≡ g = cc in
          let z : link_of count n (near g n) ≡ Gone = cc in
          sym (slot_step k n axis g y ∙ rw z)

      pub gone_left : lk ≡ Gone → g ≡ true → Slotted n axis (Left n)
      gone_left e u f le = sym (rw u) ∙ gone_at e f le

      pub gone_right : lk ≡ Gone → g ≡ false → Slotted n axis (Right n)
      gone_right e u f le = sym (rw u) ∙ gone_at e f le

      pub bad_at : lk ≡ Bad → Slotted n axis Blocked
      unfolding side side_of side_slot
      bad_at e zero le = absurd (omega arith)
      bad_at e (suc k) le =
          let y : goes_left p (point_at xs n) axis ≡ g = cc in
          let z : link_of count n (near g n) ≡ Bad = cc in
          sym (slot_step k n axis g y ∙ rw z)

      pub deeper_at : (m : ℕ) (r : Slot) → lk ≡ To m → Slotted m nx r → Slotted n axis r
      unfolding side side_of
      deeper_at m r e after zero le = absurd (omega arith)
      deeper_at m r e after (suc k) le =
          let y : goes_left p (point_at xs n) axis ≡ g = cc in
          let z : link_of count n (near g n) ≡ To m = cc in
          let i = link_to count n (near g n) m (sym z) in
          let w : m ≡ near g n = i.is in
          let a : r ≡ slot_in p (T k m) nx = after k (omega arith) in
          let u : side_slot (T k m) (cond g (Left n) (Right n)) (slot_in p (T k m) nx) ≡ slot_in p (T k m) nx
          = side_slot_node k m (cond g (Left n) (Right n)) (slot_in p (T k m) nx) i.below (omega arith) in
          let v : side_slot (side k n (near g n)) (cond g (Left n) (Right n)) (slot_in p (side k n (near g n)) (next_axis axis)) ≡ r = rw z (cc) in
          sym (slot_step k n axis g y ∙ v)
