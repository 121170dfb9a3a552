-- The pruned search finds what the unpruned walk finds, in a tree whose points lie in their boxes: of any floats, for any query. Assumes nothing.
use mathlib.Core.Path.{◌≡◌, refl, sym, ap, ◌∙◌, subst}
use mathlib.Core.Bool.{Bool, true, false, cond}
use Prim.Native.Nat.{ℕ, suc, ◌+◌, ◌<◌, ◌≤◌}
use native.Mathlib.Omega.{arith}
use lib.Ieee.{Float, lt}
use lib.Ieee.Bits.{is_false}
use borrow.Author.Tests.{lt-ltb}
use Rattle.std.proofs.Common.{Option, Some, None}
use Rattle.points.specs.declared.Point3.{Point3}
use Rattle.floats.proofs.Cross.{of_left}
use Rattle.kdtree.specs.declared.BoundingBox.{BoundingBox}
use Rattle.kdtree.specs.declared.Best.{Best}
use Rattle.points.specs.Points.{dist_sq_of}
use Rattle.kdtree.specs.Geometry.{coord_of, box_dist_sq, with_min, with_max, next_axis, left_first}
use Rattle.kdtree.specs.Tree.{Tree, gone, bad, node}
use Rattle.kdtree.specs.Search.{search, improve, visited, farther, after_near, nearer_box, farther_box, Go}
use Rattle.kdtree.specs.Unpruned.{Pick, pick_of, meet, walk, size}
use Rattle.kdtree.proofs.Nodes.{All}
use Rattle.kdtree_laws.proofs.Box.{Inside, prune_point}

-- ---- points and boxes

abbrev pub Points : BoundingBox → Tree → Type 0
Points b = All (λ n p. Inside b p)

-- every point lies in the box of each side that holds it; no side is bad
abbrev pub Within : Tree → BoundingBox → ℕ → Type 0
Within gone b axis = Unit
Within bad b axis = ⊥
Within (node n p l r) b axis =
    Points b (node n p l r) × (Within l (with_max b axis (coord_of p axis)) (next_axis axis) × Within r (with_min b axis (coord_of p axis)) (next_axis axis))

pub within_points : (t : Tree) (b : BoundingBox) (axis : ℕ) → Within t b axis → Points b t
within_points gone b axis w = tt
within_points bad b axis w = absurd w
within_points (node n p l r) b axis w = w.0

-- no side is bad
abbrev pub Clean : Tree → Type 0
Clean gone = Unit
Clean bad = ⊥
Clean (node n p l r) = Clean l × Clean r

pub within_clean : (t : Tree) (b : BoundingBox) (axis : ℕ) → Within t b axis → Clean t
within_clean gone b axis w = tt
within_clean bad b axis w = w
within_clean (node n p l r) b axis w = (within_clean l _ _ w.1.0, within_clean r _ _ w.1.1)

-- ---- the two orders of the sides

module _ (M : ℕ) (q : Point3) where
  pub search_left : (n : ℕ) (p : Point3) (l r : Tree) (b : BoundingBox) (axis : ℕ) (s : Best) → left_first q p axis ≡ true → s.visits < M
      → search M q (node n p l r) b axis s
      ≡ after_near (search M q l (with_max b axis (coord_of p axis)) (next_axis axis) (visited s))
      (λ t. farther q r (search M q r) (with_min b axis (coord_of p axis)) (next_axis axis) (improve n (dist_sq_of p q) t))
  unfolding search nearer_box farther_box
  search_left n p l r b axis s e h = simp (e, lt-ltb _ _ h)

  pub search_right : (n : ℕ) (p : Point3) (l r : Tree) (b : BoundingBox) (axis : ℕ) (s : Best) → left_first q p axis ≡ false → s.visits < M
      → search M q (node n p l r) b axis s
      ≡ after_near (search M q r (with_min b axis (coord_of p axis)) (next_axis axis) (visited s))
      (λ t. farther q l (search M q l) (with_max b axis (coord_of p axis)) (next_axis axis) (improve n (dist_sq_of p q) t))
  unfolding search nearer_box farther_box
  search_right n p l r b axis s e h = simp (e, lt-ltb _ _ h)

-- ---- a side where nothing is below the best is passed over

module _ (q : Point3) where
  cond_walk : (g : Bool) (t u : Tree) (axis : ℕ) (k : Pick) → walk q t axis k ≡ k → walk q u axis k ≡ k → cond g (walk q t) (walk q u) axis k ≡ k
  cond_walk true t u axis k a b = a
  cond_walk false t u axis k a b = b

  meet_none : (n : ℕ) (p : Point3) (k : Pick) → lt (dist_sq_of p q) k.dist ≡ false → meet q n p k ≡ k
  unfolding meet
  meet_none n p k e = simp e

  pub walk_none : (t : Tree) (axis : ℕ) (k : Pick) → All (λ n p. lt (dist_sq_of p q) k.dist ≡ false) t → walk q t axis k ≡ k
  unfolding walk
  walk_none gone axis k a = refl
  walk_none bad axis k a = refl
  walk_none (node n p l r) axis k a =
      let u = walk_none l (next_axis axis) k a.1.0 in
      let v = walk_none r (next_axis axis) k a.1.1 in
      rw (cond_walk (left_first q p axis) l r (next_axis axis) k u v) (rw (meet_none n p k a.0) (cond_walk (left_first q p axis) r l (next_axis axis) k v u))

-- ---- the answer found is the pick k, with at most v visits

abbrev pub Agrees : Pick → ℕ → Option Best → Type 0
Agrees k v (Some r) = (pick_of r ≡ k) × (r.visits ≤ v)
Agrees k v None = ⊥

improve_pick : (q : Point3) (n : ℕ) (p : Point3) (s : Best) → pick_of (improve n (dist_sq_of p q) s) ≡ meet q n p (pick_of s)
unfolding pick_of improve meet
improve_pick q n p s = go (lt (dist_sq_of p q) s.dist)
  where
    go : (c : Bool) → ◌≡◌ {A = Pick}
        (record {
          place = (cond c (record { place = n; dist = dist_sq_of p q; visits = s.visits }) s).place;
          dist = (cond c (record { place = n; dist = dist_sq_of p q; visits = s.visits }) s).dist;
        })
        (cond c (record { place = n; dist = dist_sq_of p q }) (record { place = s.place; dist = s.dist }))
    go true = refl
    go false = refl

pub improve_visits : (n : ℕ) (d : Float) (s : Best) → (improve n d s).visits ≡ s.visits
unfolding improve
improve_visits n d s = go (lt d s.dist)
  where
    go : (c : Bool) → (cond c (record { place = n; dist = d; visits = s.visits }) s).visits ≡ s.visits
    go true = refl
    go false = refl

cond_agrees : (c : Bool) (z : Pick) (v : ℕ) (w : Option Best) (s : Best) → Agrees z v w → (c ≡ false → (pick_of s ≡ z) × (s.visits ≤ v)) → Agrees z v (cond c w (Some s))
cond_agrees true z v w s h g = h
cond_agrees false z v w s h g = g refl

agrees_le : (k k' : Pick) (v v' : ℕ) (w : Option Best) → k ≡ k' → v ≤ v' → Agrees k v w → Agrees k' v' w
agrees_le k k' v v' (Some r) e h a = (a.0 ∙ e, (let z = a.1 in omega arith))
agrees_le k k' v v' None e h a = a

module _ (q : Point3) where
  -- the farther side: searched or passed over
  far_agrees : (t : Tree) (go : Go) (b : BoundingBox) (axis : ℕ) (s : Best) → Clean t
      → Agrees (walk q t axis (pick_of s)) (s.visits + size t) (go b axis s)
      → (lt (box_dist_sq b q) s.dist ≡ false → walk q t axis (pick_of s) ≡ pick_of s)
      → Agrees (walk q t axis (pick_of s)) (s.visits + size t) (farther q t go b axis s)
  unfolding farther walk size
  far_agrees gone go b axis s c ih skip = (refl, omega arith)
  far_agrees bad go b axis s c ih skip = c
  far_agrees (node n p l r) go b axis s c ih skip =
      cond_agrees (lt (box_dist_sq b q) s.dist) _ _ (go b axis s) s ih (λ e. (sym (skip e), omega arith))

  near_agrees : (w : Option Best) (k : Best → Option Best) (a z : Pick) (u v : ℕ) → Agrees a u w
      → ((s : Best) → pick_of s ≡ a → s.visits ≤ u → Agrees z v (k s)) → Agrees z v (after_near w k)
  unfolding after_near
  near_agrees (Some s) k a z u v h g = g s h.0 h.1
  near_agrees None k a z u v h g = h

  walk_left : (n : ℕ) (p : Point3) (l r : Tree) (axis : ℕ) (k : Pick) → left_first q p axis ≡ true
      → walk q (node n p l r) axis k ≡ walk q r (next_axis axis) (meet q n p (walk q l (next_axis axis) k))
  unfolding walk
  walk_left n p l r axis k e = simp e

  walk_right : (n : ℕ) (p : Point3) (l r : Tree) (axis : ℕ) (k : Pick) → left_first q p axis ≡ false
      → walk q (node n p l r) axis k ≡ walk q l (next_axis axis) (meet q n p (walk q r (next_axis axis) k))
  unfolding walk
  walk_right n p l r axis k e = simp e

module _ (M : ℕ) (q : Point3) where
  -- a side whose box is not below the best holds no point below the best
  none_below : (t : Tree) (b : BoundingBox) (d : Float) → lt (box_dist_sq b q) d ≡ false → Points b t → All (λ n p. lt (dist_sq_of p q) d ≡ false) t
  none_below gone b d e a = tt
  none_below bad b d e a = tt
  none_below (node n p l r) b d e a =
      (is_false (lt (dist_sq_of p q) d) (prune_point b p q d a.0 (of_left e)), (none_below l b d e a.1.0, none_below r b d e a.1.1))

  -- the node and the farther side, after the nearer one
  both : (n : ℕ) (p : Point3) (near far : Tree) (nb fb : BoundingBox) (axis : ℕ) (s : Best) → Within far fb axis
      → s.visits + suc (size near + size far) ≤ M
      → Agrees (walk q near axis (pick_of s)) (s.visits + 1 + size near) (search M q near nb axis (visited s))
      → ((s : Best) → s.visits + size far ≤ M → Agrees (walk q far axis (pick_of s)) (s.visits + size far) (search M q far fb axis s))
      → Agrees (walk q far axis (meet q n p (walk q near axis (pick_of s)))) (s.visits + suc (size near + size far))
      (after_near (search M q near nb axis (visited s)) (λ t. farther q far (search M q far) fb axis (improve n (dist_sq_of p q) t)))
  unfolding pick_of
  both n p near far nb fb axis s w room ihn ihf =
      near_agrees q (search M q near nb axis (visited s)) (λ t. farther q far (search M q far) fb axis (improve n (dist_sq_of p q) t)) (walk q near axis (pick_of s))
      (walk q far axis (meet q n p (walk q near axis (pick_of s)))) (s.visits + 1 + size near) (s.visits + suc (size near + size far)) ihn
      (λ t e v.
      let i = improve n (dist_sq_of p q) t in
      let iv : i.visits ≡ t.visits = improve_visits n (dist_sq_of p q) t in
      agrees_le (walk q far axis (pick_of i)) (walk q far axis (meet q n p (walk q near axis (pick_of s)))) (i.visits + size far)
      (s.visits + suc (size near + size far)) (farther q far (search M q far) fb axis i)
      (ap (walk q far axis) (improve_pick q n p t ∙ ap (meet q n p) e))
      (omega arith)
      (far_agrees q far (search M q far) fb axis i (within_clean far fb axis w) (ihf i (omega arith))
      (λ b. walk_none q far axis (pick_of i) (none_below far fb i.dist b (within_points far fb axis w)))))

  abbrev Found-by : Tree → BoundingBox → ℕ → Best → Type 0
  Found-by t b axis s = Agrees (walk q t axis (pick_of s)) (s.visits + size t) (search M q t b axis s)

  abbrev Always : Tree → BoundingBox → ℕ → Type 0
  Always t b axis = (s : Best) → s.visits + size t ≤ M → Found-by t b axis s

  node_prune : (n : ℕ) (p : Point3) (l r : Tree) (b : BoundingBox) (axis : ℕ) (s : Best) → Within (node n p l r) b axis → s.visits + size (node n p l r) ≤ M
      → Always l (with_max b axis (coord_of p axis)) (next_axis axis) → Always r (with_min b axis (coord_of p axis)) (next_axis axis)
      → Found-by (node n p l r) b axis s
  unfolding size visited pick_of
  node_prune n p l r b axis s w room il ir = go (left_first q p axis) refl
    where
      z : Pick
      z = walk q (node n p l r) axis (pick_of s)

      v : ℕ
      v = s.visits + suc (size l + size r)

      lb : BoundingBox
      lb = with_max b axis (coord_of p axis)

      rb : BoundingBox
      rb = with_min b axis (coord_of p axis)

      go : (g : Bool) → left_first q p axis ≡ g → Agrees z v (search M q (node n p l r) b axis s)
      go true e =
          subst (Agrees z v) (sym (search_left M q n p l r b axis s e (omega arith)))
          (agrees_le _ z _ v (after_near (search M q l lb (next_axis axis) (visited s)) (λ t. farther q r (search M q r) rb (next_axis axis) (improve n (dist_sq_of p q) t)))
          (sym (walk_left q n p l r axis (pick_of s) e)) (omega arith)
          (both n p l r lb rb (next_axis axis) s w.1.1 room (il (visited s) (omega arith)) ir))
      go false e =
          subst (Agrees z v) (sym (search_right M q n p l r b axis s e (omega arith)))
          (agrees_le _ z (s.visits + suc (size r + size l)) v (after_near (search M q r rb (next_axis axis) (visited s)) (λ t. farther q l (search M q l) lb (next_axis axis) (improve n (dist_sq_of p q) t)))
          (sym (walk_right q n p l r axis (pick_of s) e)) (omega arith)
          (both n p r l rb lb (next_axis axis) s w.1.0 (omega arith) (ir (visited s) (omega arith)) il))

  -- THE PRUNED SEARCH IS THE UNPRUNED WALK: with a visit for each node it isn't refused, and it names the same place at the same distance
  pub prune : (t : Tree) (b : BoundingBox) (axis : ℕ) (s : Best) → Within t b axis → s.visits + size t ≤ M
      → Agrees (walk q t axis (pick_of s)) (s.visits + size t) (search M q t b axis s)
  unfolding search walk size visited pick_of
  prune gone b axis s w room = (refl, omega arith)
  prune bad b axis s w room = w
  prune (node n p l r) b axis s w room =
      node_prune n p l r b axis s w room
      (λ s h. prune l (with_max b axis (coord_of p axis)) (next_axis axis) s w.1.0 h)
      (λ s h. prune r (with_min b axis (coord_of p axis)) (next_axis axis) s w.1.1 h)
