-- Which lists draw which tree, and what an insertion does to it: the tree with one node more, each place once. Assumes nothing.
use mathlib.Core.Path.{◌≡◌, refl, sym, ◌∙◌, subst}
use mathlib.Core.Logic.{◌⊎◌, inl, inr, ⊎_elim}
use mathlib.Core.Bool.{Bool, true, false, cond}
use mathlib.Core.List.{List}
use Prim.Native.Nat.{ℕ, zero, suc, ◌+◌, ◌-◌, ◌<◌, ◌≤◌}
use native.Mathlib.Omega.{arith}
use lib.ListN.{get_or}
use lib.Ieee.{Float}
use borrow.Author.Tests.{lt-ltb, eq-eqb, ne_eqb}
use Rattle.points.specs.declared.Point3.{Point3}
use Rattle.kdtree.specs.declared.Link.TheVariants.{Gone, To}
use Rattle.kdtree.specs.declared.Slot.{Slot}
use Rattle.kdtree.specs.declared.Slot.TheVariants.{Left, Right, Blocked}
use Rattle.kdtree.specs.Geometry.{next_axis, goes_left}
use Rattle.kdtree.specs.Tree.{Tree, gone, bad, node, link_of, side_of, subtree}
use Rattle.points.specs.Points.{point_at}
use Rattle.kdtree.specs.Insert.{side_slot, slot_in}
use Rattle.kdtree.specs.Unpruned.{size}
use Rattle.kdtree_laws.proofs.Pruned.{Clean}

-- ---- places of a tree

abbrev pub Mem : ℕ → Tree → Type 0
Mem i gone = ⊥
Mem i bad = ⊥
Mem i (node n p l r) = (i ≡ n) ⊎ (Mem i l ⊎ Mem i r)

-- no place twice
abbrev pub Distinct : Tree → Type 0
Distinct gone = Unit
Distinct bad = Unit
Distinct (node n p l r) = ((i : ℕ) → Mem i l → Mem i r → ⊥) × (Distinct l × Distinct r)

-- ---- the tree with one node more

module _ (c : ℕ) (x : Point3) where
  unfoldable pub graft : Tree → ℕ → Tree
  graft gone axis = node c x gone gone
  graft bad axis = bad
  graft (node n p l r) axis = cond (goes_left x p axis) (node n p (graft l (next_axis axis)) r) (node n p l (graft r (next_axis axis)))

  abbrev cases : (P : Tree → Type 0) (g : Bool) (a b : Tree) → P a → P b → P (cond g a b)
  cases P true a b u v = u
  cases P false a b u v = v

  pub graft_clean : (t : Tree) (axis : ℕ) → Clean t → Clean (graft t axis)
  unfolding graft
  graft_clean gone axis h = (tt, tt)
  graft_clean bad axis h = h
  graft_clean (node n p l r) axis h =
      cases Clean (goes_left x p axis) _ _ (graft_clean l (next_axis axis) h.0, h.1) (h.0, graft_clean r (next_axis axis) h.1)

  pub graft_size : (t : Tree) (axis : ℕ) → Clean t → size (graft t axis) ≡ suc (size t)
  unfolding graft size
  graft_size gone axis h = refl
  graft_size bad axis h = absurd h
  graft_size (node n p l r) axis h =
      let u = graft_size l (next_axis axis) h.0 in
      let v = graft_size r (next_axis axis) h.1 in
      cases (λ t. size t ≡ suc (suc (size l + size r))) (goes_left x p axis) _ _ (omega arith) (omega arith)

  pub graft_new : (t : Tree) (axis : ℕ) → Clean t → Mem c (graft t axis)
  unfolding graft
  graft_new gone axis h = inl refl
  graft_new bad axis h = h
  graft_new (node n p l r) axis h =
      cases (Mem c) (goes_left x p axis) _ _ (inr (inl (graft_new l (next_axis axis) h.0))) (inr (inr (graft_new r (next_axis axis) h.1)))

  pub graft_keeps : (t : Tree) (axis i : ℕ) → Mem i t → Mem i (graft t axis)
  unfolding graft
  graft_keeps gone axis i m = absurd m
  graft_keeps bad axis i m = m
  graft_keeps (node n p l r) axis i m =
      cases (Mem i) (goes_left x p axis) _ _
      (⊎_elim (λ e. inl e) (⊎_elim (λ a. inr (inl (graft_keeps l (next_axis axis) i a))) (λ a. inr (inr a))) m)
      (⊎_elim (λ e. inl e) (⊎_elim (λ a. inr (inl a)) (λ a. inr (inr (graft_keeps r (next_axis axis) i a)))) m)

  pub graft_only : (t : Tree) (axis i : ℕ) → Mem i (graft t axis) → (i ≡ c) ⊎ Mem i t
  unfolding graft
  graft_only gone axis i m = ⊎_elim (λ e. inl e) (⊎_elim (λ a. absurd a) (λ a. absurd a)) m
  graft_only bad axis i m = absurd m
  graft_only (node n p l r) axis i m = go (goes_left x p axis) m (graft_only l (next_axis axis) i) (graft_only r (next_axis axis) i)
    where
      go : (g : Bool) → Mem i (cond g (node n p (graft l (next_axis axis)) r) (node n p l (graft r (next_axis axis))))
          → (Mem i (graft l (next_axis axis)) → (i ≡ c) ⊎ Mem i l) → (Mem i (graft r (next_axis axis)) → (i ≡ c) ⊎ Mem i r)
          → (i ≡ c) ⊎ ((i ≡ n) ⊎ (Mem i l ⊎ Mem i r))
      go true m u v = ⊎_elim (λ e. inr (inl e)) (⊎_elim (λ a. ⊎_elim (λ e. inl e) (λ b. inr (inr (inl b))) (u a)) (λ a. inr (inr (inr a)))) m
      go false m u v = ⊎_elim (λ e. inr (inl e)) (⊎_elim (λ a. inr (inr (inl a))) (λ a. ⊎_elim (λ e. inl e) (λ b. inr (inr (inr b))) (v a))) m

  pub graft_distinct : (t : Tree) (axis : ℕ) → (Mem c t → ⊥) → Distinct t → Distinct (graft t axis)
  unfolding graft
  graft_distinct gone axis f d = ((λ i a b. a), (tt, tt))
  graft_distinct bad axis f d = tt
  graft_distinct (node n p l r) axis f d =
      cases Distinct (goes_left x p axis) _ _ (
        (λ i a b. ⊎_elim (λ e. f (inr (inr (subst (λ j. Mem j r) e b)))) (λ m. d.0 i m b) (graft_only l (next_axis axis) i a)),
        (graft_distinct l (next_axis axis) (λ m. f (inr (inl m))) d.1.0, d.1.1),
      ) (
        (λ i a b. ⊎_elim (λ e. f (inr (inl (subst (λ j. Mem j l) e a)))) (λ m. d.0 i a m) (graft_only r (next_axis axis) i b)),
        (d.1.0, graft_distinct r (next_axis axis) (λ m. f (inr (inr m))) d.1.1),
      )

-- ---- which lists draw which tree

module _ (left right : List ℕ) (xs : List Float) (count : ℕ) where
  -- the side of the owner o whose link is l
  abbrev pub Rep : Tree → ℕ → ℕ → Type 0
  Rep gone o l = l ≡ 65535
  Rep bad o l = ⊥
  Rep (node n p a b) o l = ((o < n) × (l ≡ n)) × ((n < count) × (p ≡ point_at xs n)) × (Rep a n (get_or left n 0) × Rep b n (get_or right n 0))

  -- the tree below a place
  abbrev pub RepAt : Tree → ℕ → Type 0
  RepAt gone n = ⊥
  RepAt bad n = ⊥
  RepAt (node m p a b) n = (m ≡ n) × ((m < count) × (p ≡ point_at xs m)) × (Rep a m (get_or left m 0) × Rep b m (get_or right m 0))

  pub rep_clean : (t : Tree) (o l : ℕ) → Rep t o l → Clean t
  rep_clean gone o l r = tt
  rep_clean bad o l r = r
  rep_clean (node n p a b) o l r = (rep_clean a n _ r.2.0, rep_clean b n _ r.2.1)

  pub rep_above : (t : Tree) (o l i : ℕ) → Rep t o l → Mem i t → o < i
  rep_above gone o l i r m = absurd m
  rep_above bad o l i r m = absurd m
  rep_above (node n p a b) o l i r m =
      let h = r.0.0 in
      ⊎_elim (λ e. omega arith)
      (⊎_elim (λ k. let z = rep_above a n _ i r.2.0 k in omega arith) (λ k. let z = rep_above b n _ i r.2.1 k in omega arith)) m

  pub rep_below : (t : Tree) (o l i : ℕ) → Rep t o l → Mem i t → i < count
  rep_below gone o l i r m = absurd m
  rep_below bad o l i r m = absurd m
  rep_below (node n p a b) o l i r m =
      let h = r.1.0 in
      ⊎_elim (λ e. omega arith) (⊎_elim (λ k. rep_below a n _ i r.2.0 k) (λ k. rep_below b n _ i r.2.1 k)) m

  module _ (small : count ≤ 16384) where
    link_here : (o l : ℕ) → o < l → l < count → link_of count o l ≡ To l
    unfolding link_of
    link_here o l h g = simp (ne_eqb l 65535 (λ e. omega arith), lt-ltb _ _ h, lt-ltb _ _ g)

    link_gone : (o l : ℕ) → l ≡ 65535 → link_of count o l ≡ Gone
    unfolding link_of
    link_gone o l e = simp (eq-eqb l 65535 e)

    -- the drawn tree is the one that the links unfold to
    pub rep_side : (t : Tree) (o l k : ℕ) → count - suc o ≤ k → Rep t o l → side_of (link_of count o l) (subtree left right xs count k l) ≡ t
    unfolding side_of subtree
    rep_side gone o l k h r = rw (link_gone o l r)
    rep_side bad o l k h r = absurd r
    rep_side (node n p a b) o l zero h r =
        let u = r.0.0 in
        let v = r.1.0 in
        absurd (omega arith)
    rep_side (node n p a b) o l (suc j) h r =
        let u = r.0.0 in
        let v = r.1.0 in
        let e = r.1.1 in
        let y = rep_side a n (get_or left n 0) j (omega arith) r.2.0 in
        let z = rep_side b n (get_or right n 0) j (omega arith) r.2.1 in
        rw r.0.1 (rw (link_here o n u v) (cc))

    pub rep_at : (t : Tree) (n k : ℕ) → count - n ≤ k → RepAt t n → subtree left right xs count k n ≡ t
    unfolding subtree
    rep_at gone n k h r = absurd r
    rep_at bad n k h r = absurd r
    rep_at (node m p a b) n zero h r =
        let e = r.0 in
        let v = r.1.0 in
        absurd (omega arith)
    rep_at (node m p a b) n (suc j) h r =
        let i = r.0 in
        let e = r.1.1 in
        let y = rep_side a m (get_or left m 0) j (omega arith) r.2.0 in
        let z = rep_side b m (get_or right m 0) j (omega arith) r.2.1 in
        rw (← i) (cc)

-- ---- the slot is at a place of the tree

abbrev pub Owner : Slot → ℕ → Type 0
Owner (Left s) i = i ≡ s
Owner (Right s) i = i ≡ s
Owner Blocked i = ⊥

module _ (x : Point3) where
  side_owner_in : (t : Tree) (v w : Slot) (P : ℕ → Type 0) (i : ℕ) → (Owner v i → P i) → (Owner w i → P i) → Owner (side_slot t v w) i → P i
  unfolding side_slot
  side_owner_in gone v w P i a b h = a h
  side_owner_in bad v w P i a b h = absurd h
  side_owner_in (node n p l r) v w P i a b h = b h

  pub owner_in : (t : Tree) (axis i : ℕ) → Owner (slot_in x t axis) i → Mem i t
  unfolding slot_in
  owner_in gone axis i h = h
  owner_in bad axis i h = h
  owner_in (node n p l r) axis i h = go (goes_left x p axis) h (owner_in l (next_axis axis) i) (owner_in r (next_axis axis) i)
    where
      go : (g : Bool) → Owner (cond g (side_slot l (Left n) (slot_in x l (next_axis axis))) (side_slot r (Right n) (slot_in x r (next_axis axis)))) i
          → (Owner (slot_in x l (next_axis axis)) i → Mem i l) → (Owner (slot_in x r (next_axis axis)) i → Mem i r)
          → (i ≡ n) ⊎ (Mem i l ⊎ Mem i r)
      go true h u v = side_owner_in l (Left n) (slot_in x l (next_axis axis)) (λ i. (i ≡ n) ⊎ (Mem i l ⊎ Mem i r)) i (λ e. inl e) (λ o. inr (inl (u o))) h
      go false h u v = side_owner_in r (Right n) (slot_in x r (next_axis axis)) (λ i. (i ≡ n) ⊎ (Mem i l ⊎ Mem i r)) i (λ e. inl e) (λ o. inr (inr (v o))) h

-- ---- the lists before and after an insertion

module _ (left right : List ℕ) (xs : List Float) (c : ℕ) (x : Point3) (left' right' : List ℕ) (xs' : List Float) where
  pub record New (sl : Slot) : Type 0 where
    pub other : (i : ℕ) → i < c → (Owner sl i → ⊥) → (get_or left' i 0 ≡ get_or left i 0) × (get_or right' i 0 ≡ get_or right i 0)
    pub at_left : (i : ℕ) → sl ≡ Left i → (get_or left' i 0 ≡ c) × (get_or right' i 0 ≡ get_or right i 0)
    pub at_right : (i : ℕ) → sl ≡ Right i → (get_or left' i 0 ≡ get_or left i 0) × (get_or right' i 0 ≡ c)
    pub new_left : get_or left' c 0 ≡ 65535
    pub new_right : get_or right' c 0 ≡ 65535
    pub points : (i : ℕ) → i < c → point_at xs' i ≡ point_at xs i
    pub new_point : point_at xs' c ≡ x

  abbrev Old : Tree → ℕ → ℕ → Type 0
  Old = Rep left right xs c

  abbrev Now : Tree → ℕ → ℕ → Type 0
  Now = Rep left' right' xs' (suc c)

  module _ (sl : Slot) (N : New sl) where
    -- a side without the owner is drawn as it was
    frame : (t : Tree) (o l : ℕ) → ((i : ℕ) → Mem i t → Owner sl i → ⊥) → Old t o l → Now t o l
    frame gone o l f r = r
    frame bad o l f r = r
    frame (node n p a b) o l f r =
        let h = r.1.0 in
        let k = N.other n h (f n (inl refl)) in (
          r.0,
          ((omega arith), r.1.1 ∙ sym (N.points n h)),
          (rw k.0 (frame a n (get_or left n 0) (λ i m. f i (inr (inl m))) r.2.0), rw k.1 (frame b n (get_or right n 0) (λ i m. f i (inr (inr m))) r.2.1)),
        )

    -- the new node
    planted : (o l : ℕ) → o < c → l ≡ c → Now (node c x gone gone) o l
    planted o l h e = ((h, e), ((omega arith), sym N.new_point), (N.new_left, N.new_right))

  abbrev OldBody : ℕ → Point3 → Tree → Tree → Type 0
  OldBody n p a b = ((n < c) × (p ≡ point_at xs n)) × (Old a n (get_or left n 0) × Old b n (get_or right n 0))

  abbrev NowBody : ℕ → Point3 → Tree → Tree → Type 0
  NowBody n p a b = ((n < suc c) × (p ≡ point_at xs' n)) × (Now a n (get_or left' n 0) × Now b n (get_or right' n 0))

  abbrev IsNode : Tree → Type 0
  IsNode gone = ⊥
  IsNode bad = ⊥
  IsNode (node n p a b) = Unit

  -- what the induction gives of a side
  abbrev Grown : Tree → ℕ → ℕ → ℕ → Type 0
  Grown t axis o l = IsNode t → New (slot_in x t axis) → Now (graft c x t axis) o l

  grow_left : (n : ℕ) (p : Point3) (a b : Tree) (axis : ℕ) → OldBody n p a b → ((i : ℕ) → Mem i a → Mem i b → ⊥)
      → New (side_slot a (Left n) (slot_in x a axis)) → Grown a axis n (get_or left n 0) → NowBody n p (graft c x a axis) b
  unfolding side_slot graft
  grow_left n p gone b axis r d N ih =
      let h = r.0.0 in
      let k = N.at_left n refl in (
        ((omega arith), r.0.1 ∙ sym (N.points n h)),
        (
          planted (Left n) N n (get_or left' n 0) h k.0,
          rw k.1 (frame (Left n) N b n (get_or right n 0) (λ i m e. let z = rep_above left right xs c b n _ i r.1.1 m in omega arith) r.1.1),
        ),
      )
  grow_left n p bad b axis r d N ih = absurd r.1.0
  grow_left n p (node m y u v) b axis r d N ih =
      let h = r.0.0 in
      let t = node m y u v in
      let k = N.other n h (λ ow. let z = rep_above left right xs c t n _ n r.1.0 (owner_in x t axis n ow) in omega arith) in (
        ((omega arith), r.0.1 ∙ sym (N.points n h)),
        (rw k.0 (ih tt N), rw k.1 (frame (slot_in x t axis) N b n (get_or right n 0) (λ i m ow. d i (owner_in x t axis i ow) m) r.1.1)),
      )

  grow_right : (n : ℕ) (p : Point3) (a b : Tree) (axis : ℕ) → OldBody n p a b → ((i : ℕ) → Mem i a → Mem i b → ⊥)
      → New (side_slot b (Right n) (slot_in x b axis)) → Grown b axis n (get_or right n 0) → NowBody n p a (graft c x b axis)
  unfolding side_slot graft
  grow_right n p a gone axis r d N ih =
      let h = r.0.0 in
      let k = N.at_right n refl in (
        ((omega arith), r.0.1 ∙ sym (N.points n h)),
        (
          rw k.0 (frame (Right n) N a n (get_or left n 0) (λ i m e. let z = rep_above left right xs c a n _ i r.1.0 m in omega arith) r.1.0),
          planted (Right n) N n (get_or right' n 0) h k.1,
        ),
      )
  grow_right n p a bad axis r d N ih = absurd r.1.1
  grow_right n p a (node m y u v) axis r d N ih =
      let h = r.0.0 in
      let t = node m y u v in
      let k = N.other n h (λ ow. let z = rep_above left right xs c t n _ n r.1.1 (owner_in x t axis n ow) in omega arith) in (
        ((omega arith), r.0.1 ∙ sym (N.points n h)),
        (rw k.0 (frame (slot_in x t axis) N a n (get_or left n 0) (λ i m ow. d i m (owner_in x t axis i ow)) r.1.0), rw k.1 (ih tt N)),
      )

  abbrev Grafted : ℕ → Point3 → Tree → Tree → Tree → Type 0
  Grafted n p a b gone = ⊥
  Grafted n p a b bad = ⊥
  Grafted n p a b (node m y u v) = (m ≡ n) × NowBody m y u v

  -- a node's own part, whichever way it goes
  body : (n : ℕ) (p : Point3) (a b : Tree) (axis : ℕ) → OldBody n p a b → Distinct (node n p a b) → New (slot_in x (node n p a b) axis)
      → Grown a (next_axis axis) n (get_or left n 0) → Grown b (next_axis axis) n (get_or right n 0) → Grafted n p a b (graft c x (node n p a b) axis)
  unfolding slot_in graft
  body n p a b axis r d N ia ib = go (goes_left x p axis) N
    where
      go : (g : Bool) → New (cond g (side_slot a (Left n) (slot_in x a (next_axis axis))) (side_slot b (Right n) (slot_in x b (next_axis axis))))
          → Grafted n p a b (cond g (node n p (graft c x a (next_axis axis)) b) (node n p a (graft c x b (next_axis axis))))
      go true N = (refl, grow_left n p a b (next_axis axis) r d.0 N ia)
      go false N = (refl, grow_right n p a b (next_axis axis) r d.0 N ib)

  grafted_rep : (n : ℕ) (p : Point3) (a b t : Tree) (o l : ℕ) → (o < n) × (l ≡ n) → Grafted n p a b t → Now t o l
  grafted_rep n p a b gone o l h g = absurd g
  grafted_rep n p a b bad o l h g = absurd g
  grafted_rep n p a b (node m y u v) o l h g = let e = g.0 in let i = h.0 in ((omega arith, h.1 ∙ sym e), g.1.0, g.1.1)

  pub graft_rep : (t : Tree) (axis o l : ℕ) → Old t o l → Distinct t → Grown t axis o l
  graft_rep gone axis o l r d i N = absurd i
  graft_rep bad axis o l r d i N = absurd i
  graft_rep (node n p a b) axis o l r d i N =
      grafted_rep n p a b (graft c x (node n p a b) axis) o l r.0
      (body n p a b axis (r.1, r.2) d N (graft_rep a (next_axis axis) n _ r.2.0 d.1.0) (graft_rep b (next_axis axis) n _ r.2.1 d.1.1))

  grafted_root : (n : ℕ) (p : Point3) (a b t : Tree) (m : ℕ) → n ≡ m → Grafted n p a b t → RepAt left' right' xs' (suc c) t m
  grafted_root n p a b gone m e g = absurd g
  grafted_root n p a b bad m e g = absurd g
  grafted_root n p a b (node k y u v) m e g = (g.0 ∙ e, g.1.0, g.1.1)

  -- AN INSERTION GRAFTS: the lists with one place more draw the tree with one node more
  pub graft_root : (t : Tree) (axis n : ℕ) → RepAt left right xs c t n → Distinct t → New (slot_in x t axis) → RepAt left' right' xs' (suc c) (graft c x t axis) n
  graft_root gone axis n r d N = absurd r
  graft_root bad axis n r d N = absurd r
  graft_root (node m p a b) axis n r d N =
      grafted_root m p a b (graft c x (node m p a b) axis) n r.0
      (body m p a b axis (r.1, r.2) d N (graft_rep a (next_axis axis) m _ r.2.0 d.1.0) (graft_rep b (next_axis axis) m _ r.2.1 d.1.1))
