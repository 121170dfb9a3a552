-- Lists that inserts filled: what they draw, that each insert goes through, and which measurements the walk then comes to. Assumes nothing.
use mathlib.Core.Path.{◌≡◌, refl, sym, ap, ◌∙◌, subst}
use mathlib.Core.Logic.{⊎_elim}
use mathlib.Core.Bool.{Bool, true, false, cond}
use mathlib.Core.List.{List, [], ◌∷◌, ◌++◌, map}
use Prim.Native.Nat.{ℕ, suc, ◌+◌, ◌*◌, ◌-◌, ◌<◌, ◌≤◌}
use native.Mathlib.Omega.{arith}
use lib.ListN.{length, get_or, set, length-set}
use lib.Seq.{get_or-set_same, get_or-set_other}
use lib.Ieee.{Float, nan}
use Rattle.points.specs.declared.Point3.{Point3}
use Rattle.points.specs.Points.{point_at}
use Rattle.kdtree.specs.declared.BoundingBox.{BoundingBox}
use Rattle.kdtree.specs.declared.Slot.{Slot}
use Rattle.kdtree.specs.declared.Slot.TheVariants.{Left, Right, Blocked}
use Rattle.std.proofs.Common.{Ok}
use Rattle.kdtree.specs.Geometry.{next_axis, left_first, goes_left, box_at, grown}
use Rattle.kdtree.specs.Tree.{Tree, gone, bad, node}
use Rattle.kdtree.specs.Insert.{Lists, stored_as, tree_of, side_slot, slot_in, written, left_linked, right_linked, linked_at}
use Rattle.kdtree.specs.Unpruned.{Item, order, size}
use Rattle.kdtree.proofs.Nodes.{All}
use Rattle.kdtree.proofs.Whole as whole
use Rattle.kdtree_laws.specs.Demand3.{Numbered, Put, here, there, Reordered, none, more, Bare, insert_into, tree_in, standing, root_in}
use Rattle.kdtree_laws.proofs.Pruned.{Points, Clean}
use Rattle.kdtree_laws.proofs.Lists.{put_after, put_before, put_map, map_same, reordered_snoc, each_to}
use Rattle.kdtree_laws.proofs.First.{all_order}
use Rattle.kdtree_laws.proofs.Rep.{Mem, Distinct, graft, graft_size, graft_distinct, Rep, RepAt, rep_clean, rep_below, rep_at, Owner, owner_in, New, graft_root}
use Rattle.kdtree_laws.proofs.Sides.{Sorted, graft_sorted, at_inside, graft_inside}

-- ---- a clean tree has a slot for every point

abbrev IsNode : Tree → Type 0
IsNode gone = ⊥
IsNode bad = ⊥
IsNode (node n p a b) = Unit

abbrev Open : Slot → Type 0
Open (Left s) = Unit
Open (Right s) = Unit
Open Blocked = ⊥

module _ (x : Point3) where
  side_some : (t : Tree) (v w : Slot) → Clean t → Open v → (IsNode t → Open w) → Open (side_slot t v w)
  unfolding side_slot
  side_some gone v w c a b = a
  side_some bad v w c a b = c
  side_some (node n p l r) v w c a b = b tt

  slot_some : (t : Tree) (axis : ℕ) → Clean t → IsNode t → Open (slot_in x t axis)
  unfolding slot_in
  slot_some gone axis c i = i
  slot_some bad axis c i = i
  slot_some (node n p l r) axis c i = go (goes_left x p axis) (slot_some l (next_axis axis) c.0) (slot_some r (next_axis axis) c.1)
    where
      go : (g : Bool) → (IsNode l → Open (slot_in x l (next_axis axis))) → (IsNode r → Open (slot_in x r (next_axis axis)))
          → Open (cond g (side_slot l (Left n) (slot_in x l (next_axis axis))) (side_slot r (Right n) (slot_in x r (next_axis axis))))
      go true u v = side_some l (Left n) (slot_in x l (next_axis axis)) c.0 tt u
      go false u v = side_some r (Right n) (slot_in x r (next_axis axis)) c.1 tt v

-- ---- the lists after a write

point_eq : (u v : Point3) → u.x ≡ v.x → u.y ≡ v.y → u.z ≡ v.z → u ≡ v
point_eq u v a b c = λ i. record { x = a i; y = b i; z = c i }

module _ (xs : List Float) (c : ℕ) (p : Point3) where
  abbrev put : List Float
  put = set (set (set xs (3 * c) p.x) (3 * c + 1) p.y) (3 * c + 2) p.z

  put_other : (j : ℕ) → (j ≡ 3 * c → ⊥) → (j ≡ 3 * c + 1 → ⊥) → (j ≡ 3 * c + 2 → ⊥) → get_or put j nan ≡ get_or xs j nan
  put_other j f g h =
      get_or-set_other (set (set xs (3 * c) p.x) (3 * c + 1) p.y) (3 * c + 2) j p.z nan h
      ∙ get_or-set_other (set xs (3 * c) p.x) (3 * c + 1) j p.y nan g
      ∙ get_or-set_other xs (3 * c) j p.x nan f

  put_points : (i : ℕ) → i < c → point_at put i ≡ point_at xs i
  unfolding point_at
  put_points i l =
      point_eq (point_at put i) (point_at xs i) (put_other (3 * i) (λ e. omega arith) (λ e. omega arith) (λ e. omega arith))
      (put_other (3 * i + 1) (λ e. omega arith) (λ e. omega arith) (λ e. omega arith))
      (put_other (3 * i + 2) (λ e. omega arith) (λ e. omega arith) (λ e. omega arith))

  put_new : 3 * c + 2 < length xs → point_at put c ≡ p
  unfolding point_at
  put_new h =
      point_eq (point_at put c) p
      (get_or-set_other (set (set xs (3 * c) p.x) (3 * c + 1) p.y) (3 * c + 2) (3 * c) p.z nan (λ e. omega arith)
      ∙ get_or-set_other (set xs (3 * c) p.x) (3 * c + 1) (3 * c) p.y nan (λ e. omega arith)
      ∙ get_or-set_same xs (3 * c) p.x nan (omega arith))
      (get_or-set_other (set (set xs (3 * c) p.x) (3 * c + 1) p.y) (3 * c + 2) (3 * c + 1) p.z nan (λ e. omega arith)
      ∙ get_or-set_same (set xs (3 * c) p.x) (3 * c + 1) p.y nan (simp length-set (omega arith)))
      (get_or-set_same (set (set xs (3 * c) p.x) (3 * c + 1) p.y) (3 * c + 2) p.z nan (simp length-set h))

module _ (l : List ℕ) (c : ℕ) where
  other_one : (v i : ℕ) → i < c → get_or (set l c v) i 0 ≡ get_or l i 0
  other_one v i h = get_or-set_other l c i v 0 (λ e. omega arith)

  other_two : (s v w i : ℕ) → i < c → (i ≡ s → ⊥) → get_or (set (set l s w) c v) i 0 ≡ get_or l i 0
  other_two s v w i h f = get_or-set_other (set l s w) c i v 0 (λ e. omega arith) ∙ get_or-set_other l s i w 0 f

  at_one : (s v w : ℕ) → s < c → c < length l → get_or (set (set l s w) c v) s 0 ≡ w
  at_one s v w h g = get_or-set_other (set l s w) c s v 0 (λ e. omega arith) ∙ get_or-set_same l s w 0 (omega arith)

  last_one : (v : ℕ) → c < length l → get_or (set l c v) c 0 ≡ v
  last_one v h = get_or-set_same l c v 0 h

  last_two : (s v w : ℕ) → c < length l → get_or (set (set l s w) c v) c 0 ≡ v
  last_two s v w h = get_or-set_same (set l s w) c v 0 (simp length-set h)

left_right : (s i : ℕ) {A : Type 0} → Left s ≡ Right i → A
left_right s i e = let z : ◌≡◌ {A = ℕ} 0 1 = cc in absurd (omega arith)

left_blocked : (s : ℕ) → Left s ≡ Blocked → ⊥
left_blocked s e = let z : ◌≡◌ {A = ℕ} 0 1 = cc in absurd (omega arith)

right_blocked : (s : ℕ) → Right s ≡ Blocked → ⊥
right_blocked s e = let z : ◌≡◌ {A = ℕ} 0 1 = cc in absurd (omega arith)

left_left : (s i : ℕ) → Left s ≡ Left i → i ≡ s
left_left s i e = cc

right_right : (s i : ℕ) → Right s ≡ Right i → i ≡ s
right_right s i e = cc

module _ (a : Lists) (c : ℕ) (p : Point3) (num : ℕ) (h : whole.Room a c) where
  abbrev to_left : ℕ → Lists
  to_left s = written (linked_at (Left s) c a) c p num

  abbrev to_right : ℕ → Lists
  to_right s = written (linked_at (Right s) c a) c p num

  new_at_left : (s : ℕ) → s < c → New a.left a.right a.positions c p (to_left s).left (to_left s).right (to_left s).positions (Left s)
  unfolding written linked_at left_linked right_linked
  new_at_left s l = record {
    other = λ i k f. (other_two a.left c s 65535 c i k f, other_one a.right c 65535 i k);
    at_left = λ i e. (
      ap (λ (j : ℕ). get_or (set (set a.left s c) c 65535) j 0) (left_left s i e) ∙ at_one a.left c s 65535 c l h.left,
      other_one a.right c 65535 i (let z = left_left s i e in omega arith),
    );
    at_right = λ i e. left_right s i e;
    new_left = last_two a.left c s 65535 c h.left;
    new_right = last_one a.right c 65535 h.right;
    points = put_points a.positions c p;
    new_point = put_new a.positions c p h.positions;
  }

  new_at_right : (s : ℕ) → s < c → New a.left a.right a.positions c p (to_right s).left (to_right s).right (to_right s).positions (Right s)
  unfolding written linked_at left_linked right_linked
  new_at_right s l = record {
    other = λ i k f. (other_one a.left c 65535 i k, other_two a.right c s 65535 c i k f);
    at_left = λ i e. left_right i s (sym e);
    at_right = λ i e. (
      other_one a.left c 65535 i (let z = right_right s i e in omega arith),
      ap (λ (j : ℕ). get_or (set (set a.right s c) c 65535) j 0) (right_right s i e) ∙ at_one a.right c s 65535 c l h.right,
    );
    new_left = last_one a.left c 65535 h.left;
    new_right = last_two a.right c s 65535 c h.right;
    points = put_points a.positions c p;
    new_point = put_new a.positions c p h.positions;
  }

-- ---- the drawn tree's nodes

module _ (left right : List ℕ) (xs : List Float) (count : ℕ) where
  pub root_clean : (t : Tree) (n : ℕ) → RepAt left right xs count t n → Clean t
  root_clean gone n r = absurd r
  root_clean bad n r = r
  root_clean (node m p a b) n r = (rep_clean left right xs count a m _ r.2.0, rep_clean left right xs count b m _ r.2.1)

  root_node : (t : Tree) (n : ℕ) → RepAt left right xs count t n → IsNode t
  root_node gone n r = r
  root_node bad n r = r
  root_node (node m p a b) n r = tt

  pub root_below : (t : Tree) (n i : ℕ) → RepAt left right xs count t n → Mem i t → i < count
  root_below gone n i r m = absurd m
  root_below bad n i r m = absurd m
  root_below (node k p a b) n i r m =
      let h = r.1.0 in
      ⊎_elim (λ e. omega arith) (⊎_elim (λ u. rep_below left right xs count a k _ i r.2.0 u) (λ u. rep_below left right xs count b k _ i r.2.1 u)) m

  rep_nodes : (t : Tree) (o l : ℕ) → Rep left right xs count t o l → All (λ n p. (n < count) × (p ≡ point_at xs n)) t
  rep_nodes gone o l r = tt
  rep_nodes bad o l r = tt
  rep_nodes (node n p a b) o l r = (r.1, (rep_nodes a n _ r.2.0, rep_nodes b n _ r.2.1))

  -- each node's place is below the count, and its point is the place's
  pub root_nodes : (t : Tree) (n : ℕ) → RepAt left right xs count t n → All (λ n p. (n < count) × (p ≡ point_at xs n)) t
  root_nodes gone n r = tt
  root_nodes bad n r = tt
  root_nodes (node m p a b) n r = (r.1, (rep_nodes a m _ r.2.0, rep_nodes b m _ r.2.1))

-- ---- the walk comes to the new node too, somewhere

module _ (q : Point3) (c : ℕ) (x : Point3) where
  pub order_graft : (t : Tree) (axis : ℕ) → Clean t → Put (record { place = c; point = x }) (order q t axis) (order q (graft c x t axis) axis)
  unfolding order graft
  order_graft gone axis k = go (left_first q x axis)
    where
      i : Item
      i = record { place = c; point = x }

      go : (f : Bool) → Put i [] (cond f (order q gone) (order q gone) (next_axis axis) ++ (i ∷ cond f (order q gone) (order q gone) (next_axis axis)))
      go true = here
      go false = here
  order_graft bad axis k = absurd k
  order_graft (node n p l r) axis k = go (goes_left x p axis) (order_graft l (next_axis axis) k.0) (order_graft r (next_axis axis) k.1)
    where
      i : Item
      i = record { place = c; point = x }

      m : Item
      m = record { place = n; point = p }

      sides : Bool → Tree → Tree → List Item
      sides f a b = cond f (order q a) (order q b) (next_axis axis) ++ (m ∷ cond f (order q b) (order q a) (next_axis axis))

      as_node : (g : Bool) (a b a' b' : Tree) → Put i (sides (left_first q p axis) l r) (cond g (sides (left_first q p axis) a b) (sides (left_first q p axis) a' b'))
          → Put i (sides (left_first q p axis) l r) (order q (cond g (node n p a b) (node n p a' b')) axis)
      as_node true a b a' b' u = u
      as_node false a b a' b' u = u

      either : (g f : Bool) → Put i (order q l (next_axis axis)) (order q (graft c x l (next_axis axis)) (next_axis axis))
          → Put i (order q r (next_axis axis)) (order q (graft c x r (next_axis axis)) (next_axis axis))
          → Put i (sides f l r) (cond g (sides f (graft c x l (next_axis axis)) r) (sides f l (graft c x r (next_axis axis))))
      either true true u v = put_before (m ∷ order q r (next_axis axis)) u
      either true false u v = put_after (order q r (next_axis axis)) (there u)
      either false true u v = put_after (order q l (next_axis axis)) (there v)
      either false false u v = put_before (m ∷ order q l (next_axis axis)) v

      go : (g : Bool) → Put i (order q l (next_axis axis)) (order q (graft c x l (next_axis axis)) (next_axis axis))
          → Put i (order q r (next_axis axis)) (order q (graft c x r (next_axis axis)) (next_axis axis))
          → Put i (sides (left_first q p axis) l r) (order q (cond g (node n p (graft c x l (next_axis axis)) r) (node n p l (graft c x r (next_axis axis)))) axis)
      go g u v = as_node g (graft c x l (next_axis axis)) r l (graft c x r (next_axis axis)) (either g (left_first q p axis) u v)

-- ---- a bare tree that inserts filled

-- the lists have kept their lengths
pub record SameLengths (a a' : Lists) : Type 0 where
  pub positions : length a'.positions ≡ length a.positions
  pub left : length a'.left ≡ length a.left
  pub right : length a'.right ≡ length a.right
  pub numbers : length a'.numbers ≡ length a.numbers

-- the measurements that the walk for q comes to in the tree d
abbrev pub comes_to : Lists → Point3 → Tree → List Numbered
comes_to a q d = map (λ (i : Item). standing a i.place) (order q d 0)

-- the lists draw a tree that holds m, the root, and ms, and nothing else
pub record Filled (m : Numbered) (ms : List Numbered) (t : Bare) : Type 0 where
  pub tree : Tree
  pub some : 0 < t.count
  pub small : t.count ≤ 16384
  pub whole : size tree ≡ t.count
  pub rep : RepAt t.lists.left t.lists.right t.lists.positions t.count tree 0
  pub distinct : Distinct tree
  pub sorted : Sorted tree 0
  pub inside : Points t.bounds tree
  pub root : root_in t ≡ m
  pub holds : (q : Point3) → Reordered (m ∷ ms) (comes_to t.lists q tree)

-- what an insert leaves
pub record Next (t : Bare) (x : Numbered) (m : Numbered) (ms : List Numbered) : Type 0 where
  pub lists : Lists
  pub bounds : BoundingBox
  pub is : insert_into t x ≡ stored_as (Ok bounds) lists
  pub same : SameLengths t.lists lists
  pub filled : Filled m ms (record { lists = lists; count = suc t.count; bounds = bounds })
  -- what stands where, the box and the tree, of a first insert and of a later one
  pub old : (i : ℕ) → i < t.count → standing lists i ≡ standing t.lists i
  pub own : standing lists t.count ≡ x
  pub starts : t.count ≡ 0 → (bounds ≡ box_at x.point) × (filled.tree ≡ node t.count x.point gone gone)
  pub grows : 0 < t.count → (bounds ≡ grown t.bounds x.point) × (filled.tree ≡ graft t.count x.point (tree_in t) 0)

number_eq : (u v : Numbered) → u.number ≡ v.number → u.point ≡ v.point → u ≡ v
number_eq u v a b = λ i. record { number = a i; point = b i }

-- the first insert
pub first : (t : Bare) (x : Numbered) → whole.Room t.lists t.count → t.count ≡ 0 → Next t x x []
unfolding written size order
first t x h z =
    let a = t.lists in
    let c = t.count in
    let p = x.point in
    let at_c : standing (written a c p x.number) c ≡ x =
    number_eq (standing (written a c p x.number) c) x (get_or-set_same a.numbers c x.number 0 h.numbers) (put_new a.positions c p h.positions) in
    record {
      lists = written a c p x.number;
      bounds = box_at p;
      is = sym (whole.first a c t.bounds p x.number h z (written a c p x.number) (box_at p) refl refl);
      same = record { positions = simp length-set; left = simp length-set; right = simp length-set; numbers = simp length-set };
      filled = record {
        tree = node c p gone gone;
        some = omega arith;
        small = let k = h.most in omega arith;
        whole = ap suc (sym z);
        rep = (z, (omega arith, sym (put_new a.positions c p h.positions)), (last_one a.left c 65535 h.left, last_one a.right c 65535 h.right));
        distinct = ((λ i m n. m), (tt, tt));
        sorted = ((tt, tt), (tt, tt));
        inside = (at_inside p, (tt, tt));
        root = ap (λ (i : ℕ). standing (written a c p x.number) i) (sym z) ∙ at_c;
        holds = λ q. alone q (left_first q p 0) at_c;
      };
      old = λ i l. absurd (omega arith);
      own = at_c;
      starts = λ k. (refl, refl);
      grows = λ k. absurd (omega arith);
    }
  where
    alone : (q : Point3) (f : Bool) → standing (written t.lists t.count x.point x.number) t.count ≡ x
        → Reordered (x ∷ [])
        (map (λ (i : Item). standing (written t.lists t.count x.point x.number) i.place)
        (cond f (order q gone) (order q gone) (next_axis 0) ++ ((record { place = t.count; point = x.point }) ∷ cond f (order q gone) (order q gone) (next_axis 0))))
    alone q true e = subst (λ (y : Numbered). Reordered (x ∷ []) (y ∷ [])) (sym e) (more none here)
    alone q false e = subst (λ (y : Numbered). Reordered (x ∷ []) (y ∷ [])) (sym e) (more none here)

-- each later insert
module _ (t : Bare) (x m : Numbered) (ms : List Numbered) (h : whole.Room t.lists t.count) (F : Filled m ms t) where
  abbrev a : Lists
  a = t.lists

  abbrev c : ℕ
  c = t.count

  abbrev p : Point3
  p = x.point

  abbrev n : ℕ
  n = x.number

  clean : Clean F.tree
  clean = root_clean a.left a.right a.positions c F.tree 0 F.rep

  -- what an insert writes, wherever it links: the numbers and the points
  record Wrote (a' : Lists) : Type 0 where
    new : New a.left a.right a.positions c p a'.left a'.right a'.positions (slot_in p F.tree 0)
    old : (i : ℕ) → i < c → standing a' i ≡ standing a i
    own : standing a' c ≡ x

  next_holds : (a' : Lists) → Wrote a' → (q : Point3) → Reordered (m ∷ (ms ++ (x ∷ []))) (comes_to a' q (graft c p F.tree 0))
  next_holds a' w q =
      let f : Item → Numbered = λ (i : Item). standing a i.place in
      let f' : Item → Numbered = λ (i : Item). standing a' i.place in
      let e : map f' (order q F.tree 0) ≡ map f (order q F.tree 0) =
      map_same f' f (order q F.tree 0)
      (each_to (λ (i : Item). (i.place < c) × (i.point ≡ point_at a.positions i.place)) (λ (i : Item). f' i ≡ f i) (λ i k. w.old i.place k.0) (order q F.tree 0)
      (all_order q (λ k y. (k < c) × (y ≡ point_at a.positions k)) F.tree 0 (root_nodes a.left a.right a.positions c F.tree 0 F.rep))) in
      reordered_snoc (F.holds q)
      (subst (λ (l : List Numbered). Put x l (comes_to a' q (graft c p F.tree 0))) e
      (subst (λ (y : Numbered). Put y (map f' (order q F.tree 0)) (comes_to a' q (graft c p F.tree 0))) w.own
      (put_map f' (order_graft q c p F.tree 0 clean))))

  unfoldable next_filled : (a' : Lists) → Wrote a' → Filled m (ms ++ (x ∷ [])) (record { lists = a'; count = suc c; bounds = grown t.bounds p })
  next_filled a' w = record {
    tree = graft c p F.tree 0;
    some = omega arith;
    small = let z = h.most in omega arith;
    whole = graft_size c p F.tree 0 clean ∙ ap suc F.whole;
    rep = graft_root a.left a.right a.positions c p a'.left a'.right a'.positions F.tree 0 0 F.rep F.distinct w.new;
    distinct = graft_distinct c p F.tree 0 (λ k. let z = root_below a.left a.right a.positions c F.tree 0 c F.rep k in omega arith) F.distinct;
    sorted = graft_sorted c p F.tree 0 F.sorted;
    inside = graft_inside c p F.tree t.bounds F.inside;
    root = w.old 0 F.some ∙ F.root;
    holds = next_holds a' w;
  }

  unfolds : (f : ℕ) → c - 0 ≤ f → slot_in p F.tree 0 ≡ slot_in p (tree_of a c f) 0
  unfolds f l = ap (λ (d : Tree). slot_in p d 0) (sym (rep_at a.left a.right a.positions c F.small F.tree 0 f l F.rep))

  -- the numbers and the points do not depend on the link
  module _ (a' : Lists) (ep : a'.positions ≡ a.positions) (en : a'.numbers ≡ a.numbers) where
    written_old : (i : ℕ) → i < c → standing (written a' c p n) i ≡ standing a i
    unfolding written
    written_old i l =
        number_eq (standing (written a' c p n) i) (standing a i) (get_or-set_other a'.numbers c i n 0 (λ e. omega arith) ∙ ap (λ (k : List ℕ). get_or k i 0) en)
        (put_points a'.positions c p i l ∙ ap (λ (k : List Float). point_at k i) ep)

    written_own : standing (written a' c p n) c ≡ x
    unfolding written
    written_own =
        number_eq (standing (written a' c p n) c) x (get_or-set_same a'.numbers c n 0 (subst (λ (k : List ℕ). c < length k) (sym en) h.numbers))
        (put_new a'.positions c p (subst (λ (k : List Float). 3 * c + 2 < length k) (sym ep) h.positions))

  same_left : (s : ℕ) → SameLengths a (to_left a c p n h s)
  unfolding written linked_at left_linked right_linked
  same_left s = record { positions = simp length-set; left = simp length-set; right = simp length-set; numbers = simp length-set }

  same_right : (s : ℕ) → SameLengths a (to_right a c p n h s)
  unfolding written linked_at left_linked right_linked
  same_right s = record { positions = simp length-set; left = simp length-set; right = simp length-set; numbers = simp length-set }

  -- EACH INSERT GOES THROUGH: no bad link is met, and the lists draw the tree with the new node
  pub next : Next t x m (ms ++ (x ∷ []))
  unfolding linked_at left_linked right_linked next_filled
  next = go (slot_in p F.tree 0) refl (slot_some p F.tree 0 clean (root_node a.left a.right a.positions c F.tree 0 F.rep))
    where
      nz : c ≡ 0 → ⊥
      nz e = let z = F.some in omega arith

      drawn : graft c p F.tree 0 ≡ graft c p (tree_in t) 0
      drawn = ap (λ (d : Tree). graft c p d 0) (sym (rep_at a.left a.right a.positions c F.small F.tree 0 c (omega arith) F.rep))

      below : (s : ℕ) → Owner (slot_in p F.tree 0) s → s < c
      below s o = root_below a.left a.right a.positions c F.tree 0 s F.rep (owner_in p F.tree 0 s o)

      go : (sl : Slot) → slot_in p F.tree 0 ≡ sl → Open sl → Next t x m (ms ++ (x ∷ []))
      go (Left s) e u =
          let l = below s (subst (λ (k : Slot). Owner k s) (sym e) refl) in
          let a' = to_left a c p n h s in
          record {
            lists = a';
            bounds = grown t.bounds p;
            is = sym (whole.at_slot a c t.bounds p n h nz (slot_in p F.tree 0) unfolds a' (grown t.bounds p) (λ z. left_blocked s (sym e ∙ z)) (ap (λ (k : Slot). written (linked_at k c a) c p n) (sym e)) refl);
            same = same_left s;
            filled = next_filled a' (record {
              new = subst (λ (k : Slot). New a.left a.right a.positions c p a'.left a'.right a'.positions k) (sym e) (new_at_left a c p n h s l);
              old = written_old (linked_at (Left s) c a) refl refl;
              own = written_own (linked_at (Left s) c a) refl refl;
            });
            old = written_old (linked_at (Left s) c a) refl refl;
            own = written_own (linked_at (Left s) c a) refl refl;
            starts = λ k. absurd (nz k);
            grows = λ k. (refl, drawn);
          }
      go (Right s) e u =
          let l = below s (subst (λ (k : Slot). Owner k s) (sym e) refl) in
          let a' = to_right a c p n h s in
          record {
            lists = a';
            bounds = grown t.bounds p;
            is = sym (whole.at_slot a c t.bounds p n h nz (slot_in p F.tree 0) unfolds a' (grown t.bounds p) (λ z. right_blocked s (sym e ∙ z)) (ap (λ (k : Slot). written (linked_at k c a) c p n) (sym e)) refl);
            same = same_right s;
            filled = next_filled a' (record {
              new = subst (λ (k : Slot). New a.left a.right a.positions c p a'.left a'.right a'.positions k) (sym e) (new_at_right a c p n h s l);
              old = written_old (linked_at (Right s) c a) refl refl;
              own = written_own (linked_at (Right s) c a) refl refl;
            });
            old = written_old (linked_at (Right s) c a) refl refl;
            own = written_own (linked_at (Right s) c a) refl refl;
            starts = λ k. absurd (nz k);
            grows = λ k. (refl, drawn);
          }
      go Blocked e u = absurd u
