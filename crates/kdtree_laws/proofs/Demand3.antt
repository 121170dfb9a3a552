-- THE THEOREMS: what the bare tree's answers mean for the measurements that were inserted. Assumes nothing.
use mathlib.Core.Path.{◌≡◌, refl, sym, ap, ◌∙◌, subst}
use mathlib.Core.Logic.{◌⊎◌, inl, inr}
use mathlib.Core.Bool.{true, false, not}
use mathlib.Core.List.{List, [], ◌∷◌, ◌++◌, map, append_assoc, append-nil}
use Prim.Native.Nat.{ℕ, suc, ◌+◌, ◌<◌, ◌≤◌}
use native.Mathlib.Omega.{arith}
use lib.ListN.{length, get_or}
use lib.Dec.{T, T_not}
use lib.Ieee.{Float, lt}
use borrow.Author.Tests.{le-leb}
use Rattle.std.proofs.Common.{Option, Some, None, Ok}
use Rattle.points.specs.declared.Point3.{Point3}
use Rattle.points.specs.Points.{point_at, dist_sq_of, Finite}
use Rattle.floats.proofs.Cross.{of_taken, of_left}
use Rattle.floats.proofs.Preorder.{number, nan_lt, lt→le, le→not_lt, lt_irrefl_f}
use Rattle.kdtree.specs.declared.BoundingBox.{BoundingBox}
use Rattle.kdtree.specs.declared.Best.{Best}
use Rattle.kdtree.specs.Tree.{Tree, gone, bad, node}
use Rattle.kdtree.specs.Search.{search}
use Rattle.kdtree.specs.Unpruned.{Pick, pick_of, Item, walk, order, size}
use Rattle.kdtree.specs.Insert.{Lists, Stored}
use Rattle.kdtree.specs.Nearest.{start_at, start_at_root, found_from, number_of}
use Rattle.kdtree.proofs.Nodes.{All}
use Rattle.kdtree.proofs.Whole as whole
use Rattle.lists.specs.Each.{Each, In}
use Rattle.kdtree_laws.specs.Demand3.{Numbered, dist_to, Nearer, NotNearer, SomeNan, Reordered, Bare, empty, kept, insert_into, fill, answers, Accepted, RoomFor, nearest_in, search_in, tree_in, standing, root_in, walk_names, visiting, FirstNearest, Alone, NamesNearest, Demand3}
use Rattle.points.proofs.Distance.{dist_number, dist_nan}
use Rattle.kdtree_laws.proofs.Pruned.{Agrees, prune, walk_none}
use Rattle.lists.proofs.Laws.{each_append}
use Rattle.kdtree_laws.proofs.Lists.{each_left, each_right, each_in, each_to, each_both, each_reordered, each_ordered, in_reordered, in_ordered, in_middle, reordered_again, map_append}
use Rattle.kdtree_laws.proofs.First.{dist_of, scan, walk_scan, all_order, scan_least, Named, scan_first}
use Rattle.kdtree_laws.proofs.Rep.{rep_at}
use Rattle.kdtree_laws.proofs.Sides.{sorted_within}
use Rattle.kdtree_laws.proofs.Filled.{SameLengths, comes_to, Filled, Next, first, next, root_clean, root_nodes}

-- ---- filling

-- the rest is inserted: the tree then holds m, the root, and the held ones
record Ended (m : Numbered) (held rest : List Numbered) (t : Bare) : Type 0 where
  filled : Filled m held (fill rest t)
  counted : (fill rest t).count ≡ t.count + length rest
  same : SameLengths t.lists (fill rest t).lists
  accepted : Each Accepted (answers rest t)

-- room for one more, where there is room for n in all
pub room_now : (a : Lists) (c n : ℕ) → RoomFor a n → c < n → whole.Room a c
room_now a c n r h =
    let k = r.most in
    let p = r.positions in
    let l = r.left in
    let d = r.right in
    let s = r.numbers in
    record { most = omega arith; positions = omega arith; left = omega arith; right = omega arith; numbers = omega arith }

pub room_kept : (a a' : Lists) (n n' : ℕ) → SameLengths a a' → n ≡ n' → RoomFor a n → RoomFor a' n'
room_kept a a' n n' s e r =
    let k = r.most in
    let p = r.positions in
    let l = r.left in
    let d = r.right in
    let u = r.numbers in
    let sp = s.positions in
    let sl = s.left in
    let sr = s.right in
    let sn = s.numbers in
    record { most = omega arith; positions = omega arith; left = omega arith; right = omega arith; numbers = omega arith }

same_lengths : (a b c : Lists) → SameLengths a b → SameLengths b c → SameLengths a c
same_lengths a b c s r = record { positions = r.positions ∙ s.positions; left = r.left ∙ s.left; right = r.right ∙ s.right; numbers = r.numbers ∙ s.numbers }

-- the bare tree after an insert that went through
abbrev pub afterwards : (t : Bare) (x m : Numbered) (ms : List Numbered) → Next t x m ms → Bare
afterwards t x m ms N = record { lists = N.lists; count = suc t.count; bounds = N.bounds }

pub keeps : (t : Bare) (x m : Numbered) (ms : List Numbered) (N : Next t x m ms) → kept (insert_into t x) t ≡ afterwards t x m ms N
unfolding kept
keeps t x m ms N = ap (λ (s : Stored). kept s t) N.is

takes : (t : Bare) (x m : Numbered) (ms : List Numbered) (N : Next t x m ms) → Accepted (insert_into t x).out
takes t x m ms N = subst (λ (s : Stored). Accepted s.out) (sym N.is) tt

-- the rest follows an insert that went through
goes_on : (t : Bare) (x m : Numbered) (ms held rest : List Numbered) (N : Next t x m ms) → Ended m held rest (afterwards t x m ms N) → Ended m held (x ∷ rest) t
unfolding fill answers
goes_on t x m ms held rest N E =
    let t' = afterwards t x m ms N in
    let k = keeps t x m ms N in
    record {
      filled = subst (λ (b : Bare). Filled m held (fill rest b)) (sym k) E.filled;
      counted = ap (λ (b : Bare). (fill rest b).count) k ∙ (let c = E.counted in omega arith);
      same = subst (λ (b : Bare). SameLengths t.lists (fill rest b).lists) (sym k) (same_lengths t.lists N.lists (fill rest t').lists N.same E.same);
      accepted = (takes t x m ms N, subst (λ (b : Bare). Each Accepted (answers rest b)) (sym k) E.accepted);
    }

fills : (rest : List Numbered) (m : Numbered) (ms : List Numbered) (t : Bare) → Filled m ms t → RoomFor t.lists (t.count + length rest) → Ended m (ms ++ rest) rest t
unfolding fill answers
fills [] m ms t F r = record {
  filled = subst (λ (l : List Numbered). Filled m l t) (sym (append-nil ms)) F;
  counted = omega arith;
  same = record { positions = refl; left = refl; right = refl; numbers = refl };
  accepted = tt;
}
fills (x ∷ rest) m ms t F r =
    let N = next t x m ms (room_now t.lists t.count (t.count + length (x ∷ rest)) r (omega arith)) F in
    let t' = afterwards t x m (ms ++ (x ∷ [])) N in
    goes_on t x m (ms ++ (x ∷ [])) (ms ++ (x ∷ rest)) rest N
    (subst (λ (l : List Numbered). Ended m l rest t') (append_assoc ms (x ∷ []) rest)
    (fills rest m (ms ++ (x ∷ [])) t' N.filled (room_kept t.lists N.lists (t.count + length (x ∷ rest)) (suc t.count + length rest) N.same (omega arith) r)))

-- ---- lists of items and of measurements

all_any : (P : ℕ → Point3 → Type 0) (t : Tree) → ((n : ℕ) (p : Point3) → P n p) → All P t
all_any P gone f = tt
all_any P bad f = tt
all_any P (node n p l r) f = (f n p, (all_any P l f, all_any P r f))

-- what holds of the items' points holds of the measurements that stand at their places
pub each_standing : (a : Lists) (P : Point3 → Type 0) (l : List Item) → Each (λ (i : Item). i.point ≡ point_at a.positions i.place) l → Each (λ (i : Item). P i.point) l
    → Each (λ (x : Numbered). P x.point) (map (λ (i : Item). standing a i.place) l)
each_standing a P [] e h = tt
each_standing a P (i ∷ l) e h = (subst P e.0 h.0, each_standing a P l e.1 h.1)

-- and the other way round
each_items : (a : Lists) (P : Point3 → Type 0) (l : List Item) → Each (λ (i : Item). i.point ≡ point_at a.positions i.place) l
    → Each (λ (x : Numbered). P x.point) (map (λ (i : Item). standing a i.place) l) → Each (λ (i : Item). P i.point) l
each_items a P [] e h = tt
each_items a P (i ∷ l) e h = (subst P (sym e.0) h.0, each_items a P l e.1 h.1)

-- what a scan from the first place names is the first nearest of that place and the items
module _ (a : Lists) (q : Point3) (items : List Item) (points : Each (λ (i : Item). i.point ≡ point_at a.positions i.place) items)
    (numbers : Each (λ (i : Item). T (number (dist_of q i))) items) where
  abbrev root : Numbered
  root = standing a 0

  abbrev begin : Pick
  begin = record { place = 0; dist = dist_to q root }

  abbrev placed : List Item → List Numbered
  placed = map (λ (i : Item). standing a i.place)

  abbrev NamedBy : Pick → Type 0
  NamedBy k = FirstNearest q (standing a k.place) (root ∷ placed items)

  root_named : Each (λ (i : Item). lt (dist_of q i) begin.dist ≡ false) items → NamedBy begin
  root_named h = record {
    before = [];
    after = placed items;
    split = refl;
    before_farther = tt;
    after_not_nearer = each_standing a (λ (p : Point3). T (not (lt (dist_sq_of p q) begin.dist))) items points
        (each_to (λ (i : Item). lt (dist_of q i) begin.dist ≡ false) (λ (i : Item). T (not (lt (dist_of q i) begin.dist))) (λ i e. of_left e) items h);
  }

  item_named : (n : Named q begin items) → Each (λ (i : Item). lt (dist_of q i) (dist_of q n.item) ≡ false) items → NamedBy (record { place = n.item.place; dist = dist_of q n.item })
  item_named n h =
      let At : Item → Type 0 = λ (i : Item). i.point ≡ point_at a.positions i.place in
      let d : Float = dist_to q (standing a n.item.place) in
      let ps = subst (Each At) n.split points in
      let own = (each_right At n.before (n.item ∷ n.after) ps).0 in
      let e : dist_of q n.item ≡ d = ap (λ (p : Point3). dist_sq_of p q) own in
      let Not : Item → Type 0 = λ (i : Item). lt (dist_of q i) (dist_of q n.item) ≡ false in
      let hs = each_right Not n.before (n.item ∷ n.after) (subst (Each Not) n.split h) in
      let Num : Item → Type 0 = λ (i : Item). T (number (dist_of q i)) in
      let ns = each_left Num n.before (n.item ∷ n.after) (subst (Each Num) n.split numbers) in
      record {
        before = root ∷ placed n.before;
        after = placed n.after;
        split = ap (λ (l : List Item). root ∷ placed l) n.split ∙ ap (λ (l : List Numbered). root ∷ l) (map_append (λ (i : Item). standing a i.place) n.before (n.item ∷ n.after));
        before_farther = (
          subst (λ (z : Float). T (lt z begin.dist)) e (of_taken n.start_farther),
          each_standing a (λ (p : Point3). T (lt d (dist_sq_of p q))) n.before (each_left At n.before (n.item ∷ n.after) ps)
              (each_both Num (λ (i : Item). T (number (dist_of q i)) → lt (dist_of q n.item) (dist_of q i) ≡ true) (λ (i : Item). T (lt d (dist_of q i)))
              (λ i k f. subst (λ (z : Float). T (lt z (dist_of q i))) e (of_taken (f k))) n.before ns n.before_farther),
        );
        after_not_nearer = each_standing a (λ (p : Point3). T (not (lt (dist_sq_of p q) d))) n.after (each_right At n.before (n.item ∷ n.after) ps).1
            (each_to Not (λ (i : Item). T (not (lt (dist_of q i) d))) (λ i k. subst (λ (z : Float). T (not (lt (dist_of q i) z))) e (of_left k)) n.after hs.1);
      }

  scan_names : NamedBy (scan q begin items)
  scan_names = go (scan_first q items begin) (scan_least q items begin)
    where
      go : (scan q begin items ≡ begin) ⊎ Named q begin items → Each (λ (i : Item). lt (dist_of q i) (scan q begin items).dist ≡ false) items → NamedBy (scan q begin items)
      go (inl e) h = subst NamedBy (sym e) (root_named (subst (λ (k : Pick). Each (λ (i : Item). lt (dist_of q i) k.dist ≡ false) items) e h))
      go (inr n) h = subst NamedBy (sym n.is) (item_named n (subst (λ (k : Pick). Each (λ (i : Item). lt (dist_of q i) k.dist ≡ false) items) n.is h))

agrees_number : (numbers : List ℕ) (k : Pick) (v : ℕ) (w : Option Best) → Agrees k v w → number_of numbers w ≡ Ok (Some (get_or numbers k.place 0))
unfolding number_of pick_of
agrees_number numbers k v (Some r) a = ap (λ (k : Pick). Ok (Some (get_or numbers k.place 0))) a.0
agrees_number numbers k v None a = absurd a

pub record Visits (t : Bare) (q : Point3) : Type 0 where
  pub best : Best
  pub is : search_in t q ≡ Some best
  pub bounded : best.visits ≤ t.count

agrees_visits : (t : Bare) (q : Point3) (k : Pick) (w : Option Best) → search_in t q ≡ w → Agrees k t.count w → Visits t q
agrees_visits t q k (Some r) e a = record { best = r; is = e; bounded = a.1 }
agrees_visits t q k None e a = absurd a

first_in : (q : Point3) (m : Numbered) (l : List Numbered) → FirstNearest q m l → In m l
first_in q m l f = subst (In m) (sym f.split) (in_middle f.before f.after m)

first_least : (q : Point3) (m : Numbered) (l : List Numbered) → FirstNearest q m l → Each (λ (x : Numbered). NotNearer q x m) l
first_least q m l f =
    let P : Numbered → Type 0 = λ (x : Numbered). NotNearer q x m in
    subst (Each P) (sym f.split)
    (each_append P f.before (m ∷ f.after)
    (each_to (λ (x : Numbered). Nearer q m x) P (λ x h. le→not_lt (dist_to q m) (dist_to q x) (lt→le (dist_to q m) (dist_to q x) h)) f.before f.before_farther)
    (lt_irrefl_f (dist_to q m), f.after_not_nearer))

-- ---- an empty tree names nothing

pub empty_names_nothing : (a : Lists) (b : BoundingBox) (q : Point3) → nearest_in (empty a b) q ≡ Ok None
empty_names_nothing a b q =
    sym (whole.nothing_in a 0 b q (simp (le-leb 0 (length a.positions) (omega arith), le-leb 0 (length a.left) (omega arith), le-leb 0 (length a.right) (omega arith), le-leb 0 (length a.numbers) (omega arith))) refl)

-- ---- a tree with the measurements m, inserted first, and ms, inserted in this order

module _ (a : Lists) (b : BoundingBox) (m : Numbered) (ms : List Numbered) (room : RoomFor a (length (m ∷ ms))) where
  abbrev tree : Bare
  tree = fill (m ∷ ms) (empty a b)

  made : Ended m ms (m ∷ ms) (empty a b)
  made =
      let t : Bare = empty a b in
      let N = first t m (room_now a 0 (length (m ∷ ms)) room (omega arith)) refl in
      goes_on t m m [] ms ms N (fills ms m [] (afterwards t m m [] N) N.filled (room_kept a N.lists (length (m ∷ ms)) (suc 0 + length ms) N.same (omega arith) room))

  -- NO INSERT IS REFUSED, 9 included
  pub never_refused : Each Accepted (answers (m ∷ ms) (empty a b))
  never_refused = made.accepted

  pub count_is : tree.count ≡ length (m ∷ ms)
  count_is = let z = made.counted in omega arith

  abbrev F : Filled m ms tree
  F = made.filled

  -- the root is the first that was inserted
  pub root_is : root_in tree ≡ m
  root_is = F.root

  long : whole.Readable tree.lists tree.count
  long =
      let r = room_kept a tree.lists (length (m ∷ ms)) tree.count made.same (sym count_is) room in
      record { most = r.most; positions = r.positions; left = r.left; right = r.right; numbers = r.numbers }

  nonempty : tree.count ≡ 0 → ⊥
  nonempty e = let z = F.some in omega arith

  -- the tree that the links draw is the one that the inserts grew
  tree_is : F.tree ≡ tree_in tree
  tree_is = sym (rep_at tree.lists.left tree.lists.right tree.lists.positions tree.count F.small F.tree 0 tree.count (omega arith) F.rep)

  -- THE WALK COMES TO EACH MEASUREMENT ONCE
  pub visits_all : (q : Point3) → Reordered (m ∷ ms) (visiting tree q)
  unfolding visiting
  visits_all q = subst (λ (d : Tree). Reordered (m ∷ ms) (comes_to tree.lists q d)) tree_is (F.holds q)

  module _ (q : Point3) where
    abbrev start : Pick
    start = record { place = 0; dist = dist_to q (root_in tree) }

    -- the pruned search agrees with the unpruned walk, whatever the floats
    agrees : Agrees (walk q (tree_in tree) 0 start) tree.count (search_in tree q)
    unfolding found_from start_at pick_of
    agrees =
        let c = root_clean tree.lists.left tree.lists.right tree.lists.positions tree.count F.tree 0 F.rep in
        let s : Best = start_at_root tree.lists.positions q in
        let z = F.whole in
        let v : 0 + size F.tree ≡ tree.count = omega arith in
        subst (λ (d : Tree). Agrees (walk q d 0 start) tree.count (search tree.count q d tree.bounds 0 s)) tree_is
        (subst (λ (v : ℕ). Agrees (walk q F.tree 0 start) v (search tree.count q F.tree tree.bounds 0 s)) v
        (prune tree.count q F.tree tree.bounds 0 s (sorted_within F.tree tree.bounds 0 c F.sorted F.inside) (omega arith)))

    -- THE NEAREST NAMES WHAT THE UNPRUNED WALK NAMES, whatever the floats
    pub names : nearest_in tree q ≡ Ok (Some (walk_names tree q).number)
    unfolding walk_names
    names =
        sym (whole.read tree.lists tree.count tree.bounds q long nonempty (search_in tree q) refl)
        ∙ agrees_number tree.lists.numbers (walk q (tree_in tree) 0 start) tree.count (search_in tree q) agrees

    -- IT VISITS AT MOST AS MANY PLACES AS ARE TAKEN: no refusal 9
    pub visits_bounded : Visits tree q
    visits_bounded = agrees_visits tree q (walk q (tree_in tree) 0 start) (search_in tree q) refl agrees

    -- A QUERY WITH A NAN COORDINATE GIVES THE ROOT'S NUMBER
    pub nan_query : SomeNan q → nearest_in tree q ≡ Ok (Some m.number)
    unfolding walk_names
    nan_query n =
        let d : (k : ℕ) (p : Point3) → lt (dist_sq_of p q) start.dist ≡ false = λ k p. ap (λ (z : Float). lt z start.dist) (dist_nan p q n.which) ∙ nan_lt start.dist in
        names
        ∙ ap (λ (k : Pick). Ok (Some (get_or tree.lists.numbers k.place 0))) (walk_none q (tree_in tree) 0 start (all_any (λ k p. lt (dist_sq_of p q) start.dist ≡ false) (tree_in tree) d))
        ∙ ap (λ (x : Numbered). Ok (Some x.number)) root_is

    -- ---- finite coordinates and a finite query: each distance is a number, an infinite one where it overflows

    module _ (finite : Each (λ (x : Numbered). Finite x.point) (m ∷ ms)) (fq : Finite q) where
      abbrev items : List Item
      items = order q (tree_in tree) 0

      points : Each (λ (i : Item). i.point ≡ point_at tree.lists.positions i.place) items
      points =
          subst (λ (d : Tree). Each (λ (i : Item). i.point ≡ point_at tree.lists.positions i.place) (order q d 0)) tree_is
          (each_to (λ (i : Item). (i.place < tree.count) × (i.point ≡ point_at tree.lists.positions i.place))
          (λ (i : Item). i.point ≡ point_at tree.lists.positions i.place) (λ i k. k.1) (order q F.tree 0)
          (all_order q (λ k p. (k < tree.count) × (p ≡ point_at tree.lists.positions k)) F.tree 0
          (root_nodes tree.lists.left tree.lists.right tree.lists.positions tree.count F.tree 0 F.rep)))

      numbers : Each (λ (i : Item). T (number (dist_of q i))) items
      unfolding visiting
      numbers =
          each_items tree.lists (λ (p : Point3). T (number (dist_sq_of p q))) items points
          (each_to (λ (x : Numbered). Finite x.point) (λ (x : Numbered). T (number (dist_to q x))) (λ x f. dist_number x.point q f fq) (visiting tree q)
          (each_reordered (λ (x : Numbered). Finite x.point) (visits_all q) finite))

      -- OF SEVERAL, THE FIRST THAT THE UNPRUNED WALK MEETS, the root before all
      pub first_met : FirstNearest q (walk_names tree q) (root_in tree ∷ visiting tree q)
      unfolding walk_names visiting
      first_met =
          subst (λ (k : Pick). FirstNearest q (standing tree.lists k.place) (root_in tree ∷ map (λ (i : Item). standing tree.lists i.place) items))
          (sym (walk_scan q (tree_in tree) 0 start)) (scan_names tree.lists q items points numbers)

      -- it is one of the measurements
      pub named_one : In (walk_names tree q) (m ∷ ms)
      named_one = go (first_in q (walk_names tree q) (root_in tree ∷ visiting tree q) first_met)
        where
          go : In (walk_names tree q) (root_in tree ∷ visiting tree q) → In (walk_names tree q) (m ∷ ms)
          go (inl e) = inl (e ∙ root_is)
          go (inr i) = in_ordered (visits_all q) (walk_names tree q) i

      -- NO MEASUREMENT IS NEARER than the one named
      pub least : Each (λ (x : Numbered). NotNearer q x (walk_names tree q)) (m ∷ ms)
      least =
          each_ordered (λ (x : Numbered). NotNearer q x (walk_names tree q)) (visits_all q)
          (first_least q (walk_names tree q) (root_in tree ∷ visiting tree q) first_met).1

      -- A MEASUREMENT THAT ALONE HAS THE SMALLEST DISTANCE IS NAMED
      pub unique : (x : Numbered) → Alone q x (m ∷ ms) → nearest_in tree q ≡ Ok (Some x.number)
      unique x al = names ∙ ap (λ (y : Numbered). Ok (Some y.number)) (go (each_in (λ (y : Numbered). (y ≡ x) ⊎ Nearer q x y) (m ∷ ms) (walk_names tree q) al.farther named_one))
        where
          go : (walk_names tree q ≡ x) ⊎ Nearer q x (walk_names tree q) → walk_names tree q ≡ x
          go (inl e) = e
          go (inr h) = absurd (T_not (lt (dist_to q x) (dist_to q (walk_names tree q))) (each_in (λ (y : Numbered). NotNearer q y (walk_names tree q)) (m ∷ ms) x least al.stands) h)

      -- ALL OF IT, of this tree
      pub names_nearest : NamesNearest q (m ∷ ms) tree
      names_nearest = record { named = names; one_of = named_one; least = least; root_one_of = inl root_is; meets = visits_all q; first_met = first_met; alone = unique }

-- ---- DEMAND 3: two trees with the same measurements in two orders

alone_reordered : (q : Point3) (x : Numbered) (k l : List Numbered) → Reordered k l → Alone q x k → Alone q x l
alone_reordered q x k l r al = record {
  stands = in_reordered r x al.stands;
  farther = each_reordered (λ (y : Numbered). (y ≡ x) ⊎ Nearer q x y) r al.farther;
}

nearest_reordered : (q : Point3) (k l : List Numbered) (t : Bare) → Reordered k l → NamesNearest q l t → NamesNearest q k t
nearest_reordered q k l t r N = record {
  named = N.named;
  one_of = in_ordered r (walk_names t q) N.one_of;
  least = each_ordered (λ (x : Numbered). NotNearer q x (walk_names t q)) r N.least;
  root_one_of = in_ordered r (root_in t) N.root_one_of;
  meets = reordered_again r N.meets;
  first_met = N.first_met;
  alone = λ x al. N.alone x (alone_reordered q x k l r al);
}

pub both_orders : (a a' : Lists) (b b' : BoundingBox) (m : Numbered) (ms : List Numbered) (n : Numbered) (ns : List Numbered) (q : Point3)
    → RoomFor a (length (m ∷ ms)) → RoomFor a' (length (n ∷ ns)) → Reordered (m ∷ ms) (n ∷ ns)
    → Each (λ (x : Numbered). Finite x.point) (m ∷ ms) → Finite q
    → Demand3 q (m ∷ ms) (fill (m ∷ ms) (empty a b)) (fill (n ∷ ns) (empty a' b'))
both_orders a a' b b' m ms n ns q r r' same f fq =
    let t = fill (m ∷ ms) (empty a b) in
    let t' = fill (n ∷ ns) (empty a' b') in
    let N = names_nearest a b m ms r q f fq in
    let N' = nearest_reordered q (m ∷ ms) (n ∷ ns) t' same (names_nearest a' b' n ns r' q (each_reordered (λ (x : Numbered). Finite x.point) same f) fq) in
    record {
      one = N;
      other = N';
      tie = (
        each_in (λ (x : Numbered). NotNearer q x (walk_names t' q)) (m ∷ ms) (walk_names t q) N'.least N.one_of,
        each_in (λ (x : Numbered). NotNearer q x (walk_names t q)) (m ∷ ms) (walk_names t' q) N.least N'.one_of,
      );
    }
