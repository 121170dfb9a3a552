-- The unpruned walk is a scan of its nodes in its order, and names a first minimum: the start, or the first of those met that none undercuts. Assumes nothing.
use mathlib.Core.Path.{◌≡◌, refl, sym, ap, ◌∙◌}
use mathlib.Core.Logic.{◌⊎◌, inl, inr}
use mathlib.Core.Bool.{Bool, true, false, cond}
use mathlib.Core.List.{List, [], ◌∷◌, ◌++◌}
use Prim.Native.Nat.{ℕ}
use native.Mathlib.Omega.{arith}
use lib.Dec.{T}
use lib.Ieee.{Float, lt}
use lib.Ieee.Bits.{is_true, is_false}
use Rattle.points.specs.declared.Point3.{Point3}
use Rattle.floats.proofs.Cross.{of_taken, of_left}
use Rattle.floats.proofs.Preorder.{number, lt_trans_f, lt_irrefl_f, not_lt_trans}
use Rattle.points.specs.Points.{dist_sq_of}
use Rattle.kdtree.specs.Geometry.{next_axis, left_first}
use Rattle.kdtree.specs.Tree.{Tree, gone, bad, node}
use Rattle.kdtree.specs.Unpruned.{Pick, Item, meet, walk, order}
use Rattle.kdtree.proofs.Nodes.{All}
use Rattle.lists.specs.Each.{Each}
use Rattle.lists.proofs.Laws.{each_append}

-- true is not false
pub tf : {A : Type 0} (b : Bool) → b ≡ true → b ≡ false → A
tf b p q = let z : ◌≡◌ {A = Bool} true false = cc in absurd (go z)
  where
    go : ◌≡◌ {A = Bool} true false → ⊥
    go z = let e : ◌≡◌ {A = ℕ} 0 1 = ap (λ b. cond b 0 1) z in omega arith

below_trans : (a b c : Float) → lt a b ≡ true → lt b c ≡ true → lt a c ≡ true
below_trans a b c h k = is_true _ (lt_trans_f a b c (of_taken h) (of_taken k))

module _ (q : Point3) where
  abbrev pub dist_of : Item → Float
  dist_of i = dist_sq_of i.point q

  abbrev pub scan : Pick → List Item → Pick
  scan k [] = k
  scan k (x ∷ xs) = scan (meet q x.place x.point k) xs

  scan_append : (k : Pick) (xs ys : List Item) → scan k (xs ++ ys) ≡ scan (scan k xs) ys
  scan_append k [] ys = refl
  scan_append k (x ∷ xs) ys = scan_append (meet q x.place x.point k) xs ys

  -- the walk is a scan of its nodes in its order
  pub walk_scan : (t : Tree) (axis : ℕ) (k : Pick) → walk q t axis k ≡ scan k (order q t axis)
  unfolding walk order
  walk_scan gone axis k = refl
  walk_scan bad axis k = refl
  walk_scan (node n p l r) axis k = go (left_first q p axis) (walk_scan l (next_axis axis)) (walk_scan r (next_axis axis))
    where
      i : Item
      i = record { place = n; point = p }

      two : (t u : Tree) → ((k : Pick) → walk q t (next_axis axis) k ≡ scan k (order q t (next_axis axis)))
          → ((k : Pick) → walk q u (next_axis axis) k ≡ scan k (order q u (next_axis axis)))
          → walk q u (next_axis axis) (meet q n p (walk q t (next_axis axis) k)) ≡ scan k (order q t (next_axis axis) ++ (i ∷ order q u (next_axis axis)))
      two t u a b =
          b (meet q n p (walk q t (next_axis axis) k))
          ∙ ap (λ (x : Pick). scan (meet q n p x) (order q u (next_axis axis))) (a k)
          ∙ sym (scan_append k (order q t (next_axis axis)) (i ∷ order q u (next_axis axis)))

      go : (g : Bool) → ((k : Pick) → walk q l (next_axis axis) k ≡ scan k (order q l (next_axis axis)))
          → ((k : Pick) → walk q r (next_axis axis) k ≡ scan k (order q r (next_axis axis)))
          → cond g (walk q r) (walk q l) (next_axis axis) (meet q n p (cond g (walk q l) (walk q r) (next_axis axis) k))
          ≡ scan k (cond g (order q l) (order q r) (next_axis axis) ++ (i ∷ cond g (order q r) (order q l) (next_axis axis)))
      go true a b = two l r a b
      go false a b = two r l b a

  -- the order has the tree's nodes, each of them
  module _ (P : ℕ → Point3 → Type 0) where
    abbrev OfItem : Item → Type 0
    OfItem i = P i.place i.point

    pub all_order : (t : Tree) (axis : ℕ) → All P t → Each OfItem (order q t axis)
    unfolding order
    all_order gone axis e = tt
    all_order bad axis e = tt
    all_order (node n p l r) axis e = go (left_first q p axis) (all_order l (next_axis axis) e.1.0) (all_order r (next_axis axis) e.1.1)
      where
        i : Item
        i = record { place = n; point = p }

        go : (g : Bool) → Each OfItem (order q l (next_axis axis)) → Each OfItem (order q r (next_axis axis))
            → Each OfItem (cond g (order q l) (order q r) (next_axis axis) ++ (i ∷ cond g (order q r) (order q l) (next_axis axis)))
        go true a b = each_append OfItem (order q l (next_axis axis)) (i ∷ order q r (next_axis axis)) a (e.0, b)
        go false a b = each_append OfItem (order q r (next_axis axis)) (i ∷ order q l (next_axis axis)) b (e.0, a)

  -- meeting a node: it wins, or the best stays
  data Met (n : ℕ) (p : Point3) (k : Pick) : Pick → Type 0 where
    won : lt (dist_sq_of p q) k.dist ≡ true → Met n p k (record { place = n; dist = dist_sq_of p q })
    stayed : lt (dist_sq_of p q) k.dist ≡ false → Met n p k k

  met : (n : ℕ) (p : Point3) (k : Pick) → Met n p k (meet q n p k)
  unfolding meet
  met n p k = go (lt (dist_sq_of p q) k.dist) refl
    where
      go : (c : Bool) → lt (dist_sq_of p q) k.dist ≡ c → Met n p k (cond c (record { place = n; dist = dist_sq_of p q }) k)
      go true e = won e
      go false e = stayed e

  -- what is not below the best stays so
  met_down : (n : ℕ) (p : Point3) (k k' : Pick) (d : Float) → Met n p k k' → lt d k.dist ≡ false → lt d k'.dist ≡ false
  met_down n p k k' d (stayed e) h = h
  met_down n p k k' d (won e) h = go (lt d (dist_sq_of p q)) refl
    where
      go : (c : Bool) → lt d (dist_sq_of p q) ≡ c → lt d (dist_sq_of p q) ≡ false
      go true z = tf (lt d k.dist) (below_trans d (dist_sq_of p q) k.dist z e) h
      go false z = z

  met_self : (n : ℕ) (p : Point3) (k k' : Pick) → Met n p k k' → lt (dist_sq_of p q) k'.dist ≡ false
  met_self n p k k' (won e) = is_false _ (lt_irrefl_f (dist_sq_of p q))
  met_self n p k k' (stayed e) = e

  scan_down : (xs : List Item) (k : Pick) (d : Float) → lt d k.dist ≡ false → lt d (scan k xs).dist ≡ false
  scan_down [] k d h = h
  scan_down (x ∷ xs) k d h = scan_down xs _ d (met_down x.place x.point k _ d (met x.place x.point k) h)

  -- NO NODE UNDERCUTS the one named
  pub scan_least : (xs : List Item) (k : Pick) → Each (λ i. lt (dist_of i) (scan k xs).dist ≡ false) xs
  scan_least [] k = tt
  scan_least (x ∷ xs) k =
      let m = met x.place x.point k in
      (scan_down xs (meet q x.place x.point k) (dist_of x) (met_self x.place x.point k _ m), scan_least xs (meet q x.place x.point k))

  -- IT IS THE START, or the first of its distance: what was met before it, the start included, is farther
  pub record Named (k : Pick) (xs : List Item) : Type 0 where
    pub before : List Item
    pub item : Item
    pub after : List Item
    pub split : xs ≡ before ++ (item ∷ after)
    pub is : scan k xs ≡ record { place = item.place; dist = dist_of item }
    pub start_farther : lt (dist_of item) k.dist ≡ true
    pub before_farther : Each (λ i. T (number (dist_of i)) → lt (dist_of item) (dist_of i) ≡ true) before

  farther_than : (d e k : Float) → lt d k ≡ true → lt e k ≡ false → T (number e) → lt d e ≡ true
  farther_than d e k h g nn = go (lt d e) refl
    where
      go : (c : Bool) → lt d e ≡ c → lt d e ≡ true
      go true z = z
      go false z = tf (lt d k) h (is_false _ (not_lt_trans d e k nn (of_left z) (of_left g)))

  first_step : (x : Item) (xs : List Item) (k k' : Pick) → Met x.place x.point k k' → meet q x.place x.point k ≡ k' → (scan k' xs ≡ k') ⊎ Named k' xs
      → (scan k (x ∷ xs) ≡ k) ⊎ Named k (x ∷ xs)
  first_step x xs k k' (won w) e (inl h) = inr (record {
    before = [];
    item = x;
    after = xs;
    split = refl;
    is = ap (λ (z : Pick). scan z xs) e ∙ h;
    start_farther = w;
    before_farther = tt;
  })
  first_step x xs k k' (won w) e (inr n) = inr (record {
    before = x ∷ n.before;
    item = n.item;
    after = n.after;
    split = ap {B = List Item} (λ l. x ∷ l) n.split;
    is = ap (λ (z : Pick). scan z xs) e ∙ n.is;
    start_farther = below_trans (dist_of n.item) (dist_of x) k.dist n.start_farther w;
    before_farther = ((λ _. n.start_farther), n.before_farther);
  })
  first_step x xs k k' (stayed w) e (inl h) = inl (ap (λ (z : Pick). scan z xs) e ∙ h)
  first_step x xs k k' (stayed w) e (inr n) = inr (record {
    before = x ∷ n.before;
    item = n.item;
    after = n.after;
    split = ap {B = List Item} (λ l. x ∷ l) n.split;
    is = ap (λ (z : Pick). scan z xs) e ∙ n.is;
    start_farther = n.start_farther;
    before_farther = ((λ nn. farther_than (dist_of n.item) (dist_of x) k.dist n.start_farther w nn), n.before_farther);
  })

  pub scan_first : (xs : List Item) (k : Pick) → (scan k xs ≡ k) ⊎ Named k xs
  scan_first [] k = inl refl
  scan_first (x ∷ xs) k =
      first_step x xs k (meet q x.place x.point k) (met x.place x.point k) refl (scan_first xs (meet q x.place x.point k))
