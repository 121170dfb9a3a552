-- The links of a build over lists that hold anything behind the places linked so far: the tree of the first n places reads no further. Assumes nothing.
use mathlib.Core.Path.{◌≡◌, refl, sym, ap, ◌∙◌, subst}
use mathlib.Core.List.{List, [], ◌∷◌, ◌++◌}
use Prim.Native.Nat.{ℕ, zero, suc, ◌+◌, ◌-◌, ◌<◌, ◌≤◌}
use native.Mathlib.Omega.{arith}
use native.Mathlib.Numerals.{add-one}
use lib.ListN.{length, get_or, set, length-append, length-set, get_or-append}
use lib.Seq.{set-append_left, drop-set-lt}
use lib.Ieee.{Float}
use Rattle.lists.specs.Over.{over}
use Rattle.lists.proofs.Laws.{over_nil, over_at}
use Rattle.points.specs.declared.Point3.{Point3}
use Rattle.points.specs.Points.{point_at}
use Rattle.kdtree.specs.declared.Link.{Link}
use Rattle.kdtree.specs.declared.Slot.{Slot}
use Rattle.kdtree.specs.declared.Slot.TheVariants.{Left, Right, Blocked}
use Rattle.kdtree.specs.Tree.{Tree, node, link_of, side_of, subtree}
use Rattle.kdtree.specs.Insert.{slot_in, owner_of, left_linked, right_linked}
use Rattle.kdtree.proofs.Step.{Said, said, said_gone, said_bad, said_to}
use Rattle.kdtree.proofs.Nodes.{subtree_below, slot_below}
use Rattle.lookup.specs.declared.Lookup.{Lookup}
use Rattle.lookup.specs.Build.{Links, links_of, owned_by, slot_at, owned_at, linked, over_both, built_as}

-- ---- lists that agree below the count draw the same tree

module _ (left right left' right' : List ℕ) (xs : List Float) (count : ℕ)
    (el : (i : ℕ) → i < count → get_or left i 0 ≡ get_or left' i 0) (er : (i : ℕ) → i < count → get_or right i 0 ≡ get_or right' i 0) where
  side_same : (n l : ℕ) (lk : Link) (t t' : Tree) → Said count n l lk → (l < count → t ≡ t') → side_of lk t ≡ side_of lk t'
  unfolding side_of
  side_same n l lk t t' said_gone h = refl
  side_same n l lk t t' said_bad h = refl
  side_same n l lk t t' (said_to a b) h = h b

  pub same_tree : (f n : ℕ) → n < count → subtree left right xs count f n ≡ subtree left' right' xs count f n
  unfolding subtree
  same_tree zero n h = refl
  same_tree (suc k) n h = join (same_tree k) (get_or left n 0) (get_or left' n 0) (get_or right n 0) (get_or right' n 0) (el n h) (er n h)
    where
      sides : (ℕ → Tree) → ℕ → Tree
      sides t l = side_of (link_of count n l) (t l)

      join : ((l : ℕ) → l < count → subtree left right xs count k l ≡ subtree left' right' xs count k l) → (a a' b b' : ℕ) → a ≡ a' → b ≡ b'
          → node n (point_at xs n) (sides (subtree left right xs count k) a) (sides (subtree left right xs count k) b)
          ≡ node n (point_at xs n) (sides (subtree left' right' xs count k) a') (sides (subtree left' right' xs count k) b')
      join same a a' b b' ea eb =
          let u : sides (subtree left right xs count k) a ≡ sides (subtree left' right' xs count k) a' = side_same n a (link_of count n a) _ _ (said count n a) (same a) ∙ ap (sides (subtree left' right' xs count k)) ea in
          let v : sides (subtree left right xs count k) b ≡ sides (subtree left' right' xs count k) b' = side_same n b (link_of count n b) _ _ (said count n b) (same b) ∙ ap (sides (subtree left' right' xs count k)) eb in
          cc

-- ---- lengths

owned_left : (s : Slot) (n : ℕ) (a : Links) → length (owned_by s n a).left ≡ length a.left
unfolding owned_by left_linked right_linked
owned_left (Left o) n a = length-set a.left o n
owned_left (Right o) n a = refl
owned_left Blocked n a = refl

owned_right : (s : Slot) (n : ℕ) (a : Links) → length (owned_by s n a).right ≡ length a.right
unfolding owned_by left_linked right_linked
owned_right (Left o) n a = refl
owned_right (Right o) n a = length-set a.right o n
owned_right Blocked n a = refl

one_more : (l : List ℕ) (k : ℕ) → length l ≡ k → length (l ++ (65535 ∷ [])) ≡ suc k
one_more l k e = length-append l (65535 ∷ []) ∙ add-one (length l) ∙ ap suc e

pub linked_left_lem : (xs : List Float) (n : ℕ) → length (linked xs n).left ≡ n
unfolding linked owned_at
linked_left_lem xs zero = refl
linked_left_lem xs (suc n) = one_more (owned_by (slot_at xs n (linked xs n)) n (linked xs n)).left n (owned_left (slot_at xs n (linked xs n)) n (linked xs n) ∙ linked_left_lem xs n)

pub linked_right_lem : (xs : List Float) (n : ℕ) → length (linked xs n).right ≡ n
unfolding linked owned_at
linked_right_lem xs zero = refl
linked_right_lem xs (suc n) = one_more (owned_by (slot_at xs n (linked xs n)) n (linked xs n)).right n (owned_right (slot_at xs n (linked xs n)) n (linked xs n) ∙ linked_right_lem xs n)

-- ---- the owner of a slot is a place linked before

pub owner : (xs : List Float) (n : ℕ) (a : Links) → 0 < n → owner_of (slot_at xs n a) < n
owner xs n a some = slot_below n (point_at xs n) some _ 0 (subtree_below a.left a.right xs n n 0 some)

-- ---- a place linked over lists that hold anything

set_over : (l d : List ℕ) (o v : ℕ) → o < length l → set (over l d) o v ≡ over (set l o v) d
unfolding over
set_over l d o v h = rw (length-set l o v) (set-append_left l _ o v h)

owned_over : (s : Slot) (n : ℕ) (a d : Links) → owner_of s < n → length a.left ≡ n → length a.right ≡ n → owned_by s n (over_both a d) ≡ over_both (owned_by s n a) d
unfolding owned_by left_linked right_linked
owned_over (Left o) n a d h el er = ap (λ (l : List ℕ). links_of l (over a.right d.right)) (set_over a.left d.left o n (subst (λ (k : ℕ). o < k) (sym el) h))
owned_over (Right o) n a d h el er = ap (λ (l : List ℕ). links_of (over a.left d.left) l) (set_over a.right d.right o n (subst (λ (k : ℕ). o < k) (sym er) h))
owned_over Blocked n a d h el er = refl

get_d_over : (l d : List ℕ) (i n : ℕ) → length l ≡ n → i < n → get_or (over l d) i 0 ≡ get_or l i 0
unfolding over
get_d_over l d i n e h = get_or-append l _ 0 i (subst (λ (k : ℕ). i < k) (sym e) h)

module _ (xs : List Float) (n : ℕ) (d : Links) (some : 0 < n) where
  abbrev a : Links
  a = linked xs n

  slot_over : slot_at xs n (over_both a d) ≡ slot_at xs n a
  slot_over =
      ap (λ (t : Tree). slot_in (point_at xs n) t 0)
      (same_tree (over a.left d.left) (over a.right d.right) a.left a.right xs n (λ i h. get_d_over a.left d.left i n (linked_left_lem xs n) h)
      (λ i h. get_d_over a.right d.right i n (linked_right_lem xs n) h) n 0 some)

  pub place_over : owned_at xs n (over_both a d) ≡ over_both (owned_at xs n a) d
  unfolding owned_at
  place_over = ap (λ (s : Slot). owned_by s n (over_both a d)) slot_over ∙ owned_over (slot_at xs n a) n a d (owner xs n a some) (linked_left_lem xs n) (linked_right_lem xs n)

-- what a turn of the loop leaves: the place linked, then its own sides written
pub turn_over : (xs : List Float) (n : ℕ) (d b : Links) → 0 < n → n < length d.left → n < length d.right
    → b ≡ owned_at xs n (over_both (linked xs n) d) → links_of (set b.left n 65535) (set b.right n 65535) ≡ over_both (linked xs (n + 1)) d
unfolding linked owned_at
turn_over xs n d b some hl hr e =
    let s = slot_at xs n (linked xs n) in
    ap (λ (c : Links). links_of (set c.left n 65535) (set c.right n 65535)) (e ∙ place_over xs n d some)
    ∙ ap (λ (l : List ℕ). links_of l (set (over (owned_by s n (linked xs n)).right d.right) n 65535)) (over_at _ d.left n 65535 (owned_left s n (linked xs n) ∙ linked_left_lem xs n) hl)
    ∙ ap (λ (l : List ℕ). links_of (over ((owned_by s n (linked xs n)).left ++ (65535 ∷ [])) d.left) l) (over_at _ d.right n 65535 (owned_right s n (linked xs n) ∙ linked_right_lem xs n) hr)
    ∙ ap (λ (k : ℕ). over_both (linked xs k) d) (sym (add-one n))

-- the first place: its cell may be written before
over_first : (l d : List ℕ) (v : ℕ) → 0 < length l → over l (set d 0 v) ≡ over l d
unfolding over
over_first l d v h = ap (λ (k : List ℕ). l ++ k) (drop-set-lt (length l) d 0 v h)

pub first_over : (xs : List Float) (n : ℕ) (d : Links) → 0 < n → over_both (linked xs n) (links_of (set d.left 0 65535) (set d.right 0 65535)) ≡ over_both (linked xs n) d
first_over xs n d h =
    let u = over_first (linked xs n).left d.left 65535 (subst (λ (k : ℕ). 0 < k) (sym (linked_left_lem xs n)) h) in
    let v = over_first (linked xs n).right d.right 65535 (subst (λ (k : ℕ). 0 < k) (sym (linked_right_lem xs n)) h) in
    cc

pub root_over : (xs : List Float) (d : Links) → 0 < length d.left → 0 < length d.right → links_of (set d.left 0 65535) (set d.right 0 65535) ≡ over_both (linked xs 1) d
root_over xs d hl hr = unfold linked owned_at owned_by left_linked right_linked subtree slot_in in write
  where
    write : links_of (set d.left 0 65535) (set d.right 0 65535) ≡ links_of (over (65535 ∷ []) d.left) (over (65535 ∷ []) d.right)
    write =
        let u = ap (λ (l : List ℕ). set l 0 65535) (sym (over_nil d.left)) ∙ over_at [] d.left 0 65535 refl hl in
        let v = ap (λ (l : List ℕ). set l 0 65535) (sym (over_nil d.right)) ∙ over_at [] d.right 0 65535 refl hr in
        cc

-- ---- one place in the terms of the code

module _ (xs : List Float) (n : ℕ) (a : Links) (some : 0 < n) (p : Point3) (ep : p ≡ point_at xs n) (s : Slot)
    (es : (f : ℕ) → n - 0 ≤ f → s ≡ slot_in p (subtree a.left a.right xs n f 0) 0) where
  is_slot : s ≡ slot_at xs n a
  is_slot = es n (omega arith) ∙ ap (λ (q : Point3). slot_in q (subtree a.left a.right xs n n 0) 0) ep

  pub below : owner_of s < n
  below = subst (λ (s : Slot). owner_of s < n) (sym is_slot) (owner xs n a some)

  pub placed : owned_by s n a ≡ owned_at xs n a
  unfolding owned_at
  placed = ap (λ (t : Slot). owned_by t n a) is_slot

-- what is built, part by part
pub built_as_lem : {x y : Lookup} {a b : Links} → x ≡ y → a ≡ b → built_as x a ≡ built_as y b
built_as_lem {y = y} {a = a} e f = ap (λ (x : Lookup). built_as x a) e ∙ ap (built_as y) f
