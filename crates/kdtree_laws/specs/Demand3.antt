-- Demand 3 in the words of document 01's "Distance, tree, tie": loads are inserts into bare trees with room for all. Definitions only; the
-- theorems are in proofs/Demand3.antt.
use Rattle.std.specs.Prelude.{◌≡◌, ◌⊎◌, not, List, [], ◌∷◌, ◌++◌, map, ℕ, suc, ◌*◌, ◌≤◌, length, get_or, Option, Some, Result, Ok, Err, T, Float}
use Rattle.std.specs.Float.{nan}
use Rattle.std.specs.Float.Ieee.{lt}
use Rattle.lists.specs.Each.{Each, In}
use Rattle.points.specs.declared.Point3.{Point3}
use Rattle.points.specs.Points.{point_at, dist_sq_of}
use Rattle.kdtree.specs.declared.BoundingBox.{BoundingBox}
use Rattle.refusals.specs.declared.Refusal.{Refusal}
use Rattle.kdtree.specs.declared.Best.{Best}
use Rattle.kdtree.specs.Tree.{Tree}
use Rattle.kdtree.specs.Unpruned.{Item, walk, order}
use Rattle.kdtree.specs.Insert.{Lists, Stored, tree_of, insert_of}
use Rattle.kdtree.specs.Nearest.{place_found, nearest_of}

-- ---- measurements

-- a measurement: the number that is kept with it, and its point
pub record Numbered : Type 0 where
  pub number : ℕ
  pub point : Point3

-- its rounded squared distance from the query
abbrev pub dist_to : Point3 → Numbered → Float
dist_to q m = dist_sq_of m.point q

abbrev pub Nearer : Point3 → Numbered → Numbered → Type 0
Nearer q a b = T (lt (dist_to q a) (dist_to q b))

abbrev pub NotNearer : Point3 → Numbered → Numbered → Type 0
NotNearer q a b = T (not (lt (dist_to q a) (dist_to q b)))

pub record SomeNan (p : Point3) : Type 0 where
  pub which : (p.x ≡ nan) ⊎ ((p.y ≡ nan) ⊎ (p.z ≡ nan))

-- ---- lists of measurements

-- the second list is the first with one more, put in somewhere
pub data Put {A : Type 0} (a : A) : List A → List A → Type 0 where
  here : {l : List A} → Put a l (a ∷ l)
  there : {b : A} {k l : List A} → Put a k l → Put a (b ∷ k) (b ∷ l)

-- the same in another order: each of the first list, taken one by one, is put into the second somewhere
pub data Reordered {A : Type 0} : List A → List A → Type 0 where
  none : Reordered [] []
  more : {a : A} {k l l' : List A} → Reordered k l → Put a l l' → Reordered (a ∷ k) l'

-- ---- bare trees

-- the four lent lists, how many places are taken, and the box
pub record Bare : Type 0 where
  pub lists : Lists
  pub count : ℕ
  pub bounds : BoundingBox

-- no place is taken: the lists may hold anything, and so may the box
abbrev pub empty : Lists → BoundingBox → Bare
empty a b = record { lists = a; count = 0; bounds = b }

-- what `insert` promises (`insert_of`), carried on: one place more, or all as it was where it refuses
unfoldable pub kept : Stored → Bare → Bare
kept s t = go s.out
  where
    go : Result BoundingBox Refusal → Bare
    go (Ok b) = record { lists = s.lists; count = suc t.count; bounds = b }
    go (Err r) = t

abbrev pub insert_into : Bare → Numbered → Stored
insert_into t m = insert_of t.lists t.count t.bounds m.point m.number

unfoldable pub fill : List Numbered → Bare → Bare
fill [] t = t
fill (m ∷ ms) t = fill ms (kept (insert_into t m) t)

-- what the inserts of a fill answer, one after the other
unfoldable pub answers : List Numbered → Bare → List (Result BoundingBox Refusal)
answers [] t = []
answers (m ∷ ms) t = (insert_into t m).out ∷ answers ms (kept (insert_into t m) t)

abbrev pub Accepted : Result BoundingBox Refusal → Type 0
Accepted (Ok b) = Unit
Accepted (Err r) = ⊥

-- room for n: document 01's limit, and the lists' lengths
pub record RoomFor (a : Lists) (n : ℕ) : Type 0 where
  pub most : n ≤ 16384
  pub positions : 3 * n ≤ length a.positions
  pub left : n ≤ length a.left
  pub right : n ≤ length a.right
  pub numbers : n ≤ length a.numbers

-- ---- the two searches of a bare tree

-- what `nearest` promises, and the place and the visits behind it
abbrev pub nearest_in : Bare → Point3 → Result (Option ℕ) Refusal
nearest_in t q = nearest_of t.lists t.count t.bounds q

abbrev pub search_in : Bare → Point3 → Option Best
search_in t q = place_found t.lists.positions t.lists.left t.lists.right t.count t.bounds q

abbrev pub tree_in : Bare → Tree
tree_in t = tree_of t.lists t.count t.count

-- the measurement that stands at a place; the root is at place 0
abbrev pub standing : Lists → ℕ → Numbered
standing a i = record { number = get_or a.numbers i 0; point = point_at a.positions i }

abbrev pub root_in : Bare → Numbered
root_in t = standing t.lists 0

-- what the unpruned walk names: it begins with the root as best
unfoldable pub walk_names : Bare → Point3 → Numbered
walk_names t q = standing t.lists (walk q (tree_in t) 0 (record { place = 0; dist = dist_to q (root_in t) })).place

-- the measurements in the order in which the unpruned walk comes to them: nearer side, node, farther side
unfoldable pub visiting : Bare → Point3 → List Numbered
visiting t q = map (λ (i : Item). standing t.lists i.place) (order q (tree_in t) 0)

-- ---- the statements

-- m is the first of the list that none is nearer than: all before it are farther, and none after it is nearer
pub record FirstNearest (q : Point3) (m : Numbered) (l : List Numbered) : Type 0 where
  pub before : List Numbered
  pub after : List Numbered
  pub split : l ≡ before ++ (m ∷ after)
  pub before_farther : Each (λ (x : Numbered). Nearer q m x) before
  pub after_not_nearer : Each (λ (x : Numbered). NotNearer q x m) after

-- m alone has the smallest distance
pub record Alone (q : Point3) (m : Numbered) (l : List Numbered) : Type 0 where
  pub stands : In m l
  pub farther : Each (λ (x : Numbered). (x ≡ m) ⊎ Nearer q m x) l

-- One bare tree t into which the measurements ms were inserted, and a query q. What is named, by the pruned search as by the unpruned walk, is one of them,
-- and none has a smaller distance. Root and walk meet these and no others, the walk each as often as it was inserted; the first of them that none is nearer
-- than is named, the root before all. One that alone has the smallest distance is named, whatever the order.
pub record NamesNearest (q : Point3) (ms : List Numbered) (t : Bare) : Type 0 where
  pub named : nearest_in t q ≡ Ok (Some (walk_names t q).number)
  pub one_of : In (walk_names t q) ms
  pub least : Each (λ (x : Numbered). NotNearer q x (walk_names t q)) ms
  pub root_one_of : In (root_in t) ms
  pub meets : Reordered ms (visiting t q)
  pub first_met : FirstNearest q (walk_names t q) (root_in t ∷ visiting t q)
  pub alone : (m : Numbered) → Alone q m ms → nearest_in t q ≡ Ok (Some m.number)

-- DEMAND 3, of two bare trees t and t' into which the same measurements ms were inserted in two orders, and a query q: all of the above holds of both, so that
-- where one measurement alone has the smallest distance both name it; and what they name has one distance, so that the two can differ only in a tie
pub record Demand3 (q : Point3) (ms : List Numbered) (t t' : Bare) : Type 0 where
  pub one : NamesNearest q ms t
  pub other : NamesNearest q ms t'
  pub tie : NotNearer q (walk_names t q) (walk_names t' q) × NotNearer q (walk_names t' q) (walk_names t q)
