-- The bare tree beside the source's: the same inserts, the same tree, the same boxes, the same answer, for any f32. Definitions only; the theorem `bare` is in proofs/Bare.antt.
use Rattle.std.specs.Prelude.{◌≡◌, List, [], ◌∷◌, ℕ, suc, get_or, Result, Ok}
use Rattle.points.specs.declared.Point3.{Point3}
use Rattle.refusals.specs.declared.Refusal.{Refusal}
use Rattle.kdtree.specs.declared.BoundingBox.{BoundingBox}
use Rattle.kdtree_laws.specs.Demand3.{Numbered, Bare, insert_into, RoomFor, nearest_in, tree_in}
use Rattle.source.specs.Rust.{Some}
use Rattle.source.specs.Kdtree as source
use Rattle.source.specs.Kdtree.{KdTree, new_tree, insert, nearest}
use Rattle.source_laws.specs.Drawn.{boxed, flat}

-- the source's inserts, one after the other
unfoldable pub inserted : List Numbered → KdTree → KdTree
inserted [] k = k
inserted (x ∷ l) k = inserted l (insert k x.point x.number)

-- the number that is kept with a place
abbrev pub number_at : Bare → ℕ → ℕ
number_at t i = get_or t.lists.numbers i 0

-- an insert answered the box of the source's tree k, corner by corner
pub record AnswersBox (k : KdTree) (answer : Result BoundingBox Refusal) : Type 0 where
  pub box : source.BoundingBox
  pub has_box : k.bounds ≡ Some box
  pub answers : answer ≡ Ok (flat box)

-- t and the source's tree after the same inserts: their nodes, the box that the next insert answers where there is room for it, and the number of any query
pub record SameTree (l : List Numbered) (t : Bare) : Type 0 where
  pub tree : (inserted l new_tree).root ≡ boxed (number_at t) (tree_in t) 0
  pub grows : (x : Numbered) → RoomFor t.lists (suc t.count) → AnswersBox (insert (inserted l new_tree) x.point x.number) (insert_into t x).out
  pub names : (q : Point3) → nearest_in t q ≡ Ok (nearest (inserted l new_tree) q)
