-- WHAT A HOST HEARS OF THE BARE TREE: it inserts measurements one after the other by `sofa_tree_insert`, then asks by `sofa_tree_nearest`; each call by its own
-- contract (`Post`; specs/Calls.antt says how a call's arguments stand). Definitions only; the theorems `bare_heard` and `demand3_heard` are in proofs/Bare.antt.
use Rattle.std.specs.Prelude.{◌≡◌, cond, List, [], ◌∷◌, ℕ, suc, eqb, length, Option, None, Some}
use borrow.Fn.World.{ArgsD}
use denote.Triple.Clauses.{AtExit}
use Rattle.points.specs.declared.Point3.{Point3}
use Rattle.kdtree.specs.Insert.{Lists, lists_of}
use Rattle.kdtree_laws.specs.Demand3.{Numbered, SomeNan, Bare, RoomFor, walk_names, Alone, Demand3}
use Rattle.source.specs.Kdtree as source
use Rattle.source.specs.Kdtree.{KdTree, new_tree, nearest}
use Rattle.source_laws.specs.Drawn.{flat}
use Rattle.source_laws.specs.Bare.{inserted, SameTree}
use Rattle.sofa.specs.declared.tree.SofaInserted.{SofaInserted}
use Rattle.sofa.specs.declared.tree.SofaFound.{SofaFound}
use Rattle.sofa.specs.contracts.tree.sofa_tree_insert as insert
use Rattle.sofa.proofs.tree.sofa_tree_insert.Reads as insert-reads
use Rattle.sofa.specs.contracts.tree.sofa_tree_nearest as ask
use Rattle.sofa.proofs.tree.sofa_tree_nearest.Reads as ask-reads
use Rattle.sofa_laws.specs.Host.{numbered}

-- ---- the calls, over a tree that the host holds: its four lists, how many places are taken, and the box

-- sofa_tree_insert(count, bounds, positions, left, right, numbers, x, y, z, number)
pub record Inserting (m : Numbered) (t : Bare) (κs : _) (a : ArgsD insert.signature κs) : Type 0 where
  pub count : a.0 ≡ t.count
  pub bounds : a.1.0 ≡ t.bounds
  pub lists : lists_of a.1.1.0.now a.1.1.1.0.now a.1.1.1.1.0.now a.1.1.1.1.1.0.now ≡ t.lists
  pub x : a.1.1.1.1.1.1.0 ≡ m.point.x
  pub y : a.1.1.1.1.1.1.1.0 ≡ m.point.y
  pub z : a.1.1.1.1.1.1.1.1.0 ≡ m.point.z
  pub number : a.1.1.1.1.1.1.1.1.1.0 ≡ m.number

-- what its four lists then hold
abbrev pub stored_in : (κs : _) → AtExit insert.ended κs → Lists
stored_in κs e = lists_of e.1.1.0.now e.1.1.1.0.now e.1.1.1.1.0.now e.1.1.1.1.1.0.now

-- what the host goes on with: its lists as they are then; with reason 0 one place more, and the box of the answer
abbrev pub gone_on : SofaInserted → Lists → Bare → Bare
gone_on r l t = cond (eqb r.reason 0) (record { lists = l; count = suc t.count; bounds = r.bounds }) (record { lists = l; count = t.count; bounds = t.bounds })

pub record InsertCall (m : Numbered) (t t' : Bare) : Type 0 where
  pub κs : _
  pub a : ArgsD insert.signature κs
  pub r : SofaInserted
  pub e : AtExit insert.ended κs
  pub given : Inserting m t κs a
  pub contract : insert-reads.Post κs a r e
  pub then : t' ≡ gone_on r (stored_in κs e) t

-- one after the other
pub data Inserts : List Numbered → Bare → Bare → Type 0 where
  none : {t : Bare} → Inserts [] t t
  more : {m : Numbered} {l : List Numbered} {t t' u : Bare} → InsertCall m t t' → Inserts l t' u → Inserts (m ∷ l) t u

-- sofa_tree_nearest(count, bounds, positions, left, right, numbers, x, y, z), which answered f
pub record NearestCall (t : Bare) (q : Point3) (f : SofaFound) : Type 0 where
  pub κs : _
  pub a : ArgsD ask.signature κs
  pub e : AtExit ask.ended κs
  pub count : a.0 ≡ t.count
  pub bounds : a.1.0 ≡ t.bounds
  pub lists : lists_of a.1.1.0.now a.1.1.1.0.now a.1.1.1.1.0.now a.1.1.1.1.1.0.now ≡ t.lists
  pub x : a.1.1.1.1.1.1.0 ≡ q.x
  pub y : a.1.1.1.1.1.1.1.0 ≡ q.y
  pub z : a.1.1.1.1.1.1.1.1.0 ≡ q.z
  pub contract : ask-reads.Post κs a f e

-- ---- the statements

-- the source's answer as a struct: 65535 for None
abbrev pub name_heard : Option ℕ → SofaFound
name_heard None = numbered 65535
name_heard (Some number) = numbered number

-- an insert answered the box of the source's tree k, corner by corner
pub record BoxHeard (k : KdTree) (r : SofaInserted) : Type 0 where
  pub box : source.BoundingBox
  pub has_box : k.bounds ≡ Some box
  pub answers : r ≡ record { reason = 0; place = 0; bounds = flat box }

-- DEMAND 2, of the tree t after the inserts of l, for any f32: none was refused, the nodes are the source's, one more insert with room answers the source's box, and
-- each query is answered as the source answers it; one with a NaN by the root's number
pub record BareHeard (l : List Numbered) (t : Bare) : Type 0 where
  pub counted : t.count ≡ length l
  pub same : SameTree l t
  pub grows : (x : Numbered) (t' : Bare) (I : InsertCall x t t') → RoomFor t.lists (suc t.count) → BoxHeard (source.insert (inserted l new_tree) x.point x.number) I.r
  pub names : (q : Point3) (f : SofaFound) → NearestCall t q f → f ≡ name_heard (nearest (inserted l new_tree) q)
  pub nan_query : (m : Numbered) (ms : List Numbered) → l ≡ m ∷ ms → (q : Point3) → SomeNan q → (f : SofaFound) → NearestCall t q f → f ≡ numbered m.number

-- DEMAND 3, of two trees after the inserts of the same measurements in two orders: it holds of t and t', and what their unpruned walks name is what the host hears; where
-- one alone has the smallest distance, it hears that one from both
pub record Demand3Heard (q : Point3) (ms : List Numbered) (t t' : Bare) : Type 0 where
  pub demand : Demand3 q ms t t'
  pub named : (f : SofaFound) → NearestCall t q f → f ≡ numbered (walk_names t q).number
  pub named' : (f : SofaFound) → NearestCall t' q f → f ≡ numbered (walk_names t' q).number
  pub alone : (m : Numbered) → Alone q m ms → (f f' : SofaFound) → NearestCall t q f → NearestCall t' q f' → (f ≡ numbered m.number) × (f' ≡ numbered m.number)
