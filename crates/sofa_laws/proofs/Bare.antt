-- The bare tree at the border: inserts by calls fill it as `fill` does, and a call for the nearest says what the source's tree and the unpruned walk name
-- (specs/Bare.antt). Assumes nothing.
use mathlib.Core.Path.{◌≡◌, refl, sym, ap, ◌∙◌, subst}
use mathlib.Core.Logic.{◌⊎◌}
use mathlib.Core.Bool.{Bool, true, false, cond}
use mathlib.Core.List.{List, [], ◌∷◌}
use Prim.Native.Nat.{ℕ, ◌<◌}
use native.Mathlib.Omega.{arith}
use lib.Dec.{eqb}
use lib.ListN.{length}
use borrow.Author.Tests.{ne_eqb}
use Rattle.lists.specs.Each.{Each}
use Rattle.points.specs.declared.Point3.{Point3}
use Rattle.points.specs.Points.{Finite}
use Rattle.kdtree.specs.declared.BoundingBox.{BoundingBox}
use Rattle.std.specs.Prelude.{Option, Some, None, Result, Ok, Err}
use Rattle.refusals.specs.declared.Refusal.{Refusal}
use Rattle.kdtree.specs.declared.Slot.{Slot}
use Rattle.kdtree.specs.declared.Slot.TheVariants as slot
use Rattle.kdtree.specs.Geometry.{box_at}
use Rattle.kdtree.specs.Insert.{Lists, Stored, stored_as, tree_of, slot_in, written, has_room, no_room, by_slot, insert_of}
use Rattle.kdtree.specs.Nearest.{nearest_of}
use Rattle.kdtree_laws.specs.Demand3.{Numbered, Nearer, SomeNan, Reordered, Bare, empty, kept, insert_into, fill, RoomFor, nearest_in, Alone}
use Rattle.kdtree_laws.proofs.Lists.{each_reordered, in_reordered}
use Rattle.kdtree_laws.proofs.Demand3 as walks
use Rattle.kdtree_laws.proofs.Demand3.{both_orders}
use Rattle.source.specs.Kdtree.{new_tree, nearest}
use Rattle.source_laws.specs.Bare.{inserted, SameTree}
use Rattle.source_laws.proofs.Bare.{bare}
use Rattle.sofa.specs.declared.tree.SofaFound.{SofaFound}
use Rattle.sofa.specs.Tree.{Left, inserted_as, found_as, point, left_by, insert_told}
use Rattle.refusals.specs.Refusals.{number_of}
use Rattle.sofa_laws.proofs.Host.{above_zero}
use Rattle.sofa_laws.specs.Bare.{stored_in, gone_on, InsertCall, Inserts, none, more, NearestCall, name_heard, BareHeard, Demand3Heard}

-- ---- a refused insert has a number above 0 and writes nothing

abbrev Kept : Lists → Result BoundingBox Refusal → Lists → Type 0
Kept a (Ok b) l = Unit
Kept a (Err refusal) l = l ≡ a

slot_kept : (s : Slot) (a : Lists) (c : ℕ) (b : BoundingBox) (p : Point3) (n : ℕ) → Kept a (by_slot s a c b p n).out (by_slot s a c b p n).lists
unfolding by_slot
slot_kept (slot.Left o) a c b p n = tt
slot_kept (slot.Right o) a c b p n = tt
slot_kept slot.Blocked a c b p n = refl

insert_kept : (a : Lists) (c : ℕ) (b : BoundingBox) (p : Point3) (n : ℕ) → Kept a (insert_of a c b p n).out (insert_of a c b p n).lists
unfolding insert_of
insert_kept a c b p n = room (has_room a c)
  where
    first : Stored
    first = record { out = Ok (box_at p); lists = written a c p n }

    later : Stored
    later = by_slot (slot_in p (tree_of a c c) 0) a c b p n

    which : (e : Bool) → Kept a (cond e first later).out (cond e first later).lists
    which true = tt
    which false = slot_kept (slot_in p (tree_of a c c) 0) a c b p n

    room : (e : Bool) → Kept a (cond e (cond (eqb c 0) first later) (no_room a)).out (cond e (cond (eqb c 0) first later) (no_room a)).lists
    room true = which (eqb c 0)
    room false = refl

-- ---- what the host goes on with is what a fill goes on with

gone_on_lem : (o : Result BoundingBox Refusal) (l : Lists) (t : Bare) → Kept t.lists o l → gone_on (inserted_as o) l t ≡ kept (stored_as o l) t
unfolding kept
gone_on_lem (Ok b) l t k = refl
gone_on_lem (Err refusal) l t k = rw (ne_eqb (number_of refusal) 0 (λ z. let h = above_zero refusal in omega arith)) (λ i. record { lists = k i; count = t.count; bounds = t.bounds })

module _ (m : Numbered) (t t' : Bare) (I : InsertCall m t t') where
  insert_says_lem : left_by I.r (stored_in I.κs I.e) ≡ insert_told (insert_into t m)
  insert_says_lem =
      let G = I.given in
      I.contract ∙ (λ i. insert_told (insert_of (G.lists i) (G.count i) (G.bounds i) (point (G.x i) (G.y i) (G.z i)) (G.number i)))

  -- WHAT IT ANSWERS is what `insert_into` says
  pub insert_told_lem : I.r ≡ inserted_as (insert_into t m).out
  insert_told_lem = ap (λ (z : Left). z.out) insert_says_lem

  insert_is : t' ≡ kept (insert_into t m) t
  insert_is =
      I.then ∙ ap (λ (z : Left). gone_on z.out z.lists t) insert_says_lem
      ∙ gone_on_lem (insert_into t m).out (insert_into t m).lists t (insert_kept t.lists t.count t.bounds m.point m.number)

-- THE CALLS FILL THE TREE
pub calls_fill : (l : List Numbered) (t u : Bare) → Inserts l t u → u ≡ fill l t
unfolding fill
calls_fill [] t u none = refl
calls_fill (m ∷ l) t u (more {t' = t'} I rest) = calls_fill l t' u rest ∙ ap (fill l) (insert_is m t t' I)

-- ---- a call for the nearest says what `nearest_in` says

asked : (t : Bare) (q : Point3) (f : SofaFound) → NearestCall t q f → f ≡ found_as (nearest_in t q)
asked t q f N = N.contract ∙ (λ i. found_as (nearest_of (N.lists i) (N.count i) (N.bounds i) (point (N.x i) (N.y i) (N.z i))))

named_so : (o : Option ℕ) → found_as (Ok o) ≡ name_heard o
named_so None = refl
named_so (Some number) = refl

-- ---- the theorems

module _ (a : Lists) (b : BoundingBox) where
  counted : (l : List Numbered) → RoomFor a (length l) → (fill l (empty a b)).count ≡ length l
  unfolding fill
  counted [] r = refl
  counted (m ∷ ms) r = walks.count_is a b m ms r

  rooted : (l : List Numbered) → RoomFor a (length l) → (m : Numbered) (ms : List Numbered) → l ≡ m ∷ ms → (q : Point3) → SomeNan q → nearest_in (fill l (empty a b)) q ≡ Ok (Some m.number)
  rooted l r m ms e q n = rw e (walks.nan_query a b m ms (subst (λ (k : List Numbered). RoomFor a (length k)) e r) q n)

  -- ONE TREE: room for all, and the inserts that a host made from the empty one on
  pub bare_heard : (l : List Numbered) (t : Bare) → RoomFor a (length l) → Inserts l (empty a b) t → BareHeard l t
  bare_heard l t room calls = subst (BareHeard l) (sym (calls_fill l (empty a b) t calls)) heard
    where
      tree : Bare
      tree = fill l (empty a b)

      same : SameTree l tree
      same = bare a b l room

      heard : BareHeard l tree
      heard = record {
        counted = counted l room;
        same = same;
        grows = λ x t' I r. let A = same.grows x r in record { box = A.box; has_box = A.has_box; answers = insert_told_lem x tree t' I ∙ ap inserted_as A.answers };
        names = λ q f N. asked tree q f N ∙ ap found_as (same.names q) ∙ named_so (nearest (inserted l new_tree) q);
        nan_query = λ m ms e q n f N. asked tree q f N ∙ ap found_as (rooted l room m ms e q n);
      }

-- TWO TREES
pub demand3_heard : (a a' : Lists) (b b' : BoundingBox) (m : Numbered) (ms : List Numbered) (n : Numbered) (ns : List Numbered) (t t' : Bare) (q : Point3)
    → RoomFor a (length (m ∷ ms)) → RoomFor a' (length (n ∷ ns)) → Reordered (m ∷ ms) (n ∷ ns)
    → Each (λ (x : Numbered). Finite x.point) (m ∷ ms) → Finite q
    → Inserts (m ∷ ms) (empty a b) t → Inserts (n ∷ ns) (empty a' b') t' → Demand3Heard q (m ∷ ms) t t'
demand3_heard a a' b b' m ms n ns t t' q r r' same f fq calls calls' =
    subst (λ (u : Bare). Demand3Heard q (m ∷ ms) u t') (sym (calls_fill (m ∷ ms) (empty a b) t calls)) (subst (Demand3Heard q (m ∷ ms) one) (sym (calls_fill (n ∷ ns) (empty a' b') t' calls')) heard)
  where
    one : Bare
    one = fill (m ∷ ms) (empty a b)

    other : Bare
    other = fill (n ∷ ns) (empty a' b')

    there : (x : Numbered) → Alone q x (m ∷ ms) → Alone q x (n ∷ ns)
    there x al = record { stands = in_reordered same x al.stands; farther = each_reordered (λ (y : Numbered). (y ≡ x) ⊎ Nearer q x y) same al.farther }

    heard : Demand3Heard q (m ∷ ms) one other
    heard = record {
      demand = both_orders a a' b b' m ms n ns q r r' same f fq;
      named = λ o N. asked one q o N ∙ ap found_as (walks.names a b m ms r q);
      named' = λ o N. asked other q o N ∙ ap found_as (walks.names a' b' n ns r' q);
      alone = λ x al o o' N N'. (
        asked one q o N ∙ ap found_as (walks.unique a b m ms r q f fq x al),
        asked other q o' N' ∙ ap found_as (walks.unique a' b' n ns r' q (each_reordered (λ (y : Numbered). Finite y.point) same f) fq x (there x al)),
      );
    }
