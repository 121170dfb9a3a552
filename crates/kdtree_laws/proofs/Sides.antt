-- A tree whose left sides hold what is strictly less and whose right sides hold the rest: insertions keep it so, whatever the floats. Its points lie in the
-- boxes of their sides. Assumes nothing.
use mathlib.Core.Path.{◌≡◌, refl}
use mathlib.Core.Bool.{Bool, true, false, not, cond}
use Prim.Native.Nat.{ℕ, zero, suc}
use lib.Dec.{T}
use lib.Ieee.{Float, lt}
use Rattle.points.specs.declared.Point3.{Point3}
use Rattle.floats.proofs.Cross.{of_taken, of_left}
use Rattle.kdtree.specs.declared.BoundingBox.{BoundingBox}
use Rattle.kdtree.specs.Geometry.{byAxis, coord_of, next_axis, with_min, with_max, goes_left, box_at, grown}
use Rattle.kdtree.specs.Tree.{Tree, gone, bad, node}
use Rattle.kdtree.proofs.Nodes.{All}
use Rattle.kdtree_laws.proofs.Box.{Inside, within_self, grown_old, grown_new, within_left, within_right}
use Rattle.kdtree_laws.proofs.Pruned.{Points, Within, Clean}
use Rattle.kdtree_laws.proofs.Rep.{graft}

abbrev pub Sorted : Tree → ℕ → Type 0
Sorted gone axis = Unit
Sorted bad axis = Unit
Sorted (node n p l r) axis =
    (All (λ k x. T (lt (coord_of x axis) (coord_of p axis))) l × All (λ k x. T (not (lt (coord_of x axis) (coord_of p axis)))) r)
    × (Sorted l (next_axis axis) × Sorted r (next_axis axis))

pub all_map : (P Q : ℕ → Point3 → Type 0) (t : Tree) → ((n : ℕ) (p : Point3) → P n p → Q n p) → All P t → All Q t
all_map P Q gone f a = tt
all_map P Q bad f a = tt
all_map P Q (node n p l r) f a = (f n p a.0, (all_map P Q l f a.1.0, all_map P Q r f a.1.1))

pub all_both : (P Q R : ℕ → Point3 → Type 0) (t : Tree) → ((n : ℕ) (p : Point3) → P n p → Q n p → R n p) → All P t → All Q t → All R t
all_both P Q R gone f a b = tt
all_both P Q R bad f a b = tt
all_both P Q R (node n p l r) f a b = (f n p a.0 b.0, (all_both P Q R l f a.1.0 b.1.0, all_both P Q R r f a.1.1 b.1.1))

module _ (c : ℕ) (x : Point3) where
  pub graft_all : (P : ℕ → Point3 → Type 0) (t : Tree) (axis : ℕ) → P c x → All P t → All P (graft c x t axis)
  unfolding graft
  graft_all P gone axis h a = (h, (tt, tt))
  graft_all P bad axis h a = tt
  graft_all P (node n p l r) axis h a = go (goes_left x p axis) (graft_all P l (next_axis axis) h a.1.0) (graft_all P r (next_axis axis) h a.1.1)
    where
      go : (g : Bool) → All P (graft c x l (next_axis axis)) → All P (graft c x r (next_axis axis))
          → All P (cond g (node n p (graft c x l (next_axis axis)) r) (node n p l (graft c x r (next_axis axis))))
      go true u v = (a.0, (u, a.1.1))
      go false u v = (a.0, (a.1.0, v))

  pub graft_sorted : (t : Tree) (axis : ℕ) → Sorted t axis → Sorted (graft c x t axis) axis
  unfolding graft goes_left
  graft_sorted gone axis s = ((tt, tt), (tt, tt))
  graft_sorted bad axis s = tt
  graft_sorted (node n p l r) axis s = go (goes_left x p axis) refl (graft_sorted l (next_axis axis) s.1.0) (graft_sorted r (next_axis axis) s.1.1)
    where
      less : ℕ → Point3 → Type 0
      less k y = T (lt (coord_of y axis) (coord_of p axis))

      rest : ℕ → Point3 → Type 0
      rest k y = T (not (lt (coord_of y axis) (coord_of p axis)))

      test : {g : Bool} → goes_left x p axis ≡ g → lt (coord_of x axis) (coord_of p axis) ≡ g
      test e = e

      go : (g : Bool) → goes_left x p axis ≡ g → Sorted (graft c x l (next_axis axis)) (next_axis axis) → Sorted (graft c x r (next_axis axis)) (next_axis axis)
          → Sorted (cond g (node n p (graft c x l (next_axis axis)) r) (node n p l (graft c x r (next_axis axis)))) axis
      go true e u v = ((graft_all less l (next_axis axis) (of_taken (test e)) s.0.0, s.0.1), (u, s.1.1))
      go false e u v = ((s.0.0, graft_all rest r (next_axis axis) (of_left (test e)) s.0.1), (s.1.0, v))

-- ---- in the boxes of the sides

inside_max : (b : BoundingBox) (p : Point3) (v : Float) (axis : ℕ) → T (lt (coord_of p axis) v) → Inside b p → Inside (with_max b axis v) p
unfolding with_max byAxis coord_of
inside_max b p v zero e i = record { on_x_lem = within_left b.min_x b.max_x v p.x i.on_x_lem e; on_y_lem = i.on_y_lem; on_z = i.on_z }
inside_max b p v (suc zero) e i = record { on_x_lem = i.on_x_lem; on_y_lem = within_left b.min_y b.max_y v p.y i.on_y_lem e; on_z = i.on_z }
inside_max b p v (suc (suc n)) e i = record { on_x_lem = i.on_x_lem; on_y_lem = i.on_y_lem; on_z = within_left b.min_z b.max_z v p.z i.on_z e }

inside_min : (b : BoundingBox) (p : Point3) (v : Float) (axis : ℕ) → T (not (lt (coord_of p axis) v)) → Inside b p → Inside (with_min b axis v) p
unfolding with_min byAxis coord_of
inside_min b p v zero e i = record { on_x_lem = within_right b.min_x b.max_x v p.x i.on_x_lem e; on_y_lem = i.on_y_lem; on_z = i.on_z }
inside_min b p v (suc zero) e i = record { on_x_lem = i.on_x_lem; on_y_lem = within_right b.min_y b.max_y v p.y i.on_y_lem e; on_z = i.on_z }
inside_min b p v (suc (suc n)) e i = record { on_x_lem = i.on_x_lem; on_y_lem = i.on_y_lem; on_z = within_right b.min_z b.max_z v p.z i.on_z e }

pub sorted_within : (t : Tree) (b : BoundingBox) (axis : ℕ) → Clean t → Sorted t axis → Points b t → Within t b axis
sorted_within gone b axis c s i = tt
sorted_within bad b axis c s i = c
sorted_within (node n p l r) b axis c s i =
    let v = coord_of p axis in (
      i,
      (
        sorted_within l (with_max b axis v) (next_axis axis) c.0 s.1.0
            (all_both (λ k x. T (lt (coord_of x axis) v)) (λ k x. Inside b x) (λ k x. Inside (with_max b axis v) x) l (λ k x e j. inside_max b x v axis e j) s.0.0 i.1.0),
        sorted_within r (with_min b axis v) (next_axis axis) c.1 s.1.1
            (all_both (λ k x. T (not (lt (coord_of x axis) v))) (λ k x. Inside b x) (λ k x. Inside (with_min b axis v) x) r (λ k x e j. inside_min b x v axis e j) s.0.1 i.1.1),
      ),
    )

-- ---- the box of all

pub at_inside : (p : Point3) → Inside (box_at p) p
unfolding box_at
at_inside p = record { on_x_lem = within_self p.x; on_y_lem = within_self p.y; on_z = within_self p.z }

pub graft_inside : (c : ℕ) (x : Point3) (t : Tree) (b : BoundingBox) → Points b t → Points (grown b x) (graft c x t 0)
graft_inside c x t b i =
    graft_all c x (λ k y. Inside (grown b x) y) t 0 (grown_new b x) (all_map (λ k y. Inside b y) (λ k y. Inside (grown b x) y) t (λ k y j. grown_old b x y j) i)
