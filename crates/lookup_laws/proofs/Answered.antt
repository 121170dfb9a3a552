-- Visits never run out in a tree of at most as many nodes as visits are left, whatever the query, the points and the box: no refusal 9. Assumes nothing.
use mathlib.Core.Path.{◌≡◌, refl, sym, subst}
use mathlib.Core.Bool.{Bool, true, false, cond}
use Prim.Native.Nat.{ℕ, suc, ◌+◌, ◌≤◌}
use native.Mathlib.Omega.{arith}
use lib.Ieee.{lt}
use Rattle.std.specs.Prelude.{None, Option, Some}
use Rattle.points.specs.declared.Point3.{Point3}
use Rattle.points.specs.Points.{dist_sq_of}
use Rattle.kdtree.specs.declared.BoundingBox.{BoundingBox}
use Rattle.kdtree.specs.declared.Best.{Best}
use Rattle.kdtree.specs.Geometry.{box_dist_sq, next_axis, left_first}
use Rattle.kdtree.specs.Tree.{Tree, gone, bad, node}
use Rattle.kdtree.specs.Search.{search, improve, visited, farther, after_near, Go}
use Rattle.kdtree.specs.Unpruned.{size}
use Rattle.kdtree_laws.proofs.Pruned.{Clean, search_left, search_right, improve_visits}

abbrev pub WithinVisits : ℕ → Option Best → Type 0
WithinVisits v (Some r) = r.visits ≤ v
WithinVisits v None = ⊥

more : (v w : ℕ) (x : Option Best) → v ≤ w → WithinVisits v x → WithinVisits w x
more v w (Some r) h a = omega arith
more v w None h a = a

one : (c : Bool) (v : ℕ) (x : Option Best) (s : Best) → WithinVisits v x → s.visits ≤ v → WithinVisits v (cond c x (Some s))
one true v x s a b = a
one false v x s a b = b

far : (q : Point3) (t : Tree) (go : Go) (b : BoundingBox) (axis : ℕ) (s : Best) → Clean t → WithinVisits (s.visits + size t) (go b axis s)
    → WithinVisits (s.visits + size t) (farther q t go b axis s)
unfolding farther size
far q gone go b axis s c a = omega arith
far q bad go b axis s c a = c
far q (node n p l r) go b axis s c a = one (lt (box_dist_sq b q) s.dist) _ (go b axis s) s a (omega arith)

near : (w : Option Best) (k : Best → Option Best) (u v : ℕ) → WithinVisits u w → ((s : Best) → s.visits ≤ u → WithinVisits v (k s)) → WithinVisits v (after_near w k)
unfolding after_near
near (Some s) k u v a g = g s a
near None k u v a g = a

module _ (M : ℕ) (q : Point3) where
  abbrev Always : Tree → ℕ → Type 0
  Always t axis = (b : BoundingBox) (s : Best) → s.visits + size t ≤ M → WithinVisits (s.visits + size t) (search M q t b axis s)

  both : (n : ℕ) (p : Point3) (t u : Tree) (tb ub : BoundingBox) (axis v : ℕ) (s : Best) → Clean u → Always t axis → Always u axis → v ≡ s.visits + suc (size t + size u) → v ≤ M
      → WithinVisits v (after_near (search M q t tb axis (visited s)) (λ r. farther q u (search M q u) ub axis (improve n (dist_sq_of p q) r)))
  unfolding visited
  both n p t u tb ub axis v s c it iu e h =
      near (search M q t tb axis (visited s)) (λ r. farther q u (search M q u) ub axis (improve n (dist_sq_of p q) r)) (s.visits + 1 + size t) v (it tb (visited s) (omega arith))
      (λ r k.
      let i = improve n (dist_sq_of p q) r in
      let z : i.visits ≡ r.visits = improve_visits n (dist_sq_of p q) r in
      more (i.visits + size u) v (farther q u (search M q u) ub axis i) (omega arith) (far q u (search M q u) ub axis i c (iu ub i (omega arith))))

  pub answered : (t : Tree) (axis : ℕ) → Clean t → Always t axis
  unfolding search size
  answered gone axis c b s h = omega arith
  answered bad axis c b s h = c
  answered (node n p l r) axis c b s h = go (left_first q p axis) refl (answered l (next_axis axis) c.0) (answered r (next_axis axis) c.1)
    where
      v : ℕ
      v = s.visits + suc (size l + size r)

      go : (g : Bool) → left_first q p axis ≡ g → Always l (next_axis axis) → Always r (next_axis axis) → WithinVisits v (search M q (node n p l r) b axis s)
      go true e u w = subst (WithinVisits v) (sym (search_left M q n p l r b axis s e (omega arith))) (both n p l r _ _ (next_axis axis) v s c.1 u w refl h)
      go false e u w = subst (WithinVisits v) (sym (search_right M q n p l r b axis s e (omega arith))) (both n p r l _ _ (next_axis axis) v s c.0 w u (omega arith) h)
