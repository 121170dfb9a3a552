-- The source's insert_rec puts its node where the port's links come to hang it. Assumes nothing.
use mathlib.Core.Path.{◌≡◌, refl, ap, ◌∙◌}
use mathlib.Core.Logic.{inl, inr}
use mathlib.Core.Bool.{Bool, true, false, cond}
use Prim.Native.Nat.{ℕ, ◌+◌, ◌%◌}
use Rattle.points.specs.declared.Point3.{Point3}
use Rattle.kdtree.specs.Geometry.{next_axis, goes_left}
use Rattle.kdtree.specs.Tree.{Tree, gone, bad, node}
use Rattle.kdtree_laws.proofs.Pruned.{Clean}
use Rattle.kdtree_laws.proofs.Rep.{Mem, graft}
use Rattle.source.specs.Kdtree.{Link, kd_node, none, some, insert_rec}
use Rattle.source_laws.specs.Drawn.{boxed}
use Rattle.source_laws.proofs.Shapes.{next_depth, goes_left_lem}

-- the source's tree depends on the numbers of its places alone
pub boxed_same : (f g : ℕ → ℕ) (t : Tree) (axis : ℕ) → ((i : ℕ) → Mem i t → f i ≡ g i) → boxed f t axis ≡ boxed g t axis
unfolding boxed
boxed_same f g gone axis h = refl
boxed_same f g bad axis h = refl
boxed_same f g (node n p l r) axis h =
    let a = boxed_same f g l (next_axis axis) (λ i m. h i (inr (inl m))) in
    let b = boxed_same f g r (next_axis axis) (λ i m. h i (inr (inr m))) in
    let c = h n (inl refl) in
    cc

module _ (number : ℕ → ℕ) (c : ℕ) (x : Point3) where
  boxed_cond : (g : Bool) (a b : Tree) (axis : ℕ) (u v : Link) → boxed number a axis ≡ u → boxed number b axis ≡ v → boxed number (cond g a b) axis ≡ cond g u v
  boxed_cond true a b axis u v e f = e
  boxed_cond false a b axis u v e f = f

  -- AN INSERTION IS THE SOURCE'S: the tree with one node more stands for what insert_rec leaves
  pub insert_same : (t : Tree) (axis depth : ℕ) → axis ≡ depth % 3 → Clean t → boxed number (graft c x t axis) axis ≡ insert_rec (boxed number t axis) x (number c) depth
  unfolding boxed graft insert_rec
  insert_same gone axis depth e k = ap (λ (a : ℕ). some (kd_node x a (number c) none none)) e
  insert_same bad axis depth e k = absurd k
  insert_same (node n p l r) axis depth e k =
      let d : next_axis axis ≡ (depth + 1) % 3 = ap next_axis e ∙ next_depth depth in
      let L : Link = boxed number l (next_axis axis) in
      let R : Link = boxed number r (next_axis axis) in
      let a = insert_same l (next_axis axis) (depth + 1) d k.0 in
      let b = insert_same r (next_axis axis) (depth + 1) d k.1 in
      rw (goes_left_lem x p axis)
      (boxed_cond (goes_left x p axis) (node n p (graft c x l (next_axis axis)) r) (node n p l (graft c x r (next_axis axis))) axis
      (some (kd_node p axis (number n) (insert_rec L x (number c) (depth + 1)) R)) (some (kd_node p axis (number n) L (insert_rec R x (number c) (depth + 1))))
      (ap (λ (z : Link). some (kd_node p axis (number n) z R)) a) (ap (λ (z : Link). some (kd_node p axis (number n) L z)) b))
