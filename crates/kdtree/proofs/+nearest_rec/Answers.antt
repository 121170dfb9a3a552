use mathlib.Core.Path.{◌≡◌, sym, ap, ◌∙◌}
use mathlib.Core.List.{List}
use mathlib.Core.Bool.{Bool}
use Prim.Native.Nat.{ℕ, ◌<◌}
use native.Mathlib.Omega.{arith}
use borrow.Author.Tests.{eqb-true}
use lib.Ieee.{Float, binary32, sub, le}
use Rattle.std.proofs.Common.{Option, Some, None}
use Rattle.floats.specs.Floats.{zero32}
use Rattle.points.specs.declared.Point3.{Point3}
use Rattle.points.specs.Points.{point_at}
use Rattle.kdtree.specs.declared.BoundingBox.{BoundingBox}
use Rattle.kdtree.specs.declared.Best.{Best}
use Rattle.kdtree.specs.declared.Link.{Link}
use Rattle.kdtree.specs.declared.Link.TheVariants.{Gone, To}
use Rattle.kdtree.specs.Geometry.{coord_of, next_axis}
use Rattle.kdtree.specs.Tree.{link_of}
use Rattle.kdtree.specs.Search.{visited, nearer_box}
use Rattle.kdtree.proofs.Whole.{both}
use Rattle.kdtree.proofs.Step as step
use Rattle.kdtree.proofs.+nearest_rec.Goals as goal
use Rattle.kdtree.proofs.+nearest_rec.Goals.{in-Gone, in-To-link_of+in_ok-after-in-To-link_of}

module _ (left right : List ℕ) (xs : List Float) (count : ℕ) (q : Point3) (n : ℕ) (b : BoundingBox) (axis : ℕ) (s : Best) where
  -- what is known where both links are chosen
  abbrev here : (x v : Float) (g : Bool) (nx : ℕ) → n < count → s.visits < count → x ≡ coord_of q axis → v ≡ coord_of (point_at xs n) axis
      → g ≡ le (sub binary32 x v) zero32 → nx ≡ next_axis axis → step.Here left right xs count q n b axis s
  here x v g nx below room ex ev eg en = record {
    v = v;
    g = g;
    nx = nx;
    below = below;
    room = room;
    ev = ev;
    eg = step.first_left q (point_at xs n) axis x v g ex ev eg;
    en = en;
  }

  -- what each way of the nearer side answered is what the specification answers there
  module _ (h : step.Here left right xs count q n b axis s) (l : ℕ) (lk : Link) (el : l ≡ step.near left right xs count h.g n) (ek : lk ≡ link_of count n l)
      (w : Best) where
    abbrev Near : Type 0
    Near = step.Near left right xs count q n b axis s h (Some w)

    came_gone : (u : Best) → u ≡ visited s → lk ≡ Gone → w ≡ u → Near
    came_gone u eu e ew k hk = ap Some (ew ∙ eu) ∙ step.near_gone left right xs count q n b axis s h l lk el ek e k hk

    came_to : (m : ℕ) (u : Best) (nb : BoundingBox) (r : Option Best) → u ≡ visited s → lk ≡ To m → nb ≡ nearer_box h.g b axis h.v
        → step.After left right xs count q m nb h.nx u r → r ≡ Some w → Near
    came_to m u nb r eu e eb after er k hk = sym er ∙ step.near_to left right xs count q n b axis s h l m lk u nb r el ek e eu eb after k hk

pub returns-then-tree-best : goal.returns-then-tree-best
returns-then-tree-best t c = step.full _ _ _ _ _ _ _ _ _ c.requires.0 c.if-tree-best.true

pub returns-then-l-r : goal.returns-then-l-r
returns-then-l-r t c =
    let e = both _ _ c.if-l-r.true in
    step.leaf _ _ _ _ _ _ _ _ _ c.requires.0 c.if-tree-best.false (eqb-true _ _ e.0) (eqb-true _ _ e.1) c.dist_at-d.result c.visited-seen.result
    c.better.result c.dist_at-d.ensures c.visited-seen.ensures c.better.ensures

pub returns-in_default : goal.returns-in_default
returns-in_default t c =
    let a = c.args in
    let h = here a.tree.now.left.now a.tree.now.right.now a.tree.now.positions.now a.tree.now.count (point_at a.q.now 0) a.node a.rect a.axis a.best _ _ _ _ c.requires.0 c.if-tree-best.false
    c.query_coord.ensures c.coord_at-v.ensures c.left_first-go_left.ensures c.next_axis-next.ensures in
    step.nowhere _ _ _ _ _ _ _ _ _ h _ _ _ c.choose-nearer.ensures c.choose-farther.ensures c.if-farther.true c.link_of.ensures c.in_default.not-To c.if-l-r.false

pub nearest_rec-requires : goal.nearest_rec-requires
nearest_rec-requires t c =
    let a = c.args in
    let i = step.link_to a.tree.now.count a.node c.choose-nearer.result c.in-To.n (sym c.in-To.is ∙ c.link_of.ensures) in
    (omega arith, (i.below, step.next_below a.axis c.next_axis-next.result c.next_axis-next.ensures))

pub returns-in_err-only : goal.returns-in_err-only
returns-in_err-only t c =
    let a = c.args in
    let h = here a.tree.now.left.now a.tree.now.right.now a.tree.now.positions.now a.tree.now.count (point_at a.q.now 0) a.node a.rect a.axis a.best _ _ _ _ c.requires.0 c.if-tree-best.false
    c.query_coord.ensures c.coord_at-v.ensures c.left_first-go_left.ensures c.next_axis-next.ensures in
    let near = step.near_to _ _ _ _ _ _ _ _ _ h c.choose-nearer.result c.in-To.n c.link_of.result c.visited-seen.result c.nearer_box-near.result _ c.choose-nearer.ensures c.link_of.ensures
    c.in-To.is c.visited-seen.ensures c.nearer_box-near.ensures c.nearest_rec.ensures in
    λ f hf. c.from_residual.ensures ∙ step.stopped_near _ _ _ _ _ _ _ _ _ h (λ k hk. sym (c.in_err-only.was) ∙ near k hk) f hf

pub returns-then-farther : goal.returns-then-farther
returns-then-farther t c =
    let a = c.args in
    let h = here a.tree.now.left.now a.tree.now.right.now a.tree.now.positions.now a.tree.now.count (point_at a.q.now 0) a.node a.rect a.axis a.best _ _ _ _ c.requires.0 c.if-tree-best.false
    c.query_coord.ensures c.coord_at-v.ensures c.left_first-go_left.ensures c.next_axis-next.ensures in
    let near = step.near_to _ _ _ _ _ _ _ _ _ h c.choose-nearer.result c.in-To.n c.link_of.result c.visited-seen.result c.nearer_box-near.result _ c.choose-nearer.ensures c.link_of.ensures
    c.in-To.is c.visited-seen.ensures c.nearer_box-near.ensures c.nearest_rec.ensures in
    step.one_sided _ _ _ _ _ _ _ _ _ h c.in_ok-only.only c.better-then-farther.result c.dist_at-d.result (λ k hk. sym (c.in_ok-only.was) ∙ near k hk) c.dist_at-d.ensures
    c.better-then-farther.ensures _ c.choose-farther.ensures c.if-farther.true

pub nearest_rec-requires-in-To-link_of : goal.nearest_rec-requires-in-To-link_of
nearest_rec-requires-in-To-link_of t c =
    let a = c.args in
    let i = step.link_to a.tree.now.count a.node c.choose-nearer.result c.in-To-link_of.n (sym c.in-To-link_of.is ∙ c.link_of-2.ensures) in
    (omega arith, (i.below, step.next_below a.axis c.next_axis-next.result c.next_axis-next.ensures))

pub returns-in_err-after-in-To-link_of : goal.returns-in_err-after-in-To-link_of
returns-in_err-after-in-To-link_of t c =
    let a = c.args in
    let h = here a.tree.now.left.now a.tree.now.right.now a.tree.now.positions.now a.tree.now.count (point_at a.q.now 0) a.node a.rect a.axis a.best _ _ _ _ c.requires.0 c.if-tree-best.false
    c.query_coord.ensures c.coord_at-v.ensures c.left_first-go_left.ensures c.next_axis-next.ensures in
    let near = step.near_to _ _ _ _ _ _ _ _ _ h c.choose-nearer.result c.in-To-link_of.n c.link_of-2.result c.visited-seen.result c.nearer_box-near-in-To-link_of.result _ c.choose-nearer.ensures c.link_of-2.ensures
    c.in-To-link_of.is c.visited-seen.ensures c.nearer_box-near-in-To-link_of.ensures c.nearest_rec-in-To-link_of.ensures in
    λ f hf. c.from_residual-in_err-after-in-To-link_of.ensures ∙ step.stopped_near _ _ _ _ _ _ _ _ _ h (λ k hk. sym (c.in_err-after-in-To-link_of.was) ∙ near k hk) f hf

pub returns-in-Bad : goal.returns-in-Bad
returns-in-Bad t c =
    let a = c.args in
    let h = here a.tree.now.left.now a.tree.now.right.now a.tree.now.positions.now a.tree.now.count (point_at a.q.now 0) a.node a.rect a.axis a.best _ _ _ _ c.requires.0 c.if-tree-best.false
    c.query_coord.ensures c.coord_at-v.ensures c.left_first-go_left.ensures c.next_axis-next.ensures in
    step.stopped_near _ _ _ _ _ _ _ _ _ h (step.near_bad _ _ _ _ _ _ _ _ _ h _ _ c.choose-nearer.ensures c.link_of-2.ensures c.in-Bad.is)

pub returns-in_default-link_of : goal.returns-in_default-link_of
returns-in_default-link_of t c =
    let a = c.args in
    let h = here a.tree.now.left.now a.tree.now.right.now a.tree.now.positions.now a.tree.now.count (point_at a.q.now 0) a.node a.rect a.axis a.best _ _ _ _ c.requires.0 c.if-tree-best.false
    c.query_coord.ensures c.coord_at-v.ensures c.left_first-go_left.ensures c.next_axis-next.ensures in
    let near : step.Near a.tree.now.left.now a.tree.now.right.now a.tree.now.positions.now a.tree.now.count (point_at a.q.now 0) a.node a.rect a.axis a.best h (Some c.match-link_of-2.after) = elim c.match-link_of-2.branch [
      | in-Gone w ↦ came_gone _ _ _ _ _ _ _ _ _ h c.choose-nearer.result c.link_of-2.result c.choose-nearer.ensures c.link_of-2.ensures _ c.visited-seen.result c.visited-seen.ensures
          w.in-Gone.is w.after-is
      | in-To-link_of+in_ok-after-in-To-link_of w ↦ came_to _ _ _ _ _ _ _ _ _ h c.choose-nearer.result c.link_of-2.result c.choose-nearer.ensures c.link_of-2.ensures _
          w.in-To-link_of.n c.visited-seen.result w.nearer_box-near-in-To-link_of.result w.nearest_rec-in-To-link_of.result c.visited-seen.ensures w.in-To-link_of.is
          w.nearer_box-near-in-To-link_of.ensures w.nearest_rec-in-To-link_of.ensures (w.in_ok-after-in-To-link_of.was ∙ ap Some (sym w.after-is))
    ] in
    let there : step.There a.tree.now.left.now a.tree.now.right.now a.tree.now.positions.now a.tree.now.count (point_at a.q.now 0) a.node a.rect a.axis a.best h c.better-b.result = record { l = _; lk = _; el = c.choose-farther.ensures; ek = c.link_of-3.ensures } in
    step.went_on _ _ _ _ _ _ _ _ _ h c.match-link_of-2.after c.better-b.result c.dist_at-d.result near c.dist_at-d.ensures c.better-b.ensures None
    (step.far_nowhere _ _ _ _ _ _ _ _ _ h c.better-b.result there c.if-farther.false c.in_default-link_of.not-To)

pub returns-then-not-far_is_nearer : goal.returns-then-not-far_is_nearer
returns-then-not-far_is_nearer t c =
    let a = c.args in
    let h = here a.tree.now.left.now a.tree.now.right.now a.tree.now.positions.now a.tree.now.count (point_at a.q.now 0) a.node a.rect a.axis a.best _ _ _ _ c.requires.0 c.if-tree-best.false
    c.query_coord.ensures c.coord_at-v.ensures c.left_first-go_left.ensures c.next_axis-next.ensures in
    let near : step.Near a.tree.now.left.now a.tree.now.right.now a.tree.now.positions.now a.tree.now.count (point_at a.q.now 0) a.node a.rect a.axis a.best h (Some c.match-link_of-2.after) = elim c.match-link_of-2.branch [
      | in-Gone w ↦ came_gone _ _ _ _ _ _ _ _ _ h c.choose-nearer.result c.link_of-2.result c.choose-nearer.ensures c.link_of-2.ensures _ c.visited-seen.result c.visited-seen.ensures
          w.in-Gone.is w.after-is
      | in-To-link_of+in_ok-after-in-To-link_of w ↦ came_to _ _ _ _ _ _ _ _ _ h c.choose-nearer.result c.link_of-2.result c.choose-nearer.ensures c.link_of-2.ensures _
          w.in-To-link_of.n c.visited-seen.result w.nearer_box-near-in-To-link_of.result w.nearest_rec-in-To-link_of.result c.visited-seen.ensures w.in-To-link_of.is
          w.nearer_box-near-in-To-link_of.ensures w.nearest_rec-in-To-link_of.ensures (w.in_ok-after-in-To-link_of.was ∙ ap Some (sym w.after-is))
    ] in
    let there : step.There a.tree.now.left.now a.tree.now.right.now a.tree.now.positions.now a.tree.now.count (point_at a.q.now 0) a.node a.rect a.axis a.best h c.better-b.result = record { l = _; lk = _; el = c.choose-farther.ensures; ek = c.link_of-3.ensures } in
    step.went_on _ _ _ _ _ _ _ _ _ h c.match-link_of-2.after c.better-b.result c.dist_at-d.result near c.dist_at-d.ensures c.better-b.ensures (Some c.better-b.result)
    (step.far_out _ _ _ _ _ _ _ _ _ h c.better-b.result there c.in-To-link_of-2.n c.far_is_nearer.result c.in-To-link_of-2.is c.far_is_nearer.ensures c.if-not-far_is_nearer.true)

pub nearest_rec-last-requires : goal.nearest_rec-last-requires
nearest_rec-last-requires t c =
    let a = c.args in
    let i = step.link_to a.tree.now.count a.node c.choose-farther.result c.in-To-link_of-2.n (sym c.in-To-link_of-2.is ∙ c.link_of-3.ensures) in
    (omega arith, (i.below, step.next_below a.axis c.next_axis-next.result c.next_axis-next.ensures))

pub returns : goal.returns
returns t c =
    let a = c.args in
    let h = here a.tree.now.left.now a.tree.now.right.now a.tree.now.positions.now a.tree.now.count (point_at a.q.now 0) a.node a.rect a.axis a.best _ _ _ _ c.requires.0 c.if-tree-best.false
    c.query_coord.ensures c.coord_at-v.ensures c.left_first-go_left.ensures c.next_axis-next.ensures in
    let near : step.Near a.tree.now.left.now a.tree.now.right.now a.tree.now.positions.now a.tree.now.count (point_at a.q.now 0) a.node a.rect a.axis a.best h (Some c.match-link_of-2.after) = elim c.match-link_of-2.branch [
      | in-Gone w ↦ came_gone _ _ _ _ _ _ _ _ _ h c.choose-nearer.result c.link_of-2.result c.choose-nearer.ensures c.link_of-2.ensures _ c.visited-seen.result c.visited-seen.ensures
          w.in-Gone.is w.after-is
      | in-To-link_of+in_ok-after-in-To-link_of w ↦ came_to _ _ _ _ _ _ _ _ _ h c.choose-nearer.result c.link_of-2.result c.choose-nearer.ensures c.link_of-2.ensures _
          w.in-To-link_of.n c.visited-seen.result w.nearer_box-near-in-To-link_of.result w.nearest_rec-in-To-link_of.result c.visited-seen.ensures w.in-To-link_of.is
          w.nearer_box-near-in-To-link_of.ensures w.nearest_rec-in-To-link_of.ensures (w.in_ok-after-in-To-link_of.was ∙ ap Some (sym w.after-is))
    ] in
    let there : step.There a.tree.now.left.now a.tree.now.right.now a.tree.now.positions.now a.tree.now.count (point_at a.q.now 0) a.node a.rect a.axis a.best h c.better-b.result = record { l = _; lk = _; el = c.choose-farther.ensures; ek = c.link_of-3.ensures } in
    step.went_on _ _ _ _ _ _ _ _ _ h c.match-link_of-2.after c.better-b.result c.dist_at-d.result near c.dist_at-d.ensures c.better-b.ensures c.nearest_rec-last.result
    (step.far_in _ _ _ _ _ _ _ _ _ h c.better-b.result there c.in-To-link_of-2.n c.farther_box-far.result c.far_is_nearer.result c.nearest_rec-last.result c.in-To-link_of-2.is
    c.farther_box-far.ensures c.far_is_nearer.ensures c.if-not-far_is_nearer.false c.nearest_rec-last.ensures)
