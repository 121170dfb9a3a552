use mathlib.Core.Path.{◌≡◌, sym, ◌∙◌}
use mathlib.Core.List.{List}
use Prim.Native.Nat.{ℕ, ◌<◌}
use native.Mathlib.Omega.{arith}
use lib.Ieee.{Float, lt}
use Rattle.points.specs.declared.Point3.{Point3}
use Rattle.points.specs.Points.{point_at}
use Rattle.kdtree.specs.Geometry.{coord_of, next_axis}
use Rattle.kdtree.proofs.Step as links
use Rattle.clearing.specs.declared.Clearing.{Clearing}
use Rattle.clearing.specs.declared.Kept.{Kept}
use Rattle.clearing.specs.Clearing.{held_in, met}
use Rattle.clearing.proofs.Step as step
use Rattle.clearing.proofs.+clear_rec.Goals as goal
use Rattle.clearing.proofs.+clear_rec.Goals.{After-goes_past, in-To, in_default}

same_held : {j k : Kept} {l m : List ℕ} → j ≡ k → l ≡ m → held_in j l ≡ held_in k m
same_held ek el = cc

module _ (left right : List ℕ) (xs : List Float) (m own n axis : ℕ) (b : Clearing) where
  -- what is known past the nearer side, c being the clearing there
  abbrev here : (o x : Point3) (v w : Float) (nx : ℕ) (h c : Clearing) → n < m → o ≡ point_at xs own → x ≡ point_at xs n → v ≡ coord_of x axis
      → w ≡ coord_of o axis → nx ≡ next_axis axis → h ≡ met own o n x b
      → step.Side left right xs m own (point_at xs own) n (step.near left right xs m own (point_at xs own) (lt w v) n) nx h c
      → step.Here left right xs m own (point_at xs own) n axis b
  here o x v w nx h c below ep ex ev ew en eh ec = record {
    own_point = o;
    x = x;
    v = v;
    w = w;
    nx = nx;
    here = h;
    c = c;
    below = below;
    ep = ep;
    ex = ex;
    ev = ev;
    ew = ew;
    en = en;
    eh = eh;
    ec = ec;
  }

pub clear_rec-near-requires : goal.clear_rec-near-requires
clear_rec-near-requires t c =
    let a = c.args in
    let h = c.requires in
    let i = links.link_to a.tree.now.count a.node c.choose.result c.in-To.n (sym c.in-To.is ∙ c.link_of.ensures) in
    (omega arith, (i.below, h.1))

pub clear_rec-requires : goal.clear_rec-requires
clear_rec-requires t c =
    let a = c.args in
    let h = c.requires in
    let i = links.link_to a.tree.now.count a.node c.choose-2.result c.in-To-link_of.n (sym c.in-To-link_of.is ∙ c.link_of-2.ensures) in
    (omega arith, (i.below, h.1))

-- what is known past the nearer side
abbrev here_at : (t : ℕ) (c : After-goes_past t) → step.Here c.args.tree.now.left.now c.args.tree.now.right.now c.args.tree.now.positions.now c.args.tree.now.count c.args.own (point_at c.args.tree.now.positions.now c.args.own) c.args.node c.args.axis (held_in c.args.kept c.args.places.now)
here_at t c =
    let a = c.args in
    let l = a.tree.now.left.now in
    let r = a.tree.now.right.now in
    let xs = a.tree.now.positions.now in
    let m = a.tree.now.count in
    let held = held_in c.meet-here.result c.meet-here.new.places in
    let so_far = held_in c.match-link_of.near c.match-link_of.places in
    let g = lt c.coord.result c.coord-v.result in
    let near : step.Side l r xs m a.own (point_at xs a.own) a.node (step.near l r xs m a.own (point_at xs a.own) g a.node) c.next_axis-next.result held so_far = elim c.match-link_of.branch [
      | in-To w ↦ λ f hf. same_held w.near-is w.places-is
          ∙ step.side_to l r xs m a.own (point_at xs a.own) a.node _ c.next_axis-next.result held c.choose.result c.link_of.result c.choose.ensures c.link_of.ensures w.in-To.n _ w.in-To.is w.clear_rec-near.ensures f hf
      | in_default w ↦ λ f hf. same_held w.near-is w.places-is
          ∙ step.side_none l r xs m a.own (point_at xs a.own) a.node _ c.next_axis-next.result held c.choose.result c.link_of.result c.choose.ensures c.link_of.ensures w.in_default.not-To f hf
    ] in
    here l r xs m a.own a.node a.axis (held_in a.kept a.places.now) c.point_at-p.result c.point_at-x.result c.coord-v.result c.coord.result c.next_axis-next.result held so_far c.requires.0 c.point_at-p.ensures c.point_at-x.ensures
    c.coord-v.ensures c.coord.ensures c.next_axis-next.ensures c.meet-here.ensures near

pub returns-then-not-goes_past : goal.returns-then-not-goes_past
returns-then-not-goes_past t c =
    let h = here_at t (goal.at.returns-then-not-goes_past t c).After-goes_past in
    step.stays _ _ _ _ _ _ _ _ _ h c.goes_past.result c.goes_past.ensures c.if-not-goes_past.true

pub returns-in-To-link_of : goal.returns-in-To-link_of
returns-in-To-link_of t c =
    let h = here_at t (goal.at.returns-in-To-link_of t c).After-goes_past in
    step.goes_on _ _ _ _ _ _ _ _ _ h c.goes_past.result _ c.goes_past.ensures c.if-not-goes_past.false
    (step.side_to _ _ _ _ _ _ _ _ h.nx h.c c.choose-2.result c.link_of-2.result c.choose-2.ensures c.link_of-2.ensures c.in-To-link_of.n _ c.in-To-link_of.is c.clear_rec.ensures)

pub returns-in_default-link_of : goal.returns-in_default-link_of
returns-in_default-link_of t c =
    let h = here_at t (goal.at.returns-in_default-link_of t c).After-goes_past in
    step.goes_on _ _ _ _ _ _ _ _ _ h c.goes_past.result h.c c.goes_past.ensures c.if-not-goes_past.false
    (step.side_none _ _ _ _ _ _ _ _ h.nx h.c c.choose-2.result c.link_of-2.result c.choose-2.ensures c.link_of-2.ensures c.in_default-link_of.not-To)
