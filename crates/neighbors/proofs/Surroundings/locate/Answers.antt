use Rattle.std.proofs.Common.{◌≡◌, ◌<◌, ℕ, List, Float, sym, ap, ◌∙◌, subst, arith}
use Rattle.points.specs.declared.Point3.{Point3}
use Rattle.kdtree.specs.Nearest.{place_found}
use Rattle.clearing.specs.declared.Clearing.{Clearing}
use Rattle.clearing.specs.declared.Nearest.{Nearest}
use Rattle.clearing.specs.Clearing.{nearest_within}
use Rattle.clearing_laws.proofs.Listed.{nearest_below}
use Rattle.lookup.specs.Lookup.{located_by, locate_of}
use Rattle.neighbors.proofs.Around.{found_by}
use Rattle.neighbors.proofs.Surroundings.locate.Goals as goal

-- the nearest in the clearing is one of the m
below : (xs : List Float) (m : ℕ) (p : Point3) (own : ℕ) (around : Clearing) (s : Nearest) → s ≡ nearest_within xs m p own around → own < m → s.place < m
below xs m p own around s e h = subst (λ (s : Nearest). s.place < m) (sym e) (nearest_below xs m p own around h)

pub point_at-here-requires : goal.point_at-here-requires
point_at-here-requires c =
    let s = c.args.self.now in
    let b = below s.tree.positions.now s.tree.count c.normalize_radius-p.result s.own s.around _ c.nearest_in-found.ensures s.one_of_all in
    let h = s.tree.holds.0 in
    omega (arith, b, h)

pub overflow_cast-result : goal.overflow_cast-result
overflow_cast-result c =
    let s = c.args.self.now in
    let b = below s.tree.positions.now s.tree.count c.normalize_radius-p.result s.own s.around _ c.nearest_in-found.ensures s.one_of_all in
    let h = s.tree.holds.3 in
    omega (arith, b, h)

pub returns-then-found-alone : goal.returns-then-found-alone
returns-then-found-alone c =
    let s = c.args.self.now in
    found_by s.look s.tree.count s.tree.positions.now s.tree.left.now s.tree.right.now s.own s.around s.surrounded c.args.q c.normalize_radius-p.result c.normalize_radius-p.ensures
    c.nearest_in-found.result c.nearest_in-found.ensures _ _ c.point_at-here.ensures c.point_at-root.ensures _ c.alone.ensures c.if-found-alone.true

pub returns : goal.returns
unfolding locate_of
returns c =
    let s = c.args.self.now in
    c.nearest.ensures ∙ ap (λ (p : Point3). located_by (place_found s.tree.positions.now s.tree.left.now s.tree.right.now s.tree.count s.look.bounds p)) c.normalize_radius-p.ensures
