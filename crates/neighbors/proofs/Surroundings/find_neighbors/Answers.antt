use Rattle.std.proofs.Common.{◌≡◌, ℕ, suc, ◌+◌, ◌-◌, ◌*◌, ◌<◌, set, ap, ◌∙◌, arith}
use Rattle.neighbors.specs.Neighbors.{step_of, cap_of, writing, row_of}
use Rattle.neighbors.proofs.Directions.{number_at, tag_at}
use Rattle.neighbors.proofs.Table as table
use Rattle.neighbors.proofs.Surroundings.find_neighbors.Goals as goal
use Rattle.neighbors.proofs.Surroundings.find_neighbors.Goals.{in-At, in-Absent, After-search_direction-found}

-- what the search answers is the entry at its place
entry : (c : After-search_direction-found) → c.search_direction-found.result ≡ table.entries c.args.self.now.look c.args.self.now.tree c.args.steps (6 * c.args.self.now.own + c.loop-direction.direction-index)
entry c =
    let s = c.args.self.now in
    let t = c.args.steps in
    let d = c.loop-direction.direction-index in
    let h : d < 6 = omega (arith, c.loop-direction-test.true) in
    let n = number_at d h in
    table.entry_is s.look s.tree.count s.tree.positions.now s.tree.left.now s.tree.right.now t.angle t.radius s.own d h _ _ _ _ c.point_at.ensures c.cartesian_to_spherical-from.ensures
    (c.step-step.ensures ∙ ap (λ (k : ℕ). step_of k t.angle t.radius) n) (c.max_steps-cap.ensures ∙ ap (λ (k : ℕ). cap_of k t.angle) n) _ c.search_direction-found.ensures

pub returns-in-Refused : goal.returns-in-Refused
unfolding row_of
returns-in-Refused c =
    let d = c.loop-direction.direction-index in
    let e : 6 - d ≡ suc (6 - (d + 1)) = omega (arith, c.loop-direction-test.true) in
    table.refused _ _ _ _ _ e _ (entry (goal.at.returns-in-Refused c).After-search_direction-found) _ c.in-Refused.is ∙ c.loop-direction.invariant

pub loop-direction-preserved : goal.loop-direction-preserved
loop-direction-preserved c =
    let E = table.entries c.args.self.now.look c.args.self.now.tree c.args.steps in
    let l = c.loop-direction in
    let d = l.direction-index in
    let k = 6 * c.args.self.now.own + d in
    let h : d < 6 = omega (arith, c.loop-direction-test.true) in
    let e : 6 - d ≡ suc (6 - (d + 1)) = omega (arith, h) in
    let f : 6 * c.args.self.now.own + (d + 1) ≡ k + 1 = omega arith in
    -- what the two other arms come to
    let written : table.Writes c.search_direction-found.result c.match-found.entry = elim c.match-found.branch [
      | in-At w ↦ table.writes_at _ _ _ w.in-At.is w.entry-is
      | in-Absent w ↦ table.writes_absent _ _ w.in-Absent.is w.entry-is
    ] in
    ap (λ (n : ℕ). writing E (6 - (d + 1)) (6 * c.args.self.now.own + (d + 1)) (set l.neighbours (6 * c.args.self.now.own + n) c.match-found.entry)) (tag_at d h)
    ∙ ap (λ (n : ℕ). writing E (6 - (d + 1)) n (set l.neighbours k c.match-found.entry)) f
    ∙ table.on E _ _ k l.neighbours e _ (entry (goal.at.loop-direction-preserved c).After-search_direction-found) _ written ∙ l.invariant

pub returns : goal.returns
unfolding row_of
returns c =
    let d = c.loop-direction.direction-index in
    let e : 6 - d ≡ 0 = omega (arith, c.loop-direction-test.false) in
    table.at_end _ (6 - d) _ _ e ∙ c.loop-direction.invariant
