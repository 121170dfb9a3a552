use Rattle.std.proofs.Common.{◌≡◌, suc, ◌+◌, ◌-◌, ◌≤◌, sym, ◌∙◌, arith}
use Rattle.neighbors.specs.Neighbors.{unless_own, direction_of}
use Rattle.neighbors.proofs.Going as search
use Rattle.neighbors.proofs.Surroundings.search_direction.Goals as goal
use Rattle.neighbors.proofs.Surroundings.search_direction.Goals.{After-locate-found}

pub returns-then-has_left : goal.returns-then-has_left
unfolding direction_of
returns-then-has_left c =
    let a = c.args in
    let i = c.loop-i.i in
    let t = c.loop-i-test.true in
    let z = c.step_to-there in
    let e : a.cap - i ≡ suc (a.cap - (i + 1)) = omega (arith, t) in
    search.out a.self.now a.from a.step _ _ i e z.result z.ensures (sym c.has_left.ensures ∙ c.if-has_left.true) ∙ c.loop-i.invariant.rest

-- the search from here on, by what was found at the point that this step leads to, of turns that may be kept
turn : (c : After-locate-found) → unless_own c.args.self.now.own c.locate-found.result (search.go c.args.self.now c.args.from c.args.step (c.args.cap - (c.loop-i.i + 1)) (c.loop-i.i + 1))
    ≡ search.go c.args.self.now c.args.from c.args.step c.args.cap 0
turn c =
    let a = c.args in
    let l = c.loop-i in
    let i = l.i in
    let t = c.loop-i-test.true in
    let z = c.step_to-there in
    let e : a.cap - i ≡ suc (a.cap - (i + 1)) = omega (arith, t) in
    let h : i + 1 ≤ 4294967296 = omega arith in
    let q = search.point_is a.from a.step i h z.result z.ensures l.phi l.theta l.invariant.azimuth l.invariant.elevation c.turn_at-phi.result c.turn_at-theta.result c.turn_at-phi.ensures c.turn_at-theta.ensures c.along-q.result c.along-q.ensures in
    search.stayed a.self.now a.from a.step _ _ i e z.result z.ensures (sym c.has_left.ensures ∙ c.if-has_left.false) c.along-q.result q c.locate-found.result c.locate-found.ensures ∙ l.invariant.rest

pub returns-in_default : goal.returns-in_default
unfolding direction_of
returns-in_default c = search.refused _ _ _ _ c.in_default.is _ c.into.ensures ∙ turn (goal.at.returns-in_default c).After-locate-found

pub returns-then-n-self : goal.returns-then-n-self
unfolding direction_of
returns-then-n-self c = search.other _ _ _ _ c.in-At.is c.if-n-self.true ∙ turn (goal.at.returns-then-n-self c).After-locate-found

pub loop-i-preserved : goal.loop-i-preserved
loop-i-preserved c =
    let a = c.args in
    let l = c.loop-i in
    let i = l.i in
    let z = c.step_to-there in
    let h : i + 1 ≤ 4294967296 = omega arith in
    record {
      rest = search.same _ _ _ _ c.in-At.is c.if-n-self.false ∙ turn (goal.at.loop-i-preserved c).After-locate-found;
      azimuth = search.phi_on a.from a.step i h z.result z.ensures l.phi l.theta l.invariant.azimuth l.invariant.elevation c.turn_at-phi.result c.turn_at-theta.result c.turn_at-phi.ensures c.turn_at-theta.ensures;
      elevation = search.theta_on a.from a.step i h z.result z.ensures l.phi l.theta l.invariant.azimuth l.invariant.elevation c.turn_at-phi.result c.turn_at-theta.result c.turn_at-phi.ensures c.turn_at-theta.ensures;
    }

pub returns : goal.returns
unfolding direction_of
returns c =
    let a = c.args in
    let l = c.loop-i in
    let e : a.cap - l.i ≡ 0 = omega arith in
    search.at_end a.self.now a.from a.step (a.cap - l.i) l.i e ∙ l.invariant.rest
