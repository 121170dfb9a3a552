use Rattle.std.proofs.Common.{◌≡◌, ◌*◌, length, sym, ap, ◌∙◌, arith, length-take-le}
use Rattle.std.proofs.lemmas.Result.{err_from_is_err_and}
use Rattle.loads.specs.Load.{work_of}
use Rattle.loads.proofs.Ways.{as_long, front, front_fits, refused, Accepted, accepted, ready}
use Rattle.loads.proofs.load.Goals as goal
use Rattle.loads.proofs.load.Goals.{In_ok-judge_load, After-write_cartesian}

pub returns-in_err-judge_load : goal.returns-in_err-judge_load
returns-in_err-judge_load c =
    let a = c.args in
    let p = err_from_is_err_and c.from_residual.result c.from_residual.ensures.1 in
    rw (p.1, p.2) (refused a.kind a.sizes a.positions.now (length a.responses.now) a.angle_step a.radius_step a.rate (work_of a.left.now a.right.now a.neighbours.now a.cartesian.now) _ (rw c.of.ensures at c.judge_load.ensures) _ c.in_err-judge_load.was)

-- what is known once it is not refused
known : (c : In_ok-judge_load) → Accepted c.args.sizes c.args.positions.now (work_of c.args.left.now c.args.right.now c.args.neighbours.now c.args.cartesian.now)
known c =
    let a = c.args in
    accepted a.kind a.sizes a.positions.now (length a.responses.now) a.angle_step a.radius_step a.rate (work_of a.left.now a.right.now a.neighbours.now a.cartesian.now) _ (rw c.of.ensures at c.judge_load.ensures) c.in_ok-judge_load.was

pub overflow_mul-m : goal.overflow_mul-m
overflow_mul-m c = let h = (known c).lists.3 in omega (arith, h)

pub slice_bounds-write_cartesian-end : goal.slice_bounds-write_cartesian-end
slice_bounds-write_cartesian-end c = (known c).lists.0

pub slice_bounds-write_cartesian-end-2 : goal.slice_bounds-write_cartesian-end-2
slice_bounds-write_cartesian-end-2 c =
    let k = known (goal.at.slice_bounds-write_cartesian-end-2 c).In_ok-judge_load in
    sym (length-take-le (3 * c.args.sizes.m) c.args.cartesian.now k.lists.0)

pub write_cartesian-requires : goal.write_cartesian-requires
write_cartesian-requires c =
    let k = known (goal.at.write_cartesian-requires c).In_ok-judge_load in
    k.exact ∙ sym (length-take-le (3 * c.args.sizes.m) c.args.cartesian.now k.lists.0)

-- the positions fill the front of their list
filled : (c : After-write_cartesian) → length c.args.positions.now ≡ 3 * c.args.sizes.m → length c.write_cartesian.new.cartesian ≡ 3 * c.args.sizes.m
filled c exact = ap length c.write_cartesian.ensures ∙ as_long c.args.kind c.args.positions.now ∙ exact

pub index-requires : goal.index-requires
index-requires c =
    let k = known (goal.at.index-requires c).In_ok-judge_load in
    let l = filled (goal.at.index-requires c).After-write_cartesian k.exact in
    (k.some, (front_fits (3 * c.args.sizes.m) _ c.args.cartesian.now l, k.lists.1, k.lists.2, k.lists.3), k.neighbours)

pub returns : goal.returns
returns c =
    let a = c.args in
    let l = filled (goal.at.returns c).After-write_cartesian (known (goal.at.returns c).In_ok-judge_load).exact in
    ready a.kind a.sizes a.positions.now (length a.responses.now) a.angle_step a.radius_step a.rate (work_of a.left.now a.right.now a.neighbours.now a.cartesian.now) _ (rw c.of.ensures at c.judge_load.ensures) c.in_ok-judge_load.was _ _ (front (3 * a.sizes.m) _ _ a.cartesian.now c.write_cartesian.ensures l) c.index.ensures
