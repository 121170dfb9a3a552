use Rattle.std.proofs.Common.{◌≡◌, ◌+◌, ◌-◌, ◌*◌, ◌∙◌, arith}
use Rattle.std.proofs.lemmas.Result.{err_from_is_err_and}
use Rattle.neighbors.specs.Neighbors.{row_of, table_of}
use Rattle.neighbors.proofs.Around.{surrounds}
use Rattle.neighbors.proofs.Table as table
use Rattle.neighbors.proofs.fill_neighbors.Goals as goal

pub invariant_of-surroundings : goal.invariant_of-surroundings
invariant_of-surroundings c =
    let t = c.args.tree.now in
    let h = c.loop-i-test.true in
    record {
      one_of_all = h;
      surrounded = surrounds c.args.look t.count t.positions.now t.left.now t.right.now c.requires.1 c.loop-i.i h c.loop-i.reach _ _ c.clear-around.ensures;
    }

pub returns-in_err-find_neighbors : goal.returns-in_err-find_neighbors
unfolding row_of table_of
returns-in_err-find_neighbors c =
    let m = c.args.tree.now.count in
    let i = c.loop-i.i in
    let e : 6 * m - 6 * i ≡ 6 + (6 * m - (6 * i + 6)) = omega (arith, c.loop-i-test.true) in
    let p = err_from_is_err_and c.from_residual.result c.from_residual.ensures.1 in
    rw (p.1, p.2) (table.part_refused _ 6 _ _ (6 * i) _ e _ _ c.find_neighbors.ensures _ c.in_err-find_neighbors.was ∙ c.loop-i.invariant)

pub loop-i-preserved : goal.loop-i-preserved
unfolding row_of
loop-i-preserved c =
    let m = c.args.tree.now.count in
    let i = c.loop-i.i in
    let e : 6 * m - 6 * i ≡ 6 + (6 * m - (6 * i + 6)) = omega (arith, c.loop-i-test.true) in
    let f : 6 * (i + 1) ≡ 6 * i + 6 = omega arith in
    rw f (table.part_fine _ 6 _ _ (6 * i) _ e _ _ c.find_neighbors.ensures c.in_ok-find_neighbors.was ∙ c.loop-i.invariant)

pub returns : goal.returns
unfolding table_of
returns c =
    let m = c.args.tree.now.count in
    let e : 6 * m - 6 * c.loop-i.i ≡ 0 = omega (arith, c.loop-i-test.false) in
    table.at_end _ (6 * m - 6 * c.loop-i.i) _ _ e ∙ c.loop-i.invariant
