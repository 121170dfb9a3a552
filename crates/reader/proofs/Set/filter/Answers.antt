-- `reader::Set::filter` meets its contract. Assumes nothing.
use native.Mathlib.Omega.{arith}
use Rattle.reader.proofs.Ways.{filter_search, filter_whole, filter_table, filter_below}
use Rattle.reader.proofs.Set.filter.Goals as goal

pub nearest-found-requires : goal.nearest-found-requires
nearest-found-requires c =
    let a = c.args.self.now in
    let r = a.recorded in
    filter_search r.sizes a.cartesian.now a.left.now a.right.now c.args.neighbours.now r.responses.now r.rate c.args.q c.of.result c.of.ensures c.in_default.ensures

pub filters-requires : goal.filters-requires
filters-requires c =
    let a = c.args.self.now in
    let r = a.recorded in
    filter_whole r.sizes a.cartesian.now a.left.now a.right.now c.args.neighbours.now r.responses.now r.rate c.args.q c.of.result c.of.ensures c.in_default.ensures

pub invariant_of-measurements : goal.invariant_of-measurements
invariant_of-measurements c =
    let a = c.args.self.now in
    let r = a.recorded in
    let t = filter_table r.sizes a.cartesian.now a.left.now a.right.now c.args.neighbours.now r.responses.now r.rate c.args.q c.of.result c.of.ensures c.in_default.ensures in
    record { table = (omega (arith, t.0, c.filters.ensures.0), omega (arith, t.1, c.filters.ensures.0)) }

pub interpolate-requires : goal.interpolate-requires
interpolate-requires c =
    let a = c.args.self.now in
    let r = a.recorded in
    let below = filter_below r.sizes a.cartesian.now a.left.now a.right.now c.args.neighbours.now r.responses.now r.rate c.args.q c.of.result c.of.ensures c.in_default.ensures in
    omega (arith, below a.look c.in-At.nearest c.in-At.ensures, c.filters.ensures.0)
