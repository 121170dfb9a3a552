-- `reader::Set::filter_nointerp` meets its contract. Assumes nothing.
use native.Mathlib.Omega.{arith}
use Rattle.reader.proofs.Ways.{plain_search, plain_whole, plain_below}
use Rattle.reader.proofs.Set.filter_nointerp.Goals as goal

pub nearest-found-requires : goal.nearest-found-requires
nearest-found-requires c =
    let a = c.args.self.now in
    let r = a.recorded in
    plain_search r.sizes a.cartesian.now a.left.now a.right.now r.responses.now r.rate c.args.q c.of-lengths.result c.of-lengths.ensures c.in_default.ensures

pub filters-requires : goal.filters-requires
filters-requires c =
    let a = c.args.self.now in
    let r = a.recorded in
    plain_whole r.sizes a.cartesian.now a.left.now a.right.now r.responses.now r.rate c.args.q c.of-lengths.result c.of-lengths.ensures c.in_default.ensures

pub get_filter_nointerp-requires : goal.get_filter_nointerp-requires
get_filter_nointerp-requires c =
    let a = c.args.self.now in
    let r = a.recorded in
    let below = plain_below r.sizes a.cartesian.now a.left.now a.right.now r.responses.now r.rate c.args.q c.of-lengths.result c.of-lengths.ensures c.in_default.ensures in
    omega (arith, below a.look c.in-At.nearest c.in-At.ensures, c.filters.ensures.0)
