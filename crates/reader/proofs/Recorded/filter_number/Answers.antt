-- `reader::Recorded::filter_number` meets its contract. Assumes nothing.
use native.Mathlib.Omega.{arith}
use Rattle.reader.proofs.Ways.{number_whole, number_below}
use Rattle.reader.proofs.Recorded.filter_number.Goals as goal

pub filters-requires : goal.filters-requires
filters-requires c =
    let a = c.args.self.now in
    number_whole a.sizes a.responses.now a.rate c.args.number c.in_default.ensures

pub get_filter_nointerp-requires : goal.get_filter_nointerp-requires
get_filter_nointerp-requires c =
    let a = c.args.self.now in
    omega (arith, number_below a.sizes a.responses.now a.rate c.args.number c.in_default.ensures, c.filters.ensures.0)
