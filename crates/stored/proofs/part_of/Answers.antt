-- `stored::part_of` meets its contract. Assumes nothing.
use mathlib.Core.Path.{sym}
use Rattle.stored.proofs.Parts.{start_bounds}
use Rattle.stored.proofs.part_of.Goals as goal

pub start-requires : goal.start-requires
start-requires c =
    let a = c.args in
    start_bounds a.sizes a.responses a.number (sym c.in_ok-judge_response.ensures)
