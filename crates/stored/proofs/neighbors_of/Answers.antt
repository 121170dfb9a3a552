-- `stored::neighbors_of` meets its contract. Assumes nothing.
use mathlib.Core.Path.{sym}
use Rattle.stored.proofs.Parts.{row_fits}
use Rattle.stored.proofs.neighbors_of.Goals as goal

pub row-requires : goal.row-requires
row-requires c = row_fits c.args.sizes c.args.neighbours.now c.args.number (sym c.in_ok-judge_neighbours.ensures)
