-- `below_turn` meets its contract. Assumes nothing.
use Rattle.std.proofs.Common.{T, sym, subst}
use lib.Ieee.{of_bits}
use Rattle.coords.proofs.Remainder.{rem_below, rem_above}
use Rattle.coords.proofs.below_turn.Goals as goal

pub returns-then-y : goal.returns-then-y
unfolding of_bits
returns-then-y c = rem_below c.args.y (subst T (sym c.well_formed.0.1) tt) c.requires.0 c.if-y.true

pub returns-else-y : goal.returns-else-y
unfolding of_bits
returns-else-y c = rem_above c.args.y c.requires.0 c.requires.1 c.if-y.false
