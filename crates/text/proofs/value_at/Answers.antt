-- `text::value_at` meets its contract. Assumes nothing.
use Rattle.std.proofs.Common.{ap, ◌∙◌}
use lib.Ieee.{of_bits}
use Rattle.text.specs.Values.{value_at, from_num}
use Rattle.text.proofs.Reading.{eight, from_is}
use Rattle.text.proofs.value_at.Goals as goal

pub returns : goal.returns
unfolding value_at of_bits
returns c = from_is c.hex.result c.map_or.result c.map_or.ensures ∙ ap from_num (eight c.args.s.now c.args.k c.hex.ensures)
