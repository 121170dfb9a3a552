-- `delays::answer_of` meets its contract: each arm is its case of the definition. Assumes nothing.
use mathlib.Core.Path.{sym, ap}
use lib.Ieee.{of_bits}
use Rattle.delays.specs.Delays.{answer_of}
use Rattle.delays.proofs.answer_of.Goals as goal

pub returns-in-Exact : goal.returns-in-Exact
returns-in-Exact c = sym (ap answer_of c.in-Exact.is)

pub returns-in-Blended : goal.returns-in-Blended
returns-in-Blended c = sym (ap answer_of c.in-Blended.is)

pub returns-in-Refused : goal.returns-in-Refused
unfolding of_bits
returns-in-Refused c = sym (ap answer_of c.in-Refused.is)
