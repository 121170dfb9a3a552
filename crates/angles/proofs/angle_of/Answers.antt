-- `angles::angle_of` meets its contract. Assumes nothing.
use Rattle.std.proofs.Common.{◌∙◌}
use lib.Ieee.{of_bits}
use Rattle.angles.specs.Arc.{angle_of}
use Rattle.angles.proofs.Steps.{angle_last}
use Rattle.angles.proofs.angle_of.Goals as goal

pub returns-in-0 : goal.returns-in-0
unfolding angle_of of_bits
returns-in-0 c = cc

pub returns-in-1 : goal.returns-in-1
unfolding angle_of of_bits
returns-in-1 c = cc

pub returns-in-2 : goal.returns-in-2
unfolding angle_of of_bits
returns-in-2 c = cc

pub returns-in_default : goal.returns-in_default
unfolding of_bits
returns-in_default c = c.times-in_default.ensures ∙ angle_last c.args.o c.args.j c.min-m-in_default.result c.in_default.in_default-own.rest.0.0.1 c.in_default.in_default-own.rest.0.1 c.in_default.in_default-own.rest.1 c.min-m-in_default.ensures
