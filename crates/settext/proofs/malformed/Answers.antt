-- `settext::malformed` meets its contract. Assumes nothing.
use mathlib.Core.Path.{ap}
use Rattle.settext.specs.declared.Step.TheVariants.{Malformed}
use Rattle.settext.specs.State.{bad_of}
use Rattle.settext.proofs.malformed.Goals as goal

pub returns : goal.returns
unfolding bad_of
returns c = ap Malformed c.number.ensures
