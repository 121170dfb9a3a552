-- `settext::line_count` meets its contract. Assumes nothing.
use mathlib.Core.Path.{refl}
use Rattle.settext.specs.State.{line_count}
use Rattle.settext.proofs.line_count.Goals as goal

pub returns : goal.returns
unfolding line_count
returns c = refl
