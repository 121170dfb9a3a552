-- `angles::sin_fix` meets its contract. Assumes nothing.
use Rattle.sines.specs.Steps.{sin_fix}
use Rattle.sines.proofs.Bounds.{square_mul, sin_mul}
use Rattle.angles.proofs.Nested.{nest_fits}
use Rattle.angles.proofs.sin_fix.Goals as goal

pub overflow_mul-b : goal.overflow_mul-b
overflow_mul-b c = record { fits = square_mul c.args.a c.requires }

pub overflow_mul-result : goal.overflow_mul-result
overflow_mul-result c = record { fits = sin_mul c.args.a c.nest.result c.requires (nest_fits 1073741824 _ c.nest.result _ c.nest.ensures) }

pub returns : goal.returns
unfolding sin_fix
returns c = rw c.nest.ensures
