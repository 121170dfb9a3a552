-- `angles::cos_fix` meets its contract. Assumes nothing.
use Rattle.std.proofs.Common.{arith}
use Rattle.sines.specs.Steps.{cos_fix}
use Rattle.angles.proofs.Nested.{nest_fits}
use Rattle.angles.proofs.cos_fix.Goals as goal

pub overflow_mul-result : goal.overflow_mul-result
overflow_mul-result c = let h = nest_fits 1073741824 _ c.nest.result _ c.nest.ensures in omega arith

pub returns : goal.returns
unfolding cos_fix
returns c = rw c.nest.ensures
