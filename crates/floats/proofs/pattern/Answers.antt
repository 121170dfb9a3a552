-- `floats::pattern` meets its contract. Assumes nothing.
use Rattle.std.proofs.Common.{sym, ◌∙◌}
use lib.Ieee.{to_bits}
use Rattle.floats.proofs.Patterns.{nan_only}
use Rattle.floats.proofs.pattern.Goals as goal

pub returns-then-is_nan : goal.returns-then-is_nan
unfolding to_bits
returns-then-is_nan c = rw (nan_only c.args.x (sym c.is_nan.ensures.value ∙ c.if-is_nan.true))
