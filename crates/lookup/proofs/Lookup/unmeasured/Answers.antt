use mathlib.Core.Path.{refl}
use Rattle.lookup.specs.Build.{unmeasured}
use lib.Ieee.{of_bits, neg}
use Rattle.lookup.proofs.Lookup.unmeasured.Goals as goal

pub returns : goal.returns
unfolding unmeasured of_bits neg
returns c = refl
