-- `interpolate::refuse` meets its contract. Assumes nothing.
use Prim.Native.Nat.{zero-le}
use Rattle.delays.specs.declared.Outcome.TheVariants.{Refused}
use mathlib.Core.Path.{◌∙◌}
use Rattle.interpolate.proofs.Laws.{silent}
use Rattle.interpolate.proofs.refuse.Goals as goal

pub silence-requires : goal.silence-requires
silence-requires c = zero-le

pub silence-requires-2 : goal.silence-requires-2
silence-requires-2 c = zero-le

pub returns : goal.returns
returns c =
    let a = c.args in
    λ i. record { answer = Refused a.number a.place; left = (c.silence.ensures ∙ silent a.left.now) i; right = (c.silence-2.ensures ∙ silent a.right.now) i }
