use Rattle.std.proofs.Common.{ap, ◌∙◌, ◌∷◌, []}
use native.Mathlib.Nat.{sub-le}
use Rattle.limits.specs.Refusals.{Check, verdict_of}
use Rattle.limits.proofs.Values.{value_front}
use Rattle.limits.proofs.judge_values.Goals as goal

pub returns : goal.returns
returns c = c.judge_positions.ensures ∙ ap (λ (l : Check). verdict_of (l ∷ [])) (value_front _ c.args.values.now _ (sub-le _ _))
