use Rattle.std.proofs.Common.{arith}
use Rattle.std.proofs.lemmas.Grind.{common_steps}
use Rattle.coords.proofs.Triplets.{stays, changes}
use Rattle.coords.proofs.convert_array.Goals as goal

pub returns-in_err-judge_values : goal.returns-in_err-judge_values
returns-in_err-judge_values c = grind (arith, common_steps, stays)

pub returns : goal.returns
returns c = grind (arith, common_steps, changes)
