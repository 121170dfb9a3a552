use Rattle.std.proofs.Common.{arith, sym}
use Rattle.std.proofs.lemmas.Grind.{common_steps}
use Rattle.limits.proofs.Values.{bad_on, value_bad, value_fine}
use Rattle.limits.proofs.judge_positions.Goals as goal

pub returns-in_err-allow : goal.returns-in_err-allow
returns-in_err-allow c = grind (arith, common_steps, value_bad)

pub loop-i-preserved : goal.loop-i-preserved
loop-i-preserved c = grind (arith, common_steps, bad_on)

pub returns : goal.returns
returns c = sym (value_fine c.args.kind c.args.xs.now c.loop-i.i c.loop-i.invariant c.loop-i-test.false c.loop-i.auto.i-end)
