-- `blocks::form_error` meets its contract. Assumes nothing.
use Rattle.std.proofs.Common.{rules, arith}
use Rattle.text.specs.Words.{bytes}
use Rattle.blocks.specs.Blocks.{form_error}
use Rattle.blocks.proofs.Into.{front}
use Rattle.blocks.proofs.form_error.Goals as goal

pub count_line-requires : goal.count_line-requires
unfolding form_error bytes
count_line-requires c = omega (arith, c.requires)

pub returns : goal.returns
unfolding form_error bytes
returns c = front _ _ _ _ (search rules)
