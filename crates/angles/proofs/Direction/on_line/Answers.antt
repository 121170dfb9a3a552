-- `angles::Direction::on_line` meets its contract. Assumes nothing.
use Rattle.std.proofs.Common.{◌∙◌}
use borrow.Author.Tests.{lt-leb}
use Rattle.angles.proofs.Steps.{line_yes, line_no, mul_fits}
use Rattle.angles.proofs.Direction.on_line.Goals as goal

pub overflow_mul-py : goal.overflow_mul-py
overflow_mul-py c = record { fits = mul_fits c.args.self.py c.args.vc c.args.self.small.0 c.requires.1 }

pub returns-then-gap-le8796093022208 : goal.returns-then-gap-le8796093022208
returns-then-gap-le8796093022208 c = line_yes c.args.self.back c.args.self.py c.args.self.px c.args.ns c.args.vs c.args.nc c.args.vc c.differ.result c.differ-then-gap-le8796093022208.result c.ahead.result c.gap.result c.differ.ensures c.gap.ensures c.if-gap-le8796093022208.true c.differ-then-gap-le8796093022208.ensures c.ahead.ensures

pub returns-else-gap-le8796093022208 : goal.returns-else-gap-le8796093022208
returns-else-gap-le8796093022208 c = lt-leb c.gap.result 8796093022208 c.if-gap-le8796093022208.false ∙ line_no c.args.self.back c.args.self.py c.args.self.px c.args.ns c.args.vs c.args.nc c.args.vc c.differ.result c.gap.result c.differ.ensures c.gap.ensures c.if-gap-le8796093022208.false
