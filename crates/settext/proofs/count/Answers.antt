-- `settext::count` meets its contract. Assumes nothing.
use Rattle.std.proofs.Common.{sym, arith}
use Rattle.settext.proofs.Laws.{behind_within}
use Rattle.settext.proofs.count.Goals as goal

pub overflow_cast-result : goal.overflow_cast-result
overflow_cast-result c = omega (arith, behind_within c.args.key.now c.args.line.now c.args.limit _ (sym c.in_ok-n.ensures))
