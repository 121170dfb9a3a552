-- `sines::eighth` meets its contract. Assumes nothing.
use Rattle.std.proofs.Common.{refl, arith}
use Rattle.sines.proofs.Scan.{guess_le, quick_yes, quick_no}
use Rattle.sines.proofs.eighth.Goals as goal

pub overflow_mul-q : goal.overflow_mul-q
overflow_mul-q c = omega arith

pub overflow_add-q : goal.overflow_add-q
overflow_add-q c = omega arith

pub overflow_mul-q-2 : goal.overflow_mul-q-2
overflow_mul-q-2 c = let h = guess_le c.args.x _ c.requires refl in omega arith

pub overflow_add-result : goal.overflow_add-result
overflow_add-result c = omega arith

pub returns-then-x-q : goal.returns-then-x-q
returns-then-x-q c = quick_yes c.args.x c.requires _ refl c.if-x-q.true

pub returns-else-x-q : goal.returns-else-x-q
returns-else-x-q c = quick_no c.args.x c.requires _ refl c.if-x-q.false
