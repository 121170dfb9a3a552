use native.Mathlib.Omega.{arith}
use Rattle.kdtree.proofs.Corners.{next_same, next_none}
use Rattle.kdtree.proofs.next_axis.Goals as goal

pub overflow_add-result : goal.overflow_add-result
overflow_add-result c = let h = c.if-axis-lt2.true in omega arith

pub returns-then-axis-lt2 : goal.returns-then-axis-lt2
returns-then-axis-lt2 c = next_same _ c.if-axis-lt2.true

pub returns-else-axis-lt2 : goal.returns-else-axis-lt2
returns-else-axis-lt2 c = next_none _ c.if-axis-lt2.false
