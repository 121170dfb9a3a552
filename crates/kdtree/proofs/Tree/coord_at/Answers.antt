use Rattle.kdtree.proofs.Step.{at_axis}
use native.Mathlib.Omega.{arith}
use Rattle.kdtree.proofs.Tree.coord_at.Goals as goal

pub returns : goal.returns
returns c = at_axis _ _ _ (omega arith)
