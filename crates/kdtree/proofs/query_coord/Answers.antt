use Rattle.kdtree.proofs.Step.{first_axis}
use native.Mathlib.Omega.{arith}
use Rattle.kdtree.proofs.query_coord.Goals as goal

pub returns : goal.returns
returns c = first_axis _ _ (omega arith)
