use native.Mathlib.Omega.{arith}
use Rattle.kdtree.proofs.Corners.{low_most}
use Rattle.kdtree.proofs.corner.Goals as goal

pub overflow_cast-low : goal.overflow_cast-low
overflow_cast-low c = omega (arith, c.index_of-low.ensures, low_most c.args.axis)

pub overflow_add-result : goal.overflow_add-result
overflow_add-result c = omega (arith, c.index_of-low.ensures, low_most c.args.axis)
