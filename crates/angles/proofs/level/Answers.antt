-- `angles::level` meets its contract. Assumes nothing.
use Rattle.sines.proofs.Bounds.{level_mul, level_sub}
use Rattle.angles.proofs.level.Goals as goal

pub overflow_mul-result : goal.overflow_mul-result
overflow_mul-result c = record { fits = level_mul c.args.t c.args.h c.requires.0 c.requires.1 }

pub overflow_sub-result : goal.overflow_sub-result
overflow_sub-result c = level_sub c.args.t c.args.h c.args.c c.requires.0 c.requires.1
