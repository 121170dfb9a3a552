use Rattle.std.proofs.Common.{arith}
use Rattle.limits.proofs.Passed.{sized}
use Rattle.limits.proofs.AllowedSizes.load_fits.Goals as goal

pub overflow_mul-result : goal.overflow_mul-result
overflow_mul-result c = omega (arith, (sized c.args.self.sizes c.args.self.ok).most)
