use Rattle.std.proofs.Common.{arith}
use native.Mathlib.Nat.{mul-le-mul}
use Rattle.limits.proofs.Passed.{sized, product}
use Rattle.limits.proofs.AllowedSizes.responses_fit.Goals as goal

pub overflow_mul-result : goal.overflow_mul-result
overflow_mul-result c =
    let h = sized c.args.self.sizes c.args.self.ok in
    omega (arith, mul-le-mul h.most h.receivers)

pub overflow_mul-result-2 : goal.overflow_mul-result-2
overflow_mul-result-2 c = omega (arith, product c.args.self.sizes (sized c.args.self.sizes c.args.self.ok))
