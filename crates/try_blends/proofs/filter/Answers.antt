-- `try_blends::filter` is safe: the sizes are small and the lists long enough. Assumes nothing.
use Rattle.std.proofs.Common.{◌*◌, ◌≤◌, mul-le-mul, arith}
use Rattle.try_blends.proofs.filter.Goals as goal

pub overflow_mul-m : goal.overflow_mul-m
overflow_mul-m c =
    let a = c.args.case in
    let small : a.m * a.r ≤ 21 = mul-le-mul {n₂ = 7} {m₂ = 3} (omega arith) (omega arith) in
    omega arith

pub overflow_mul-m-2 : goal.overflow_mul-m-2
overflow_mul-m-2 c =
    let a = c.args.case in
    let small : a.m * a.r * a.n ≤ 63 = mul-le-mul {n₂ = 21} {m₂ = 3} (mul-le-mul {n₂ = 7} {m₂ = 3} (omega arith) (omega arith)) (omega arith) in
    omega arith
