-- `root::bisect` meets its contract. The invariant: √n lies between low and high, which have at most 24 digits. The measure is what lies between them. Assumes nothing.
use Prim.Native.Nat.{ℕ, ◌+◌, ◌*◌, ◌/◌, ◌^◌, ◌≤◌, ◌<◌}
use native.Mathlib.Omega.{arith}
use Rattle.root.specs.Near.{Near}
use Rattle.root.proofs.Square.{mul_lt, sq_suc, near_next}
use mathlib.Core.Path.{◌≡◌, subst}
use Rattle.root.proofs.bisect.Goals as goal

pub overflow_mul-middle : goal.overflow_mul-middle
overflow_mul-middle c = let m : (c.loop-low.low + c.loop-low.high) / 2 < 2 ^ 24 = omega arith in let p = mul_lt 24 24 m m in omega arith

-- after the loop high is low + 1
next : (n low high : ℕ) → low < high → high ≤ low + 1 → n < high * high → low * low + low < n → Near n (low + 1)
next n low high a b h k =
    let e : high ≡ low + 1 = omega arith in
    let g : n < (low + 1) * (low + 1) = subst (λ (z : ℕ). n < z * z) e h in
    near_next n low k (omega (arith, sq_suc low))

pub returns-else-n-low : goal.returns-else-n-low
returns-else-n-low c =
    let l = c.loop-low in
    next c.args.n l.low l.high (omega arith) (omega arith) (omega arith) (omega arith)
