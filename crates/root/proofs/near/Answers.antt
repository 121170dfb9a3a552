-- `root::near` meets its contract: the test of the guess shows it, or bisection does. Assumes nothing.
use native.Mathlib.Omega.{arith}
use Rattle.root.proofs.Square.{mul_lt, near_at, near_next}
use Rattle.root.proofs.near.Goals as goal

pub overflow_mul-p : goal.overflow_mul-p
overflow_mul-p c = let p = mul_lt 26 26 c.guess-s.ensures c.guess-s.ensures in omega arith

pub returns-then-d-s-2 : goal.returns-then-d-s-2
returns-then-d-s-2 c = near_at c.args.n c.guess-s.result (omega arith) (omega arith) (omega arith)

pub returns-then-d-s : goal.returns-then-d-s
returns-then-d-s c = near_next c.args.n c.guess-s.result (omega arith) (omega arith)
