-- `root::high` meets its contract. Assumes nothing.
use borrow.Author.Rules.{rules}
use native.Mathlib.Omega.{arith}
use native.Mathlib.Nat.{mul-le-mul_right, le_of_lt}
use Rattle.root.proofs.Square.{mul_lt}
use Rattle.root.proofs.high.Goals as goal

pub overflow_mul-result : goal.overflow_mul-result
overflow_mul-result c = record { fits = mul_lt 32 32 (search rules) (search rules) }

pub returns : goal.returns
returns c = omega (arith, mul-le-mul_right c.args.b (le_of_lt c.requires.0))
