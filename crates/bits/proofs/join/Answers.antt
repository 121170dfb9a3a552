-- `bits::join` meets its contract: its pattern has the exponent and one more in the exponent's field, and the digits below the leading one. Assumes nothing.
use native.Mathlib.Omega.{arith}
use mathlib.Core.Path.{sym, ◌∙◌}
use Prim.Native.Nat.{◌+◌, ◌*◌}
use borrow.Author.Tests.{le-leb, lt-leb}
use Rattle.floats.proofs.Patterns.{pattern_no_nan}
use Rattle.bits.proofs.Laws.{join_any}
use Rattle.bits.proofs.join.Goals as goal

pub float_from_bits-result : goal.float_from_bits-result
float_from_bits-result c = pattern_no_nan _ (omega arith)

pub float_from_bits-result-else-negative : goal.float_from_bits-result-else-negative
float_from_bits-result-else-negative c = pattern_no_nan _ (omega arith)

pub returns-then-negative : goal.returns-then-negative
returns-then-negative c =
    let a = c.args in
    let b = 2147483648 + (a.exponent * 8388608 + a.significand) in
    join_any a.negative b a.significand a.exponent (le-leb 2147483648 b (omega arith) ∙ sym c.if-negative.true) (omega arith) c.requires.0 c.requires.1 c.requires.2

pub returns-else-negative : goal.returns-else-negative
returns-else-negative c =
    let a = c.args in
    let b = a.exponent * 8388608 + a.significand in
    join_any a.negative b a.significand a.exponent (lt-leb 2147483648 b (omega arith) ∙ sym c.if-negative.false) (omega arith) c.requires.0 c.requires.1 c.requires.2
