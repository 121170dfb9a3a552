-- `text::hex` meets its contract. Assumes nothing.
use Rattle.std.proofs.Common.{◌+◌, ◌*◌, ◌^◌, ◌<◌, sym, ◌∙◌, arith, eq-eqb}
use borrow.Author.Tests.{ne_eqb}
use Rattle.text.specs.Number.{hex_of}
use Rattle.text.proofs.Reading.{room, small, digit_small, num_on, num_bad, num_end}
use Rattle.text.proofs.hex.Goals as goal

pub returns-then-s-ne8 : goal.returns-then-s-ne8
unfolding hex_of
returns-then-s-ne8 c = simp (ne_eqb _ 8 c.if-s-ne8.true)

pub loop-b-init : goal.loop-b-init
unfolding hex_of
loop-b-init c = (c.if-s-ne8.false, omega arith, simp (eq-eqb _ 8 c.if-s-ne8.false))

pub returns-in_err-d : goal.returns-in_err-d
returns-in_err-d c =
    c.from_residual.ensures ∙ sym (num_bad 16 c.loop-b.v c.loop-b.b-index c.args.s.now (omega arith) c.in_err-d.ensures) ∙ c.loop-b.invariant.2

-- a digit more keeps the value below the next power
next : (c : goal.In_ok-d) → c.loop-b.v * 16 + c.in_ok-d.d < 16 ^ (c.loop-b.b-index + 1)
next c = room c.loop-b.b-index c.loop-b.v c.in_ok-d.d c.loop-b.invariant.1 (digit_small 16 _ _ c.in_ok-d.ensures)

pub overflow_add-v : goal.overflow_add-v
overflow_add-v c = omega (arith, next c, small (c.loop-b.b-index + 1) (omega arith))

pub loop-b-preserved : goal.loop-b-preserved
loop-b-preserved c =
    let e = num_on 16 c.loop-b.v c.loop-b.b-index c.in_ok-d.d c.args.s.now (omega arith) c.in_ok-d.ensures in
    (c.loop-b.invariant.0, next c, sym e ∙ c.loop-b.invariant.2)

pub returns : goal.returns
returns c = sym (num_end 16 c.loop-b.v c.loop-b.b-index c.args.s.now (omega arith)) ∙ c.loop-b.invariant.2
