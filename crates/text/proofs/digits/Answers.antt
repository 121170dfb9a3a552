-- `text::digits` meets its contract. Assumes nothing.
use Rattle.std.proofs.Common.{◌+◌, ◌*◌, sym, ap, ◌∙◌, drop, arith}
use Rattle.text.specs.Number.{at_most}
use Rattle.text.proofs.Reading.{too_many, under, num_on, num_bad, num_end}
use Rattle.text.proofs.digits.Goals as goal

pub returns-in_err-d : goal.returns-in_err-d
unfolding at_most
returns-in_err-d c =
    let a = c.args in
    c.from_residual.ensures ∙ sym (ap (at_most a.limit) (num_bad 10 c.loop-b.v c.loop-b.b-index a.s.now (omega arith) c.in_err-d.ensures)) ∙ c.loop-b.invariant.2

pub returns-then-most-v : goal.returns-then-most-v
returns-then-most-v c =
    let a = c.args in
    let w = c.loop-b.v * 10 + c.in_ok-d.d in
    sym (ap (at_most a.limit) (num_on 10 c.loop-b.v c.loop-b.b-index c.in_ok-d.d a.s.now (omega arith) c.in_ok-d.ensures) ∙ too_many a.limit w (drop (c.loop-b.b-index + 1) a.s.now) (omega arith)) ∙ c.loop-b.invariant.2

pub loop-b-preserved : goal.loop-b-preserved
loop-b-preserved c =
    let a = c.args in
    (c.loop-b.invariant.0, omega arith, sym (ap (at_most a.limit) (num_on 10 c.loop-b.v c.loop-b.b-index c.in_ok-d.d a.s.now (omega arith) c.in_ok-d.ensures)) ∙ c.loop-b.invariant.2)

pub returns : goal.returns
returns c =
    let a = c.args in
    sym (ap (at_most a.limit) (num_end 10 c.loop-b.v c.loop-b.b-index a.s.now (omega arith)) ∙ under a.limit c.loop-b.v c.loop-b.invariant.1) ∙ c.loop-b.invariant.2
