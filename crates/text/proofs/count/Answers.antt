-- `text::count` meets its contract. Assumes nothing.
use borrow.Author.Tests.{eq-eqb, ne_eqb}
use Rattle.text.specs.Number.{count_of}
use Rattle.text.proofs.count.Goals as goal

pub returns-then-n-eq0 : goal.returns-then-n-eq0
unfolding count_of
returns-then-n-eq0 c = simp (eq-eqb _ 0 c.if-n-eq0.true)

pub returns-then-s-n : goal.returns-then-s-n
unfolding count_of
returns-then-s-n c = simp (ne_eqb _ 0 c.if-n-eq0.false, c.if-s-n.true)

pub returns : goal.returns
unfolding count_of
returns c = simp (ne_eqb _ 0 c.if-n-eq0.false, c.if-s-n.false) c.digits.ensures
