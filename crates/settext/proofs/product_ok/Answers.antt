-- `settext::product_ok` meets its contract. Assumes nothing.
use Rattle.std.proofs.Common.{sym, ap, ◌∙◌}
use borrow.Author.Tests.{le-leb, lt-leb}
use Rattle.settext.specs.Lines.{product}
use Rattle.settext.proofs.product_ok.Goals as goal

pub returns-in_err-n : goal.returns-in_err-n
unfolding product
returns-in_err-n c = c.from_residual.ensures ∙ sym (ap (product c.args.s) c.in_err-n.was)

pub returns-then-s-n-gt4096 : goal.returns-then-s-n-gt4096
unfolding product
returns-then-s-n-gt4096 c = sym (ap (product c.args.s) c.in_ok-n.was ∙ rw (lt-leb _ _ c.if-s-n-gt4096.true))

pub returns : goal.returns
unfolding product
returns c = sym (ap (product c.args.s) c.in_ok-n.was ∙ rw (le-leb _ _ c.if-s-n-gt4096.false))
