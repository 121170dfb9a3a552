-- `settext::kind_of` meets its contract. Assumes nothing.
use mathlib.Core.Path.{sym, ◌∙◌}
use Rattle.text.specs.Words.{bytes}
use Rattle.settext.specs.Lines.{kind_of}
use Rattle.settext.proofs.kind_of.Goals as goal

pub returns-then-exactly : goal.returns-then-exactly
unfolding kind_of bytes
returns-then-exactly c = rw (sym c.exactly.ensures ∙ c.if-exactly.true)

pub returns-then-exactly-2 : goal.returns-then-exactly-2
unfolding kind_of bytes
returns-then-exactly-2 c = rw (sym c.exactly.ensures ∙ c.if-exactly.false, sym c.exactly-2.ensures ∙ c.if-exactly-2.true)

pub returns : goal.returns
unfolding kind_of bytes
returns c = rw (sym c.exactly.ensures ∙ c.if-exactly.false, sym c.exactly-2.ensures ∙ c.if-exactly-2.false)
