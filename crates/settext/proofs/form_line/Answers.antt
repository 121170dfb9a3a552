-- `settext::form_line` meets its contract. Assumes nothing.
use mathlib.Core.Path.{sym, ◌∙◌}
use Rattle.text.specs.Words.{bytes}
use Rattle.settext.specs.Lines.{form_line}
use Rattle.settext.proofs.form_line.Goals as goal

pub returns-then-exactly : goal.returns-then-exactly
unfolding form_line bytes
returns-then-exactly c = rw (sym c.exactly.ensures ∙ c.if-exactly.true) c.went.ensures

pub returns : goal.returns
unfolding form_line bytes
returns c = rw (sym c.exactly.ensures ∙ c.if-exactly.false) c.malformed.ensures
