-- `settext::went` meets its contract. Assumes nothing.
use Prim.Native.Nat.{ℕ}
use mathlib.Core.Path.{sym, ap, ◌∙◌}
use borrow.Author.Tests.{eq-eqb, ne_eqb}
use Rattle.settext.specs.declared.Step.TheVariants.{Next, Complete}
use Rattle.settext.specs.State.{went_of, set_lines}
use Rattle.settext.proofs.went.Goals as goal

pub returns-then-lines-line_count : goal.returns-then-lines-line_count
unfolding went_of
returns-then-lines-line_count c =
    let s = c.args.s in
    rw (eq-eqb _ _ (sym c.number-lines.ensures ∙ c.if-lines-line_count.true ∙ c.line_count.ensures)) (ap (λ (k : ℕ). Complete (set_lines s k)) c.number-lines.ensures)

pub returns-else-lines-line_count : goal.returns-else-lines-line_count
unfolding went_of
returns-else-lines-line_count c =
    let s = c.args.s in
    rw (ne_eqb _ _ (λ e. c.if-lines-line_count.false (c.number-lines.ensures ∙ e ∙ sym c.line_count.ensures))) (ap (λ (k : ℕ). Next (set_lines s k)) c.number-lines.ensures)
