-- `settext::query_line` meets its contract. Assumes nothing.
use Rattle.std.proofs.Common.{ℕ, ap, ◌∙◌}
use Rattle.text.specs.Words.{bytes}
use Rattle.settext.specs.declared.Step.TheVariants.{Query}
use Rattle.settext.specs.State.{set_lines}
use Rattle.settext.specs.Lines.{asked, query_line}
use Rattle.settext.proofs.query_line.Goals as goal

pub returns-in-Some : goal.returns-in-Some
unfolding query_line bytes
returns-in-Some c =
    let s = c.args.s in
    ap (λ (k : ℕ). Query (set_lines s k) c.in-Some.p) c.number.ensures ∙ ap (asked s) c.in-Some.ensures

pub returns-in-None : goal.returns-in-None
unfolding query_line bytes
returns-in-None c = c.malformed.ensures ∙ ap (asked c.args.s) c.in-None.ensures
