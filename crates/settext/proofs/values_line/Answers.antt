-- `settext::values_line` meets its contract. Assumes nothing.
use mathlib.Core.Path.{sym, ap, ◌∙◌}
use mathlib.Core.Bool.{Bool}
use lib.ListN.{length, drop}
use Rattle.text.specs.Values.{stored}
use Rattle.settext.specs.Lines.{values_step, values_list}
use Rattle.settext.proofs.values_line.Goals as goal

pub returns-then-values_behind : goal.returns-then-values_behind
unfolding values_step values_list
returns-then-values_behind c =
    let a = c.args in
    let v = c.values_behind in
    let e = v.ensures.0 in (
      rw (sym e ∙ c.if-values_behind.true) c.went.ensures,
      v.ensures.1 ∙ ap (λ (b : Bool). stored b (drop (length a.key.now) a.line.now) a.n a.at a.out.now) e,
    )

pub returns : goal.returns
unfolding values_step values_list
returns c =
    let a = c.args in
    let v = c.values_behind in
    let e = v.ensures.0 in (
      rw (sym e ∙ c.if-values_behind.false) c.malformed.ensures,
      v.ensures.1 ∙ ap (λ (b : Bool). stored b (drop (length a.key.now) a.line.now) a.n a.at a.out.now) e,
    )
