-- `settext::take_line` meets its contract. Assumes nothing.
use mathlib.Core.Path.{refl, sym, ◌∙◌}
use Rattle.text.specs.Words.{bytes}
use Rattle.settext.specs.Lines.{text_lists}
use Rattle.settext.proofs.Laws.{same, a_key, a_pos, an_ir, a_delay, a_query}
use Rattle.settext.proofs.take_line.Goals as goal

pub returns-then-k-lt9 : goal.returns-then-k-lt9
unfolding bytes
returns-then-k-lt9 c =
    let a = c.args in
    same c.key_line.ensures refl refl refl ∙ sym (a_key a.s a.line.now (text_lists a.positions.now a.responses.now a.delays.now) c.if-k-lt9.true)

pub returns-then-i-m : goal.returns-then-i-m
unfolding bytes
returns-then-i-m c =
    let a = c.args in
    same c.values_line.ensures.0 c.values_line.ensures.1 refl refl ∙ sym (a_pos a.s a.line.now (text_lists a.positions.now a.responses.now a.delays.now) c.if-k-lt9.false c.if-i-m.true)

pub returns-then-j-mr : goal.returns-then-j-mr
unfolding bytes
returns-then-j-mr c =
    let a = c.args in
    same c.values_line-then-j-mr.ensures.0 refl c.values_line-then-j-mr.ensures.1 refl ∙ sym (an_ir a.s a.line.now (text_lists a.positions.now a.responses.now a.delays.now) c.if-k-lt9.false c.if-i-m.false c.if-j-mr.true)

pub returns-then-d-s : goal.returns-then-d-s
unfolding bytes
returns-then-d-s c =
    let a = c.args in
    same c.values_line-then-d-s.ensures.0 refl refl c.values_line-then-d-s.ensures.1 ∙ sym (a_delay a.s a.line.now (text_lists a.positions.now a.responses.now a.delays.now) c.if-k-lt9.false c.if-i-m.false c.if-j-mr.false c.if-d-s.true)

pub returns : goal.returns
unfolding bytes
returns c =
    let a = c.args in
    same c.query_line.ensures refl refl refl ∙ sym (a_query a.s a.line.now (text_lists a.positions.now a.responses.now a.delays.now) c.if-k-lt9.false c.if-i-m.false c.if-j-mr.false c.if-d-s.false)
