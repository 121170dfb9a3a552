-- `text::good_at` meets its contract. Assumes nothing.
use Rattle.std.proofs.Common.{sym, ◌∙◌, eq-eqb}
use Rattle.text.proofs.Reading.{is_value, good_bad, good_last, good_on}
use Rattle.text.proofs.good_at.Goals as goal

pub returns-then-k-n : goal.returns-then-k-n
returns-then-k-n c =
    let a = c.args in
    eq-eqb _ _ c.if-k-n.true ∙ sym (good_last a.s.now a.n a.k (is_value a.s.now a.k _ _ c.hex.ensures c.is_some.ensures ∙ c.if-is_some.true) c.if-k-n.true)

pub returns-else-k-n : goal.returns-else-k-n
returns-else-k-n c =
    let a = c.args in
    sym (good_on a.s.now a.n a.k (is_value a.s.now a.k _ _ c.hex.ensures c.is_some.ensures ∙ c.if-is_some.true) c.if-k-n.false)

pub returns-else-is_some : goal.returns-else-is_some
returns-else-is_some c =
    let a = c.args in
    c.if-is_some.false ∙ sym (good_bad a.s.now a.n a.k (is_value a.s.now a.k _ _ c.hex.ensures c.is_some.ensures ∙ c.if-is_some.false))
