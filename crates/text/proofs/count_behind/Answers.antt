-- `text::count_behind` meets its contract. Assumes nothing.
use Rattle.std.proofs.Common.{◌∙◌}
use Rattle.text.specs.Number.{count_of}
use Rattle.text.proofs.Keys.{has_key, no_key}
use Rattle.text.proofs.count_behind.Goals as goal

pub returns-in_err-strip_prefix : goal.returns-in_err-strip_prefix
returns-in_err-strip_prefix c =
    let a = c.args in
    c.from_residual.ensures ∙ no_key a.key.now a.line.now (count_of a.limit) c.in_err-strip_prefix.ensures.cases

pub returns : goal.returns
returns c =
    let a = c.args in
    let e = c.in_ok-strip_prefix.ensures.cases in
    has_key a.key.now a.line.now _ (count_of a.limit) c.count.result e.0 e.1 c.count.ensures
