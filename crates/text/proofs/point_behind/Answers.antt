-- `text::point_behind` meets its contract. Assumes nothing.
use Rattle.std.proofs.Common.{◌∙◌}
use Rattle.text.proofs.Keys.{has_point, no_point}
use Rattle.text.proofs.point_behind.Goals as goal

pub returns-in_err-strip_prefix : goal.returns-in_err-strip_prefix
returns-in_err-strip_prefix c =
    let a = c.args in
    c.from_residual.ensures ∙ no_point a.key.now a.line.now c.in_err-strip_prefix.ensures.cases

pub returns : goal.returns
returns c =
    let a = c.args in
    let e = c.in_ok-strip_prefix.ensures.cases in
    has_point a.key.now a.line.now _ c.point.result e.0 e.1 c.point.ensures
