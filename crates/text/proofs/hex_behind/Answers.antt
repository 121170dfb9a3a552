-- `text::hex_behind` meets its contract. Assumes nothing.
use Rattle.std.proofs.Common.{◌∙◌}
use Rattle.text.specs.Number.{hex_of}
use Rattle.text.proofs.Keys.{has_key, no_key}
use Rattle.text.proofs.hex_behind.Goals as goal

pub returns-in_err-strip_prefix : goal.returns-in_err-strip_prefix
returns-in_err-strip_prefix c =
    let a = c.args in
    c.from_residual.ensures ∙ no_key a.key.now a.line.now hex_of c.in_err-strip_prefix.ensures.cases

pub returns : goal.returns
returns c =
    let a = c.args in
    let e = c.in_ok-strip_prefix.ensures.cases in
    has_key a.key.now a.line.now _ hex_of c.hex.result e.0 e.1 c.hex.ensures
