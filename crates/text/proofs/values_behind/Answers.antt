-- `text::values_behind` meets its contract. Assumes nothing.
use Rattle.std.proofs.Common.{ℕ, List, refl, ap, ◌∙◌}
use Rattle.text.specs.Values.{stored}
use Rattle.text.proofs.Keys.{values_fit_lem, no_values}
use Rattle.text.proofs.values_behind.Goals as goal

pub returns-in-Some : goal.returns-in-Some
returns-in-Some c =
    let a = c.args in
    let e = c.in-Some.ensures.cases in
    let v = c.values in (
      values_fit_lem a.key.now a.line.now _ a.n a.at a.out.now v.result e.0 e.1 v.ensures.0,
      v.ensures.1 ∙ ap (λ (s : List ℕ). stored v.result s a.n a.at a.out.now) e.1,
    )

pub returns-in-None : goal.returns-in-None
unfolding stored
returns-in-None c =
    let a = c.args in
    (no_values a.key.now a.line.now a.n a.at a.out.now c.in-None.ensures.cases, refl)
