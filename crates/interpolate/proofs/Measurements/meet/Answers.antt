-- `interpolate::Measurements::meet` meets its contract. Assumes nothing.
use Rattle.std.proofs.Common.{◌≡◌, sym, ap, subst, ◌∙◌, Option, Result, Ok}
use Rattle.interpolate.specs.declared.Entry.{Entry}
use Rattle.interpolate.specs.declared.BadEntry.{BadEntry}
use Rattle.interpolate.specs.declared.Near.{Near}
use Rattle.interpolate.specs.Blend.{bad_beyond, distance_of, good, beside, met_if}
use Rattle.interpolate.proofs.Laws.{within_below}
use Rattle.interpolate.proofs.Measurements.meet.Goals as goal

pub closer-requires : goal.closer-requires
closer-requires c =
    let m = c.args.self.now.filters.responses.m in
    within_below m _ (subst (λ (x : Entry). bad_beyond m x ≡ x) c.in-Measured.is c.requires)

pub returns-in-Measured : goal.returns-in-Measured
returns-in-Measured c =
    let z = c.args in
    let out : Entry → Result (Option Near) BadEntry = λ e. met_if (good e) (beside (distance_of z.self.now.cartesian.now z.position) z.best e) in
    ap (λ (x : Option Near). Ok x) c.closer.ensures ∙ sym (ap out c.in-Measured.is)
