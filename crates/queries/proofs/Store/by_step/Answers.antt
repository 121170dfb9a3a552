-- `Store::by_step` meets its contract. Assumes nothing.
use native.Mathlib.Omega.{arith}
use mathlib.Core.Path.{◌≡◌, sym, ap, ◌∙◌}
use lib.ListN.{length}
use Rattle.blocks.proofs.Rooms.{error_room}
use Rattle.settext.specs.declared.Step.{Step}
use Rattle.queries.specs.declared.Ears.{Ears}
use Rattle.queries.specs.Program.{text_in, work_in, step_ears}
use Rattle.queries.proofs.Turns.{nothing, put, says, step_next, step_complete, step_query, step_bad}
use borrow.Author.Rules.{rules}
use Rattle.queries.proofs.Store.by_step.Goals as goal

pub form_error-requires : goal.form_error-requires
form_error-requires c =
    let room : 73848 ≡ length c.args.self.now.out = search rules in
    omega (arith, error_room c.in-Malformed.k, room)

pub returns-in-Next : goal.returns-in-Next
returns-in-Next c =
    let a = c.args in
    let m = a.self.now in
    let ears : Step → Ears = λ t. step_ears a.phase t (text_in m.given) (work_in m.work) m.ears in
    record { turn = says (step_next a.phase (text_in m.given) (work_in m.work) a.step _ _ c.moved_to.ensures c.in-Next.is) (nothing _); ears = sym (ap ears c.in-Next.is) }

pub returns-in-Complete : goal.returns-in-Complete
returns-in-Complete c =
    let a = c.args in
    let m = a.self.now in
    let ears : Step → Ears = λ t. step_ears a.phase t (text_in m.given) (work_in m.work) m.ears in
    let r = c.complete.ensures in
    record { turn = step_complete a.phase (text_in m.given) (work_in m.work) a.step _ r.turn c.in-Complete.is; ears = r.ears ∙ sym (ap ears c.in-Complete.is) }

pub returns-in-Query : goal.returns-in-Query
returns-in-Query c =
    let a = c.args in
    let m = a.self.now in
    let ears : Step → Ears = λ t. step_ears a.phase t (text_in m.given) (work_in m.work) m.ears in
    let r = c.ask.ensures in
    let d = text_in m.given in
    let kept = ap text_in r.given in
    let w = ap work_in r.work in
    record { turn = rw (kept, w) (says (step_query a.phase d (work_in m.work) a.step _ _ _ c.moved_to-in-Query.ensures c.in-Query.is) r.printed); ears = r.ears ∙ sym (ap ears c.in-Query.is) }

pub returns-in-Malformed : goal.returns-in-Malformed
returns-in-Malformed c =
    let a = c.args in
    let m = a.self.now in
    let ears : Step → Ears = λ t. step_ears a.phase t (text_in m.given) (work_in m.work) m.ears in
    let r = c.form_error.ensures in
    record { turn = says (step_bad a.phase (text_in m.given) (work_in m.work) a.step _ c.in-Malformed.is) (put r.0 r.1); ears = sym (ap ears c.in-Malformed.is) }
