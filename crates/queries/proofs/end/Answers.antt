-- `queries::end` meets its contract. Assumes nothing.
use Prim.Native.Nat.{ℕ}
use mathlib.Core.Path.{◌≡◌, sym, ap, ◌∙◌}
use mathlib.Core.List.{List, []}
use native.Mathlib.Omega.{arith}
use lib.ListN.{length}
use Rattle.lists.specs.Over.{over}
use Rattle.lists.proofs.Laws.{over_nil}
use Rattle.settext.specs.Lines.{end_of}
use Rattle.blocks.specs.Blocks.{form_error}
use Rattle.blocks.proofs.Rooms.{error_room}
use Rattle.queries.specs.Program.{end_text}
use Rattle.queries.proofs.end.Goals as goal

pub form_error-requires : goal.form_error-requires
form_error-requires c = omega (arith, error_room c.in-Err.k)

pub returns-in-Ok : goal.returns-in-Ok
returns-in-Ok c =
    let a = c.args in
    let e : end_text (end_of a.s a.rest.now) ≡ [] = ap end_text (sym c.at_end.ensures ∙ c.in-Ok.is) in
    (sym (ap length e), sym (ap (λ (t : List ℕ). over t a.out.now) e ∙ over_nil a.out.now))

pub returns-in-Err : goal.returns-in-Err
returns-in-Err c =
    let a = c.args in
    let e : end_text (end_of a.s a.rest.now) ≡ form_error c.in-Err.k = ap end_text (sym c.at_end.ensures ∙ c.in-Err.is) in
    let w = c.form_error.ensures in
    (w.0 ∙ ap length (sym e), w.1 ∙ ap (λ (t : List ℕ). over t a.out.now) (sym e))
