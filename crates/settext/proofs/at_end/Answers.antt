-- `settext::at_end` meets its contract. Assumes nothing.
use mathlib.Core.Bool.{◌||◌, not}
use Prim.Native.Nat.{ℕ}
use mathlib.Core.Path.{sym, ap, ◌∙◌}
use lib.ListN.{length}
use lib.Dec.{eqb, ltb}
use Rattle.settext.specs.Lines.{end_of}
use Rattle.settext.proofs.at_end.Goals as goal

pub returns-then-s-line_count : goal.returns-then-s-line_count
unfolding end_of
returns-then-s-line_count c =
    let a = c.args in
    let e = ap (λ (n : ℕ). ltb a.s.lines n || not (eqb (length a.rest.now) 0)) (sym c.line_count.ensures) ∙ c.if-s-line_count.true in
    rw e (rw c.number.ensures)

pub returns : goal.returns
unfolding end_of
returns c =
    let a = c.args in
    let e = ap (λ (n : ℕ). ltb a.s.lines n || not (eqb (length a.rest.now) 0)) (sym c.line_count.ensures) ∙ c.if-s-line_count.false in
    rw e
