-- `sofaquery::run` meets its contract. Assumes nothing.
use Prim.Native.Nat.{ℕ, ◌+◌, ◌-◌, ◌≤◌}
use mathlib.Core.Path.{◌≡◌, refl, sym, ap, subst, ◌∙◌}
use mathlib.Core.Bool.{true}
use mathlib.Core.List.{[]}
use native.Mathlib.Omega.{arith}
use lib.ListN.{length}
use Rattle.queries.specs.declared.runs.Run.{Run}
use Rattle.queries.proofs.Turns.{fits}
use Rattle.sofaquery.specs.declared.Flow.TheVariants.{More}
use Rattle.sofaquery.specs.Calls.{ListsHeld, here, goes_on, stand_at, none, start_stand, Made}
use Rattle.sofaquery.proofs.Turns.{same_held, read_have, write_have, chunk_more, line_more, answered}
use borrow.Author.Rules.{rules}
use Rattle.sofaquery.proofs.run.Goals.{then-at-have, else-at-have}
use Rattle.sofaquery.proofs.run.Goals as goal

pub loop-init : goal.loop-init
loop-init c =
    let made : Made 18446744073709551615 start_stand = record { calls = []; ran = none; counted = refl } in
    let none_yet : 0 ≤ 65536 = omega arith in
    let d = c.default-went.ensures in
    (omega arith, rw d.1.1.0 none_yet, refl, rw (d.0, d.1.0, d.1.1.0, d.1.1.1) (subst (λ (a : ListsHeld). Made 18446744073709551615 (stand_at a [] More)) (sym c.requires) made))

pub write-wrote-requires : goal.write-wrote-requires
write-wrote-requires c = fits c.advance-told.ensures.printed

pub loop-preserved : goal.loop-preserved
loop-preserved c =
    let l = c.loop in
    let room : l.went.have ≤ length l.chunk = omega (arith, l.invariant.1, l.invariant.2) in
    let one_more : l.counter + 1 ≤ 18446744073709551615 = omega (arith, c.loop-test.true) in
    let fewer : 18446744073709551615 - l.counter ≡ 18446744073709551615 - (l.counter + 1) + 1 = omega (arith, c.loop-test.true) in
    let going : goes_on l.went.flow ≡ true = search rules in
    elim c.if-at-have.branch [
      | then-at-have w ↦
          -- what this very call answered
          let told = w.advance-told in
          let wrote = w.write-wrote in
          let e = w.went-is ∙ w.after_write-went.ensures in
          let place : Run → ListsHeld = λ r. here r told.new.memory in
          rw (w.memory-is, w.chunk-is) (one_more, subst (λ (n : ℕ). n ≤ 65536) (sym (write_have _ _ _ _ _ e)) l.invariant.1, l.invariant.2, line_more _ _ fewer _ l.chunk _ _ room _ l.invariant.3 going w.if-at-have.true place _ _ (same_held told.ensures.place told.ensures.buffer told.ensures.ears told.ensures.printed.same) told.ensures.left refl wrote.result (λ n. wrote.ensures.nothing (told.ensures.printed.count ∙ ap length n)) _ e)
      | else-at-have w ↦
          -- what this very call answered, and left in the chunk
          let got = w.read-got in
          let e = w.went-is ∙ w.after_read-went.ensures in
          let place : Run → ListsHeld = λ r. here r l.memory in
          let full : length got.new.buf ≡ 65536 = search rules in
          let counted = answered got.result got.new.buf full got.ensures.bound in
          rw (w.memory-is, w.chunk-is) (one_more, read_have _ _ _ e counted, full, chunk_more _ _ fewer _ l.chunk _ _ room _ l.invariant.3 going w.if-at-have.false place _ refl got.result got.new.buf counted _ e)
    ]
