-- `answer` meets its contract. Assumes nothing.
use mathlib.Core.Path.{◌≡◌, ap, ◌∙◌}
use native.Mathlib.Omega.{arith}
use lib.ListN.{length}
use lib.Seq.{length-take-le}
use Rattle.answers.specs.Answers.{Answered, answered_of}
use Rattle.queries.proofs.Turns.{put, laid, same_ears}
use borrow.Author.Rules.{rules}
use Rattle.queries.proofs.answer.Goals as goal

pub returns : goal.returns
unfolding answered_of
returns c =
    let a = c.args in
    let n = a.ready.now.state.n in
    let told = c.answer in
    let full_left : 4096 ≡ length a.left.now = search rules in
    let full_right : 4096 ≡ length a.right.now = search rules in
    let left = laid a.left.now (ap (λ (z : Answered). z.left) told.ensures) (told.auto.out_left ∙ length-take-le n a.left.now (omega (arith, c.requires.taps, full_left))) in
    let right = laid a.right.now (ap (λ (z : Answered). z.right) told.ensures) (told.auto.out_right ∙ length-take-le n a.right.now (omega (arith, c.requires.taps, full_right))) in
    record { printed = put (ap (λ (z : Answered). z.count) told.ensures) (ap (λ (z : Answered). z.out) told.ensures); ears = same_ears left right }
