-- `text::values` meets its contract. Assumes nothing.
use Rattle.std.proofs.Common.{◌≡◌, ℕ, ◌+◌, ◌<◌, false, ◌&&◌, leb, List, length, set, refl, sym, ap, ◌∙◌, Float, arith}
use borrow.Author.Tests.{le-leb}
use Rattle.lists.specs.Over.{into, upto}
use Rattle.lists.proofs.Laws.{into_nil}
use Rattle.text.specs.Values.{values_ok, value_at, stored}
use Rattle.text.proofs.Reading.{measured, no_room, into_more}
use Rattle.text.proofs.values.Goals as goal
use Rattle.text.proofs.values.Goals.{then-out-n-via-then-out-n, then-out-n-via-else-out-n+then-out-n-2, then-out-n-via-else-out-n+else-out-n-2+then-not-values_ok}

pub returns-then-out-n : goal.returns-then-out-n
unfolding stored
returns-then-out-n c =
    let a = c.args in
    let ok = values_ok a.s.now a.n in
    let full : length a.out.now < a.at + a.n → false ≡ (ok && leb (a.at + a.n) (length a.out.now)) = no_room ok (a.at + a.n) (length a.out.now) in
    elim c.then-out-n.branch [
      | then-out-n-via-then-out-n w ↦ (full (omega arith), refl)
      | then-out-n-via-else-out-n+then-out-n-2 w ↦ (full (omega arith), refl)
      | then-out-n-via-else-out-n+else-out-n-2+then-not-values_ok w ↦ (rw (sym w.if-not-values_ok.ensures), refl)
    ]

pub loop-k-init : goal.loop-k-init
unfolding upto
loop-k-init c = (omega arith, sym c.if-not-values_ok.ensures, sym (into_nil _ _))

pub value_at-requires : goal.value_at-requires
value_at-requires c =
    let a = c.args in
    omega (arith, measured a.s.now a.n (omega arith) c.loop-k.invariant.1)

pub loop-k-preserved : goal.loop-k-preserved
loop-k-preserved c =
    let a = c.args in
    let f : ℕ → Float = value_at a.s.now in (
      c.loop-k.invariant.0,
      c.loop-k.invariant.1,
      ap (λ (x : Float). set c.loop-k.out (a.at + c.loop-k.k) x) c.value_at.ensures ∙ ap (λ (t : List Float). set t (a.at + c.loop-k.k) (f c.loop-k.k)) c.loop-k.invariant.2 ∙ into_more f a.at c.loop-k.k a.out.now (omega arith),
    )

pub returns : goal.returns
unfolding stored
returns c =
    let a = c.args in
    let e : c.loop-k.k ≡ a.n = omega arith in
    (sym (rw c.loop-k.invariant.1 (le-leb _ _ c.loop-k.invariant.0)), c.loop-k.invariant.2 ∙ ap (λ (k : ℕ). into a.at (upto (value_at a.s.now) k) a.out.now) e)
