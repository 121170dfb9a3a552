-- `text::values_ok` meets its contract. Assumes nothing.
use Rattle.std.proofs.Common.{◌≡◌, refl, sym, ap, ◌∙◌, arith, eq-eqb}
use borrow.Author.Tests.{ne_eqb}
use Rattle.text.specs.Values.{good_at, values_ok, all_below}
use Rattle.text.proofs.Reading.{fails, all_more, other_length}
use Rattle.text.proofs.values_ok.Goals as goal

pub returns-then-n-eq0 : goal.returns-then-n-eq0
unfolding values_ok
returns-then-n-eq0 c = c.is_empty.ensures ∙ sym (simp (eq-eqb _ 0 c.if-n-eq0.true))

pub returns-then-long-ne0 : goal.returns-then-long-ne0
returns-then-long-ne0 c = sym (other_length c.args.s.now c.args.n (omega arith) (λ q. omega arith))

pub loop-k-init : goal.loop-k-init
unfolding all_below
loop-k-init c = (omega arith, refl)

pub loop-k-preserved : goal.loop-k-preserved
loop-k-preserved c =
    let a = c.args in
    (c.loop-k.invariant.0, all_more (good_at a.s.now a.n) c.loop-k.k c.loop-k.invariant.1 (sym c.if-not-good_at.ensures))

pub returns-then-not-good_at : goal.returns-then-not-good_at
unfolding values_ok
returns-then-not-good_at c =
    let a = c.args in
    simp (ne_eqb _ 0 c.if-n-eq0.false, eq-eqb _ _ c.loop-k.invariant.0, fails (good_at a.s.now a.n) c.loop-k.k a.n (omega arith) (sym c.if-not-good_at.ensures))

pub returns : goal.returns
unfolding values_ok
returns c =
    let a = c.args in
    let e : c.loop-k.k ≡ a.n = omega arith in
    simp (ne_eqb _ 0 c.if-n-eq0.false, eq-eqb _ _ c.loop-k.invariant.0, ap (all_below (good_at a.s.now a.n)) (sym e) ∙ c.loop-k.invariant.1)
