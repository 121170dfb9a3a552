-- `mix::Responses::mix` meets its contract: a turn of the inner loop is one point more, a turn of the outer one sample more. Assumes nothing.
use Rattle.std.proofs.Common.{◌≡◌, ◌≤◌, ◌<◌, ◌+◌, refl, ap, ◌∙◌, ℕ, Float, List, length, take, get_or, slice_set, arith, sym, rules}
use Rattle.std.proofs.lemmas.List.Elements.{All-get_or}
use Rattle.std.proofs.lemmas.List.{take_all}
use native.Mathlib.Numerals.{add-one}
use lib.Ieee.{nan, of_bits}
use Rattle.std.specs.List.{All}
use Rattle.floats.specs.Floats.{zero32}
use Rattle.lists.specs.Over.{over, upto}
use Rattle.lists.proofs.Laws.{upto_more}
use Rattle.mix.specs.declared.Ear.{Ear}
use Rattle.mix.specs.declared.Share.{Share}
use Rattle.mix.specs.declared.Responses.{Responses}
use Rattle.mix.specs.Mix.{receiver_of, sums, start_of, tap_of, sample_of, plus_product}
use Rattle.mix.proofs.Laws.{two_ears, reaches, within, sums_more}
use Rattle.mix.proofs.Responses.mix.Goals as goal

abbrev none : Share
none = record { number = 0; weight = nan }

pub loop-i-init : goal.loop-i-init
unfolding over upto
loop-i-init g c = refl

pub loop-p-init : goal.loop-p-init
unfolding sums of_bits
loop-p-init g c = refl

-- sample i of point j is there
there : (t : Responses) (ps : List Share) (j i k a : ℕ) (ear : Ear) → All (λ p. p.number < t.m) ps → k ≤ t.n → i < k → j < length ps
    → a ≡ start_of t.r t.n (receiver_of ear) (get_or ps j none).number → a + i < length t.taps.now
there t ps j i k a ear all hk hi hj q =
    let number = All-get_or (λ (p : Share). p.number < t.m) ps j none hj all in
    within a i k (length t.taps.now) hi (reaches t.m t.r t.n (get_or ps j none).number (receiver_of ear) k (length t.taps.now) a q t.sized number (two_ears ear) hk t.whole)

pub overflow_add-sum : goal.overflow_add-sum
overflow_add-sum g c =
    let a = c.args in
    let lt : c.loop-p.p-index < length a.points.now = omega arith in
    let h = there a.self.now a.points.now c.loop-p.p-index c.loop-i.i a.k c.start.result a.ear c.requires.0 c.requires.1 c.loop-i-test.true lt c.start.ensures in
    search rules

pub offset_bounds-taps-start : goal.offset_bounds-taps-start
offset_bounds-taps-start g c =
    let a = c.args in
    let lt : c.loop-p.p-index < length a.points.now = omega arith in
    let h = there a.self.now a.points.now c.loop-p.p-index c.loop-i.i a.k c.start.result a.ear c.requires.0 c.requires.1 c.loop-i-test.true lt c.start.ensures in
    search rules

pub bounds-taps-start : goal.bounds-taps-start
bounds-taps-start g c =
    let a = c.args in
    let lt : c.loop-p.p-index < length a.points.now = omega arith in
    there a.self.now a.points.now c.loop-p.p-index c.loop-i.i a.k c.start.result a.ear c.requires.0 c.requires.1 c.loop-i-test.true lt c.start.ensures

pub loop-p-preserved : goal.loop-p-preserved
loop-p-preserved g c =
    let a = c.args in
    let t = a.self.now in
    let ps = a.points.now in
    let i = c.loop-i.i in
    let j = c.loop-p.p-index in
    let p : Share = get_or ps j none in
    let lt : j < length ps = omega arith in
    let f : ℕ → Float = tap_of t.taps.now t.r t.n (receiver_of a.ear) i in
    ap (λ (s : Float). plus_product s p.weight (get_or t.taps.now (c.start.result + i) nan)) c.loop-p.invariant
    ∙ ap (λ (k : ℕ). plus_product (sums f zero32 (take j ps)) p.weight (get_or t.taps.now (k + i) nan)) c.start.ensures
    ∙ sym (sums_more f zero32 ps j none lt)
    ∙ ap (λ (k : ℕ). sums f zero32 (take k ps)) (sym (add-one j))

pub loop-i-preserved : goal.loop-i-preserved
unfolding sample_of
loop-i-preserved g c =
    let a = c.args in
    let t = a.self.now in
    let i = c.loop-i.i in
    let d = a.out.now in
    let f : ℕ → Float = sample_of t.taps.now t.r t.n (receiver_of a.ear) a.points.now in
    let all : take c.loop-p.p-index a.points.now ≡ a.points.now = take_all c.loop-p.p-index a.points.now (omega arith) in
    let there : i < length d = omega arith in
    ap (λ (o : List Float). slice_set o i c.loop-p.sum) c.loop-i.invariant
    ∙ ap (λ (x : Float). slice_set (over (upto f i) d) i x) (c.loop-p.invariant ∙ ap (sums (tap_of t.taps.now t.r t.n (receiver_of a.ear) i) zero32) all)
    ∙ upto_more f i d there
