-- `stored::response` meets its contract. Assumes nothing.
use Prim.Native.Nat.{ℕ, ◌+◌, ◌-◌}
use mathlib.Core.Path.{◌≡◌, sym, ap, ◌∙◌}
use native.Mathlib.Omega.{arith}
use lib.ListN.{length, take, drop}
use Rattle.std.specs.Prelude.{Result}
use Rattle.refusals.specs.declared.Refusal.{Refusal}
use Rattle.stored.specs.declared.Taps.{Taps}
use Rattle.stored.specs.Numbers.{taps_in}
use Rattle.stored.proofs.Parts.{part_ends}
use Rattle.stored.proofs.response.Goals as goal

pub returns-in_default : goal.returns-in_default
unfolding taps_in
returns-in_default c = ap (λ (t : Result Taps Refusal). taps_in t c.args.responses.now) c.in_default.ensures

pub overflow_add-result : goal.overflow_add-result
overflow_add-result c = let a = c.args in omega (arith, part_ends a.sizes (length a.responses.now) a.number a.ear _ (sym c.in-Ok.ensures))

pub offset_bounds-responses-start : goal.offset_bounds-responses-start
offset_bounds-responses-start c = let a = c.args in omega (arith, part_ends a.sizes (length a.responses.now) a.number a.ear _ (sym c.in-Ok.ensures), c.well_formed.1.0.1)

pub slice_bounds-result-end-2 : goal.slice_bounds-result-end-2
slice_bounds-result-end-2 c = let a = c.args in omega (arith, part_ends a.sizes (length a.responses.now) a.number a.ear _ (sym c.in-Ok.ensures))

pub returns : goal.returns
unfolding taps_in
returns c =
    let t = c.in-Ok.field-0 in
    let same : t.start + t.count - t.start ≡ t.count = omega arith in
    ap (λ (n : ℕ). take n (drop t.start c.args.responses.now)) same ∙ ap (λ (r : Result Taps Refusal). taps_in r c.args.responses.now) c.in-Ok.ensures
