-- `bits::fixed` meets its contract: the significand is shifted up, or down. Assumes nothing.
use mathlib.Core.Path.{sym, ◌∙◌, subst}
use Prim.Native.Nat.{ℕ, ◌<◌, ◌^◌}
use native.Mathlib.Nat.{mod-eq_of_lt}
use Rattle.bits.proofs.Places.{places_up, shift_lt, places_down, places_none, places_zero, numeric_of}
use Rattle.bits.proofs.fixed.Goals as goal

pub returns-then-x : goal.returns-then-x
returns-then-x c = places_zero c.args.k c.args.x c.requires.0 c.if-x.true

pub split-p-requires : goal.split-p-requires
split-p-requires c = numeric_of c.args.x c.requires.0 c.if-x.false

pub overflow_shl-result : goal.overflow_shl-result
overflow_shl-result c = shift_lt c.args.x c.split-p.result.negative c.split-p.result.significand c.split-p.result.exponent c.args.k c.split-p.ensures c.if-e-ge172.true c.requires.2

pub returns-then-e-ge172 : goal.returns-then-e-ge172
returns-then-e-ge172 c =
    let start = c.before.before.before.before.before in
    let u = places_up c.args.x c.split-p.result.negative c.split-p.result.significand c.split-p.result.exponent c.args.k c.split-p.ensures c.if-e-ge172.true in
    mod-eq_of_lt (subst (λ (n : ℕ). n < 2 ^ 64) u start.requires.2) ∙ sym u

pub returns-then-d-lt24 : goal.returns-then-d-lt24
returns-then-d-lt24 c = sym (places_down c.args.x c.split-p.result.negative c.split-p.result.significand c.split-p.result.exponent c.args.k c.split-p.ensures c.if-e-ge172.false)

pub returns : goal.returns
returns c = sym (places_none c.args.x c.split-p.result.negative c.split-p.result.significand c.split-p.result.exponent c.args.k c.split-p.ensures c.if-e-ge172.false c.if-d-lt24.false)
