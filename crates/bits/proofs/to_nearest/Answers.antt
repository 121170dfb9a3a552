-- `bits::to_nearest` meets its contract: m is shifted up to 64 digits, and the upper 24 are kept. Assumes nothing.
use native.Mathlib.Omega.{arith}
use mathlib.Core.Path.{◌≡◌, sym, ◌∙◌, subst}
use mathlib.Core.Bool.{Bool, true, false}
use Prim.Native.Nat.{ℕ, ◌-◌, ◌*◌, ◌%◌, ◌^◌, ◌≤◌, ◌<◌}
use native.Mathlib.Nat.{mod-eq_of_lt}
use lib.Count.{count_leading_zeros}
use lib.IntN.{pos}
use lib.Ieee.{fin, binary32, round}
use lib.Ieee.Exact.{HasValue}
use denote.Floats.{passes}
use Rattle.bits.proofs.Rounding.{rounded, shifted, rounded_bounds, to_nearest_is, zeros, plus_zero_lem, minus_zero}
use Rattle.bits.proofs.to_nearest.Goals as goal

-- past the test for 0
some : (m : ℕ) → (m ≡ 0 → ⊥) → 0 < m
some m h = omega arith

up : (c : goal.Else-m-eq0) → (count_leading_zeros 64 c.args.m ≤ 63) × (2 ^ 63 ≤ c.args.m * 2 ^ count_leading_zeros 64 c.args.m) × (c.args.m * 2 ^ count_leading_zeros 64 c.args.m < 2 ^ 64)
up c = shifted c.args.m (some c.args.m c.if-m-eq0.false) c.ranges.m.fits

pub returns-then-negative : goal.returns-then-negative
returns-then-negative c = let a = c.args in minus_zero ∙ subst (λ (s : Bool). fin true 0 (pos 0) ≡ round binary32 s a.m (2 ^ a.k)) (sym c.if-negative.true) (zeros true a.m a.k c.if-m-eq0.true)

pub returns-then-m-eq0 : goal.returns-then-m-eq0
returns-then-m-eq0 c = let a = c.args in plus_zero_lem ∙ subst (λ (s : Bool). fin false 0 (pos 0) ≡ round binary32 s a.m (2 ^ a.k)) (sym c.if-negative.false) (zeros false a.m a.k c.if-m-eq0.true)

pub overflow_cast-t : goal.overflow_cast-t
overflow_cast-t c = omega (arith, up c)

pub overflow_shl-t : goal.overflow_shl-t
overflow_shl-t c = omega (arith, up c)

pub overflow_sub-k-2 : goal.overflow_sub-k-2
overflow_sub-k-2 c = omega (arith, up c)

pub join-requires : goal.join-requires
join-requires c = let u = up c in let b = rounded_bounds (c.args.m * 2 ^ count_leading_zeros 64 c.args.m % 2 ^ 64) (subst (λ (n : ℕ). 2 ^ 63 ≤ n) (sym (mod-eq_of_lt u.2)) u.1) (subst (λ (n : ℕ). n < 2 ^ 64) (sym (mod-eq_of_lt u.2)) u.2) in (b.0, b.1, omega arith)

pub returns : goal.returns
returns c =
    let a = c.args in
    let z = count_leading_zeros 64 a.m in
    let u = up c.before in
    to_nearest_is a.negative a.m a.k z c.join.result (omega arith) u.1 u.2 (passes _ c.join.type_inv)
    (subst (λ (t : ℕ). HasValue c.join.result a.negative (rounded t * 2 ^ (189 - a.k - z)) (2 ^ 149)) (mod-eq_of_lt u.2) c.join.ensures)
