-- `text::put_decimal` meets its contract. It calls itself on what is left without the last digit, and the number falls. Assumes nothing.
use Prim.Native.Nat.{ℕ, ◌+◌, ◌/◌, ◌%◌, ◌<◌}
use mathlib.Core.Path.{◌≡◌, refl, sym, ap, ◌∙◌}
use mathlib.Core.List.{List, []}
use native.Mathlib.Omega.{arith}
use lib.ListN.{length, set}
use Rattle.lists.specs.Over.{over}
use Rattle.lists.proofs.Laws.{over_at, over_nil}
use Rattle.text.specs.Print.{decimal_text}
use Rattle.text.proofs.Printing.{one_digit, last_digit, last_length}
use Rattle.text.proofs.+put_decimal.Goals as goal

pub bounds-out-0 : goal.bounds-out-0
bounds-out-0 t c = omega (arith, c.requires, ap length (one_digit c.args.x c.if-x-lt10.true))

pub returns-then-x-lt10 : goal.returns-then-x-lt10
returns-then-x-lt10 t c =
    let a = c.args in
    let e = one_digit a.x c.if-x-lt10.true in
    let n : length (decimal_text a.x) ≡ 1 = ap length e in
    let h : 0 < length a.out.now = omega (arith, c.requires) in
    (sym n, ap (λ (d : List ℕ). set d 0 (48 + a.x)) (sym (over_nil a.out.now)) ∙ over_at [] a.out.now 0 (48 + a.x) refl h ∙ sym (ap (λ (l : List ℕ). over l a.out.now) e))

pub put_decimal-n-requires : goal.put_decimal-n-requires
put_decimal-n-requires t c =
    let h : c.args.x < 18446744073709551616 = omega arith in
    (omega (arith, c.decreases), omega (arith, c.requires, last_length c.args.x c.if-x-lt10.false h))

-- the decimal of what is left is shorter than the list
shorter : (t : ℕ) (c : goal.After-slice_known-2-1 t) → (c.put_decimal-n.result < length c.args.out.now) × (length c.put_decimal-n.new.out ≡ length c.args.out.now)
shorter t c =
    let h : c.args.x < 18446744073709551616 = omega arith in
    (omega (arith, c.requires, c.put_decimal-n.ensures.0, last_length c.args.x c.if-x-lt10.false h), omega (arith, c.put_decimal-n.auto.out))

pub bounds-out-n : goal.bounds-out-n
bounds-out-n t c = omega (arith, shorter t c)

pub overflow_add-result : goal.overflow_add-result
overflow_add-result t c = omega (arith, shorter t c)

pub returns : goal.returns
returns t c =
    let p = c.put_decimal-n in
    let a = c.args in
    let d = decimal_text (a.x / 10) in
    let h : a.x < 18446744073709551616 = omega arith in
    let e = last_digit a.x c.if-x-lt10.false h in
    let n : p.result + 1 ≡ length (decimal_text a.x) = omega (arith, p.ensures.0, last_length a.x c.if-x-lt10.false h) in
    let g : length d < length a.out.now = omega (arith, shorter t c, p.ensures.0) in (
      n,
      ap (λ (o : List ℕ). set o p.result (48 + a.x % 10)) p.ensures.1 ∙ over_at d a.out.now p.result (48 + a.x % 10) (sym p.ensures.0) (omega arith)
          ∙ sym (ap (λ (l : List ℕ). over l a.out.now) e),
    )
