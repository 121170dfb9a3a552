-- `text::put_hex` meets its contract. Assumes nothing.
use Prim.Native.Nat.{ℕ, ◌-◌, ◌/◌, ◌%◌}
use mathlib.Core.Path.{◌≡◌, refl, ap, ◌∙◌}
use mathlib.Core.List.{List}
use native.Mathlib.Omega.{arith}
use lib.ListN.{set}
use Rattle.lists.specs.Over.{over, upto}
use Rattle.lists.proofs.Laws.{upto_more}
use Rattle.text.specs.Print.{digit_at, glyph_of, hex_text}
use Rattle.text.proofs.Printing.{weight}
use native.Mathlib.Nat.{pow-le-pow_right}
use lib.Dec.{lit<}
use Rattle.text.proofs.put_hex.Goals as goal

pub loop-i-init : goal.loop-i-init
unfolding over upto
loop-i-init c = (c.requires, λ h. refl, refl)

pub nonzero_div-x : goal.nonzero_div-x
nonzero_div-x c =
    let i = c.loop-i.i in
    omega (arith, c.loop-i.invariant.1 c.loop-i-test.true, pow-le-pow_right {n = 16} (lit< tt) {i = 0} {j = 7 - i} (omega arith))

pub loop-i-preserved : goal.loop-i-preserved
unfolding digit_at
loop-i-preserved c =
    let a = c.args in
    let i = c.loop-i.i in
    let v : c.glyph.result ≡ digit_at a.x i = c.glyph.ensures ∙ ap (λ (p : ℕ). glyph_of (a.x / p % 16)) (c.loop-i.invariant.1 c.loop-i-test.true) in (
      c.loop-i.invariant.0,
      λ h. weight i c.loop-i.p h (c.loop-i.invariant.1 c.loop-i-test.true),
      ap (λ (t : List ℕ). set t i c.glyph.result) c.loop-i.invariant.2 ∙ ap (λ (w : ℕ). set (over (upto (digit_at a.x) i) a.out.now) i w) v ∙ upto_more (digit_at a.x) i a.out.now (omega arith),
    )

pub returns : goal.returns
unfolding hex_text
returns c =
    let a = c.args in
    let e : c.loop-i.i ≡ 8 = omega arith in
    c.loop-i.invariant.2 ∙ ap (λ (n : ℕ). over (upto (digit_at a.x) n) a.out.now) e
