-- `text::next_line` meets its contract. The loop's invariant: what is left of the chunk makes of the bytes kept what the whole does, and past them the buffer is as it was. Assumes nothing.
use Prim.Native.Nat.{ℕ, ◌+◌, min}
use mathlib.Core.Path.{◌≡◌, refl, sym, ap, ◌∙◌}
use mathlib.Core.List.{[], List, ◌∷◌, ◌++◌}
use native.Mathlib.Omega.{arith}
use lib.ListN.{length, get_or, take, drop}
use Rattle.lists.specs.Over.{over}
use Rattle.lists.proofs.Laws.{over_own}
use Rattle.text.specs.Lines.{Part, part_bytes, cut}
use Rattle.text.proofs.Bytes.{cut_line, cut_on, cut_end, kept, rest_kept}
use Rattle.text.proofs.next_line.Goals as goal

pub loop-i-init : goal.loop-i-init
loop-i-init c =
    let a = c.args in
    (c.requires.1, refl, refl, over_own a.used a.buf.now c.requires.1)

pub returns-then-b-eq10 : goal.returns-then-b-eq10
returns-then-b-eq10 c =
    let a = c.args in
    let e = sym (cut_line (take (length a.buf.now)) (take c.loop-i.u c.loop-i.buf) a.chunk.now c.loop-i.i (omega arith) c.if-b-eq10.true) ∙ c.loop-i.invariant.2 in
    record {
      same = e;
      buffer = c.loop-i.invariant.3 ∙ ap (λ (p : Part). over (part_bytes p) a.buf.now) e;
      within = (omega arith, omega arith, omega arith);
    }

-- the buffer holds the first bytes of the line so far
held : (c : goal.After-slice_known-in-loop-i-1) → let a = c.args in
    take c.keep-u.result c.keep-u.new.buf ≡ take (length a.buf.now) (take c.loop-i.u c.loop-i.buf ++ (get_or a.chunk.now c.loop-i.i 0 ∷ []))
held c =
    let a = c.args in
    let k = c.keep-u in
    let b = get_or a.chunk.now c.loop-i.i 0 in
    ap (λ (n : ℕ). take n k.new.buf) k.ensures.0 ∙ ap (take (min (c.loop-i.u + 1) (length c.loop-i.buf))) k.ensures.1
    ∙ kept c.loop-i.buf c.loop-i.u b (omega arith) ∙ ap (λ (n : ℕ). take n (take c.loop-i.u c.loop-i.buf ++ (b ∷ []))) c.loop-i.invariant.1

pub loop-i-preserved : goal.loop-i-preserved
loop-i-preserved c =
    let a = c.args in
    let k = c.keep-u in
    let n = length a.buf.now in
    let b = get_or a.chunk.now c.loop-i.i 0 in
    let rest = drop (c.loop-i.i + 1) a.chunk.now in (
      omega (arith, k.ensures.0),
      omega (arith, k.auto.buf),
      ap (λ (t : List ℕ). cut (take n) t rest) (held c) ∙ sym (cut_on (take n) (take c.loop-i.u c.loop-i.buf) a.chunk.now c.loop-i.i (omega arith) c.if-b-eq10.false) ∙ c.loop-i.invariant.2,
      k.ensures.1 ∙ rest_kept a.buf.now c.loop-i.buf c.loop-i.u b (omega arith) c.loop-i.invariant.1 c.loop-i.invariant.3
          ∙ ap (λ (t : List ℕ). over (take (min (c.loop-i.u + 1) (length c.loop-i.buf)) t) a.buf.now) (sym k.ensures.1)
          ∙ ap (λ (m : ℕ). over (take m k.new.buf) a.buf.now) (sym k.ensures.0),
    )

pub returns : goal.returns
returns c =
    let a = c.args in
    let e = sym (cut_end (take (length a.buf.now)) (take c.loop-i.u c.loop-i.buf) a.chunk.now c.loop-i.i (omega arith)) ∙ c.loop-i.invariant.2 in
    record {
      same = e;
      buffer = c.loop-i.invariant.3 ∙ ap (λ (p : Part). over (part_bytes p) a.buf.now) e;
      within = omega arith;
    }
