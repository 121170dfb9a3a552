use mathlib.Core.Path.{◌≡◌, refl, sym, ap, ◌∙◌}
use Prim.Native.Nat.{ℕ}
use native.Mathlib.Omega.{arith}
use lib.ListN.{length-set, set}
use Rattle.lookup.specs.Build.{links_of, owned_at, linked, over_both}
use Rattle.lookup.proofs.Links as links
use Rattle.lookup.proofs.link_all.Goals as goal

pub loop-i-init : goal.loop-i-init
loop-i-init c =
    let a = c.args in
    let d = links_of a.left.now a.right.now in
    (refl, refl, links.root_over a.positions.now d (omega arith) (omega arith) ∙ sym (links.first_over a.positions.now 1 d (omega arith)))

pub loop-i-preserved : goal.loop-i-preserved
loop-i-preserved c =
    let a = c.args in
    let l = c.loop-i in
    let k = c.link_place in
    let d = links_of (set a.left.now 0 65535) (set a.right.now 0 65535) in (
      simp length-set (k.auto.left ∙ l.invariant.0 ∙ length-set a.left.now 0 65535),
      simp length-set (k.auto.right ∙ l.invariant.1 ∙ length-set a.right.now 0 65535),
      links.turn_over a.positions.now l.i d _ (omega arith) (simp length-set (omega arith)) (simp length-set (omega arith)) (k.ensures ∙ ap (owned_at a.positions.now l.i) l.invariant.2),
    )

pub returns : goal.returns
returns c =
    let l = c.loop-i in
    let a = c.args in
    let e : l.i ≡ a.m = omega arith in
    let d = links_of a.left.now a.right.now in
    l.invariant.2 ∙ links.first_over a.positions.now l.i d (omega arith) ∙ ap (λ (n : ℕ). over_both (linked a.positions.now n) d) e
