-- `interpolate::add_closer_neighbor` meets its contract: the closest of the pair is pushed where it is taken. Assumes nothing.
use mathlib.Core.Path.{◌≡◌, sym, ap, subst, ◌∙◌}
use mathlib.Core.List.{[], List, ◌++◌, append-nil}
use native.Mathlib.Nat.{le_of_eq, le-add_right}
use lib.Ieee.{of_bits}
use Rattle.mix.specs.declared.Share.{Share}
use Rattle.mix.specs.declared.Points.{Points}
use Rattle.mix.specs.Mix.{list_of}
use Rattle.interpolate.specs.Blend.{taken, Held}
use Rattle.interpolate.proofs.Laws.{taken_yes, taken_no}
use Rattle.interpolate.proofs.add_closer_neighbor.Goals as goal

-- nothing is added
none_more : (p : Points) (l : List Share) → l ≡ [] → list_of p ≡ list_of p ++ l
none_more p l e = sym (append-nil (list_of p)) ∙ ap (λ (x : List Share). list_of p ++ x) (sym e)

pub returns-in_default : goal.returns-in_default
returns-in_default c =
    let a = c.args in
    (none_more a.p _ (ap taken c.in_default.is), le-add_right a.p.count 1, λ m g h. g)

pub push-requires : goal.push-requires
push-requires c = c.requires

pub returns-then-near : goal.returns-then-near
unfolding of_bits
returns-then-near c =
    let a = c.args in
    let e = c.in-Some.is in (
      c.push.ensures.0 ∙ ap (λ (l : List Share). list_of a.p ++ l) (sym (taken_yes _ a.best e c.if-near.true)),
      le_of_eq c.push.ensures.1,
      λ m g h. c.push.ensures.2 m g (subst (Held m) e h),
    )

pub returns : goal.returns
returns c =
    let a = c.args in
    (none_more a.p _ (taken_no _ a.best c.in-Some.is c.if-near.false), le-add_right a.p.count 1, λ m g h. g)
