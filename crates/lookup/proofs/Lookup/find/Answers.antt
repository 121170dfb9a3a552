use mathlib.Core.Path.{◌≡◌, sym, ap, ◌∙◌}
use Rattle.std.specs.Prelude.{⊤}
use Rattle.std.proofs.Common.{Result}
use Rattle.points.specs.declared.Point3.{Point3}
use Rattle.refusals.specs.declared.Refusal.{Refusal}
use Rattle.limits.specs.declared.Sizes.{Sizes}
use Rattle.limits.specs.declared.TreeLengths.{TreeLengths}
use Rattle.limits.specs.Allowed.{tree_lengths}
use Rattle.limits.specs.Refusals.{verdict_of, find_lines}
use Rattle.limits.proofs.Passed.{find_passed}
use Rattle.lookup.specs.Lookup.{locate_of, find_of}
use Rattle.lookup.proofs.Laws as laws
use Rattle.lookup.proofs.Lookup.find.Goals as goal

-- the verdict in the terms of the lists
judged : (s : Sizes) (t u : TreeLengths) (q : Point3) (v w : Result ⊤ Refusal) → t ≡ u → v ≡ verdict_of (find_lines s t q) → v ≡ w → verdict_of (find_lines s u q) ≡ w
judged s t u q v w et ev ew = sym (ap (λ (t : TreeLengths). verdict_of (find_lines s t q)) et) ∙ sym ev ∙ ew

pub returns-in-Err : goal.returns-in-Err
unfolding find_of
returns-in-Err c =
    let a = c.args in
    laws.refused _ (locate_of a.self a.sizes.m a.cartesian.now a.left.now a.right.now a.coordinate) _
    (judged a.sizes _ (tree_lengths a.cartesian.now a.left.now a.right.now) a.coordinate _ _ c.of-lengths.ensures c.judge_find.ensures c.in-Err.is)

pub invariant_of-tree : goal.invariant_of-tree
invariant_of-tree c =
    let a = c.args in
    let h = find_passed a.sizes (tree_lengths a.cartesian.now a.left.now a.right.now) a.coordinate
    (judged a.sizes _ (tree_lengths a.cartesian.now a.left.now a.right.now) a.coordinate _ _ c.of-lengths.ensures c.judge_find.ensures c.in_default.is) in
    record { holds = (h.room.cartesian, h.room.left, h.room.right, h.sizes.most) }

pub locate-requires : goal.locate-requires
locate-requires c =
    let a = c.args in
    let h = find_passed a.sizes (tree_lengths a.cartesian.now a.left.now a.right.now) a.coordinate
    (judged a.sizes _ (tree_lengths a.cartesian.now a.left.now a.right.now) a.coordinate _ _ c.of-lengths.ensures c.judge_find.ensures c.in_default.is) in
    h.sizes.some

pub returns : goal.returns
unfolding find_of
returns c =
    let a = c.args in
    laws.answered _ _ _
    (judged a.sizes _ (tree_lengths a.cartesian.now a.left.now a.right.now) a.coordinate _ _ c.of-lengths.ensures c.judge_find.ensures c.in_default.is) c.locate.ensures
