use mathlib.Core.Path.{sym, ◌∙◌}
use native.Mathlib.Omega.{arith}
use Rattle.kdtree.specs.Insert.{lists_of}
use Rattle.kdtree.proofs.Whole as whole
use Rattle.kdtree.proofs.nearest.Goals as goal

pub returns-then-not-long_enough : goal.returns-then-not-long_enough
returns-then-not-long_enough c =
    let a = c.args in
    let z = lists_of a.positions.now a.left.now a.right.now a.numbers.now in
    whole.too_short z a.count a.bounds a.q (sym c.long_enough.ensures ∙ c.if-not-long_enough.true)

-- the lists passed the test of their lengths
pub returns-then-count-eq0 : goal.returns-then-count-eq0
returns-then-count-eq0 c =
    let a = c.args in
    let z = lists_of a.positions.now a.left.now a.right.now a.numbers.now in
    whole.nothing_in z a.count a.bounds a.q (sym c.long_enough.ensures ∙ c.if-not-long_enough.false) c.if-count-eq0.true

pub returns-in_default : goal.returns-in_default
returns-in_default c =
    let a = c.args in
    let z = lists_of a.positions.now a.left.now a.right.now a.numbers.now in
    let h = whole.readable_says z a.count (sym c.long_enough.ensures ∙ c.if-not-long_enough.false) in
    whole.found_none z a.count a.bounds a.q h c.if-count-eq0.false c.nearest_place.result c.nearest_place.ensures c.in_default.is

pub bounds-numbers-place : goal.bounds-numbers-place
bounds-numbers-place c =
    let a = c.args in
    let z = lists_of a.positions.now a.left.now a.right.now a.numbers.now in
    let h = whole.readable_says z a.count (sym c.long_enough.ensures ∙ c.if-not-long_enough.false) in
    let i = whole.found_in z a.count a.bounds a.q h c.if-count-eq0.false c.nearest_place.result c.nearest_place.ensures c.in-Some.best c.in-Some.is in
    omega (arith, h.numbers, i)

pub returns : goal.returns
returns c =
    let a = c.args in
    let z = lists_of a.positions.now a.left.now a.right.now a.numbers.now in
    let h = whole.readable_says z a.count (sym c.long_enough.ensures ∙ c.if-not-long_enough.false) in
    whole.found_number z a.count a.bounds a.q h c.if-count-eq0.false c.nearest_place.result c.nearest_place.ensures c.in-Some.best c.in-Some.is
