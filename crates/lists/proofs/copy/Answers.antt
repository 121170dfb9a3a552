-- `copy` meets its contract: a turn of its loop makes the replaced part one longer. Assumes nothing.
use Rattle.std.proofs.Common.{◌<◌, refl, ap, ◌∙◌, List, length, take, slice_set, arith}
use Rattle.lists.specs.Over.{over}
use Rattle.lists.proofs.Laws.{copy_more}
use Rattle.lists.proofs.copy.Goals as goal

pub loop-i-init : goal.loop-i-init
unfolding over
loop-i-init g c = refl

pub loop-i-preserved : goal.loop-i-preserved
loop-i-preserved g c =
    let i = c.loop-i.i in
    let x = c.index-src-i.result in
    let from = c.args.src.now in
    let given = c.args.dst.now in
    let h : i < length from = omega arith in
    let k : i < length given = omega arith in
    ap (λ (l : List _). slice_set l i x) c.loop-i.invariant
    ∙ ap (λ y. slice_set (over (take i from) given) i y) c.index-src-i.is
    ∙ copy_more from given i x h k
