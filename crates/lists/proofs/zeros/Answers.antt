-- `zeros` meets its contract: a turn of its loop makes the replaced part one longer. Assumes nothing.
use Rattle.std.proofs.Common.{◌<◌, refl, ap, ◌∙◌, List, length, take, slice_set, arith, Float}
use lib.Ieee.{of_bits}
use Rattle.floats.specs.Floats.{zero32}
use Rattle.lists.specs.Over.{over}
use Rattle.lists.proofs.Laws.{fill_more, over_front}
use Rattle.lists.proofs.zeros.Goals as goal

pub loop-x-init : goal.loop-x-init
unfolding over
loop-x-init c = refl

pub loop-x-preserved : goal.loop-x-preserved
unfolding of_bits
loop-x-preserved c =
    let i = c.loop-x.x-index in
    let h : i < length (take c.args.n c.args.dst.now) = omega arith in
    ap (λ (l : List Float). slice_set l i zero32) c.loop-x.invariant ∙ fill_more i zero32 (take c.args.n c.args.dst.now) h

pub returns : goal.returns
returns c = over_front c.args.n c.loop-x.x-index zero32 c.args.dst.now c.loop-x.x-items c.loop-x.invariant c.requires (omega arith) (omega arith)
