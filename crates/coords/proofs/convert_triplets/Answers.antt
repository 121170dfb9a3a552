use Rattle.std.proofs.Common.{arith, sym, ◌∙◌}
use Rattle.coords.specs.Arrays.{turned}
use Rattle.coords.proofs.Triplets.{turn, done}
use Rattle.coords.proofs.convert_triplets.Goals as goal

pub loop-place-preserved : goal.loop-place-preserved
loop-place-preserved c =
    let l = c.loop-place in
    turn (turned c.args.kind) l.values l.place (omega arith) _ (omega arith) _ (c.copy_from_slice.ensures.after ∙ c.turn_triplet.ensures) ∙ l.invariant

pub returns : goal.returns
returns c =
    let l = c.loop-place in
    sym (done (turned c.args.kind) l.values l.place (omega arith)) ∙ l.invariant
