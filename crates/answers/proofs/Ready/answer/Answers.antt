-- `answers::Ready::answer` meets its contract. Assumes nothing.
use Prim.Native.Nat.{ℕ}
use mathlib.Core.Path.{◌≡◌, ap, ◌∙◌}
use mathlib.Core.List.{List}
use native.Mathlib.Omega.{arith}
use lib.ListN.{length}
use lib.Ieee.{Float}
use Rattle.lists.specs.Over.{over}
use Rattle.interpolate.specs.Blend.{FilterAnswer}
use Rattle.lookup.specs.declared.Located.{Located}
use Rattle.loads.specs.Load.{work_of}
use Rattle.blocks.specs.Blocks.{block_of}
use Rattle.blocks.proofs.Rooms.{block_room}
use Rattle.answers.specs.Answers.{filtered_of, block_for, answer_block, answered_as, answered_of}
use Rattle.answers.proofs.Ready.answer.Goals as goal

same : {k k' : ℕ} {o o' : List ℕ} {l l' r r' : List Float} → k ≡ k' → o ≡ o' → l ≡ l' → r ≡ r' → answered_as k o l r ≡ answered_as k' o' l' r'
same a b c d = cc

pub block-requires : goal.block-requires
block-requires c =
    let a = c.args.self.now in
    let k = c.nearest-found in
    let f = c.ask-outcome in
    omega (arith, block_room f.result k.result f.new.out_left f.new.out_right, f.auto.out_left, f.auto.out_right, c.requires.0, c.requires.1, c.requires.2)

pub returns : goal.returns
unfolding answer_block answered_of
returns c =
    let a = c.args.self.now in
    let k = c.nearest-found in
    let f = c.ask-outcome in
    let b = c.block in
    let d = work_of a.left.now a.right.now a.neighbours.now a.cartesian.now in
    let e : block_of f.result k.result f.new.out_left f.new.out_right ≡ answer_block a.state a.look d a.responses.now a.delays.now c.args.q =
    ap (λ (t : FilterAnswer). block_for t k.result) f.ensures ∙ ap (λ (n : Located). block_for (filtered_of a.state a.look d a.responses.now a.delays.now c.args.q) n) k.ensures in
    same (b.ensures.0 ∙ ap length e) (b.ensures.1 ∙ ap (λ (t : List ℕ). over t c.args.out.now) e) (ap (λ (t : FilterAnswer). t.left) f.ensures) (ap (λ (t : FilterAnswer). t.right) f.ensures)
