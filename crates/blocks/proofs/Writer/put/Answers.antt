-- `blocks::Writer::put` meets its contract. Assumes nothing.
use Rattle.std.proofs.Common.{ℕ, ◌-◌, List, length, take, drop, refl, ap, ◌∙◌, arith}
use lib.Seq.{take_all}
use Rattle.lists.specs.Over.{over}
use Rattle.blocks.proofs.Into.{tail}
use Rattle.blocks.proofs.Writer.put.Goals as goal

pub returns : goal.returns
returns c =
    let w = c.args.self.now in
    let d = w.out.now in
    let word = c.args.word.now in
    let e = ap (λ (s : List ℕ). over s (take (length d - w.at) (drop w.at d))) (take_all (length word) word (omega arith)) in
    record { wrote = (refl, tail w.at word d c.copy.new.dst c.requires (c.copy.ensures ∙ e)); same = refl }
