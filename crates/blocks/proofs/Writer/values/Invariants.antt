use Rattle.std.proofs.Common.{take}
use Rattle.blocks.specs.Put.{Fits, Writes}
use Rattle.blocks.specs.Blocks.{after_one}
use Rattle.blocks.proofs.Writer.values.Given as goal

abbrev pub invariant-loop-x : goal.invariant-loop-x
invariant-loop-x l = Fits (after_one l.rest) l.initial.self × Writes (after_one (take l.x-index l.rest)) l.initial.self l.self
