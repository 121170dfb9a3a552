-- `blocks::block` meets its contract. Assumes nothing.
use Rattle.std.proofs.Common.{rules}
use Rattle.blocks.proofs.Into.{front}
use Rattle.blocks.proofs.block.Goals as goal

pub returns : goal.returns
returns c = front _ _ _ _ (search rules)
