-- `blocks::Writer::block` meets its contract. Assumes nothing.
use Rattle.text.specs.Words.{bytes}
use Rattle.blocks.proofs.Writer.block.Goals as goal

pub found_block-requires : goal.found_block-requires
unfolding bytes
found_block-requires c = rw c.in-Exact.is at c.requires

pub found_block-requires-in-Blended : goal.found_block-requires-in-Blended
unfolding bytes
found_block-requires-in-Blended c = rw c.in-Blended.is at c.requires

pub returns-in-Exact : goal.returns-in-Exact
unfolding bytes
returns-in-Exact c = rw c.in-Exact.is c.found_block.ensures

pub returns-in-Blended : goal.returns-in-Blended
unfolding bytes
returns-in-Blended c = rw c.in-Blended.is c.found_block-in-Blended.ensures
