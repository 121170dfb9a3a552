-- `blocks::Writer::word_line` meets its contract. Assumes nothing.
use Rattle.blocks.specs.Blocks.{newline, word_line}
use Rattle.blocks.proofs.Writers.{first, second, both}
use Rattle.blocks.proofs.Writer.word_line.Goals as goal

pub put-requires : goal.put-requires
unfolding word_line
put-requires c = first c.args.word.now newline c.args.self.now c.args.self.now c.requires

pub byte-requires : goal.byte-requires
unfolding word_line
byte-requires c = second c.args.word.now newline c.args.self.now c.put.new.self c.requires c.put.ensures

pub returns : goal.returns
unfolding word_line
returns c = both c.args.word.now newline c.args.self.now c.put.new.self c.requires c.byte.new.self c.put.ensures c.byte.ensures
