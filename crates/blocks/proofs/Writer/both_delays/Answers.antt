-- `blocks::Writer::both_delays` meets its contract. Assumes nothing.
use Rattle.text.specs.Words.{bytes}
use Rattle.blocks.specs.Blocks.{value_line, delays_text}
use Rattle.blocks.proofs.Writers.{first, second, both}
use Rattle.blocks.proofs.Writer.both_delays.Goals as goal

pub value_line-requires : goal.value_line-requires
unfolding delays_text bytes
value_line-requires c = first (value_line (bytes "ldelay=") c.args.left.0) (value_line (bytes "rdelay=") c.args.right.0) c.args.self.now c.args.self.now c.requires

pub value_line-requires-2 : goal.value_line-requires-2
unfolding delays_text bytes
value_line-requires-2 c = second (value_line (bytes "ldelay=") c.args.left.0) (value_line (bytes "rdelay=") c.args.right.0) c.args.self.now c.value_line.new.self c.requires c.value_line.ensures

pub returns : goal.returns
unfolding delays_text bytes
returns c = both (value_line (bytes "ldelay=") c.args.left.0) (value_line (bytes "rdelay=") c.args.right.0) c.args.self.now c.value_line.new.self c.requires c.value_line-2.new.self c.value_line.ensures c.value_line-2.ensures
