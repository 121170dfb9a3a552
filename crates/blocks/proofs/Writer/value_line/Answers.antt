-- `blocks::Writer::value_line` meets its contract. Assumes nothing.
use Rattle.blocks.specs.Blocks.{newline, value_text, value_line}
use Rattle.blocks.proofs.Writers.{first_of_three, second_of_three, third_of_three, all_three}
use Rattle.blocks.proofs.Writer.value_line.Goals as goal

pub put-requires : goal.put-requires
unfolding value_line
put-requires c = first_of_three c.args.key.now (value_text c.args.x) newline c.args.self.now c.args.self.now c.args.self.now c.requires

pub value-requires : goal.value-requires
unfolding value_line
value-requires c = second_of_three c.args.key.now (value_text c.args.x) newline c.args.self.now c.put.new.self c.args.self.now c.requires c.put.ensures

pub byte-requires : goal.byte-requires
unfolding value_line
byte-requires c = third_of_three c.args.key.now (value_text c.args.x) newline c.args.self.now c.put.new.self c.value.new.self c.requires c.put.ensures c.value.ensures

pub returns : goal.returns
unfolding value_line
returns c = all_three c.args.key.now (value_text c.args.x) newline c.args.self.now c.put.new.self c.value.new.self c.requires c.byte.new.self c.put.ensures c.value.ensures c.byte.ensures
