-- `blocks::Writer::values_line` meets its contract. Assumes nothing.
use Rattle.blocks.specs.Blocks.{newline, list_text, values_line}
use Rattle.blocks.proofs.Writers.{first_of_three, second_of_three, third_of_three, all_three}
use Rattle.blocks.proofs.Writer.values_line.Goals as goal

pub put-requires : goal.put-requires
unfolding values_line
put-requires c = first_of_three c.args.key.now (list_text c.args.xs.now) newline c.args.self.now c.args.self.now c.args.self.now c.requires

pub values-requires : goal.values-requires
unfolding values_line
values-requires c = second_of_three c.args.key.now (list_text c.args.xs.now) newline c.args.self.now c.put.new.self c.args.self.now c.requires c.put.ensures

pub byte-requires : goal.byte-requires
unfolding values_line
byte-requires c = third_of_three c.args.key.now (list_text c.args.xs.now) newline c.args.self.now c.put.new.self c.values.new.self c.requires c.put.ensures c.values.ensures

pub returns : goal.returns
unfolding values_line
returns c = all_three c.args.key.now (list_text c.args.xs.now) newline c.args.self.now c.put.new.self c.values.new.self c.requires c.byte.new.self c.put.ensures c.values.ensures c.byte.ensures
