-- `blocks::Writer::count_line` meets its contract. Assumes nothing.
use Rattle.text.specs.Print.{decimal_text}
use Rattle.blocks.specs.Blocks.{newline, count_line}
use Rattle.blocks.proofs.Writers.{first_of_three, second_of_three, third_of_three, all_three}
use Rattle.blocks.proofs.Writer.count_line.Goals as goal

pub put-requires : goal.put-requires
unfolding count_line
put-requires c = first_of_three c.args.key.now (decimal_text c.args.k) newline c.args.self.now c.args.self.now c.args.self.now c.requires

pub count-requires : goal.count-requires
unfolding count_line
count-requires c = second_of_three c.args.key.now (decimal_text c.args.k) newline c.args.self.now c.put.new.self c.args.self.now c.requires c.put.ensures

pub byte-requires : goal.byte-requires
unfolding count_line
byte-requires c = third_of_three c.args.key.now (decimal_text c.args.k) newline c.args.self.now c.put.new.self c.count.new.self c.requires c.put.ensures c.count.ensures

pub returns : goal.returns
unfolding count_line
returns c = all_three c.args.key.now (decimal_text c.args.k) newline c.args.self.now c.put.new.self c.count.new.self c.requires c.byte.new.self c.put.ensures c.count.ensures c.byte.ensures
