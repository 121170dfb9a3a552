-- `blocks::Writer::refused` meets its contract. Assumes nothing.
use Rattle.text.specs.Words.{bytes}
use Rattle.blocks.specs.Blocks.{word_line, count_line, refused_text}
use Rattle.blocks.proofs.Writers.{first_of_three, second_of_three, third_of_three, all_three}
use Rattle.blocks.proofs.Writer.refused.Goals as goal

pub word_line-requires : goal.word_line-requires
unfolding refused_text bytes
word_line-requires c = first_of_three (word_line (bytes "answer=refused")) (count_line (bytes "reason=") c.args.reason) (count_line (bytes "place=") c.args.place) c.args.self.now c.args.self.now c.args.self.now c.requires

pub count_line-requires : goal.count_line-requires
unfolding refused_text bytes
count_line-requires c = second_of_three (word_line (bytes "answer=refused")) (count_line (bytes "reason=") c.args.reason) (count_line (bytes "place=") c.args.place) c.args.self.now c.word_line.new.self c.args.self.now c.requires c.word_line.ensures

pub count_line-requires-2 : goal.count_line-requires-2
unfolding refused_text bytes
count_line-requires-2 c = third_of_three (word_line (bytes "answer=refused")) (count_line (bytes "reason=") c.args.reason) (count_line (bytes "place=") c.args.place) c.args.self.now c.word_line.new.self c.count_line.new.self c.requires c.word_line.ensures c.count_line.ensures

pub returns : goal.returns
unfolding refused_text bytes
returns c = all_three (word_line (bytes "answer=refused")) (count_line (bytes "reason=") c.args.reason) (count_line (bytes "place=") c.args.place) c.args.self.now c.word_line.new.self c.count_line.new.self c.requires c.count_line-2.new.self c.word_line.ensures c.count_line.ensures c.count_line-2.ensures
