-- `blocks::Writer::filter_block` meets its contract. Assumes nothing.
use Rattle.text.specs.Words.{bytes}
use Rattle.blocks.specs.Blocks.{values_line, head_text, delays_text, filter_text}
use Rattle.blocks.proofs.Writers.{first_of_three, second_of_three, third_of_three, front_of_four, fourth_of_four, all_four}
use Rattle.blocks.proofs.Writer.filter_block.Goals as goal

pub head_lines-requires : goal.head_lines-requires
unfolding filter_text bytes
head_lines-requires c =
    let a = head_text c.args.answer.now c.args.nearest c.args.points in
    let b = values_line (bytes "left=") c.args.left.now in
    let r = values_line (bytes "right=") c.args.right.now in
    let d = delays_text c.args.ldelay c.args.rdelay in
    let w = c.args.self.now in
    first_of_three a b r w w w (front_of_four a b r d w w w w c.requires)

pub values_line-requires : goal.values_line-requires
unfolding filter_text bytes
values_line-requires c =
    let a = head_text c.args.answer.now c.args.nearest c.args.points in
    let b = values_line (bytes "left=") c.args.left.now in
    let r = values_line (bytes "right=") c.args.right.now in
    let d = delays_text c.args.ldelay c.args.rdelay in
    let w = c.args.self.now in
    second_of_three a b r w c.head_lines.new.self w (front_of_four a b r d w w w w c.requires) c.head_lines.ensures

pub values_line-requires-2 : goal.values_line-requires-2
unfolding filter_text bytes
values_line-requires-2 c =
    let a = head_text c.args.answer.now c.args.nearest c.args.points in
    let b = values_line (bytes "left=") c.args.left.now in
    let r = values_line (bytes "right=") c.args.right.now in
    let d = delays_text c.args.ldelay c.args.rdelay in
    let w = c.args.self.now in
    third_of_three a b r w c.head_lines.new.self c.values_line.new.self (front_of_four a b r d w w w w c.requires) c.head_lines.ensures c.values_line.ensures

pub both_delays-requires : goal.both_delays-requires
unfolding filter_text bytes
both_delays-requires c =
    let a = head_text c.args.answer.now c.args.nearest c.args.points in
    let b = values_line (bytes "left=") c.args.left.now in
    let r = values_line (bytes "right=") c.args.right.now in
    let d = delays_text c.args.ldelay c.args.rdelay in
    let w = c.args.self.now in
    fourth_of_four a b r d w c.head_lines.new.self c.values_line.new.self c.values_line-2.new.self c.requires c.head_lines.ensures c.values_line.ensures c.values_line-2.ensures

pub returns : goal.returns
unfolding filter_text bytes
returns c =
    let a = head_text c.args.answer.now c.args.nearest c.args.points in
    let b = values_line (bytes "left=") c.args.left.now in
    let r = values_line (bytes "right=") c.args.right.now in
    let d = delays_text c.args.ldelay c.args.rdelay in
    let w = c.args.self.now in
    all_four a b r d w c.head_lines.new.self c.values_line.new.self c.values_line-2.new.self c.requires c.both_delays.new.self c.head_lines.ensures c.values_line.ensures c.values_line-2.ensures c.both_delays.ensures
