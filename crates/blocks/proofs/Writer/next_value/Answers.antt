-- `blocks::Writer::next_value` meets its contract. Assumes nothing.
use Rattle.std.proofs.Common.{[], ◌∷◌}
use Rattle.blocks.specs.Blocks.{value_text}
use Rattle.blocks.proofs.Writers.{first, second, both}
use Rattle.blocks.proofs.Writer.next_value.Goals as goal

pub byte-requires : goal.byte-requires
byte-requires c = first (44 ∷ []) (value_text c.args.x) c.args.self.now c.args.self.now c.requires

pub value-requires : goal.value-requires
value-requires c = second (44 ∷ []) (value_text c.args.x) c.args.self.now c.byte.new.self c.requires c.byte.ensures

pub returns : goal.returns
returns c = both (44 ∷ []) (value_text c.args.x) c.args.self.now c.byte.new.self c.requires c.value.new.self c.byte.ensures c.value.ensures
