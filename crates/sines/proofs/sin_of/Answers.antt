-- `sines::sin_of` meets its contract. Assumes nothing.
use Rattle.std.proofs.Common.{lit≤}
use lib.Ieee.{of_bits}
use Rattle.sines.proofs.Range.{fix_asks}
use Rattle.sines.proofs.Waves.{sized, sine_little, sine_large}
use Rattle.sines.proofs.sin_of.Goals as goal

pub returns-then-a : goal.returns-then-a
unfolding of_bits
returns-then-a c = sine_little c.args.x c.abs-a.result c.abs-a.ensures c.if-a.true

pub wave-requires : goal.wave-requires
unfolding of_bits
wave-requires c = let asked = fix_asks c.args.x c.abs-a.result c.requires (sized c.args.x c.abs-a.result c.abs-a.ensures c.if-a.false) in (asked.0, asked.1, lit≤ tt)

pub returns : goal.returns
unfolding of_bits
returns c = sine_large c.args.x c.abs-a.result c.abs-a.ensures c.wave.result c.if-a.false c.wave.ensures
