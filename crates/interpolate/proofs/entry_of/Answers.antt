-- `interpolate::entry_of` meets its contract. Assumes nothing.
use Rattle.interpolate.proofs.Laws.{entry_absent, entry_measured, entry_bad}
use Rattle.interpolate.proofs.entry_of.Goals as goal

pub returns-then-k-eq65535 : goal.returns-then-k-eq65535
returns-then-k-eq65535 c = entry_absent c.args.m c.args.k c.if-k-eq65535.true

pub returns-then-n-m : goal.returns-then-n-m
returns-then-n-m c = entry_measured c.args.m c.args.k c.if-k-eq65535.false c.if-n-m.true

pub returns : goal.returns
returns c = entry_bad c.args.m c.args.k c.if-k-eq65535.false c.if-n-m.false
