use lib.Ieee.{of_bits}
use Rattle.lookup.proofs.Laws as laws
use Rattle.lookup.proofs.Lookup.normalize_radius.Goals as goal

pub returns-then-r-self : goal.returns-then-r-self
returns-then-r-self c = let a = c.args in laws.drawn_in_lem a.self a.pos c.radius-r.result c.radius-r.ensures _ c.scale.ensures c.if-r-self.true

pub returns-then-r-self-2 : goal.returns-then-r-self-2
unfolding of_bits
returns-then-r-self-2 c = let a = c.args in laws.drawn_out a.self a.pos c.radius-r.result c.radius-r.ensures _ c.scale-then-r-self-2.ensures c.if-r-self.false c.if-r-self-2.true

pub returns : goal.returns
unfolding of_bits
returns c = let a = c.args in laws.unchanged a.self a.pos c.radius-r.result c.radius-r.ensures c.if-r-self.false c.if-r-self-2.false
