-- `angles::Direction::certifies` meets its contract. Assumes nothing.
use Rattle.std.proofs.Common.{ℕ, ◌≤◌, sym, ◌∙◌, subst, lit≤}
use lib.Ieee.{of_bits}
use Rattle.sines.proofs.Range.{below_word}
use Rattle.angles.proofs.Cert.{fixed_asks, cert_yes, cert_far}
use Rattle.angles.proofs.Direction.certifies.Goals as goal

pub fixed-requires : goal.fixed-requires
unfolding of_bits
fixed-requires c = let a = fixed_asks c.args.c c.requires c.if-c.true in (a.0, lit≤ tt, below_word _ a.1)

pub on_grid-requires : goal.on_grid-requires
unfolding of_bits
on_grid-requires c = subst (λ (z : ℕ). z ≤ 17592186044416) (sym c.fixed.ensures) (fixed_asks c.args.c c.requires c.if-c.true).1

pub returns-then-c : goal.returns-then-c
unfolding of_bits
returns-then-c c = cert_yes c.args.self.back c.args.self.py c.args.self.px c.args.c c.fixed.result c.on_grid.result c.if-c.true c.fixed.ensures c.on_grid.ensures

pub returns-else-c : goal.returns-else-c
unfolding of_bits
returns-else-c c = c.if-c.false ∙ cert_far c.args.self.back c.args.self.py c.args.self.px c.args.c c.if-c.false
