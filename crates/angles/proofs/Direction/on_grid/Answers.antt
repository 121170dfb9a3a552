-- `angles::Direction::on_grid` meets its contract. Assumes nothing.
use Rattle.std.proofs.Common.{ℕ, ◌<◌, sym, subst, arith}
use Rattle.sines.specs.Steps.{rest}
use Rattle.angles.specs.Arc.{grid_test}
use Rattle.sines.proofs.Scan.{rest_lt, scan_le}
use Rattle.sines.proofs.Bounds.{sin_got, cos_got}
use Rattle.angles.proofs.Direction.on_grid.Goals as goal

pub rest_of-a-requires : goal.rest_of-a-requires
rest_of-a-requires c = (scan_le c.args.x c.eighth-q.result c.requires c.eighth-q.ensures, c.requires)

pub overflow_add-q : goal.overflow_add-q
overflow_add-q c = let h = scan_le c.args.x c.eighth-q.result c.requires c.eighth-q.ensures in omega arith

small : (c : goal.After-rest_of-a) → c.rest_of-a.result < 17179869184
small c = subst (λ (z : ℕ). z < 17179869184) (sym c.rest_of-a.ensures) (subst (λ (q : ℕ). rest q c.args.x < 17179869184) (sym c.eighth-q.ensures) (rest_lt c.args.x c.requires))

pub sin_fix-requires : goal.sin_fix-requires
sin_fix-requires c = small c

pub cos_fix-requires : goal.cos_fix-requires
cos_fix-requires c = small c.before

pub on_turn-requires : goal.on_turn-requires
on_turn-requires c = (sin_got _ c.sin_fix.result (small c.before.before) c.sin_fix.ensures, cos_got _ c.cos_fix.result c.cos_fix.ensures)

pub returns : goal.returns
unfolding grid_test
returns c = cc
