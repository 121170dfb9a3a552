-- `interpolate::total` meets its contract. Assumes nothing.
use mathlib.Core.Path.{◌≡◌}
use native.Mathlib.Omega.{arith}
use lib.Ieee.{of_bits}
use Rattle.interpolate.specs.Blend.{total_from}
use Rattle.interpolate.proofs.Laws.{total_at}
use Rattle.interpolate.proofs.total.Goals as goal

pub returns-in-1 : goal.returns-in-1
unfolding total_from of_bits
returns-in-1 c = total_at c.args.p 1 c.in-1.is

pub returns-in-2 : goal.returns-in-2
unfolding total_from of_bits
returns-in-2 c = total_at c.args.p 2 c.in-2.is

pub returns-in-3 : goal.returns-in-3
unfolding total_from of_bits
returns-in-3 c = total_at c.args.p 3 c.in-3.is

pub returns-in_default : goal.returns-in_default
unfolding total_from of_bits
returns-in_default c =
    let e : c.args.p.count ≡ 4 = omega (arith, c.requires.0, c.requires.1) in
    total_at c.args.p 4 e
