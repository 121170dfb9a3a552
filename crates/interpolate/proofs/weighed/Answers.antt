-- `interpolate::weighed` meets its contract: the sum of as many places as are counted. Assumes nothing.
use mathlib.Core.Path.{◌≡◌}
use native.Mathlib.Omega.{arith}
use lib.Ieee.{of_bits}
use Rattle.interpolate.specs.Blend.{delay_at}
use Rattle.interpolate.proofs.Laws.{weighed1, weighed2, weighed3, weighed4}
use Rattle.interpolate.proofs.weighed.Goals as goal

pub held-requires : goal.held-requires
held-requires c = c.requires.2.0

pub held-requires-2 : goal.held-requires-2
held-requires-2 c = c.requires.2.1

pub held-requires-3 : goal.held-requires-3
held-requires-3 c = c.requires.2.2

pub held-requires-4 : goal.held-requires-4
held-requires-4 c = c.requires.2.3

pub returns-in-1 : goal.returns-in-1
unfolding of_bits
returns-in-1 c =
    let a = c.args in
    weighed1 a.p (delay_at a.delays.now a.s)
    c.held.result c.held.ensures
    c.in-1.is

pub returns-in-2 : goal.returns-in-2
unfolding of_bits
returns-in-2 c =
    let a = c.args in
    weighed2 a.p (delay_at a.delays.now a.s)
    c.held.result c.held.ensures
    c.held-2.result c.held-2.ensures
    c.in-2.is

pub returns-in-3 : goal.returns-in-3
unfolding of_bits
returns-in-3 c =
    let a = c.args in
    weighed3 a.p (delay_at a.delays.now a.s)
    c.held.result c.held.ensures
    c.held-2.result c.held-2.ensures
    c.held-3.result c.held-3.ensures
    c.in-3.is

pub returns-in_default : goal.returns-in_default
unfolding of_bits
returns-in_default c =
    let a = c.args in
    let e : a.p.count ≡ 4 = omega (arith, c.requires.0, c.requires.1) in
    weighed4 a.p (delay_at a.delays.now a.s)
    c.held.result c.held.ensures
    c.held-2.result c.held-2.ensures
    c.held-3.result c.held-3.ensures
    c.held-4.result c.held-4.ensures
    e
