-- `interpolate::push` meets its contract: the place after the counted ones is the new point's. Assumes nothing.
use mathlib.Core.Path.{◌≡◌}
use native.Mathlib.Omega.{arith}
use Rattle.interpolate.proofs.Laws.{push1, push2, push3}
use Rattle.interpolate.proofs.push.Goals as goal

pub returns-in-1 : goal.returns-in-1
returns-in-1 c =
    let a = c.args in
    let e : a.p.count ≡ 1 = c.in-1.is in
    (push1 a.p a.s e, omega arith, λ m g h. record { one = omega arith; four = omega arith; a_in = g.a_in; b_in = h; c_in = g.c_in; d_in = g.d_in })

pub returns-in-2 : goal.returns-in-2
returns-in-2 c =
    let a = c.args in
    let e : a.p.count ≡ 2 = c.in-2.is in
    (push2 a.p a.s e, omega arith, λ m g h. record { one = omega arith; four = omega arith; a_in = g.a_in; b_in = g.b_in; c_in = h; d_in = g.d_in })

pub returns-in_default : goal.returns-in_default
returns-in_default c =
    let a = c.args in
    let e : a.p.count ≡ 3 = omega (arith, c.requires.0, c.requires.1) in
    (push3 a.p a.s e, omega arith, λ m g h. record { one = omega arith; four = omega arith; a_in = g.a_in; b_in = g.b_in; c_in = g.c_in; d_in = h })
