-- `mix::start` meets its contract. Assumes nothing.
use Rattle.std.proofs.Common.{◌≤◌, ◌+◌, ◌*◌, ap, ℕ, arith}
use Rattle.mix.specs.Mix.{start_of}
use Rattle.mix.proofs.Laws.{product, product2, two_ears}
use Rattle.mix.proofs.start.Goals as goal

pub overflow_mul-result : goal.overflow_mul-result
overflow_mul-result c = omega (arith, product c.args.k c.args.r c.requires.0 c.requires.1)

pub overflow_add-result : goal.overflow_add-result
overflow_add-result c = omega (arith, two_ears c.args.ear, c.receiver.ensures, product c.args.k c.args.r c.requires.0 c.requires.1)

pub overflow_mul-result-2 : goal.overflow_mul-result-2
overflow_mul-result-2 c =
    let one : c.receiver.result ≤ 1 = omega (arith, two_ears c.args.ear, c.receiver.ensures) in
    omega (arith, product2 c.args.k c.args.r c.receiver.result c.args.n c.requires.0 c.requires.1 one c.requires.2)

pub returns : goal.returns
unfolding start_of
returns c = ap (λ (e : ℕ). (c.args.k * c.args.r + e) * c.args.n) c.receiver.ensures
