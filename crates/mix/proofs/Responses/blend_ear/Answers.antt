-- `mix::Responses::blend_ear` meets its contract. Assumes nothing.
use Rattle.std.proofs.Common.{◌≤◌, ap, ◌∙◌, ℕ, Float, length, arith}
use Rattle.mix.specs.Mix.{receiver_of, sample_of, list_of, tailed}
use Rattle.mix.proofs.Laws.{whole, shorter_past}
use Rattle.mix.proofs.Responses.blend_ear.Goals as goal

pub returns : goal.returns
returns c =
    let a = c.args in
    let t = a.self.now in
    let f : ℕ → Float = sample_of t.taps.now t.r t.n (receiver_of a.ear) (list_of a.p) in
    let k = c.min-k in
    let low : k.result ≤ t.n = omega arith in
    let short : k.result ≤ length a.out.now = omega arith in
    c.silence.ensures
    ∙ ap (tailed k.result) c.head.ensures
    ∙ whole f t.n k.result a.out.now low short (λ i h g. shorter_past _ _ i _ k.ensures h g)
