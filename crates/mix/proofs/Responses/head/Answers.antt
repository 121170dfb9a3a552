-- `mix::Responses::head` meets its contract: as many points as are counted. Assumes nothing.
use Rattle.std.proofs.Common.{◌≡◌, ap, ◌∙◌, ℕ, Float, List, arith}
use Rattle.lists.specs.Over.{over, upto}
use Rattle.mix.specs.declared.Share.{Share}
use Rattle.mix.specs.declared.Responses.{Responses}
use Rattle.mix.specs.Mix.{receiver_of, sample_of}
use Rattle.mix.proofs.Laws.{counted}
use Rattle.mix.proofs.Responses.head.Goals as goal

-- what the first k samples are then
abbrev wrote : Responses → ℕ → ℕ → List Float → List Share → List Float
wrote t e k d ps = over (upto (sample_of t.taps.now t.r t.n e ps) k) d

pub returns-in-1 : goal.returns-in-1
returns-in-1 c = let a = c.args in c.mix.ensures ∙ ap (wrote a.self.now (receiver_of a.ear) a.k a.out.now) (counted a.p 1 c.in-1.is)

pub returns-in-2 : goal.returns-in-2
returns-in-2 c = let a = c.args in c.mix-in-2.ensures ∙ ap (wrote a.self.now (receiver_of a.ear) a.k a.out.now) (counted a.p 2 c.in-2.is)

pub returns-in-3 : goal.returns-in-3
returns-in-3 c = let a = c.args in c.mix-in-3.ensures ∙ ap (wrote a.self.now (receiver_of a.ear) a.k a.out.now) (counted a.p 3 c.in-3.is)

pub returns-in_default : goal.returns-in_default
returns-in_default c =
    let a = c.args in
    let four : a.p.count ≡ 4 = omega arith in
    c.mix-in_default.ensures ∙ ap (wrote a.self.now (receiver_of a.ear) a.k a.out.now) (counted a.p 4 four)
