-- `interpolate::blend_delay` meets its contract: each point's delay lies inside the list. Assumes nothing.
use Prim.Native.Nat.{◌<◌}
use mathlib.Core.Path.{sym, ◌∙◌}
use lib.ListN.{length}
use lib.Ieee.{of_bits}
use Rattle.mix.specs.declared.Share.{Share}
use Rattle.mix.specs.Mix.{receiver_of, list_of}
use Rattle.mix.proofs.Laws.{two_ears}
use Rattle.interpolate.specs.Blend.{Leads}
use Rattle.interpolate.proofs.Laws.{stride_in, blend_some, blend_none}
use Rattle.interpolate.proofs.blend_delay.Goals as goal

pub weighed-requires : goal.weighed-requires
weighed-requires c =
    let s = c.in-Some.s in
    let a = c.args in
    let q = c.requires in
    let there : (p : Share) → p.number < a.m → Leads s (length a.delays.now) p.number =
    λ p h. stride_in (length a.delays.now) a.m a.r (receiver_of a.ear) p.number s (sym c.in-Some.is ∙ c.stride_of.ensures) h q.2 (two_ears a.ear) in
    (q.0.one, q.0.four, (there a.p.a q.0.a_in, there a.p.b q.0.b_in, there a.p.c q.0.c_in, there a.p.d q.0.d_in))

pub returns : goal.returns
returns c =
    let a = c.args in
    blend_some a.delays.now a.m a.r (receiver_of a.ear) c.in-Some.s (sym c.in-Some.is ∙ c.stride_of.ensures) (list_of a.p) c.weighed.result c.weighed.ensures

pub returns-in_default : goal.returns-in_default
unfolding of_bits
returns-in_default c =
    let a = c.args in
    blend_none a.delays.now a.m a.r (receiver_of a.ear) (sym c.in_default.is ∙ c.stride_of.ensures) (list_of a.p)
