-- `interpolate::plain_delay` meets its contract: what is read lies inside the list. Assumes nothing.
use mathlib.Core.Path.{sym, ap, ◌∙◌}
use lib.ListN.{length}
use lib.Ieee.{Float, of_bits}
use Rattle.delays.specs.declared.Samples.{Samples}
use Rattle.mix.specs.Mix.{receiver_of}
use Rattle.mix.proofs.Laws.{two_ears}
use Rattle.interpolate.proofs.Laws.{stride_in, plain_some, plain_none}
use Rattle.interpolate.proofs.plain_delay.Goals as goal

pub held-requires : goal.held-requires
held-requires c =
    let a = c.args in
    stride_in (length a.delays.now) a.m a.r (receiver_of a.ear) a.k c.in-Some.s (sym c.in-Some.is ∙ c.stride_of.ensures) c.requires.0 c.requires.2 (two_ears a.ear)

pub returns : goal.returns
returns c =
    let a = c.args in
    ap sampled c.held.ensures ∙ plain_some a.delays.now a.m a.r (receiver_of a.ear) c.in-Some.s (sym c.in-Some.is ∙ c.stride_of.ensures) a.k
  where
    sampled : Float → Samples
    sampled x = record { 0 = x }

pub returns-in_default : goal.returns-in_default
unfolding of_bits
returns-in_default c =
    let a = c.args in
    plain_none a.delays.now a.m a.r (receiver_of a.ear) (sym c.in_default.is ∙ c.stride_of.ensures) a.k
