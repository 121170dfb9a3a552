-- `interpolate::stride_of` meets its contract: each test leads to its case of the rule. Assumes nothing.
use Rattle.std.proofs.Common.{ap, ◌∙◌, arith}
use Rattle.mix.specs.Mix.{receiver_of}
use Rattle.interpolate.specs.Blend.{stride_at}
use Rattle.interpolate.proofs.Laws.{by_one, by_each, by_two, by_none, times}
use Rattle.interpolate.proofs.stride_of.Goals as goal

pub returns-then-len-m : goal.returns-then-len-m
returns-then-len-m c =
    let a = c.args in
    by_one a.len a.m a.r (receiver_of a.ear) c.if-len-m.true

pub overflow_mul-m : goal.overflow_mul-m
overflow_mul-m c =
    omega (arith, times c.args.m c.args.r c.requires.0 c.requires.1)

pub returns-then-m-r : goal.returns-then-m-r
returns-then-m-r c =
    let a = c.args in
    ap (stride_at a.r) c.receiver-plus.ensures ∙ by_each a.len a.m a.r (receiver_of a.ear) c.if-len-m.false c.if-m-r.true

pub returns-then-r-len : goal.returns-then-r-len
returns-then-r-len c =
    let a = c.args in
    ap (stride_at 0) c.receiver-plus.ensures ∙ by_two a.len a.m a.r (receiver_of a.ear) c.if-len-m.false c.if-m-r.false c.if-r-len.true

pub returns : goal.returns
returns c =
    let a = c.args in
    by_none a.len a.m a.r (receiver_of a.ear) c.if-len-m.false c.if-m-r.false c.if-r-len.false
