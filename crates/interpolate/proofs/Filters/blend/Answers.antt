-- `interpolate::Filters::blend` meets its contract: two ears and two delays of the points. Assumes nothing.
use lib.ListN.{length}
use Rattle.interpolate.proofs.Laws.{blended}
use Rattle.interpolate.proofs.Filters.blend.Goals as goal

pub blend_delay-a-requires : goal.blend_delay-a-requires
blend_delay-a-requires c =
    let q = c.args.self.now.responses.sized in
    (c.requires, q.high, q.two, q.receivers)

pub blend_delay-b-requires : goal.blend_delay-b-requires
blend_delay-b-requires c =
    let q = c.args.self.now.responses.sized in
    (c.requires, q.high, q.two, q.receivers)

pub returns : goal.returns
returns c =
    let a = c.args in
    let f = a.self.now in
    blended
    f.responses.m f.responses.r f.responses.n f.responses.taps.now f.delays.now f.rate (length a.left.now) (length a.right.now)
    c.blend_delay-a.result
    c.blend_delay-b.result
    c.seconds_of.result
    c.seconds_of-2.result
    c.blend_ear.new.out
    c.blend_ear-2.new.out
    a.p
    c.requires.four
    c.blend_delay-a.ensures
    c.blend_delay-b.ensures
    c.seconds_of.ensures
    c.seconds_of-2.ensures
    c.blend_ear.ensures
    c.blend_ear-2.ensures
