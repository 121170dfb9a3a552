-- `interpolate::Filters::get_filter_nointerp` meets its contract: two copies and two delays. Assumes nothing.
use lib.ListN.{length}
use Rattle.interpolate.proofs.Laws.{extracted}
use Rattle.interpolate.proofs.Filters.get_filter_nointerp.Goals as goal

pub plain_delay-a-requires : goal.plain_delay-a-requires
plain_delay-a-requires c =
    let q = c.args.self.now.responses.sized in
    (c.requires, q.high, q.two, q.receivers)

pub plain_delay-b-requires : goal.plain_delay-b-requires
plain_delay-b-requires c =
    let q = c.args.self.now.responses.sized in
    (c.requires, q.high, q.two, q.receivers)

pub returns : goal.returns
returns c =
    let a = c.args in
    let f = a.self.now in
    extracted
    f.responses.m f.responses.r f.responses.n f.responses.taps.now f.delays.now f.rate (length a.left.now) (length a.right.now)
    c.plain_delay-a.result
    c.plain_delay-b.result
    c.seconds_of.result
    c.seconds_of-2.result
    c.copy_ear.new.out
    c.copy_ear-2.new.out
    a.nearest
    c.plain_delay-a.ensures
    c.plain_delay-b.ensures
    c.seconds_of.ensures
    c.seconds_of-2.ensures
    c.copy_ear.ensures
    c.copy_ear-2.ensures
