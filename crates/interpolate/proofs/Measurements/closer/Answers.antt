-- `interpolate::Measurements::closer` meets its contract. Assumes nothing.
use lib.ListN.{length}
use Rattle.interpolate.specs.Blend.{distance_of}
use Rattle.interpolate.proofs.Laws.{closer_wins, closer_stays, three_in}
use Rattle.interpolate.proofs.Measurements.closer.Goals as goal

pub distance-d-requires : goal.distance-d-requires
distance-d-requires c =
    let t = c.args.self.now in
    three_in c.args.k t.filters.responses.m (length t.cartesian.now) c.requires t.table.0

pub returns-then-d-limit : goal.returns-then-d-limit
returns-then-d-limit c =
    let a = c.args in
    let d = c.distance-d in
    closer_wins (distance_of a.self.now.cartesian.now a.position) a.best a.k d.result c.limit.result d.ensures c.limit.ensures c.if-d-limit.true

pub returns : goal.returns
returns c =
    let a = c.args in
    let d = c.distance-d in
    closer_stays (distance_of a.self.now.cartesian.now a.position) a.best a.k d.result c.limit.result d.ensures c.limit.ensures c.if-d-limit.false
