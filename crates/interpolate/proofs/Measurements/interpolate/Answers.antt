-- `interpolate::Measurements::interpolate` meets its contract: each way out is one law. Assumes nothing.
use Prim.Native.Nat.{ℕ}
use mathlib.Core.Bool.{Bool}
use mathlib.Core.List.{List}
use mathlib.Core.Path.{◌≡◌, subst}
use lib.ListN.{length}
use Rattle.mix.specs.declared.Share.{Share}
use Rattle.mix.specs.declared.Points.{Points}
use Rattle.mix.specs.Mix.{list_of}
use Rattle.std.proofs.Common.{Result, Ok}
use Rattle.interpolate.specs.declared.BadEntry.{BadEntry}
use Rattle.interpolate.specs.Blend.{Gathers}
use Rattle.interpolate.proofs.Laws.{three_in, way_close, way_light, way_blended, way_refused}
use Rattle.interpolate.proofs.Measurements.interpolate.Goals as goal

-- the points are gathered
met : (m : ℕ) (k : Bool) (ps : List Share) (g : Result Points BadEntry) (p : Points) → Gathers m k ps g → g ≡ Ok p → Gathers m k ps (Ok p)
met m k ps g p h e = subst (Gathers m k ps) e h

pub distance-d-requires : goal.distance-d-requires
distance-d-requires c = let t = c.args.self.now in three_in c.args.nearest t.filters.responses.m (length t.cartesian.now) c.requires t.table.0

pub get_filter_nointerp-requires : goal.get_filter_nointerp-requires
get_filter_nointerp-requires c = c.requires

pub returns-then-d : goal.returns-then-d
returns-then-d c =
    let a = c.args in
    let f = a.self.now.filters in
    way_close
    f.responses.m f.responses.r f.responses.n f.responses.taps.now f.delays.now f.rate (length a.left.now) (length a.right.now)
    a.self.now.cartesian.now a.self.now.neighbours.now a.position a.nearest c.distance-d.result
    c.get_filter_nointerp.ensures
    c.distance-d.ensures
    c.if-d.true

pub gather-requires : goal.gather-requires
gather-requires c = (c.requires, c.distance-d.ensures)

pub returns-in_default : goal.returns-in_default
returns-in_default c =
    let a = c.args in
    let f = a.self.now.filters in
    way_refused
    f.responses.m f.responses.r f.responses.n f.responses.taps.now f.delays.now f.rate (length a.left.now) (length a.right.now)
    a.self.now.cartesian.now a.self.now.neighbours.now a.position a.nearest c.distance-d.result c.gather.result _
    c.refuse_by.ensures
    c.distance-d.ensures
    c.if-d.false
    c.gather.ensures
    c.in_default.is

pub total-sum-requires : goal.total-sum-requires
total-sum-requires c =
    let g = met _ _ _ _ _ c.gather.ensures c.in-Ok.is in
    (g.2.one, g.2.four)

pub get_filter_nointerp-requires-then-sum : goal.get_filter_nointerp-requires-then-sum
get_filter_nointerp-requires-then-sum c = c.requires

pub returns-then-sum : goal.returns-then-sum
returns-then-sum c =
    let a = c.args in
    let f = a.self.now.filters in
    way_light
    f.responses.m f.responses.r f.responses.n f.responses.taps.now f.delays.now f.rate (length a.left.now) (length a.right.now)
    a.self.now.cartesian.now a.self.now.neighbours.now a.position a.nearest c.distance-d.result c.in-Ok.p c.total-sum.result
    c.get_filter_nointerp-then-sum.ensures
    c.distance-d.ensures
    c.if-d.false
    (met _ _ _ _ _ c.gather.ensures c.in-Ok.is)
    c.total-sum.ensures
    c.if-sum.true

pub blend-requires : goal.blend-requires
blend-requires c =
    let g = met _ _ _ _ _ c.gather.ensures c.in-Ok.is in
    c.divided.ensures.1 c.args.self.now.filters.responses.m g.2

pub returns : goal.returns
returns c =
    let a = c.args in
    let f = a.self.now.filters in
    way_blended
    f.responses.m f.responses.r f.responses.n f.responses.taps.now f.delays.now f.rate (length a.left.now) (length a.right.now)
    a.self.now.cartesian.now a.self.now.neighbours.now a.position a.nearest c.distance-d.result c.in-Ok.p c.total-sum.result (list_of c.divided.result)
    c.blend.ensures
    c.distance-d.ensures
    c.if-d.false
    (met _ _ _ _ _ c.gather.ensures c.in-Ok.is)
    c.total-sum.ensures
    c.if-sum.false
    c.divided.ensures.0
