-- `blocks::Writer::values` meets its contract. Assumes nothing.
use Rattle.std.proofs.Common.{◌≡◌, ◌∷◌, get_or, take, arith}
use lib.Ieee.{nan}
use lib.Seq.{take_all}
use Rattle.blocks.specs.Blocks.{value_text, after_one}
use Rattle.blocks.proofs.Values.{none, some, next, room_next}
use Rattle.blocks.proofs.Writers.{nothing, first, second, both}
use Rattle.blocks.proofs.Writer.values.Goals as goal

pub returns-in_default : goal.returns-in_default
returns-in_default c = rw (none c.args.xs.now c.in_default.ensures.cases) (nothing c.args.self.now)

pub value-requires : goal.value-requires
value-requires c =
    let a = c.in-Some in
    let e = some c.args.xs.now a.first.now a.rest.now a.ensures.cases.0 in
    first (value_text a.first.now) (after_one a.rest.now) c.args.self.now c.args.self.now (rw e at c.requires)

pub loop-x-init : goal.loop-x-init
unfolding after_one
loop-x-init c =
    let a = c.in-Some in
    let e = some c.args.xs.now a.first.now a.rest.now a.ensures.cases.0 in
    (second (value_text a.first.now) (after_one a.rest.now) c.args.self.now c.value.new.self (rw e at c.requires) c.value.ensures, nothing c.value.new.self)

pub next_value-requires : goal.next_value-requires
next_value-requires c =
    let xs = c.in-Some.rest.now in
    let i = c.loop-x.x-index in
    let v = c.value.new.self in
    let room = room_next v.at i xs v.out.now nan c.loop-x-test.true c.loop-x.invariant.0 in
    second (after_one (take i xs)) (44 ∷ value_text (get_or xs i nan)) v c.loop-x.self room c.loop-x.invariant.1

pub loop-x-preserved : goal.loop-x-preserved
loop-x-preserved c =
    let xs = c.in-Some.rest.now in
    let i = c.loop-x.x-index in
    let v = c.value.new.self in
    let room = room_next v.at i xs v.out.now nan c.loop-x-test.true c.loop-x.invariant.0 in
    let e = next xs i nan c.loop-x-test.true in
    (c.loop-x.invariant.0, rw e (both (after_one (take i xs)) (44 ∷ value_text (get_or xs i nan)) v c.loop-x.self room c.next_value.new.self c.loop-x.invariant.1 c.next_value.ensures))

pub returns : goal.returns
returns c =
    let a = c.in-Some in
    let xs = a.rest.now in
    let e = some c.args.xs.now a.first.now xs a.ensures.cases.0 in
    let all : take c.loop-x.x-index xs ≡ xs = take_all c.loop-x.x-index xs (omega arith) in
    rw e (both (value_text a.first.now) (after_one xs) c.args.self.now c.value.new.self (rw e at c.requires) c.loop-x.self c.value.ensures (rw all at c.loop-x.invariant.1))
