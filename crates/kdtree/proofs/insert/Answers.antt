use mathlib.Core.Path.{◌≡◌, sym, ◌∙◌}
use mathlib.Core.Bool.{Bool, true}
use Prim.Native.Nat.{ℕ}
use native.Mathlib.Omega.{arith}
use Rattle.kdtree.specs.Insert.{Lists, lists_of, linked_at, has_room}
use Rattle.kdtree.proofs.Whole as whole
use Rattle.kdtree.proofs.insert.Goals as goal

-- each list has room
room : (a : Lists) (c : ℕ) (b : Bool) → b ≡ has_room a c → b ≡ true → whole.Room a c
room a c b e t = whole.room_says a c (sym e ∙ t)

pub returns-then-not-has_room : goal.returns-then-not-has_room
returns-then-not-has_room c =
    let a = c.args in
    let z = lists_of a.positions.now a.left.now a.right.now a.numbers.now in
    whole.no_room z a.count a.bounds a.p a.number (sym c.has_room.ensures ∙ c.if-not-has_room.true)

pub write_node-requires : goal.write_node-requires
write_node-requires c =
    let a = c.args in
    let z = lists_of a.positions.now a.left.now a.right.now a.numbers.now in
    let h = room z a.count c.has_room.result c.has_room.ensures c.if-not-has_room.false in
    (h.positions, h.left, h.right, h.numbers)

pub returns-then-count-eq0 : goal.returns-then-count-eq0
returns-then-count-eq0 c =
    let a = c.args in
    let z = lists_of a.positions.now a.left.now a.right.now a.numbers.now in
    let h = room z a.count c.has_room.result c.has_room.ensures c.if-not-has_room.false in
    whole.first z a.count a.bounds a.p a.number h c.if-count-eq0.true _ _ c.write_node.ensures c.new.ensures

pub returns-in-Blocked : goal.returns-in-Blocked
returns-in-Blocked c =
    let a = c.args in
    let z = lists_of a.positions.now a.left.now a.right.now a.numbers.now in
    let h = room z a.count c.has_room.result c.has_room.ensures c.if-not-has_room.false in
    whole.at_none z a.count a.bounds a.p a.number h c.if-count-eq0.false _ c.insert_rec-slot.ensures c.in-Blocked.is

pub link-requires : goal.link-requires
link-requires c =
    let a = c.args in
    let z = lists_of a.positions.now a.left.now a.right.now a.numbers.now in
    let h = room z a.count c.has_room.result c.has_room.ensures c.if-not-has_room.false in
    let i = whole.owner z a.count a.bounds a.p a.number h c.if-count-eq0.false _ c.insert_rec-slot.ensures in
    let l = h.left in
    let r = h.right in
    (omega arith, omega arith, h.most)

pub returns : goal.returns
unfolding linked_at
returns c =
    let a = c.args in
    let z = lists_of a.positions.now a.left.now a.right.now a.numbers.now in
    let h = room z a.count c.has_room.result c.has_room.ensures c.if-not-has_room.false in
    let l = c.link.ensures.left in
    let r = c.link.ensures.right in
    let w = c.write_node-2.ensures in
    whole.at_slot z a.count a.bounds a.p a.number h c.if-count-eq0.false _ c.insert_rec-slot.ensures _ _ c.in_default.not-Blocked (cc) c.extend.ensures
