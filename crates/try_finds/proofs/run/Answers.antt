-- `try_finds::run` is safe: tables are filled over links that were built. Assumes nothing.
use Rattle.std.proofs.Common.{refl, arith}
use Rattle.lookup.specs.Build.{links_of}
use Rattle.lookup_laws.specs.Loaded.{Room}
use Rattle.neighbors.proofs.Around.{built_by}
use Rattle.try_finds.proofs.run.Goals as goal

pub table-requires : goal.table-requires
table-requires c =
    let n = c.new-look in
    let a = c.args in
    let h = c.requires in
    let room : Room a.cart.now 8 (links_of a.left.now a.right.now) = record { some = omega arith; most = omega arith; positions = h.0; left = h.1; right = h.2 } in
    (refl, built_by n.result 8 a.cart.now _ _ a.left.now a.right.now room n.ensures)

pub table-requires-2 : goal.table-requires-2
table-requires-2 c =
    let n = c.new-look in
    let a = c.args in
    let h = c.requires in
    let room : Room a.cart.now 8 (links_of a.left.now a.right.now) = record { some = omega arith; most = omega arith; positions = h.0; left = h.1; right = h.2 } in
    (refl, built_by n.result 8 a.cart.now _ _ a.left.now a.right.now room n.ensures)
