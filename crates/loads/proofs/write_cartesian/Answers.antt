-- `loads::write_cartesian` meets its contract. Assumes nothing.
use Rattle.std.proofs.Common.{rules}
use Rattle.loads.proofs.Ways.{as_given, turned_there}
use Rattle.loads.proofs.write_cartesian.Goals as goal

pub returns-in-0 : goal.returns-in-0
returns-in-0 c =
    let a = c.args in
    as_given a.kind a.positions.now _ a.cartesian.now c.requires c.copy.ensures c.in-0.is

pub returns-in_default : goal.returns-in_default
returns-in_default c =
    let a = c.args in
    turned_there a.kind a.positions.now _ _ a.cartesian.now c.requires c.copy.ensures (search rules) c.convert_triplets.ensures
