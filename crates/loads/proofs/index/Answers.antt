use Rattle.lookup.specs.Build.{links_of}
use Rattle.lookup_laws.specs.Loaded.{Room}
use Rattle.neighbors.proofs.Around.{built_by}
use Rattle.loads.proofs.Ways.{is_indexed}
use Rattle.loads.proofs.index.Goals as goal
use Rattle.loads.proofs.index.Goals.{After-new-look}

room : (c : After-new-look) → Room c.args.cartesian.now c.args.m (links_of c.args.left.now c.args.right.now)
room c = let h = c.requires in record { some = h.0; most = h.1.3; positions = h.1.0; left = h.1.1; right = h.1.2 }

pub fill_neighbors-requires : goal.fill_neighbors-requires
fill_neighbors-requires c =
    let a = c.args in
    (c.requires.2, built_by c.new-look.result a.m a.cartesian.now _ _ a.left.now a.right.now (room (goal.at.fill_neighbors-requires c).After-new-look) c.new-look.ensures)

pub returns : goal.returns
returns c =
    let a = c.args in
    is_indexed a.m a.steps.angle a.steps.radius a.left.now a.right.now a.neighbours.now a.cartesian.now (room (goal.at.returns c).After-new-look) c.requires.2 c.new-look.result _ _ _ c.fill_neighbors.result c.new-look.ensures c.fill_neighbors.ensures
