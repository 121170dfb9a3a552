-- What a load that is not refused leaves is a loaded set, the premise of source_laws's `same`. Assumes nothing.
use mathlib.Core.Path.{◌≡◌, refl, sym, ap}
use mathlib.Core.List.{List}
use native.Mathlib.Omega.{arith}
use lib.ListN.{length}
use lib.Ieee.{Float}
use Rattle.std.specs.Prelude.{⊤, Result, Ok}
use Rattle.refusals.specs.declared.Refusal.{Refusal}
use Rattle.lists.specs.Over.{over}
use Rattle.limits.proofs.Passed.{LoadPassed, load_passed}
use Rattle.lookup.specs.Build.{links_of, build_of}
use Rattle.neighbors.specs.Neighbors.{Tabled}
use Rattle.loads.specs.Load.{Load, cartesian_from, indexed, placed_in, lengths_in, load_by, load_of}
use Rattle.loads.proofs.Ways.{filled}
use Rattle.loads.proofs.Bare.{enough}
use Rattle.source_laws.specs.Same as set
use Rattle.load_laws.specs.Load.{Given, judged, loaded, set_in}
use Rattle.load_laws.proofs.Positions.{positions_finite}

-- what it answers and leaves where nothing is refused
abbrev pub done : Given → Load
done g = indexed g.sizes.m g.angle g.radius (placed_in g.kind g.positions g.work)

-- the Cartesian list then
abbrev pub cart : Given → List Float
cart g = over (cartesian_from g.kind g.positions) g.work.cartesian

module _ (g : Given) (fine : judged g ≡ Ok tt) where
  pub says : loaded g ≡ done g
  unfolding load_of load_by
  says = ap (λ (v : Result ⊤ Refusal). load_by v (done g) g.work) fine

  pub went : LoadPassed g.kind g.sizes (lengths_in (length g.responses) g.work) g.positions g.angle g.radius g.rate
  went = load_passed g.kind g.sizes (lengths_in (length g.responses) g.work) g.positions g.angle g.radius g.rate fine

  -- THE SET IS LOADED
  pub is_loaded : set.Loaded (set_in g (done g).work)
  unfolding indexed build_of
  is_loaded =
      let R = enough g.kind g.sizes g.positions (length g.responses) g.angle g.radius g.rate g.work fine in
      let P = went in
      record {
        some = P.sizes.some;
        most = P.sizes.most;
        ears = P.sizes.ears;
        positions = R.positions;
        taps = P.room.blend.plain.taps;
        finite = λ k h. positions_finite g.kind g.positions g.work.cartesian P.known P.values k (let z = P.room.exact in omega arith);
        angle_step = P.angle;
        links_before = links_of g.work.left g.work.right;
        left_room = R.left;
        right_room = R.right;
        left_links = refl;
        right_links = refl;
        table_before = g.work.neighbours;
        table_room = P.room.blend.neighbours;
        table = sym (ap (λ (t : Tabled). t.table) (filled g.sizes.m g.angle g.radius g.work.left g.work.right g.work.neighbours (cart g) R P.room.blend.neighbours));
      }
