-- DEMAND 3 FROM `load` ON, on one page: which measurement `find` names over what a load left. Definitions only; the theorem `found` is in proofs/Found.antt, and
-- its premises are that `load` answered and that the query is finite, nothing else.
use Rattle.std.specs.Prelude.{◌≡◌, List, ◌∷◌, ℕ, ◌<◌, T}
use Rattle.floats.proofs.Preorder.{number}
use Rattle.points.specs.declared.Point3.{Point3}
use Rattle.kdtree_laws.specs.Demand3.{Numbered, dist_to, Nearer, NotNearer, Reordered, FirstNearest}
use Rattle.lookup.specs.declared.Lookup.{Lookup}
use Rattle.lookup.specs.declared.Located.TheVariants.{At}
use Rattle.lookup.specs.Lookup.{clamped_by}
use Rattle.lookup_laws.specs.Loaded.{placed, placed_from, walked}
use Rattle.loads.specs.Load.{Work}
use Rattle.load_laws.specs.Load.{Given, port_find}

-- `load` was given g, answered `look` and left the lists w; the query is q
module _ (g : Given) (w : Work) (look : Lookup) (q : Point3) where
  -- the query as the radius clamp leaves it: distances are measured from there
  abbrev pub clamped_query : Point3
  clamped_query = clamped_by look q

  -- a measurement, all of them in place order, and as the unpruned walk over the links comes to them
  abbrev pub measured_at : ℕ → Numbered
  measured_at k = placed w.cartesian k

  abbrev pub all : List Numbered
  all = placed_from w.cartesian g.sizes.m 0

  abbrev pub walk_meets : List Numbered
  walk_meets = walked w.cartesian g.sizes.m w.left w.right clamped_query

  pub record FindsNearest : Type 0 where
    -- a number below M is answered: nothing is refused
    pub found : ℕ
    pub finds : port_find g w look q ≡ At found
    pub below : found < g.sizes.m
    -- each rounded squared distance is a number, +infinity where it overflows, and none is smaller than that of the one found
    pub distances : (k : ℕ) → k < g.sizes.m → T (number (dist_to clamped_query (measured_at k)))
    pub least : (k : ℕ) → k < g.sizes.m → NotNearer clamped_query (measured_at k) (measured_at found)
    -- a measurement that all others are farther than is found
    pub alone : (k : ℕ) → k < g.sizes.m → ((j : ℕ) → j < g.sizes.m → (j ≡ k → ⊥) → Nearer clamped_query (measured_at k) (measured_at j)) → found ≡ k
    -- of several as near, the first that the unpruned walk meets, which comes to each measurement once; the root, number 0, before all
    pub meets : Reordered all walk_meets
    pub first_met : FirstNearest clamped_query (measured_at found) (measured_at 0 ∷ walk_meets)
