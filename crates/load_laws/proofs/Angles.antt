-- NO ANGLE OF A LOAD IS REFUSED: whatever `load` accepts, each use of an angle is one that `sine`, `cosine` and `arctangent` answer. Assumes nothing.
use mathlib.Core.Path.{◌≡◌, sym, subst}
use Prim.Native.Nat.{ℕ, ◌+◌, ◌*◌, ◌<◌}
use native.Mathlib.Omega.{arith}
use lib.ListN.{length}
use Rattle.std.specs.Prelude.{Ok}
use Rattle.points.specs.Points.{point_at}
use Rattle.limits.proofs.Passed.{Allowed}
use Rattle.lookup.specs.declared.Lookup.{Lookup}
use Rattle.coords.specs.Arrays.{lifted}
use Rattle.coords.specs.Moderate.{Moderate}
use Rattle.coord_laws.specs.Answered.{ToCartesian}
use Rattle.coord_laws.proofs.Answered.{triplet_answered}
use Rattle.neighbor_laws.specs.Answered.{SearchAnswered}
use Rattle.neighbor_laws.proofs.Answered.{search_answered}
use Rattle.loads.specs.Load.{Load, indexed}
use Rattle.load_laws.specs.Load.{Given, judged, loaded}
use Rattle.load_laws.specs.Domain.{Domain}
use Rattle.load_laws.specs.Angles.{AnglesAnswered}
use Rattle.load_laws.proofs.Positions.{positions_inside}
use Rattle.load_laws.proofs.Loaded as after
use Rattle.load_laws.proofs.Loaded.{says, went}
use Rattle.load_laws.proofs.Load.{ready_fine}
use Rattle.load_laws.proofs.Domain.{accepts}

module _ (g : Given) (fine : judged g ≡ Ok tt) where
  -- the three values of a measurement stand in the list of positions
  within_list : (k : ℕ) → k < g.sizes.m → 3 * k + 2 < length g.positions
  within_list k h = let z = (went g fine).room.exact in omega arith

  place_inside : (k : ℕ) → k < g.sizes.m → Moderate (point_at (after.cart g) k)
  place_inside k h = positions_inside g.kind g.positions g.work.cartesian (went g fine).known (went g fine).values k (within_list k h)

  pub place_searched : (k : ℕ) → k < g.sizes.m → SearchAnswered g.angle g.radius (point_at (after.cart g) k)
  place_searched k h = search_answered g.angle g.radius (went g fine).angle (point_at (after.cart g) k) (place_inside k h)

  converted : g.kind ≡ 1 → (k : ℕ) → k < g.sizes.m → ToCartesian (lifted (point_at g.positions k))
  converted e k h = triplet_answered g.positions (length g.positions) (subst (λ (j : ℕ). Allowed j g.positions (length g.positions)) e (went g fine).values) k (within_list k h)

  searched : (k : ℕ) → k < g.sizes.m → SearchAnswered g.angle g.radius (point_at (loaded g).work.cartesian k)
  unfolding indexed
  searched k h = subst (λ (l : Load). SearchAnswered g.angle g.radius (point_at l.work.cartesian k)) (sym (says g fine)) (place_searched k h)

  fine_answered : AnglesAnswered g
  fine_answered = record { converted = converted; bounds = λ k h. (searched k h).start; searched = searched }

-- EVERY ANGLE OF A LOAD THAT IS NOT REFUSED IS ANSWERED
pub angles_answered : (g : Given) (look : Lookup) → (loaded g).answer ≡ Ok look → AnglesAnswered g
angles_answered g look e = fine_answered g (ready_fine g look e)

-- and so every one over document 01's domain
pub domain_answered : (g : Given) → Domain g → AnglesAnswered g
domain_answered g D = angles_answered g _ (accepts g D)
