-- THE THEOREM: over what a load left, `find` names a nearest measurement, and in a tie the first that its walk meets (specs/Found.antt). Assumes nothing.
use mathlib.Core.Path.{◌≡◌, refl, sym, ap, ◌∙◌, subst}
use mathlib.Core.List.{List}
use Prim.Native.Nat.{ℕ, ◌<◌}
use native.Mathlib.Omega.{arith}
use lib.ListN.{length}
use lib.Ieee.{Float}
use Rattle.std.specs.Prelude.{⊤, Result, Ok}
use Rattle.refusals.specs.declared.Refusal.{Refusal}
use Rattle.lists.specs.Over.{over}
use Rattle.points.specs.declared.Point3.{Point3}
use Rattle.points.specs.Points.{point_at, Finite}
use Rattle.points.proofs.Distance.{dist_number}
use Rattle.coords.specs.Moderate.{Moderate}
use Rattle.lookup.specs.declared.Lookup.{Lookup}
use Rattle.lookup.specs.declared.Located.{Located}
use Rattle.lookup.specs.declared.Located.TheVariants.{At}
use Rattle.lookup.specs.Build.{Links, links_of, linked, box_of, lookup_of}
use Rattle.lookup.specs.Lookup.{clamped_by, locate_of, unless, find_of}
use Rattle.lookup_laws.specs.Loaded.{Room, Below}
use Rattle.lookup_laws.proofs.Loaded.{never_refused}
use Rattle.lookup_laws.proofs.Nearest as nearest
use Rattle.lookup_laws.proofs.Bounds.{loaded_radii}
use Rattle.lookup_laws.proofs.Clamp.{clamped_finite}
use Rattle.loads.specs.Load.{Work, Load, indexed}
use Rattle.loads.proofs.Bare.{enough}
use Rattle.source_laws.specs.Same as set
use Rattle.load_laws.specs.Load.{Given, judged, loaded, set_in, port_find}
use Rattle.load_laws.specs.Domain.{Domain}
use Rattle.load_laws.specs.Found.{FindsNearest}
use Rattle.load_laws.proofs.Positions.{positions_inside, positions_finite}
use Rattle.load_laws.proofs.Loaded as after
use Rattle.load_laws.proofs.Loaded.{says, went}
use Rattle.load_laws.proofs.Checks.{find_fine}
use Rattle.load_laws.proofs.Load.{ready_fine, from_load}
use Rattle.load_laws.proofs.Domain.{accepts}

module _ (g : Given) (fine : judged g ≡ Ok tt) (q : Point3) (f : Finite q) where
  abbrev w : Work
  w = (after.done g).work

  abbrev m : ℕ
  m = g.sizes.m

  abbrev xs : List Float
  xs = after.cart g

  abbrev lent : Links
  lent = links_of g.work.left g.work.right

  abbrev look : Lookup
  look = lookup_of xs m

  room : Room xs m lent
  room = enough g.kind g.sizes g.positions (length g.responses) g.angle g.radius g.rate g.work fine

  moderate : (k : ℕ) → k < m → Moderate (point_at xs k)
  moderate k h = let P = went g fine in positions_inside g.kind g.positions g.work.cartesian P.known P.values k (let z = P.room.exact in omega arith)

  finite : (k : ℕ) → k < m → Finite (point_at xs k)
  finite k h = let P = went g fine in positions_finite g.kind g.positions g.work.cartesian P.known P.values k (let z = P.room.exact in omega arith)

  asked_finite : Finite (clamped_by look q)
  asked_finite = clamped_finite look q f (loaded_radii xs m room.some moderate)

  box_is : look.bounds ≡ box_of xs m
  unfolding lookup_of
  box_is = refl

  abbrev located : Located
  located = locate_of look m xs (over (linked xs m).left g.work.left) (over (linked xs m).right g.work.right) q

  abbrev B : Below m located
  B = never_refused xs m lent room look q

  finds : port_find g w look q ≡ At B.number
  unfolding indexed find_of unless
  finds = ap (λ (v : Result ⊤ Refusal). unless v located) (find_fine g fine q f) ∙ B.is

  finds_nearest : FindsNearest g w (set.look (set_in g w)) q
  unfolding indexed
  finds_nearest = record {
    found = B.number;
    finds = finds;
    below = B.below;
    distances = λ k h. dist_number (point_at xs k) (clamped_by look q) (finite k h) asked_finite;
    least = nearest.least xs m lent room look box_is q finite asked_finite B.number B.is;
    alone = nearest.alone xs m lent room look box_is q finite asked_finite B.number B.is;
    meets = nearest.meets xs m lent room (clamped_by look q);
    first_met = nearest.first_met xs m lent room look box_is q finite asked_finite B.number B.is;
  }

-- FROM A LOAD THAT ANSWERED AND A FINITE QUERY, nothing else
pub found : (g : Given) (look : Lookup) → (loaded g).answer ≡ Ok look → (q : Point3) → Finite q → FindsNearest g (loaded g).work look q
found g look e q f =
    let fine = ready_fine g look e in
    subst (λ (k : Lookup). FindsNearest g (loaded g).work k q) (sym (from_load g look e).looks)
    (subst (λ (l : Load). FindsNearest g l.work (set.look (set_in g l.work)) q) (sym (says g fine)) (finds_nearest g fine q f))

-- DEMAND 3 OF A LOADED SET, for every input in document 01's domain: there `load` answers
pub demand_3 : (g : Given) → Domain g → (q : Point3) → Finite q → FindsNearest g (loaded g).work (set.look (set_in g (loaded g).work)) q
demand_3 g D q f = found g (set.look (set_in g (loaded g).work)) (accepts g D) q f
