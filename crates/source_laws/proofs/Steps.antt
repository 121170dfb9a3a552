-- The source's search_direction and the port's: step by step the same, Absent for None. Assumes nothing.
use mathlib.Core.Path.{◌≡◌, refl, sym, ap, ◌∙◌, subst}
use mathlib.Core.Bool.{Bool, true, false, cond, ◌||◌}
use mathlib.Core.List.{List}
use Prim.Native.Nat.{ℕ, zero, suc, ◌+◌, ◌<◌, ◌≤◌}
use lib.Dec.{eqb}
use lib.Ieee.{Float, binary32, add, sub, lt}
use Rattle.floats.specs.Floats.{abs_of}
use Rattle.points.specs.declared.Point3.{Point3}
use Rattle.coords.specs.declared.Spherical.{Spherical}
use Rattle.coords.specs.Coords.{cartesian_of}
use Rattle.lookup.specs.declared.Lookup.{Lookup}
use Rattle.lookup.specs.declared.Located.{Located}
use Rattle.lookup.specs.declared.Located.TheVariants as located
use Rattle.lookup.specs.Build.{lookup_of}
use Rattle.neighbors.specs.declared.Reached.{Reached}
use Rattle.neighbors.specs.declared.Reached.TheVariants.{At, Absent}
use Rattle.neighbors.specs.Neighbors.{after, tilted, distant, moved, leaves, unless_own, going}
use Rattle.source.specs.Rust.{Option, None, Some}
use Rattle.source.specs.Lookup as looked
use Rattle.source.specs.Lookup.{find}
use Rattle.source.specs.Neighbors.{other_than, stepping}
use Rattle.source_laws.specs.Drawn.{ported, reached_as}
use Rattle.source_laws.proofs.Turns.{cartesian_same}
use Rattle.source_laws.proofs.Linked.{Holds, finds}
use Rattle.source_laws.proofs.Built.{measured_to, six_same}

-- absent, or one of the m measurements
abbrev pub InSet : ℕ → Option ℕ → Type 0
InSet m None = Unit
InSet m (Some k) = k < m

pick_same : (b : Bool) (r : Reached) (o : Option ℕ) → r ≡ reached_as o → elim b [ true ↦ Absent | false ↦ r ] ≡ reached_as (cond b None o)
pick_same true r o e = refl
pick_same false r o e = e

pick_in : (b : Bool) (m : ℕ) (o : Option ℕ) → InSet m o → InSet m (cond b None o)
pick_in true m o h = tt
pick_in false m o h = h

own_same : (own k : ℕ) (r : Reached) (o : Option ℕ) → r ≡ reached_as o → unless_own own (located.At k) r ≡ reached_as (other_than own (Some k) o)
unfolding unless_own other_than
own_same own k r o e = go (eqb k own)
  where
    go : (b : Bool) → cond b r (At k) ≡ reached_as (cond b o (Some k))
    go true = e
    go false = refl

own_in : (own k m : ℕ) (o : Option ℕ) → k < m → InSet m o → InSet m (other_than own (Some k) o)
unfolding other_than
own_in own k m o h g = go (eqb k own)
  where
    go : (b : Bool) → InSet m (cond b o (Some k))
    go true = g
    go false = h

module _ (xs : List Float) (n : ℕ) (small : suc n ≤ 16384) (left right : List ℕ) (h : Holds xs n left right) (own : ℕ) (from step : Spherical) where
  abbrev look : Lookup
  look = lookup_of xs (suc n)

  abbrev built : looked.Lookup
  built = measured_to xs (suc n)

  -- the source's search, k turns from the step s on
  abbrev searched : ℕ → ℕ → Option ℕ
  searched k s = stepping ported own from.azimuth from.elevation from.radius step.azimuth step.elevation step.radius built k s

  abbrev left_bounds : looked.Lookup → Float → Bool
  left_bounds l r = lt r (sub binary32 l.radius_min (abs_of step.radius)) || lt (add binary32 l.radius_max (abs_of step.radius)) r

  leaves_same : (r : Float) → left_bounds built r ≡ leaves look step.radius r
  unfolding leaves lookup_of
  leaves_same r =
      let s = six_same xs (suc n) in
      rw (s.least, s.greatest)

  abbrev there : ℕ → Spherical
  there i = moved from step (i + 1)

  -- one turn of the source's loop
  turn_is : (k i : ℕ) → searched (suc k) (i + 1) ≡ cond (left_bounds built (there i).radius) None (other_than own (find built (cartesian_of (there i))) (searched k (i + 1 + 1)))
  unfolding stepping moved after tilted distant
  turn_is k i =
      ap (λ (p : Point3). cond (left_bounds built (there i).radius) None (other_than own (find built p) (searched k (i + 1 + 1)))) (cartesian_same (there i))

  abbrev Same : ℕ → ℕ → Type 0
  Same k i = (going look (suc n) xs left right own from step k i ≡ reached_as (searched k (i + 1))) × InSet (suc n) (searched k (i + 1))

  more : (k i : ℕ) → Same k (i + 1) → Same (suc k) i
  unfolding going
  more k i ih =
      let F = finds xs n left right h (cartesian_of (there i)) in
      let b = leaves look step.radius (there i).radius in
      let g = going look (suc n) xs left right own from step k (i + 1) in
      let o = searched k (i + 1 + 1) in
      let x : searched (suc k) (i + 1) ≡ cond b None (other_than own (Some F.number) o) =
      turn_is k i ∙ ap (λ (c : Bool). cond c None (other_than own (find built (cartesian_of (there i))) o)) (leaves_same (there i).radius)
      ∙ ap (λ (z : Option ℕ). cond b None (other_than own z o)) F.in_source in (
        ap (λ (r : Located). elim b [ true ↦ Absent | false ↦ unless_own own r g ]) F.in_port
            ∙ pick_same b (unless_own own (located.At F.number) g) (other_than own (Some F.number) o) (own_same own F.number g o ih.0)
            ∙ ap reached_as (sym x),
        subst (InSet (suc n)) (sym x) (pick_in b (suc n) (other_than own (Some F.number) o) (own_in own F.number (suc n) o F.below ih.1)),
      )

  -- THE SAME NEIGHBOUR, and one of the set's
  pub steps_same : (k i : ℕ) → Same k i
  steps_same zero i = unfold going stepping in (refl, tt)
  steps_same (suc k) i = more k i (steps_same k (i + 1))
