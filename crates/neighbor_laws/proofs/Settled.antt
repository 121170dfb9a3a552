-- THE THEOREM on a loaded set's table: it is filled whole, never refused, with entries that are absent or name another measurement. Assumes nothing.
use mathlib.Core.Path.{◌≡◌, refl, sym, subst}
use mathlib.Core.Logic.{inl, inr}
use mathlib.Core.Bool.{Bool, true, false, cond}
use mathlib.Core.List.{List}
use Prim.Native.Nat.{ℕ, zero, suc, ◌+◌, ◌*◌, ◌/◌, ◌%◌, ◌≤◌}
use lib.Dec.{T, eqb, eqb→eq}
use lib.Ieee.Fits.{eq→eqb}
use lib.ListN.{length}
use lib.Ieee.{Float}
use Rattle.std.specs.Prelude.{Ok}
use Rattle.lists.specs.Over.{over, upto}
use Rattle.points.specs.Points.{point_at}
use Rattle.coords.specs.declared.Spherical.{Spherical}
use Rattle.coords.specs.Coords.{spherical_of, cartesian_of}
use Rattle.lookup.specs.declared.Lookup.{Lookup}
use Rattle.lookup.specs.declared.Located.{Located}
use Rattle.lookup.specs.Build.{Links, linked}
use Rattle.lookup.specs.Lookup.{locate_of}
use Rattle.lookup_laws.specs.Loaded.{Room, Below}
use Rattle.lookup_laws.proofs.Loaded.{never_refused}
use Rattle.neighbors.specs.declared.Reached.{Reached}
use Rattle.neighbors.specs.declared.Reached.TheVariants.{At, Absent, Refused}
use Rattle.neighbors.specs.Neighbors.{moved, leaves, step_of, cap_of, unless_own, going, direction_of, neighbor_of, table_entry, mark_of, tabled_as, table_of}
use Rattle.neighbors.proofs.Table.{Writes, all_answered}
use Rattle.neighbor_laws.specs.Settled.{Settles, Entry}

-- what is settled is written, and as an entry
settled_writes : (m own : ℕ) (r : Reached) → Settles m own r → Writes r (mark_of r)
settled_writes m own (At n) s = refl
settled_writes m own Absent s = refl
settled_writes m own (Refused refusal) s = absurd s

settled_entry : (m own : ℕ) (r : Reached) → Settles m own r → Entry m own (mark_of r)
settled_entry m own (At n) s = inr s
settled_entry m own Absent s = inl refl
settled_entry m own (Refused refusal) s = absurd s

module _ (xs : List Float) (m : ℕ) (d : Links) (room : Room xs m d) (look : Lookup) where
  abbrev left : List ℕ
  left = over (linked xs m).left d.left

  abbrev right : List ℕ
  right = over (linked xs m).right d.right

  module _ (own : ℕ) (from step : Spherical) where
    abbrev go : ℕ → ℕ → Reached
    go k i = going look m xs left right own from step k i

    abbrev there : ℕ → Located
    there i = locate_of look m xs left right (cartesian_of (moved from step i))

    own_or : (f : Located) (g : Reached) → Below m f → Settles m own g → Settles m own (unless_own own f g)
    unfolding unless_own
    own_or f g B S = subst (λ (x : Located). Settles m own (unless_own own x g)) (sym B.is) (pick (eqb B.number own) (eqb→eq B.number own) (λ (e : B.number ≡ own). eq→eqb e))
      where
        pick : (b : Bool) → (T b → B.number ≡ own) → (B.number ≡ own → T b) → Settles m own (cond b g (At B.number))
        pick true f e = S
        pick false f e = (B.below, e)

    going_settles : (k i : ℕ) → Settles m own (go k i)
    unfolding going
    going_settles zero i = tt
    going_settles (suc k) i =
        by (leaves look step.radius (moved from step (i + 1)).radius) (own_or (there (i + 1)) (go k (i + 1)) (never_refused xs m d room look (cartesian_of (moved from step (i + 1)))) (going_settles k (i + 1)))
      where
        by : (b : Bool) → Settles m own (unless_own own (there (i + 1)) (go k (i + 1))) → Settles m own (elim b [ true ↦ Absent | false ↦ unless_own own (there (i + 1)) (go k (i + 1)) ])
        by true A = tt
        by false A = A

    pub direction_settles : (cap : ℕ) → Settles m own (direction_of look m xs left right own from step cap)
    unfolding direction_of
    direction_settles cap = going_settles cap 0

  module _ (angle radius : Float) where
    abbrev entry : ℕ → Reached
    entry k = table_entry look m xs left right angle radius k

    -- EACH ENTRY is absent, or names a measurement other than its own
    pub settled : (k : ℕ) → Settles m (k / 6) (entry k)
    unfolding table_entry neighbor_of
    settled k = direction_settles (k / 6) (spherical_of (point_at xs (k / 6))) (step_of (k % 6) angle radius) (cap_of (k % 6) angle)

    pub entries : (k : ℕ) → Entry m (k / 6) (mark_of (entry k))
    entries k = settled_entry m (k / 6) (entry k) (settled k)

    -- THE TABLE IS FILLED: no refusal, 6m numbers, and the rest is as it was
    pub filled : (table : List ℕ) → 6 * m ≤ length table
        → table_of look m xs left right angle radius table ≡ tabled_as (Ok tt) (over (upto (λ k. mark_of (entry k)) (6 * m)) table)
    unfolding table_of
    filled table h = all_answered entry (λ k. mark_of (entry k)) table (6 * m) (λ k l. settled_writes m (k / 6) (entry k) (settled k)) h
