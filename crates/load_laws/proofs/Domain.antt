-- Every input in document 01's domain is accepted, and so answered as the source answers. Assumes nothing.
use mathlib.Core.Path.{◌≡◌, refl, ap}
use mathlib.Core.Bool.{Bool, true, false, not}
use mathlib.Core.List.{List}
use Prim.Native.Nat.{ℕ, zero, suc, ◌*◌, ◌%◌, ◌≤◌, ◌<◌}
use native.Mathlib.Omega.{arith}
use lib.Dec.{eqb, ltb}
use lib.ListN.{length, get_or}
use lib.Ieee.{Float, nan, le}
use borrow.Author.Tests.{ltb-true, eqb-true, eqb-false, le-leb, eq-eqb}
use lib.Ieee.Bits.{is_true}
use Rattle.std.specs.Prelude.{Ok}
use Rattle.floats.proofs.Cross.{both}
use Rattle.limits.specs.Allowed.{between, within, sizes_ok, tree_fits, responses_fit, neighbours_fit, plain_fits, blend_fits, load_fits, cartesian_ok, angle_ok, radius_ok, position_ok, first_bad, angle_step_ok, radius_step_ok, rate_ok}
use Rattle.limits.proofs.Lines.{done, more, unmet→ok}
use Rattle.limits.proofs.Values.{known, bad_there}
use Rattle.loads.specs.Load.{lengths_in}
use Rattle.source_laws.specs.Same.{look}
use Rattle.load_laws.specs.Load.{Given, judged, loaded, set_in, LoadsAsSource}
use Rattle.load_laws.specs.Domain.{Between, Position, Domain}
use Rattle.load_laws.proofs.Load.{accepted, from_load}

-- ---- tests

between_true : (lo hi x : Float) → Between lo hi x → between lo hi x ≡ true
unfolding between
between_true lo hi x b = both (is_true (le lo x) b.low) (is_true (le x hi) b.high)

position_true : (kind i : ℕ) (x : Float) → kind < 2 → Position kind i x → position_ok kind i x ≡ true
unfolding position_ok cartesian_ok angle_ok radius_ok within
position_true zero i x h p = between_true _ _ x (p.cartesian refl)
position_true (suc zero) i x h p = go (eqb (i % 3) 2) refl
  where
    go : (b : Bool) → eqb (i % 3) 2 ≡ b → position_ok 1 i x ≡ true
    go true e = rw e (between_true _ _ x (p.radius refl (eqb-true (i % 3) 2 e)))
    go false e = rw e (between_true _ _ x (p.angle refl (eqb-false (i % 3) 2 e)))
position_true (suc (suc k)) i x h p = absurd (omega arith)

-- where the first n values are allowed, the first that is not is past them
pub values_allowed : (kind : ℕ) (xs : List Float) (n : ℕ) → kind < 2 → n ≤ length xs → ((i : ℕ) → i < n → Position kind i (get_or xs i nan)) → ltb (first_bad (position_ok kind) xs n) n ≡ false
values_allowed kind xs n known room allowed = go (ltb bad n) refl
  where
    bad : ℕ
    bad = first_bad (position_ok kind) xs n

    no : {b : Bool} → b ≡ true → b ≡ false → ⊥
    no p q = cc

    go : (b : Bool) → ltb bad n ≡ b → b ≡ false
    go false e = refl
    go true e = let l = ltb-true bad n e in absurd (no (position_true kind bad (get_or xs bad nan) known (allowed bad l)) (bad_there (position_ok kind) xs n room l))

module _ (g : Given) (D : Domain g) where
  sizes_ok_lem : sizes_ok g.sizes ≡ true
  unfolding sizes_ok
  sizes_ok_lem =
      both (both (both (both (both (le-leb 1 g.sizes.m D.some) (le-leb g.sizes.m 16384 D.most)) (eq-eqb g.sizes.c 3 D.three)) (le-leb 2 g.sizes.r D.ears))
      (le-leb g.sizes.r 8 D.receivers)) (le-leb g.sizes.n 8192 D.taps)

  lists_fit : load_fits g.sizes (lengths_in (length g.responses) g.work) (length g.positions) ≡ true
  unfolding load_fits blend_fits plain_fits tree_fits responses_fit neighbours_fit
  lists_fit =
      both (eq-eqb (length g.positions) (3 * g.sizes.m) D.positions)
      (both (both (both (both (le-leb _ _ D.cartesian) (le-leb _ _ D.left)) (le-leb _ _ D.right)) (le-leb _ _ D.responses)) (le-leb _ _ D.neighbours))

  values_ok_lem : ltb (first_bad (position_ok g.kind) g.positions (length g.positions)) (length g.positions) ≡ false
  values_ok_lem = values_allowed g.kind g.positions (length g.positions) D.kind (omega arith) D.values

  fine : judged g ≡ Ok tt
  fine =
      unmet→ok _ (more (ap not (known g.kind D.kind)) (more (ap not sizes_ok_lem) (more (ap not lists_fit) (more values_ok_lem
      (more (ap not angle_ok_lem) (more (ap not radius_ok_lem) (more (ap not rate_ok_lem) done)))))))
    where
      angle_ok_lem : angle_step_ok g.angle ≡ true
      angle_ok_lem = unfold angle_step_ok in between_true _ _ g.angle D.angle_step

      radius_ok_lem : radius_step_ok g.radius ≡ true
      radius_ok_lem = unfold radius_step_ok in between_true _ _ g.radius D.radius_step

      rate_ok_lem : rate_ok g.rate ≡ true
      rate_ok_lem = unfold rate_ok in between_true _ _ g.rate D.rate

  -- LOAD ACCEPTS ALL OF THE DOMAIN
  pub accepts : (loaded g).answer ≡ Ok (look (set_in g (loaded g).work))
  accepts = accepted g fine

  -- DEMAND 2, for every input in document 01's domain
  pub demand_2 : LoadsAsSource g (loaded g).work (look (set_in g (loaded g).work))
  demand_2 = from_load g (look (set_in g (loaded g).work)) accepts
