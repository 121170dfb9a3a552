-- After a load that is not refused no later call is refused by its own checks: the lists are as long as before, and sizes and rate were checked. Assumes nothing.
use mathlib.Core.Path.{◌≡◌, refl, ap, ◌∙◌}
use mathlib.Core.Bool.{Bool, true, false, not}
use Prim.Native.Nat.{ℕ, ◌*◌, ◌<◌}
use native.Mathlib.Omega.{arith}
use lib.Dec.{T, eqb}
use lib.ListN.{length}
use lib.Ieee.Scale.{finite}
use Rattle.std.specs.Prelude.{Ok}
use Rattle.floats.proofs.Cross.{and_left, and_right}
use borrow.Author.Tests.{not-false, lt-leb}
use Rattle.lists.specs.Over.{over, upto}
use Rattle.lists.proofs.Laws.{length_over, length_upto}
use Rattle.points.specs.declared.Point3.{Point3}
use Rattle.points.specs.Points.{Finite}
use Rattle.limits.specs.Allowed.{tree_lengths, sizes_ok, tree_fits, responses_fit, neighbours_fit, plain_fits, blend_fits, load_fits}
use Rattle.limits.specs.Refusals.{verdict_of, query_lines, find_lines, filter_lines, number_lines, rated_lines, rate_lines}
use Rattle.limits.proofs.Lines.{passed, Unmet, done, more, unmet→ok}
use Rattle.lookup.specs.Build.{linked}
use Rattle.lookup.proofs.Links.{linked_left_lem, linked_right_lem}
use Rattle.reader.specs.Queries.{lengths_of}
use Rattle.loads.specs.Load.{Work, cartesian_from, indexed, lengths_in}
use Rattle.loads.proofs.Ways.{as_long}
use Rattle.load_laws.specs.Load.{Given, judged}
use Rattle.load_laws.proofs.Loaded as after
use Rattle.load_laws.proofs.Loaded.{went}

unmet_finite : (b : Bool) → T b → not b ≡ false
unmet_finite true h = refl
unmet_finite false h = absurd h

query_unmet : (q : Point3) → Finite q → Unmet (query_lines q)
query_unmet q f = more (unmet_finite (finite q.x) f.x) (more (unmet_finite (finite q.y) f.y) (more (unmet_finite (finite q.z) f.z) done))

module _ (g : Given) (fine : judged g ≡ Ok tt) where
  abbrev w : Work
  w = (after.done g).work

  -- ---- the lists are as long as before

  left_long : length w.left ≡ length g.work.left
  unfolding indexed
  left_long = length_over (linked (after.cart g) g.sizes.m).left g.work.left (let z = linked_left_lem (after.cart g) g.sizes.m in let r = (went g fine).room.blend.plain.tree in omega arith)

  right_long : length w.right ≡ length g.work.right
  unfolding indexed
  right_long = length_over (linked (after.cart g) g.sizes.m).right g.work.right (let z = linked_right_lem (after.cart g) g.sizes.m in let r = (went g fine).room.blend.plain.tree in omega arith)

  near_long : length w.neighbours ≡ length g.work.neighbours
  unfolding indexed
  near_long = long _
    where
      long : (f : ℕ → ℕ) → length (over (upto f (6 * g.sizes.m)) g.work.neighbours) ≡ length g.work.neighbours
      long f = length_over (upto f (6 * g.sizes.m)) g.work.neighbours (let z = length_upto f (6 * g.sizes.m) in let r = (went g fine).room.blend in omega arith)

  cart_long : length w.cartesian ≡ length g.work.cartesian
  unfolding indexed
  cart_long =
      length_over (cartesian_from g.kind g.positions) g.work.cartesian
      (let z = as_long g.kind g.positions in let r = (went g fine).room in let t = r.blend.plain.tree in omega arith)

  as_before : lengths_of w.cartesian w.left w.right g.responses w.neighbours ≡ lengths_in (length g.responses) g.work
  as_before i = record { tree = record { cartesian = cart_long i; left = left_long i; right = right_long i }; responses = length g.responses; neighbours = near_long i }

  -- ---- what was checked holds

  sizes_unmet : not (sizes_ok g.sizes) ≡ false
  sizes_unmet = (passed _ _ (passed _ _ fine).1).0

  blend_fits_lem : blend_fits g.sizes (lengths_of w.cartesian w.left w.right g.responses w.neighbours) ≡ true
  blend_fits_lem = ap (blend_fits g.sizes) as_before ∙ before
    where
      before : blend_fits g.sizes (lengths_in (length g.responses) g.work) ≡ true
      before = unfold load_fits in and_right (eqb (length g.positions) (3 * g.sizes.m)) (blend_fits g.sizes (lengths_in (length g.responses) g.work)) (not-false _ (passed _ _ (passed _ _ (passed _ _ fine).1).1).0)

  plain_fits_lem : plain_fits g.sizes (tree_lengths w.cartesian w.left w.right) (length g.responses) ≡ true
  unfolding blend_fits
  plain_fits_lem = and_left (plain_fits g.sizes (tree_lengths w.cartesian w.left w.right) (length g.responses)) (neighbours_fit g.sizes (length w.neighbours)) blend_fits_lem

  near_fits : neighbours_fit g.sizes (length w.neighbours) ≡ true
  unfolding blend_fits
  near_fits = and_right (plain_fits g.sizes (tree_lengths w.cartesian w.left w.right) (length g.responses)) (neighbours_fit g.sizes (length w.neighbours)) blend_fits_lem

  tree_fits_lem : tree_fits g.sizes (tree_lengths w.cartesian w.left w.right) ≡ true
  unfolding plain_fits
  tree_fits_lem = and_left (tree_fits g.sizes (tree_lengths w.cartesian w.left w.right)) (responses_fit g.sizes (length g.responses)) plain_fits_lem

  responses_fit_lem : responses_fit g.sizes (length g.responses) ≡ true
  unfolding plain_fits
  responses_fit_lem = and_right (tree_fits g.sizes (tree_lengths w.cartesian w.left w.right)) (responses_fit g.sizes (length g.responses)) plain_fits_lem

  -- ---- THE CALLS ARE NOT REFUSED

  pub find_fine : (q : Point3) → Finite q → verdict_of (find_lines g.sizes (tree_lengths w.cartesian w.left w.right) q) ≡ Ok tt
  find_fine q f = unmet→ok _ (more sizes_unmet (more (ap not tree_fits_lem) (query_unmet q f)))

  pub filter_fine : (q : Point3) → Finite q → verdict_of (filter_lines g.sizes (blend_fits g.sizes (lengths_of w.cartesian w.left w.right g.responses w.neighbours)) g.rate q) ≡ Ok tt
  filter_fine q f = unmet→ok _ (more sizes_unmet (more (ap not blend_fits_lem) (more (ap not (went g fine).rated) (query_unmet q f))))

  pub plain_fine : (q : Point3) → Finite q → verdict_of (filter_lines g.sizes (plain_fits g.sizes (tree_lengths w.cartesian w.left w.right) (length g.responses)) g.rate q) ≡ Ok tt
  plain_fine q f = unmet→ok _ (more sizes_unmet (more (ap not plain_fits_lem) (more (ap not (went g fine).rated) (query_unmet q f))))

  pub number_fine : (k : ℕ) → k < g.sizes.m → verdict_of (rated_lines g.sizes (responses_fit g.sizes (length g.responses)) g.rate k) ≡ Ok tt
  number_fine k h = unmet→ok _ (more sizes_unmet (more (ap not responses_fit_lem) (more (ap not (went g fine).rated) (more (lt-leb g.sizes.m k h) done))))

  pub response_fine : (k : ℕ) → k < g.sizes.m → verdict_of (number_lines g.sizes (responses_fit g.sizes (length g.responses)) k) ≡ Ok tt
  response_fine k h = unmet→ok _ (more sizes_unmet (more (ap not responses_fit_lem) (more (lt-leb g.sizes.m k h) done)))

  pub around_fine : (k : ℕ) → k < g.sizes.m → verdict_of (number_lines g.sizes (neighbours_fit g.sizes (length w.neighbours)) k) ≡ Ok tt
  around_fine k h = unmet→ok _ (more sizes_unmet (more (ap not near_fits) (more (lt-leb g.sizes.m k h) done)))

  pub rate_fine : verdict_of (rate_lines g.rate) ≡ Ok tt
  rate_fine = unmet→ok _ (more (ap not (went g fine).rated) done)
