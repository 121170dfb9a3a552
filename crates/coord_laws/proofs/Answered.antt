-- THE THEOREMS that no angle of a conversion is refused: to Cartesian for every allowed angle, and back for every coordinate of magnitude at most 10001;
-- so for each triplet of a list that a conversion accepts. Assumes nothing.
use Prim.Native.Nat.{ℕ, zero, suc, ◌+◌, ◌*◌, ◌%◌, ◌<◌}
use mathlib.Core.Path.{◌≡◌, refl, sym, subst}
use mathlib.Core.List.{List}
use mathlib.Core.Bool.{Bool, true, false, cond, ◌&&◌}
use native.Mathlib.Omega.{arith}
use borrow.Author.Tests.{ne_eqb}
use lib.Dec.{T, lt→ltb}
use lib.Ieee.{Float, nan, inf, fin, binary32, round, neg, add, mul, div, le, lt, eq, fits, of_bits}
use lib.Ieee.Fits.{and_i, mul-fits, add-fits}
use lib.Ieee.Positive.{positive, positive-finite}
use lib.Ieee.Scale.{finite}
use Rattle.floats.specs.Floats.{abs_of}
use Rattle.floats.proofs.Sign.{nonneg}
use Rattle.floats.proofs.Ops.{finite_number, sq_nonneg, add_nonneg}
use Rattle.points.specs.declared.Point3.{Point3}
use Rattle.points.specs.Points.{point_at}
use Rattle.root.specs.Root.{root_of}
use Rattle.root.proofs.Laws.{root_of_positive}
use Rattle.sines.specs.Sines.{plus_zero, sixteen, in_range, sine_steps, cosine_steps}
use Rattle.std.specs.Prelude.{Result, Ok, Err}
use Rattle.refusals.specs.declared.Refusal.{Refusal}
use Rattle.refusals.specs.declared.Refusal.TheVariants.{BadValue}
use Rattle.angles.specs.Arc.{arctan_steps}
use Rattle.angles.specs.Says.{sin_of, cos_of, atan2_of, sine_says, cosine_says, arctan_says}
use Rattle.angle_laws.specs.Angle.{S, C, close_to}
use Rattle.angle_laws.specs.Asked.{Arctan}
use Rattle.angle_laws.proofs.Near.{sine_near, cosine_near}
use Rattle.angle_laws.proofs.Zero.{arctan_good}
use Rattle.limits.specs.Allowed as limits
use Rattle.limits.specs.Allowed.{nearest32, angle_ok, position_ok}
use Rattle.limits.specs.Refusals.{triplets}
use Rattle.limits.proofs.Passed.{Allowed, values_passed}
use Rattle.limits.proofs.Ends.{between_low, between_high, between_finite, angle_finite}
use Rattle.coords.specs.Coords.{per_degree, full32, turn_of, flat_of, spherical_of}
use Rattle.coords.specs.Arrays.{lifted}
use Rattle.coords.specs.Moderate.{Moderate}
use Rattle.coord_laws.specs.Answered.{radians, TurnAnswered, ArcAnswered, ToCartesian, ToSpherical, ConversionsAnswered}
use Rattle.coords.proofs.Arcs.{arc_small, degrees_small, raised_small}
use Rattle.coords.proofs.Size.{Small, small_mul, small_add, small_rem, small_between, between_small}
use Rattle.coord_laws.proofs.Inside.{list_copied}

-- a test that holds takes the first way
first : {A : Type 0} (b : Bool) (x y : A) → T b → cond b x y ≡ x
first true x y t = refl
first false x y t = absurd t

-- ---- sine and cosine

within_range : (x : Float) → Small sixteen x → T (in_range x)
unfolding neg le lt eq
within_range x h = let s = small_between sixteen x tt tt h in and_i (le (neg sixteen) x) (le x sixteen) s.0 s.1

angle_small : (d : Float) → angle_ok d ≡ true → Small (nearest32 720 1) d
unfolding angle_ok limits.within
angle_small d e = between_small (nearest32 720 1) d (angle_finite d e) (between_low (neg (nearest32 720 1)) (nearest32 720 1) d e) (between_high (neg (nearest32 720 1)) (nearest32 720 1) d e)

-- 720 degrees are less than 16
radians_small : (d : Float) → Small (nearest32 720 1) d → Small sixteen (radians d)
unfolding round mul div of_bits le lt eq abs_of
radians_small d h = small_mul binary32 (nearest32 720 1) per_degree sixteen d per_degree tt tt tt tt h (record { held = tt; most = tt })

-- SINE AND COSINE OF EVERY ANGLE THAT DOCUMENT 01 ALLOWS ARE ANSWERED
pub turn_answered : (d : Float) → Small (nearest32 720 1) d → TurnAnswered d
turn_answered d h =
    let r = within_range (radians d) (radians_small d h) in
    let w = mul-fits binary32 d per_degree in
    let sin_is = first (in_range (radians d)) (sine_steps (radians d)) plus_zero r in
    let cos_is = first (in_range (radians d)) (cosine_steps (radians d)) plus_zero r in
    record {
      within_range = r;
      sine_said = unfold sine_says turn_of sin_of in rw (sin_is) (first (in_range (radians d)) (Ok (sine_steps (radians d))) (Err (BadValue 0)) r);
      cosine_said = unfold cosine_says turn_of cos_of in rw (cos_is) (first (in_range (radians d)) (Ok (cosine_steps (radians d))) (Err (BadValue 0)) r);
      near_sine = unfold turn_of sin_of in subst (λ (v : Float). close_to 1048576 v (S (radians d))) (sym sin_is) (sine_near (radians d) w r);
      near_cosine = unfold turn_of cos_of in subst (λ (v : Float). close_to 1048576 v (C (radians d))) (sym cos_is) (cosine_near (radians d) w r);
    }

-- ---- the arctangent

says_value : (a b : Bool) (v : Float) → T (a && b) → ◌≡◌ {A = Result Float Refusal} (cond a (cond b (Ok v) (Err (BadValue 1))) (Err (BadValue 0))) (Ok v)
says_value true true v t = refl
says_value true false v t = absurd t
says_value false b v t = absurd t

-- THE ARCTANGENT OF TWO FINITE VALUES IS ANSWERED
pub arc_answered : (y x : Float) → T (finite y) → T (finite x) → ArcAnswered y x
arc_answered y x p q =
    let t = and_i (finite y) (finite x) p q in
    let is = first (finite y && finite x) (arctan_steps y x) plus_zero t in
    record {
      both_finite = t;
      says = unfold arctan_says atan2_of in rw (is) (says_value (finite y) (finite x) (arctan_steps y x) t);
      good = unfold atan2_of in subst (Arctan y x) (sym is) (arctan_good y x t);
    }

-- ---- what `spherical_of` gives, of any point: an azimuth and an elevation of magnitude at most 360 and 180

pub azimuth_small : (p : Point3) → Small full32 (spherical_of p).azimuth
unfolding spherical_of
azimuth_small p = small_rem binary32 _ full32 (raised_small _ (degrees_small _ (arc_small p.y p.x))).held full_positive full_fits
  where
    full_positive : T (positive full32)
    full_positive = unfold of_bits in tt

    full_fits : T (fits binary32 full32)
    full_fits = unfold of_bits fits in tt

pub elevation_small : (p : Point3) → Small (nearest32 180 1) (spherical_of p).elevation
unfolding spherical_of
elevation_small p = degrees_small _ (arc_small p.z (root_of (flat_of p)))

-- ---- a point whose coordinates are at most 10001

coordinate_small : (x : Float) → limits.within 10001 1 x ≡ true → Small (nearest32 10001 1) x
unfolding limits.within round neg
coordinate_small x e = between_small (nearest32 10001 1) x (between_finite (neg (nearest32 10001 1)) (nearest32 10001 1) x tt tt e) (between_low (neg (nearest32 10001 1)) (nearest32 10001 1) x e) (between_high (neg (nearest32 10001 1)) (nearest32 10001 1) x e)

square_small : (x : Float) → Small (nearest32 10001 1) x → Small (nearest32 100100000 1) (mul binary32 x x)
unfolding round mul le lt eq
square_small x h = small_mul binary32 (nearest32 10001 1) (nearest32 10001 1) (nearest32 100100000 1) x x tt tt tt tt h h

flat_small : (x y : Float) → Small (nearest32 100100000 1) x → Small (nearest32 100100000 1) y → Small (nearest32 200200000 1) (add binary32 x y)
unfolding round add le lt eq
flat_small x y h k = small_add binary32 (nearest32 100100000 1) (nearest32 100100000 1) (nearest32 200200000 1) x y tt tt tt tt h k

-- the root of what is finite and not negative is finite
root_finite : (x : Float) → T (fits binary32 x) → T (finite x) → T (nonneg x) → T (finite (root_of x))
root_finite nan w p q = absurd p
root_finite (inf s) w p q = absurd p
root_finite (fin true m e) w p q = absurd q
root_finite (fin false zero e) w p q = unfold root_of in tt
root_finite (fin false (suc m) e) w p q = positive-finite (root_of (fin false (suc m) e)) (root_of_positive (fin false (suc m) e) w (lt→ltb 0 (suc m) (omega arith)))

-- THE WAY BACK IS ANSWERED for a point whose coordinates are of magnitude at most 10001
pub spherical_answered : (p : Point3) → Moderate p → ToSpherical p
spherical_answered p i =
    let x = coordinate_small p.x i.x in
    let y = coordinate_small p.y i.y in
    let z = coordinate_small p.z i.z in
    let flat = flat_small _ _ (square_small p.x x) (square_small p.y y) in
    let root = root_finite (flat_of p) (add-fits binary32 (mul binary32 p.x p.x) (mul binary32 p.y p.y)) flat.held
    (add_nonneg binary32 (mul binary32 p.x p.x) (mul binary32 p.y p.y) (sq_nonneg binary32 p.x (finite_number p.x x.held)) (sq_nonneg binary32 p.y (finite_number p.y y.held))) in
    record { azimuth = arc_answered p.y p.x y.held x.held; elevation = arc_answered p.z (root_of (flat_of p)) z.held root }

-- ---- lists that a conversion accepts: every whole triplet

angle_at : (i : ℕ) (x : Float) → (i % 3 ≡ 2 → ⊥) → position_ok 1 i x ≡ true → angle_ok x ≡ true
unfolding position_ok
angle_at i x n e = rw (ne_eqb (i % 3) 2 n) at e

pub triplet_answered : (xs : List Float) (n : ℕ) → Allowed 1 xs n → (place : ℕ) → 3 * place + 2 < n → ToCartesian (lifted (point_at xs place))
unfolding point_at
triplet_answered xs n ok place h = record {
  azimuth = turn_answered _ (angle_small _ (angle_at (3 * place) _ (λ z. omega arith) (ok (3 * place) (omega arith))));
  elevation = turn_answered _ (angle_small _ (angle_at (3 * place + 1) _ (λ z. omega arith) (ok (3 * place + 1) (omega arith))));
}

-- EVERY CONVERSION THAT IS NOT REFUSED
pub conversions_answered : ConversionsAnswered
conversions_answered = record {
  to_cartesian = λ xs fine place h. triplet_answered xs (triplets xs) (values_passed 1 xs fine) place (omega arith);
  to_spherical = λ xs fine place h. spherical_answered (point_at xs place) (list_copied xs (triplets xs) (values_passed 0 xs fine) place (omega arith));
}
