-- A spherical position with an allowed radius has Cartesian coordinates of magnitude at most 10001, whatever its angles. Assumes nothing.
use Prim.Native.Nat.{ℕ, ◌+◌, ◌*◌, ◌%◌, ◌<◌}
use mathlib.Core.Path.{◌≡◌}
use mathlib.Core.List.{List}
use native.Mathlib.Omega.{arith}
use borrow.Author.Tests.{eq-eqb}
use lib.ListN.{length, get_or}
use mathlib.Core.Bool.{true}
use lib.Dec.{T}
use lib.Ieee.{Float, nan, binary32, round, neg, mul, le, lt, eq}
use lib.Ieee.Fits.{mul-fits}
use lib.Ieee.Bits.{is_true}
use Rattle.floats.specs.Floats.{zero32}
use Rattle.floats.proofs.Cross.{both}
use Rattle.floats.proofs.Preorder.{le_trans_f}
use Rattle.limits.specs.Allowed.{nearest32, between, within, radius_ok, cartesian_ok, position_ok}
use Rattle.limits.proofs.Passed.{Allowed}
use Rattle.limits.proofs.Ends.{between_low, between_high, radius_finite}
use Rattle.coords.specs.declared.Spherical.{Spherical}
use Rattle.coords.specs.Coords.{per_degree, turn_of, along_of, cartesian_of}
use Rattle.coords.specs.Arrays.{turned, lifted, by_triplets}
use Rattle.coords.specs.Moderate.{Moderate}
use Rattle.coords.proofs.Places.{changed_at}
use Rattle.points.specs.Points.{point_at}
use Rattle.coords.proofs.Size.{Small, small_wider, small_mul, small_between, between_small}
use Rattle.coord_laws.proofs.Turns.{rim, sin_small, cos_small}

-- 10000, 10000.5 and 10001
abbrev b0 : Float
b0 = nearest32 10000 1

abbrev b1 : Float
b1 = nearest32 20001 2

abbrev b2 : Float
b2 = nearest32 10001 1

radius_small : (r : Float) → radius_ok r ≡ true → Small b0 r
unfolding radius_ok round neg le lt eq
radius_small r e =
    let lo : T (le (nearest32 0 1) r) = between_low (nearest32 0 1) b0 r e in
    between_small b0 r (radius_finite r e) (le_trans_f (neg b0) (nearest32 0 1) r tt lo) (between_high (nearest32 0 1) b0 r e)

-- a turn shrinks or stretches by at most 1 + 2^-20
once : (c r : Float) → Small rim c → Small b0 r → Small b1 (mul binary32 c r)
unfolding round mul le lt eq
once c r hc hr = small_mul binary32 rim b0 b1 c r tt tt tt tt hc hr

again : (c h : Float) → Small rim c → Small b1 h → Small b2 (mul binary32 c h)
unfolding round mul le lt eq
again c h hc hh = small_mul binary32 rim b1 b2 c h tt tt tt tt hc hh

wider : (z : Float) → Small b1 z → Small b2 z
unfolding round le lt eq
wider z h = small_wider b1 b2 z tt h

-- a size at most b, for an end b that is no less than zero
pub small_within : (a b : ℕ) (x : Float) → T (le (neg zero32) (nearest32 a b)) → T (le (neg (nearest32 a b)) zero32) → Small (nearest32 a b) x → within a b x ≡ true
unfolding within between
small_within a b x l k h = let s = small_between (nearest32 a b) x l k h in both (is_true (le (neg (nearest32 a b)) x) s.0) (is_true (le x (nearest32 a b)) s.1)

small_inside : (x : Float) → Small b2 x → within 10001 1 x ≡ true
unfolding round neg le lt eq
small_inside x h = small_within 10001 1 x tt tt h

pub inside : (s : Spherical) → radius_ok s.radius ≡ true → Moderate (cartesian_of s)
unfolding cartesian_of along_of turn_of
inside s e =
    let r = radius_small s.radius e in
    let phi = mul binary32 s.azimuth per_degree in
    let theta = mul binary32 s.elevation per_degree in
    let flat = once _ _ (cos_small theta (mul-fits binary32 s.elevation per_degree)) r in
    record {
      x = small_inside _ (again _ _ (cos_small phi (mul-fits binary32 s.azimuth per_degree)) flat);
      y = small_inside _ (again _ _ (sin_small phi (mul-fits binary32 s.azimuth per_degree)) flat);
      z = small_inside _ (wider _ (once _ _ (sin_small theta (mul-fits binary32 s.elevation per_degree)) r));
    }

-- ---- lists: every position value was allowed

radius_at : (i : ℕ) (x : Float) → i % 3 ≡ 2 → position_ok 1 i x ≡ true → radius_ok x ≡ true
unfolding position_ok
radius_at i x m e = rw (eq-eqb (i % 3) 2 m) at e

-- a list of spherical positions, converted
pub list_inside : (xs : List Float) → Allowed 1 xs (length xs) → (place : ℕ) → 3 * place + 2 < length xs → Moderate (point_at (by_triplets (turned 1) xs) place)
unfolding turned
list_inside xs ok place h =
    rw (changed_at (turned 1) xs place h)
    (inside (lifted (point_at xs place)) (last (radius_at (3 * place + 2) (get_or xs (3 * place + 2) nan) (omega arith) (ok (3 * place + 2) h))))
  where
    last : radius_ok (get_or xs (3 * place + 2) nan) ≡ true → radius_ok (point_at xs place).z ≡ true
    last e = unfold point_at in e

-- a Cartesian value, copied
copied_inside : (x : Float) → cartesian_ok x ≡ true → within 10001 1 x ≡ true
unfolding cartesian_ok within between round neg le lt eq
copied_inside x e =
    both (is_true (le (neg b2) x) (le_trans_f (neg b2) (neg b0) x tt (between_low (neg b0) b0 x e))) (is_true (le x b2) (le_trans_f x b0 b2 (between_high (neg b0) b0 x e) tt))

copied_at : (xs : List Float) (n : ℕ) → Allowed 0 xs n → (i : ℕ) → i < n → within 10001 1 (get_or xs i nan) ≡ true
copied_at xs n ok i h = copied_inside (get_or xs i nan) (unfold position_ok in ok i h)

-- a list of Cartesian positions
pub list_copied : (xs : List Float) (n : ℕ) → Allowed 0 xs n → (place : ℕ) → 3 * place + 2 < n → Moderate (point_at xs place)
unfolding point_at
list_copied xs n ok place h = record {
  x = copied_at xs n ok (3 * place) (omega arith);
  y = copied_at xs n ok (3 * place + 1) (omega arith);
  z = copied_at xs n ok (3 * place + 2) h;
}
