-- What a verdict of Ok gives a caller: bounds on the sizes, the lengths of the lent lists, allowed values, finite queries. Assumes nothing.
use Prim.Native.Nat.{ℕ, ◌*◌, ◌≤◌, ◌<◌}
use mathlib.Core.Path.{◌≡◌}
use mathlib.Core.Bool.{Bool, true, false, ◌&&◌}
use mathlib.Core.List.{List}
use native.Mathlib.Nat.{mul-le-mul}
use native.Mathlib.Omega.{arith}
use lib.Dec.{T, eqb, leb, ltb}
use lib.ListN.{length, get_or}
use lib.Ieee.{Float, nan}
use lib.Ieee.Scale.{finite}
use borrow.Author.Tests.{leb-true, leb-false, ltb-false, eqb-true, not-false}
use Rattle.points.specs.declared.Point3.{Point3}
use Rattle.floats.proofs.Cross.{and_left, and_right, and6, of_taken}
use Rattle.limits.specs.declared.Sizes.{Sizes}
use Rattle.limits.specs.declared.TreeLengths.{TreeLengths}
use Rattle.limits.specs.declared.Lengths.{Lengths}
use Rattle.std.specs.Prelude.{Ok}
use Rattle.limits.specs.Allowed.{sizes_ok, tree_fits, responses_fit, neighbours_fit, plain_fits, blend_fits, load_fits, kind_ok, position_ok, first_bad, angle_step_ok, radius_step_ok, rate_ok}
use Rattle.limits.specs.Refusals.{verdict_of, query_lines, load_lines, find_lines, filter_lines, number_lines, rated_lines, value_lines, triplets}
use Rattle.limits.proofs.Lines.{passed}
use Rattle.limits.proofs.Values.{allowed_before}

-- ---- sizes and lists

pub record Sized (s : Sizes) : Type 0 where
  pub some : 1 ≤ s.m
  pub most : s.m ≤ 16384
  pub three : s.c ≡ 3
  pub ears : 2 ≤ s.r
  pub receivers : s.r ≤ 8
  pub taps : s.n ≤ 8192

pub sized : (s : Sizes) → sizes_ok s ≡ true → Sized s
unfolding sizes_ok
sized s h =
    let t = and6 (leb 1 s.m) (leb s.m 16384) (eqb s.c 3) (leb 2 s.r) (leb s.r 8) (leb s.n 8192) h in
    record { some = leb-true 1 s.m t.0; most = leb-true s.m 16384 t.1; three = eqb-true s.c 3 t.2; ears = leb-true 2 s.r t.3; receivers = leb-true s.r 8 t.4; taps = leb-true s.n 8192 t.5 }

-- the values of all responses are few enough to count
pub product : (s : Sizes) → Sized s → s.m * s.r * s.n ≤ 1073741824
product s h = mul-le-mul {n₁ = s.m * s.r} {n₂ = 131072} {m₂ = 8192} (mul-le-mul h.most h.receivers) h.taps

pub record TreeRoom (s : Sizes) (t : TreeLengths) : Type 0 where
  pub cartesian : 3 * s.m ≤ t.cartesian
  pub left : s.m ≤ t.left
  pub right : s.m ≤ t.right

pub tree_room : (s : Sizes) (t : TreeLengths) → tree_fits s t ≡ true → TreeRoom s t
unfolding tree_fits
tree_room s t h =
    let a = leb (3 * s.m) t.cartesian in
    let b = leb s.m t.left in
    let c = leb s.m t.right in
    let ab = and_left (a && b) c h in
    record { cartesian = leb-true _ _ (and_left a b ab); left = leb-true _ _ (and_right a b ab); right = leb-true _ _ (and_right (a && b) c h) }

pub responses_room : (s : Sizes) (len : ℕ) → responses_fit s len ≡ true → s.m * s.r * s.n ≤ len
unfolding responses_fit
responses_room s len h = leb-true _ _ h

pub neighbours_room : (s : Sizes) (len : ℕ) → neighbours_fit s len ≡ true → 6 * s.m ≤ len
unfolding neighbours_fit
neighbours_room s len h = leb-true _ _ h

pub record PlainRoom (s : Sizes) (t : TreeLengths) (responses : ℕ) : Type 0 where
  pub tree : TreeRoom s t
  pub taps : s.m * s.r * s.n ≤ responses

pub plain_room : (s : Sizes) (t : TreeLengths) (responses : ℕ) → plain_fits s t responses ≡ true → PlainRoom s t responses
unfolding plain_fits
plain_room s t n h = record {
  tree = tree_room s t (and_left (tree_fits s t) (responses_fit s n) h);
  taps = responses_room s n (and_right (tree_fits s t) (responses_fit s n) h);
}

pub record BlendRoom (s : Sizes) (l : Lengths) : Type 0 where
  pub plain : PlainRoom s l.tree l.responses
  pub neighbours : 6 * s.m ≤ l.neighbours

pub blend_room : (s : Sizes) (l : Lengths) → blend_fits s l ≡ true → BlendRoom s l
unfolding blend_fits
blend_room s l h = record {
  plain = plain_room s l.tree l.responses (and_left (plain_fits s l.tree l.responses) (neighbours_fit s l.neighbours) h);
  neighbours = neighbours_room s l.neighbours (and_right (plain_fits s l.tree l.responses) (neighbours_fit s l.neighbours) h);
}

pub record LoadRoom (s : Sizes) (l : Lengths) (positions : ℕ) : Type 0 where
  pub exact : positions ≡ 3 * s.m
  pub blend : BlendRoom s l

pub load_room : (s : Sizes) (l : Lengths) (positions : ℕ) → load_fits s l positions ≡ true → LoadRoom s l positions
unfolding load_fits
load_room s l n h = record {
  exact = eqb-true n (3 * s.m) (and_left (eqb n (3 * s.m)) (blend_fits s l) h);
  blend = blend_room s l (and_right (eqb n (3 * s.m)) (blend_fits s l) h);
}

-- ---- the calls

pub record FiniteQuery (q : Point3) : Type 0 where
  pub x : T (finite q.x)
  pub y : T (finite q.y)
  pub z : T (finite q.z)

pub query_passed : (q : Point3) → verdict_of (query_lines q) ≡ Ok tt → FiniteQuery q
query_passed q e =
    let p0 = passed _ _ e in
    let p1 = passed _ _ p0.1 in
    let p2 = passed _ _ p1.1 in
    record { x = of_taken (not-false (finite q.x) p0.0); y = of_taken (not-false (finite q.y) p1.0); z = of_taken (not-false (finite q.z) p2.0) }

pub record FindPassed (s : Sizes) (t : TreeLengths) (q : Point3) : Type 0 where
  pub sizes : Sized s
  pub room : TreeRoom s t
  pub query : FiniteQuery q

pub find_passed : (s : Sizes) (t : TreeLengths) (q : Point3) → verdict_of (find_lines s t q) ≡ Ok tt → FindPassed s t q
find_passed s t q e =
    let p2 = passed _ _ e in
    let p3 = passed _ _ p2.1 in
    record { sizes = sized s (not-false _ p2.0); room = tree_room s t (not-false _ p3.0); query = query_passed q p3.1 }

-- over whether the lists fit: `plain_room` and `blend_room` say what that gives
pub record FilterPassed (s : Sizes) (fit : Bool) (rate : Float) (q : Point3) : Type 0 where
  pub sizes : Sized s
  pub fits : fit ≡ true
  pub rated : rate_ok rate ≡ true
  pub query : FiniteQuery q

pub filter_passed : (s : Sizes) (fit : Bool) (rate : Float) (q : Point3) → verdict_of (filter_lines s fit rate q) ≡ Ok tt → FilterPassed s fit rate q
filter_passed s fit rate q e =
    let p2 = passed _ _ e in
    let p3 = passed _ _ p2.1 in
    let p6 = passed _ _ p3.1 in
    record { sizes = sized s (not-false _ p2.0); fits = not-false _ p3.0; rated = not-false _ p6.0; query = query_passed q p6.1 }

pub record NumberPassed (s : Sizes) (fit : Bool) (number : ℕ) : Type 0 where
  pub sizes : Sized s
  pub fits : fit ≡ true
  pub below : number < s.m

pub number_passed : (s : Sizes) (fit : Bool) (number : ℕ) → verdict_of (number_lines s fit number) ≡ Ok tt → NumberPassed s fit number
number_passed s fit number e =
    let p2 = passed _ _ e in
    let p3 = passed _ _ p2.1 in
    let p8 = passed _ _ p3.1 in
    record { sizes = sized s (not-false _ p2.0); fits = not-false _ p3.0; below = leb-false _ _ p8.0 }

pub record RatedPassed (s : Sizes) (fit : Bool) (rate : Float) (number : ℕ) : Type 0 where
  pub sizes : Sized s
  pub fits : fit ≡ true
  pub rated : rate_ok rate ≡ true
  pub below : number < s.m

pub rated_passed : (s : Sizes) (fit : Bool) (rate : Float) (number : ℕ) → verdict_of (rated_lines s fit rate number) ≡ Ok tt → RatedPassed s fit rate number
rated_passed s fit rate number e =
    let p2 = passed _ _ e in
    let p3 = passed _ _ p2.1 in
    let p6 = passed _ _ p3.1 in
    let p8 = passed _ _ p6.1 in
    record { sizes = sized s (not-false _ p2.0); fits = not-false _ p3.0; rated = not-false _ p6.0; below = leb-false _ _ p8.0 }

-- each value below n is allowed
abbrev pub Allowed : ℕ → List Float → ℕ → Type 0
Allowed kind xs n = (i : ℕ) → i < n → position_ok kind i (get_or xs i nan) ≡ true

pub values_allowed : (kind : ℕ) (xs : List Float) (n : ℕ) → ltb (first_bad (position_ok kind) xs n) n ≡ false → Allowed kind xs n
values_allowed kind xs n e i h = allowed_before (position_ok kind) xs n i h (omega (arith, ltb-false (first_bad (position_ok kind) xs n) n e))

pub values_passed : (kind : ℕ) (xs : List Float) → verdict_of (value_lines kind xs) ≡ Ok tt → Allowed kind xs (triplets xs)
values_passed kind xs e = values_allowed kind xs (triplets xs) (passed _ _ e).0

pub record LoadPassed (kind : ℕ) (s : Sizes) (l : Lengths) (xs : List Float) (astep rstep rate : Float) : Type 0 where
  pub known : kind_ok kind ≡ true
  pub sizes : Sized s
  pub room : LoadRoom s l (length xs)
  pub values : Allowed kind xs (length xs)
  pub angle : angle_step_ok astep ≡ true
  pub radius : radius_step_ok rstep ≡ true
  pub rated : rate_ok rate ≡ true

pub load_passed : (kind : ℕ) (s : Sizes) (l : Lengths) (xs : List Float) (astep rstep rate : Float) → verdict_of (load_lines kind s l xs astep rstep rate) ≡ Ok tt → LoadPassed kind s l xs astep rstep rate
load_passed kind s l xs astep rstep rate e =
    let p1 = passed _ _ e in
    let p2 = passed _ _ p1.1 in
    let p3 = passed _ _ p2.1 in
    let p4 = passed _ _ p3.1 in
    let p5 = passed _ _ p4.1 in
    let p51 = passed _ _ p5.1 in
    let p6 = passed _ _ p51.1 in
    record {
      known = not-false _ p1.0;
      sizes = sized s (not-false _ p2.0);
      room = load_room s l (length xs) (not-false _ p3.0);
      values = values_allowed kind xs (length xs) p4.0;
      angle = not-false _ p5.0;
      radius = not-false _ p51.0;
      rated = not-false _ p6.0;
    }
