-- The source's Lookup::new and the port's build: the same tree, box and six bounds. Assumes nothing.
use mathlib.Core.Path.{◌≡◌, refl, sym, ap, ◌∙◌}
use mathlib.Core.Bool.{Bool, true, false, cond, ◌||◌}
use mathlib.Core.List.{List}
use Prim.Native.Nat.{ℕ, zero, suc, ◌+◌, ◌*◌, ◌%◌, ◌<◌, ◌≤◌}
use native.Mathlib.Omega.{arith}
use native.Mathlib.Numerals.{add-one}
use lib.Dec.{eqb, leb}
use lib.ListN.{length, get_or, take}
use lib.Seq.{get_or-take, length-take-le}
use lib.Ieee.{Float, nan, lt}
use borrow.Author.Tests.{lt-leb, ne_eqb}
use Rattle.points.specs.declared.Point3.{Point3}
use Rattle.points.specs.Points.{point_at}
use Rattle.kdtree.specs.declared.BoundingBox.{BoundingBox}
use Rattle.kdtree.specs.Geometry.{grown}
use Rattle.lookup.specs.Build.{box_to, least_of, greatest_of}
use Rattle.source.specs.Rust.{Option, None, Some, at}
use Rattle.source.specs.Kdtree as source
use Rattle.source.specs.Kdtree.{KdNode, kd_node, Link, none, some, new_box, extend, grown_by, insert, insert_rec, new_tree, is_empty}
use Rattle.source.specs.Lookup as looked
use Rattle.source.specs.Lookup.{triplet, none_measured, measured, measuring, new_lookup}
use Rattle.source_laws.specs.Drawn.{flat, ported, hrtf_of}
use Rattle.source_laws.proofs.Turns.{spherical_same}
use Rattle.source_laws.proofs.Shapes.{flat_new, flat_extend}

-- what the source has after n turns of its loop
unfoldable pub measured_to : List Float → ℕ → looked.Lookup
measured_to xs zero = none_measured ported
measured_to xs (suc n) = measured ported (measured_to xs n) (point_at xs n) n

-- ---- the loop

pub point_here : (xs : List Float) (m i : ℕ) → i < m → triplet (take (3 * m) xs) (i * 3) ≡ point_at xs i
unfolding point_at
point_here xs m i h =
    let a : get_or (take (3 * m) xs) (i * 3) nan ≡ get_or xs (3 * i) nan = get_or-take (3 * m) xs (i * 3) nan (omega arith) ∙ (let e : i * 3 ≡ 3 * i = omega arith in ap (λ (k : ℕ). get_or xs k nan) e) in
    let b : get_or (take (3 * m) xs) (i * 3 + 1) nan ≡ get_or xs (3 * i + 1) nan = get_or-take (3 * m) xs (i * 3 + 1) nan (omega arith) ∙ (let e : i * 3 + 1 ≡ 3 * i + 1 = omega arith in ap (λ (k : ℕ). get_or xs k nan) e) in
    let c : get_or (take (3 * m) xs) (i * 3 + 2) nan ≡ get_or xs (3 * i + 2) nan = get_or-take (3 * m) xs (i * 3 + 2) nan (omega arith) ∙ (let e : i * 3 + 2 ≡ 3 * i + 2 = omega arith in ap (λ (k : ℕ). get_or xs k nan) e) in
    λ j. record { x = a j; y = b j; z = c j }

-- no turn breaks off
pub inside : (xs : List Float) (m i : ℕ) → 3 * m ≤ length xs → i < m → leb (length (take (3 * m) xs)) (i * 3 + 2) ≡ false
inside xs m i h l = lt-leb (length (take (3 * m) xs)) (i * 3 + 2) (let z = length-take-le (3 * m) xs h in omega arith)

loop : (xs : List Float) (m k i : ℕ) → 3 * m ≤ length xs → i + k ≤ m → measuring ported (take (3 * m) xs) 3 k i (measured_to xs i) ≡ measured_to xs (i + k)
unfolding measuring
loop xs m zero i h l = let e : i ≡ i + 0 = omega arith in ap (measured_to xs) e
loop xs m (suc k) i h l =
    let sp = take (3 * m) xs in
    let e : i + 1 + k ≡ i + suc k = omega arith in
    ap (λ (b : Bool). cond b (measured_to xs i) (measuring ported sp 3 k (i + 1) (measured ported (measured_to xs i) (triplet sp (i * 3)) i))) (inside xs m i h (omega arith))
    ∙ ap (λ (p : Point3). measuring ported sp 3 k (i + 1) (measured ported (measured_to xs i) p i)) (point_here xs m i (omega arith))
    ∙ ap (measuring ported sp 3 k (i + 1)) (more i)
    ∙ loop xs m k (i + 1) h (omega arith)
    ∙ ap (measured_to xs) e
  where
    more : (i : ℕ) → measured ported (measured_to xs i) (point_at xs i) i ≡ measured_to xs (i + 1)
    more i = unfold measured_to in ap (measured_to xs) (sym (add-one i))

-- ---- the box

unfoldable pub box_by : List Float → ℕ → source.BoundingBox
box_by xs zero = new_box (point_at xs 0)
box_by xs (suc n) = extend (box_by xs n) (point_at xs (suc n))

pub bounds_same : (xs : List Float) (n : ℕ) → (measured_to xs (suc n)).kdtree.bounds ≡ Some (box_by xs n)
unfolding measured_to measured insert box_by
bounds_same xs zero = unfold grown_by new_tree in refl
bounds_same xs (suc n) = ap (λ (b : Option source.BoundingBox). Some (grown_by b (point_at xs (suc n)))) (bounds_same xs n) ∙ unfold_step
  where
    unfold_step : Some (grown_by (Some (box_by xs n)) (point_at xs (suc n))) ≡ Some (extend (box_by xs n) (point_at xs (suc n)))
    unfold_step = unfold grown_by in refl

pub box_same : (xs : List Float) (n : ℕ) → flat (box_by xs n) ≡ box_to xs n
unfolding box_by box_to
box_same xs zero = flat_new (point_at xs 0)
box_same xs (suc n) = flat_extend (box_by xs n) (point_at xs (suc n)) ∙ ap (λ (b : BoundingBox). grown b (point_at xs (suc n))) (box_same xs n)

-- ---- the six bounds

pub record SixSame (xs : List Float) (n : ℕ) (look : looked.Lookup) : Type 0 where
  pub phi_least : look.phi_min ≡ least_of (λ s. s.azimuth) xs n
  pub phi_greatest : look.phi_max ≡ greatest_of (λ s. s.azimuth) xs n
  pub theta_least : look.theta_min ≡ least_of (λ s. s.elevation) xs n
  pub theta_greatest : look.theta_max ≡ greatest_of (λ s. s.elevation) xs n
  pub least : look.radius_min ≡ least_of (λ s. s.radius) xs n
  pub greatest : look.radius_max ≡ greatest_of (λ s. s.radius) xs n

pub six_same : (xs : List Float) (n : ℕ) → SixSame xs n (measured_to xs n)
unfolding measured_to measured least_of greatest_of
six_same xs zero = record { phi_least = refl; phi_greatest = refl; theta_least = refl; theta_greatest = refl; least = refl; greatest = refl }
six_same xs (suc n) =
    let s = six_same xs n in
    rw (spherical_same (point_at xs n)) (record {
      phi_least = rw s.phi_least;
      phi_greatest = rw s.phi_greatest;
      theta_least = rw s.theta_least;
      theta_greatest = rw s.theta_greatest;
      least = rw s.least;
      greatest = rw s.greatest;
    })

-- ---- the whole

cond_some : (g : Bool) (a b : KdNode) (o : Option source.BoundingBox) → is_empty (record { root = cond g (some a) (some b); bounds = o }) ≡ false
unfolding is_empty
cond_some true a b o = refl
cond_some false a b o = refl

inserted_some : (l : Link) (p : Point3) (v d : ℕ) (o : Option source.BoundingBox) → is_empty (record { root = insert_rec l p v d; bounds = o }) ≡ false
unfolding insert_rec
inserted_some none p v d o = cond_some true (kd_node p (d % 3) v none none) (kd_node p (d % 3) v none none) o
inserted_some (some (kd_node x a w l r)) p v d o =
    cond_some (lt (at p a) (at x a)) (kd_node x a w (insert_rec l p v (d + 1)) r) (kd_node x a w l (insert_rec r p v (d + 1))) o

not_empty : (xs : List Float) (n : ℕ) → is_empty (measured_to xs (suc n)).kdtree ≡ false
unfolding measured_to measured insert
not_empty xs n = inserted_some (measured_to xs n).kdtree.root (point_at xs n) n 0 (Some (grown_by (measured_to xs n).kdtree.bounds (point_at xs n)))

-- LOOKUP::NEW answers what its loop measured
pub new_same : (m r k : ℕ) (xs resp delays : List Float) (rate : Float) → 0 < m → 3 * m ≤ length xs → new_lookup ported (hrtf_of m r k xs resp delays rate) ≡ Some (measured_to xs m)
unfolding new_lookup
new_same zero r k xs resp delays rate l h = absurd (omega arith)
new_same (suc n) r k xs resp delays rate p h =
    let sp = take (3 * suc n) xs in
    let l : length sp ≡ 3 * suc n = length-take-le (3 * suc n) xs h in
    let z : eqb (length sp) 0 ≡ false = ne_eqb (length sp) 0 (λ q. omega arith) in
    let answer : looked.Lookup → Option looked.Lookup = λ look. cond (is_empty look.kdtree) None (Some look) in
    ap (λ (c : Bool). cond (c || false) None (answer (measuring ported sp 3 (suc n) 0 (none_measured ported)))) z
    ∙ ap answer (all xs (suc n) h)
    ∙ ap (λ (c : Bool). cond c None (Some (measured_to xs (suc n)))) (not_empty xs n)
  where
    all : (xs : List Float) (m : ℕ) → 3 * m ≤ length xs → measuring ported (take (3 * m) xs) 3 m 0 (none_measured ported) ≡ measured_to xs m
    all xs m h =
        let e : 0 + m ≡ m = omega arith in
        let l : measuring ported (take (3 * m) xs) 3 m 0 (none_measured ported) ≡ measured_to xs (0 + m) = unfold measured_to in loop xs m m 0 h (omega arith) in
        l ∙ ap (measured_to xs) e
