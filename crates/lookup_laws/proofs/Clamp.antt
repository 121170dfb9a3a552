-- THE THEOREMS on the radius clamp: its scale is at most 1 when it draws in, an overflowing radius gives the origin, and the clamped coordinates of
-- a finite query are finite. Assumes nothing.
use mathlib.Core.Path.{◌≡◌, refl, sym, ap, ◌∙◌, subst}
use mathlib.Core.Bool.{Bool, true, false, cond, ◌&&◌}
use Prim.Native.Nat.{ℕ, zero, suc, ◌*◌, ◌%◌, ◌^◌, ◌<◌, ◌≤◌}
use native.Mathlib.Nat.{zero-lt-suc, mul-pos, le_trans, mul-le-mul, le_of_eq, one-mul}
use native.Mathlib.Omega.{arith}
use lib.Dec.{T, T_not, ltb, leb, eqb, ltb→lt, lt→ltb, leb→le}
use lib.IntN.{ℤ, pos, negsuc}
use lib.Ieee.{Float, nan, inf, fin, binary32, up, down, add, mul, div, neg, round, lt, le, eq, fits}
use lib.Ieee.Fits.{and_l, and_r, up_pos, down_pos, add-fits, mul-fits}
use lib.Ieee.Scale.{finite, round_same}
use lib.Ieee.Positive.{positive, cross→le}
use Rattle.floats.specs.Floats.{zero32, abs_of}
use Rattle.floats.proofs.Cross.{of_taken, of_left}
use Rattle.floats.proofs.Sign.{nonneg, round_neg, sq_neg}
use Rattle.floats.proofs.Ops.{finite_number, neg_finite, sq_nonneg, sq_mono, add_nonneg, add_grows, add_grows_r}
use Rattle.floats.proofs.Preorder.{le_trans_f, lt→le, le→not_lt, not_lt→le, lt_le_trans}
use Rattle.floats.proofs.Ratio.{one, magnitude, magnitude_nonneg, magnitude_finite, size_magnitude, magnitude_below, div_nonneg, div_mono, div_le_one, mul_nonneg, mul_mono_mag}
use Rattle.points.specs.declared.Point3.{Point3}
use Rattle.points.specs.Points.{Finite}
use Rattle.root.specs.Root.{root_of}
use Rattle.root.proofs.Laws.{root_of_positive, root_of_mono}
use Rattle.coords.specs.Coords.{radius_of}
use Rattle.lookup.specs.declared.Lookup.{Lookup}
use Rattle.lookup.specs.Lookup.{scaled, clamped_to, clamped_by}
use Rattle.lookup_laws.specs.Clamp.{zero_like, Radii, reach}

-- ---- drawn in

-- THE SCALE IS AT MOST 1, and not negative, when the radius is above the greatest
pub scale_in : (greatest r : Float) → T (nonneg greatest) → lt greatest r ≡ true → T (magnitude (div binary32 greatest r)) × T (le (div binary32 greatest r) one)
unfolding lt
scale_in nan r p e = absurd p
scale_in (inf true) r p e = absurd p
scale_in (inf false) nan p e = absurd (of_taken e)
scale_in (inf false) (inf t) p e = absurd (of_taken e)
scale_in (inf false) (fin t n d) p e = absurd (of_taken e)
scale_in (fin true m g) r p e = absurd p
scale_in (fin false m g) nan p e = absurd (of_taken e)
scale_in (fin false m g) (inf true) p e = absurd (of_taken e)
scale_in (fin false m g) (inf false) p e = unfold div le eq in (tt, tt)
scale_in (fin false m g) (fin true n d) p e = absurd (of_taken e)
scale_in (fin false m g) (fin false n d) p e =
    let h = ltb→lt (m * up g * down d) (n * up d * down g) (of_taken e) in
    let q : T (positive (fin false n d)) = lt→ltb 0 n (some n (up d) (down g) (m * up g * down d) h) in
    let l = div_le_one binary32 (fin false m g) (fin false n d) tt q (lt→le (fin false m g) (fin false n d) (of_taken e)) in
    (magnitude_below (div binary32 (fin false m g) (fin false n d)) one (div_nonneg binary32 (fin false m g) (fin false n d) tt q) tt l, l)
  where
    some : (n u v a : ℕ) → a < n * u * v → 0 < n
    some zero u v a h = absurd (omega arith)
    some (suc n) u v a h = omega arith

-- ---- a coordinate times a scale

-- the sign of a coordinate does not matter
other_sign : (m : ℕ) (e : ℤ) (s : Float) → T (magnitude s) → T (finite (mul binary32 (fin false m e) s)) → T (finite (mul binary32 (fin true m e) s))
unfolding mul
other_sign m e nan q f = absurd q
other_sign m e (inf t) q f = absurd q
other_sign m e (fin true n d) q f = absurd q
other_sign m e (fin false n d) q f =
    subst (λ (z : Float). T (finite z)) (sym (round_neg binary32 (m * up e * (n * up d)) (down e * down d))) (neg_finite (round binary32 false (m * up e * (n * up d)) (down e * down d)) f)

-- ---- drawn out: the radius is no less than the root of the smallest value, and a coordinate no more than 2 ^ 26

-- the smallest value, and its root
abbrev tiny : Float
tiny = fin false 1 (negsuc 148)

tiny_least : (x : Float) → T (fits binary32 x) → T (positive x) → T (le tiny x)
tiny_least nan w p = absurd p
tiny_least (inf s) w p = absurd p
tiny_least (fin true m e) w p = absurd p
tiny_least (fin false zero e) w p = absurd p
tiny_least (fin false (suc m) e) w p = cross→le tiny (fin false (suc m) e) tt p (smaller m (up e) (down e) (2 ^ 149) (up_pos e) (held m e w))
  where
    held : (m : ℕ) (e : ℤ) → T (fits binary32 (fin false (suc m) e)) → down e ≤ 2 ^ 149
    held m e w =
        unfold fits in
        leb→le (down e) (2 ^ 149)
        (and_r (eqb (suc m % 2) 1 && ltb (suc m) (2 ^ 24)) (leb (down e) (2 ^ 149))
        (and_l (eqb (suc m % 2) 1 && ltb (suc m) (2 ^ 24) && leb (down e) (2 ^ 149)) (ltb (suc m * up e) (2 ^ 128 * down e)) w))

    smaller : (m u d t : ℕ) → 0 < u → d ≤ t → 1 * 1 * d ≤ suc m * u * t
    smaller m u d t U h = le_trans (le_of_eq (one_mul_one d)) (le_trans h (le_trans (le_of_eq (sym (one-mul t))) (mul-le-mul (mul-pos (zero-lt-suc m) U) (le_of_eq refl))))
      where
        one_mul_one : (d : ℕ) → 1 * 1 * d ≡ d
        one_mul_one d = omega arith

module _ (x y z : Float) (fx : T (finite x)) (fy : T (finite y)) (fz : T (finite z)) where
  abbrev pub sum : Float
  sum = add binary32 (add binary32 (mul binary32 x x) (mul binary32 y y)) (mul binary32 z z)

  pub sum_nonneg : T (nonneg sum)
  sum_nonneg =
      add_nonneg binary32 (add binary32 (mul binary32 x x) (mul binary32 y y)) (mul binary32 z z)
      (add_nonneg binary32 (mul binary32 x x) (mul binary32 y y) (sq_nonneg binary32 x (finite_number x fx)) (sq_nonneg binary32 y (finite_number y fy)))
      (sq_nonneg binary32 z (finite_number z fz))

  -- each square is at most the sum
  under_x : T (le (mul binary32 x x) sum)
  under_x =
      le_trans_f (mul binary32 x x) (add binary32 (mul binary32 x x) (mul binary32 y y)) sum
      (add_grows binary32 (mul binary32 x x) (mul binary32 y y) (sq_nonneg binary32 x (finite_number x fx)) (sq_nonneg binary32 y (finite_number y fy)) (mul-fits binary32 x x))
      (add_grows binary32 (add binary32 (mul binary32 x x) (mul binary32 y y)) (mul binary32 z z)
      (add_nonneg binary32 (mul binary32 x x) (mul binary32 y y) (sq_nonneg binary32 x (finite_number x fx)) (sq_nonneg binary32 y (finite_number y fy)))
      (sq_nonneg binary32 z (finite_number z fz)) (add-fits binary32 (mul binary32 x x) (mul binary32 y y)))

  under_y : T (le (mul binary32 y y) sum)
  under_y =
      le_trans_f (mul binary32 y y) (add binary32 (mul binary32 x x) (mul binary32 y y)) sum
      (add_grows_r binary32 (mul binary32 x x) (mul binary32 y y) (sq_nonneg binary32 x (finite_number x fx)) (sq_nonneg binary32 y (finite_number y fy)) (mul-fits binary32 y y))
      (add_grows binary32 (add binary32 (mul binary32 x x) (mul binary32 y y)) (mul binary32 z z)
      (add_nonneg binary32 (mul binary32 x x) (mul binary32 y y) (sq_nonneg binary32 x (finite_number x fx)) (sq_nonneg binary32 y (finite_number y fy)))
      (sq_nonneg binary32 z (finite_number z fz)) (add-fits binary32 (mul binary32 x x) (mul binary32 y y)))

  under_z : T (le (mul binary32 z z) sum)
  under_z =
      add_grows_r binary32 (add binary32 (mul binary32 x x) (mul binary32 y y)) (mul binary32 z z)
      (add_nonneg binary32 (mul binary32 x x) (mul binary32 y y) (sq_nonneg binary32 x (finite_number x fx)) (sq_nonneg binary32 y (finite_number y fy)))
      (sq_nonneg binary32 z (finite_number z fz)) (mul-fits binary32 z z)

-- a root that is above 0 and below a finite value is that of a finite value above 0
root_of_lem : (s least : Float) → T (fits binary32 s) → T (nonneg s) → T (magnitude least) → T (lt zero32 (root_of s)) → T (lt (root_of s) least) → T (positive s)
root_of_lem nan least w p q a b = absurd p
root_of_lem (inf true) least w p q a b = absurd p
root_of_lem (inf false) nan w p q a b = absurd q
root_of_lem (inf false) (inf t) w p q a b = absurd q
root_of_lem (inf false) (fin t n d) w p q a b = absurd (unfold root_of lt in b)
root_of_lem (fin true m e) least w p q a b = absurd p
root_of_lem (fin false zero e) least w p q a b = absurd (none e (unfold root_of lt in a))
  where
    none : (e : ℤ) → T (ltb (0 * 1 * down e) (0 * up e * 1)) → ⊥
    none e t = let h = ltb→lt (0 * 1 * down e) (0 * up e * 1) t in omega arith
root_of_lem (fin false (suc m) e) least w p q a b = lt→ltb 0 (suc m) (omega arith)

pub size_square : (x : Float) → T (finite x) → mul binary32 (abs_of x) (abs_of x) ≡ mul binary32 x x
unfolding abs_of
size_square nan f = absurd f
size_square (inf s) f = absurd f
size_square (fin false m e) f = refl
size_square (fin true m e) f = sym (unfold neg in sq_neg binary32 (fin false m e))

root_reach : T (le reach (root_of (mul binary32 reach reach)))
unfolding root_of mul le lt eq
root_reach = tt

-- a coordinate whose square is at most that of a radius below 2 ^ 26
coordinate_bound : (x s least : Float) → T (finite x) → T (fits binary32 s) → T (positive s) → T (le (mul binary32 x x) s) → T (lt (root_of s) least) → T (le least reach) → T (le (abs_of x) reach)
coordinate_bound x s least f w p u h l = go (lt reach (abs_of x)) refl
  where
    m : T (magnitude (abs_of x))
    m = size_magnitude x f

    clash : T (lt reach (abs_of x)) → ⊥
    clash t =
        let a = sq_mono binary32 reach (abs_of x) tt (magnitude_nonneg (abs_of x) m) (lt→le reach (abs_of x) t) in
        let b = le_trans_f (mul binary32 reach reach) (mul binary32 x x) s (subst (λ (z : Float). T (le (mul binary32 reach reach) z)) (size_square x f) a) u in
        let c = root_of_mono (mul binary32 reach reach) s (mul-fits binary32 reach reach) w squared_positive p b in
        let d = le_trans_f reach (root_of (mul binary32 reach reach)) (root_of s) root_reach c in
        T_not (lt (root_of s) reach) (le→not_lt reach (root_of s) d) (lt_le_trans (root_of s) least reach h l)
      where
        squared_positive : T (positive (mul binary32 reach reach))
        squared_positive = unfold mul in tt

    go : (b : Bool) → lt reach (abs_of x) ≡ b → T (le (abs_of x) reach)
    go true e = absurd (clash (of_taken e))
    go false e = not_lt→le reach (abs_of x) (finite_number reach tt) (finite_number (abs_of x) (magnitude_finite (abs_of x) m)) (of_left e)

-- the largest scale: 2 ^ 26 by the root of the smallest value
abbrev steep : Float
steep = div binary32 reach (root_of tiny)

tiny_root : T (positive (root_of tiny))
unfolding root_of
tiny_root = tt

steep_finite : T (finite steep)
unfolding root_of div
steep_finite = tt

steep_magnitude : T (magnitude steep)
unfolding root_of div
steep_magnitude = tt

farthest : T (finite (mul binary32 reach steep))
unfolding root_of div mul
farthest = tt

module _ (s least : Float) (w : T (fits binary32 s)) (p : T (positive s)) (q : T (magnitude least)) (l : T (le least reach)) (h : T (lt (root_of s) least)) where
  abbrev k : Float
  k = div binary32 least (root_of s)

  k_most : T (le k steep)
  k_most = div_mono binary32 least reach (root_of s) (root_of tiny) q tt (root_of_positive s w p) tiny_root l (root_of_mono tiny s (unfold fits in tt) w tt p (tiny_least s w p))

  k_magnitude : T (magnitude k)
  k_magnitude = magnitude_below k steep (div_nonneg binary32 least (root_of s) q (root_of_positive s w p)) steep_finite k_most

  grown : (x : Float) → T (finite x) → T (le (mul binary32 x x) s) → T (finite (mul binary32 (abs_of x) k))
  grown x f u =
      let m = size_magnitude x f in
      let b = mul_mono_mag binary32 (abs_of x) reach k steep m tt k_magnitude steep_magnitude (coordinate_bound x s least f w p u h l) k_most in
      magnitude_finite (mul binary32 (abs_of x) k) (magnitude_below (mul binary32 (abs_of x) k) (mul binary32 reach steep) (mul_nonneg binary32 (abs_of x) k m k_magnitude) farthest b)

  stretched : (x : Float) → T (finite x) → T (le (mul binary32 x x) s) → T (finite (mul binary32 x k))
  unfolding abs_of
  stretched nan f u = absurd f
  stretched (inf t) f u = absurd f
  stretched (fin false m e) f u = grown (fin false m e) f u
  stretched (fin true m e) f u = other_sign m e k k_magnitude (grown (fin true m e) f u)

-- ---- times +0

to_zero : (x : Float) → T (finite x) → mul binary32 x (fin false 0 (pos 0)) ≡ zero_like x
unfolding mul
to_zero nan f = absurd f
to_zero (inf s) f = absurd f
to_zero (fin false m e) f =
    round_same binary32 false (m * up e * (0 * 1)) (down e * 1) 0 1 (mul-pos (down_pos e) (omega arith)) (omega arith) (omega arith) ∙ (unfold round in refl)
to_zero (fin true m e) f =
    round_same binary32 true (m * up e * (0 * 1)) (down e * 1) 0 1 (mul-pos (down_pos e) (omega arith)) (omega arith) (omega arith) ∙ (unfold round in refl)

-- ---- drawn in: a coordinate whose square is finite is at most 2 ^ 64, and where the squares overflow the scale is 0

-- its square overflows
abbrev wide : Float
wide = fin false 1 (pos 64)

small_square : (x : Float) → T (finite x) → T (finite (mul binary32 x x)) → T (le (abs_of x) wide)
small_square x f h = go (lt wide (abs_of x)) refl
  where
    m : T (magnitude (abs_of x))
    m = size_magnitude x f

    infinite : (y : Float) → T (le (mul binary32 wide wide) y) → T (finite y) → ⊥
    infinite nan l g = g
    infinite (inf s) l g = g
    infinite (fin s n d) l g = unfold mul le lt eq in l

    clash : T (lt wide (abs_of x)) → ⊥
    clash t =
        let a = sq_mono binary32 wide (abs_of x) tt (magnitude_nonneg (abs_of x) m) (lt→le wide (abs_of x) t) in
        infinite (mul binary32 x x) (subst (λ (z : Float). T (le (mul binary32 wide wide) z)) (size_square x f) a) h

    go : (b : Bool) → lt wide (abs_of x) ≡ b → T (le (abs_of x) wide)
    go true e = absurd (clash (of_taken e))
    go false e = not_lt→le wide (abs_of x) (finite_number wide tt) (finite_number (abs_of x) (magnitude_finite (abs_of x) m)) (of_left e)

widest : T (finite (mul binary32 wide one))
unfolding mul
widest = tt

-- a size that is at most 2 ^ 64, by a scale that is at most 1
shrunk_size : (x s : Float) → T (magnitude x) → T (le x wide) → T (magnitude s) → T (le s one) → T (finite (mul binary32 x s))
shrunk_size x s p l q h = magnitude_finite (mul binary32 x s) (magnitude_below (mul binary32 x s) (mul binary32 wide one) (mul_nonneg binary32 x s p q) widest (mul_mono_mag binary32 x wide s one p tt q tt l h))

shrunk : (x s : Float) → T (finite x) → T (le (abs_of x) wide) → T (magnitude s) → T (le s one) → T (finite (mul binary32 x s))
unfolding abs_of
shrunk nan s f l q h = absurd f
shrunk (inf t) s f l q h = absurd f
shrunk (fin false m e) s f l q h = shrunk_size (fin false m e) s tt l q h
shrunk (fin true m e) s f l q h = other_sign m e s q (shrunk_size (fin false m e) s tt l q h)

zeroed : (x : Float) → T (finite x) → T (finite (zero_like x))
zeroed nan f = f
zeroed (inf s) f = tt
zeroed (fin s m e) f = tt

overflowed : (x g : Float) → T (finite x) → T (nonneg g) → T (lt g (inf false)) → T (finite (mul binary32 x (div binary32 g (inf false))))
unfolding lt div
overflowed x nan f p h = absurd p
overflowed x (inf true) f p h = absurd p
overflowed x (inf false) f p h = absurd h
overflowed x (fin true n d) f p h = absurd p
overflowed x (fin false n d) f p h = subst (λ (z : Float). T (finite z)) (sym (to_zero x f)) (zeroed x f)

-- s: the sum of squares, one of them that of x
drawn_in_lem : (x s greatest : Float) → T (finite x) → T (nonneg s) → T (le (mul binary32 x x) s) → T (nonneg greatest) → lt greatest (root_of s) ≡ true
    → T (finite (mul binary32 x (div binary32 greatest (root_of s))))
drawn_in_lem x nan g f n u p e = absurd n
drawn_in_lem x (inf true) g f n u p e = absurd n
drawn_in_lem x (inf false) g f n u p e = unfold root_of in overflowed x g f p (unfold root_of in of_taken e)
drawn_in_lem x (fin true m d) g f n u p e = absurd n
drawn_in_lem x (fin false m d) g f n u p e =
    let k = scale_in g (root_of (fin false m d)) p e in
    let w = magnitude_below (mul binary32 x x) (fin false m d) (sq_nonneg binary32 x (finite_number x f)) tt u in
    shrunk x (div binary32 g (root_of (fin false m d))) f (small_square x f (magnitude_finite (mul binary32 x x) w)) k.0 k.1

-- ---- the laws

module _ (look : Lookup) (q : Point3) (f : Finite q) where
  abbrev squares : Float
  squares = sum q.x q.y q.z f.x f.y f.z

  -- THE CLAMPED COORDINATES OF A FINITE QUERY ARE FINITE
  pub clamped_finite : Radii look → Finite (clamped_by look q)
  unfolding clamped_by clamped_to scaled radius_of
  clamped_finite R = go (lt look.radius_max (root_of squares)) (lt (root_of squares) look.radius_min) (lt zero32 (root_of squares)) refl refl refl
    where
      go : (a b c : Bool) → lt look.radius_max (root_of squares) ≡ a → lt (root_of squares) look.radius_min ≡ b → lt zero32 (root_of squares) ≡ c
          → Finite (cond a (scaled q (div binary32 look.radius_max (root_of squares))) (cond (b && c) (scaled q (div binary32 look.radius_min (root_of squares))) q))
      go true b c ea eb ec =
          let n = sum_nonneg q.x q.y q.z f.x f.y f.z in
          unfold scaled in
          record {
            x = drawn_in_lem q.x squares look.radius_max f.x n (under_x q.x q.y q.z f.x f.y f.z) R.greatest ea;
            y = drawn_in_lem q.y squares look.radius_max f.y n (under_y q.x q.y q.z f.x f.y f.z) R.greatest ea;
            z = drawn_in_lem q.z squares look.radius_max f.z n (under_z q.x q.y q.z f.x f.y f.z) R.greatest ea;
          }
      go false true true ea eb ec =
          let w : T (fits binary32 squares) = add-fits binary32 (add binary32 (mul binary32 q.x q.x) (mul binary32 q.y q.y)) (mul binary32 q.z q.z) in
          let p = root_of_lem squares look.radius_min w (sum_nonneg q.x q.y q.z f.x f.y f.z) R.some (of_taken ec) (of_taken eb) in
          unfold scaled in
          record {
            x = stretched squares look.radius_min w p R.some R.least (of_taken eb) q.x f.x (under_x q.x q.y q.z f.x f.y f.z);
            y = stretched squares look.radius_min w p R.some R.least (of_taken eb) q.y f.y (under_y q.x q.y q.z f.x f.y f.z);
            z = stretched squares look.radius_min w p R.some R.least (of_taken eb) q.z f.z (under_z q.x q.y q.z f.x f.y f.z);
          }
      go false true false ea eb ec = f
      go false false c ea eb ec = f

  -- A RADIUS THAT OVERFLOWS GIVES THE ORIGIN, each zero with its coordinate's sign
  pub overflow_origin : T (magnitude look.radius_max) → radius_of q ≡ inf false
      → clamped_by look q ≡ record { x = zero_like q.x; y = zero_like q.y; z = zero_like q.z }
  unfolding clamped_by clamped_to
  overflow_origin m e = ap body e ∙ at look.radius_max m
    where
      body : Float → Point3
      body r = cond (lt look.radius_max r) (scaled q (div binary32 look.radius_max r)) (cond (lt r look.radius_min && lt zero32 r) (scaled q (div binary32 look.radius_min r)) q)

      at : (g : Float) → T (magnitude g) → cond (lt g (inf false)) (scaled q (div binary32 g (inf false))) (cond (lt (inf false) look.radius_min && lt zero32 (inf false)) (scaled q (div binary32 look.radius_min (inf false))) q)
          ≡ record { x = zero_like q.x; y = zero_like q.y; z = zero_like q.z }
      at nan m = absurd m
      at (inf s) m = absurd m
      at (fin true n d) m = absurd m
      at (fin false n d) m =
          unfold lt div scaled in
          let ex = to_zero q.x f.x in
          let ey = to_zero q.y f.y in
          let ez = to_zero q.z f.z in
          cc
