-- The radius bounds of a loaded set are as the clamp's laws ask: its coordinates being of magnitude at most 10001, the greatest radius is not negative and
-- the least is finite and at most 2 ^ 26. Assumes nothing.
use mathlib.Core.Path.{◌≡◌, refl, sym, ap, subst}
use mathlib.Core.Bool.{Bool, true, false, cond}
use mathlib.Core.List.{List}
use Prim.Native.Nat.{ℕ, zero, suc, ◌+◌, ◌*◌, ◌^◌, ◌<◌}
use native.Mathlib.Nat.{mul-pos}
use native.Mathlib.Omega.{arith}
use lib.Dec.{T, lt→ltb, ltb→lt}
use lib.Ieee.{Float, nan, inf, fin, binary32, up, down, add, mul, neg, round, lt, le, eq, fits, is_nan, of_bits}
use lib.Ieee.Fits.{down_pos, add-fits}
use lib.Ieee.Scale.{finite}
use lib.Ieee.Bits.{is_true}
use Rattle.floats.specs.Floats.{abs_of, min_of, max_of}
use Rattle.floats.proofs.Cross.{cross→le}
use Rattle.floats.proofs.Sign.{nonneg}
use Rattle.floats.proofs.Ops.{finite_number, sq_nonneg, sq_mono, add_nonneg, add_mono, neg_le}
use Rattle.floats.proofs.Preorder.{le_trans_f, le_lt_trans}
use Rattle.floats.proofs.Ratio.{magnitude_nonneg, size_magnitude, magnitude_below}
use Rattle.points.specs.declared.Point3.{Point3}
use Rattle.points.specs.Points.{point_at}
use Rattle.root.specs.Root.{root_of}
use Rattle.root.proofs.Laws.{root_of_mono}
use Rattle.coords.specs.Coords.{radius_of, spherical_of}
use Rattle.coords.specs.Moderate.{Moderate}
use Rattle.coords.proofs.Radii.{radius_nonneg}
use Rattle.limits.specs.Allowed.{nearest32, within}
use Rattle.limits.proofs.Ends.{between_low, between_high}
use Rattle.lookup.specs.Build.{least_of, greatest_of, top32, bottom32, lookup_of}
use Rattle.lookup_laws.specs.Clamp.{Radii, reach}
use Rattle.lookup_laws.proofs.Clamp.{size_square, sum, sum_nonneg}

-- ---- one measurement

-- 10001, and a bound for its square, three of them, and their root
abbrev far : Float
far = nearest32 10001 1

within_size : (c : Float) → within 10001 1 c ≡ true → T (finite c) × T (le (abs_of c) far)
unfolding abs_of
within_size c e = go c (unfold within in between_low (neg far) far c e) (unfold within in between_high (neg far) far c e)
  where
    go : (c : Float) → T (le (neg far) c) → T (le c far) → T (finite c) × T (le (abs_of c) far)
    go nan a b = absurd (unfold le lt eq round in b)
    go (inf false) a b = absurd (unfold le lt eq round in b)
    go (inf true) a b = absurd (unfold le lt eq round neg in a)
    go (fin false m e) a b = (tt, b)
    go (fin true m e) a b = (tt, (unfold neg round in neg_le (neg far) (fin true m e) a))

abbrev square : Float
square = mul binary32 far far

square_most : (c : Float) → within 10001 1 c ≡ true → T (le (mul binary32 c c) square)
unfolding abs_of
square_most c e =
    let z = within_size c e in
    subst (λ (w : Float). T (le w square)) (size_square c z.0) (sq_mono binary32 (abs_of c) far (magnitude_nonneg (abs_of c) (size_magnitude c z.0)) (unfold round in tt) z.1)

module _ (p : Point3) (mp : Moderate p) where
  abbrev fx : T (finite p.x)
  fx = (within_size p.x mp.x).0

  abbrev fy : T (finite p.y)
  fy = (within_size p.y mp.y).0

  abbrev fz : T (finite p.z)
  fz = (within_size p.z mp.z).0

  abbrev all : Float
  all = sum p.x p.y p.z fx fy fz

  all_fits : T (fits binary32 all)
  all_fits = add-fits binary32 (add binary32 (mul binary32 p.x p.x) (mul binary32 p.y p.y)) (mul binary32 p.z p.z)

  radius_some : T (nonneg (radius_of p))
  radius_some = radius_nonneg p (finite_number p.x fx) (finite_number p.y fy) (finite_number p.z fz)

  abbrev bound : Float
  bound = add binary32 (add binary32 square square) square

  all_most : T (le all bound)
  all_most =
      let ax = sq_nonneg binary32 p.x (finite_number p.x fx) in
      let ay = sq_nonneg binary32 p.y (finite_number p.y fy) in
      let az = sq_nonneg binary32 p.z (finite_number p.z fz) in
      let b : T (nonneg square) = unfold mul round in tt in
      add_mono binary32 (add binary32 (mul binary32 p.x p.x) (mul binary32 p.y p.y)) (add binary32 square square) (mul binary32 p.z p.z) square
      (add_nonneg binary32 (mul binary32 p.x p.x) (mul binary32 p.y p.y) ax ay) (add_nonneg binary32 square square b b) az b
      (add_mono binary32 (mul binary32 p.x p.x) square (mul binary32 p.y p.y) square ax b ay b (square_most p.x mp.x) (square_most p.y mp.y)) (square_most p.z mp.z)

  root_most : (s : Float) → T (fits binary32 s) → T (nonneg s) → T (le s bound) → T (le (root_of s) reach)
  root_most nan w n l = absurd n
  root_most (inf true) w n l = absurd n
  root_most (inf false) w n l = absurd (unfold le lt eq add mul round in l)
  root_most (fin true m e) w n l = absurd n
  root_most (fin false zero e) w n l = unfold root_of in cross→le (fin false 0 e) reach tt tt (omega arith)
  root_most (fin false (suc m) e) w n l =
      le_trans_f (root_of (fin false (suc m) e)) (root_of bound) reach
      (root_of_mono (fin false (suc m) e) bound w (add-fits binary32 (add binary32 square square) square) (lt→ltb 0 (suc m) (omega arith)) (unfold add mul round in tt) l) (unfold root_of add mul round le lt eq in tt)

  radius_most : T (le (radius_of p) reach)
  unfolding radius_of
  radius_most = root_most all all_fits (sum_nonneg p.x p.y p.z fx fy fz) all_most

-- ---- the bounds, measurement by measurement

abbrev Fine : Float → Type 0
Fine r = T (nonneg r) × T (le r reach)

pick : (P : Float → Type 0) (b c : Bool) (x y : Float) → P x → P y → P (cond b x (cond c x y))
pick P true c x y p q = p
pick P false true x y p q = p
pick P false false x y p q = q

min_fine : (a b : Float) → Fine a → Fine b → Fine (min_of a b)
unfolding min_of
min_fine a b f g = pick Fine (is_nan a) (lt b a) b a g f

max_nonneg : (a b : Float) → T (nonneg a) → T (nonneg b) → T (nonneg (max_of a b))
unfolding max_of
max_nonneg a b f g = pick (λ (r : Float). T (nonneg r)) (is_nan a) (lt a b) b a g f

first_least : (r : Float) → Fine r → min_of top32 r ≡ r
unfolding min_of is_nan of_bits
first_least r f = ap (λ (b : Bool). cond b r top32) (is_true (lt r top32) (le_lt_trans r reach top32 f.1 (unfold lt of_bits in tt)))

first_greatest : (r : Float) → T (nonneg r) → max_of bottom32 r ≡ r
unfolding max_of is_nan of_bits
first_greatest r n = ap (λ (b : Bool). cond b r bottom32) (above r n)
  where
    some : (a d b : ℕ) → 0 < a → 0 < d → 0 < a * d + b
    some a d b h k = let z = mul-pos h k in omega arith

    above : (r : Float) → T (nonneg r) → lt bottom32 r ≡ true
    above nan n = absurd n
    above (inf true) n = absurd n
    above (inf false) n = unfold lt of_bits in refl
    above (fin true m e) n = absurd n
    above (fin false m e) n = is_true (lt bottom32 (fin false m e)) (unfold lt of_bits in lt→ltb 0 _ (some (16777215 * 2 ^ 104) (down e) (m * up e * 1) (ltb→lt 0 (16777215 * 2 ^ 104) tt) (down_pos e)))

module _ (xs : List Float) where
  abbrev least : ℕ → Float
  least = least_of (λ s. s.radius) xs

  abbrev greatest : ℕ → Float
  greatest = greatest_of (λ s. s.radius) xs

  one : (i : ℕ) → Moderate (point_at xs i) → Fine (spherical_of (point_at xs i)).radius
  unfolding spherical_of
  one i m = (radius_some (point_at xs i) m, radius_most (point_at xs i) m)

  least_fine : (n : ℕ) → ((i : ℕ) → i < suc n → Moderate (point_at xs i)) → Fine (least (suc n))
  unfolding least_of
  least_fine zero f = let z = one 0 (f 0 (omega arith)) in subst Fine (sym (first_least (spherical_of (point_at xs 0)).radius z)) z
  least_fine (suc n) f = min_fine (least (suc n)) (spherical_of (point_at xs (suc n))).radius (least_fine n (λ i h. f i (omega arith))) (one (suc n) (f (suc n) (omega arith)))

  greatest_fine : (n : ℕ) → ((i : ℕ) → i < suc n → Moderate (point_at xs i)) → T (nonneg (greatest (suc n)))
  unfolding greatest_of
  greatest_fine zero f = let z = (one 0 (f 0 (omega arith))).0 in subst (λ (r : Float). T (nonneg r)) (sym (first_greatest (spherical_of (point_at xs 0)).radius z)) z
  greatest_fine (suc n) f = max_nonneg (greatest (suc n)) (spherical_of (point_at xs (suc n))).radius (greatest_fine n (λ i h. f i (omega arith))) (one (suc n) (f (suc n) (omega arith))).0

  -- THE BOUNDS OF A LOADED SET are as the clamp's laws ask
  pub loaded_radii : (m : ℕ) → 0 < m → ((i : ℕ) → i < m → Moderate (point_at xs i)) → Radii (lookup_of xs m)
  unfolding lookup_of
  loaded_radii zero h f = absurd (omega arith)
  loaded_radii (suc n) h f =
      let z = least_fine n f in
      record { greatest = greatest_fine n f; some = magnitude_below (least (suc n)) reach z.0 tt z.1; least = z.1 }
