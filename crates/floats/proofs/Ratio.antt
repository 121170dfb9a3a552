-- Rounded quotients and products of finite values that are not negative: they are not negative and keep the order, a quotient of a value by a larger one
-- is at most 1, and a product with a factor of at most 1 is at most the other factor. Assumes nothing.
use Rattle.std.proofs.Common.{◌≡◌, ℕ, zero, suc, ◌*◌, ◌<◌, ◌≤◌, Bool, true, false, cond, not, T, eqb, ltb, ℤ, pos, sym, refl, subst, le_trans, le_of_eq, lt_irrefl, mul_assoc, mul_comm, mul-le-mul, mul-pos, one-mul, mul-one, mul_left_comm, arith, eqb→eq, ltb→lt}
use native.Mathlib.Nat.{mul-mul-mul_comm}
use lib.Ieee.{Float, nan, inf, fin, Format, up, down, round, mul, div, le, lt, eq, fits, binary32}
use lib.Ieee.Fits.{up_pos, down_pos}
use lib.Ieee.Order.{round_mono}
use lib.Ieee.Positive.{positive}
use lib.Ieee.Scale.{finite}
use Rattle.floats.specs.Floats.{abs_of}
use Rattle.floats.proofs.Cross.{nonneg_cross}
use Rattle.floats.proofs.Sign.{nonneg, round_nonneg}
use Rattle.floats.proofs.Values.{round_back}

abbrev pub one : Float
one = fin false 1 (pos 0)

pub one_fits : (f : Format) → T (fits f one)
unfolding fits
one_fits lib.Ieee.Format.binary32 = tt
one_fits lib.Ieee.Format.binary64 = tt

-- ---- a fraction that is at most a value that fits rounds to at most that value
pub round_le : (f : Format) (a c m : ℕ) (e : ℤ) → 0 < c → T (fits f (fin false m e)) → a * down e ≤ m * up e * c → T (le (round f false a c) (fin false m e))
round_le f a c m e C h k = subst (λ (z : Float). T (le (round f false a c) z)) (round_back f false m e h) (round_mono f a c (m * up e) (down e) C (down_pos e) k)

-- ---- finite, and not negative (-0 is left out)
abbrev pub magnitude : Float → Bool
magnitude nan = false
magnitude (inf s) = false
magnitude (fin s m e) = not s

pub magnitude_nonneg : (x : Float) → T (magnitude x) → T (nonneg x)
magnitude_nonneg nan p = absurd p
magnitude_nonneg (inf s) p = absurd p
magnitude_nonneg (fin s m e) p = p

pub magnitude_finite : (x : Float) → T (magnitude x) → T (finite x)
magnitude_finite nan p = absurd p
magnitude_finite (inf s) p = absurd p
magnitude_finite (fin s m e) p = tt

-- so is the size of a finite value
pub size_magnitude : (x : Float) → T (finite x) → T (magnitude (abs_of x))
unfolding abs_of
size_magnitude nan f = absurd f
size_magnitude (inf s) f = absurd f
size_magnitude (fin s m e) f = tt

-- and what is not negative and at most a finite value
pub magnitude_below : (x y : Float) → T (nonneg x) → T (finite y) → T (le x y) → T (magnitude x)
unfolding le lt eq
magnitude_below nan y p f h = absurd p
magnitude_below (inf true) y p f h = absurd p
magnitude_below (inf false) nan p f h = absurd f
magnitude_below (inf false) (inf s) p f h = absurd f
magnitude_below (inf false) (fin t n d) p f h = absurd h
magnitude_below (fin true m e) y p f h = absurd p
magnitude_below (fin false m e) y p f h = tt

-- ---- quotients
div_is : (f : Format) (m : ℕ) (e : ℤ) (n : ℕ) (d : ℤ) → T (ltb 0 n) → div f (fin false m e) (fin false n d) ≡ round f false (m * up e * down d) (n * up d * down e)
unfolding div
div_is f m e zero d p = absurd (lt_irrefl 0 (ltb→lt 0 0 p))
div_is f m e (suc n) d p = go (eqb (suc n) 0) (eqb→eq (suc n) 0)
  where
    go : (b : Bool) → (T b → suc n ≡ 0) → cond b (cond (eqb m 0) nan (inf false)) (round f false (m * up e * down d) (suc n * up d * down e)) ≡ round f false (m * up e * down d) (suc n * up d * down e)
    go true h = absurd (bad n (h tt))
      where
        bad : (n : ℕ) → suc n ≡ 0 → ⊥
        bad n h = omega arith
    go false h = refl

pub div_nonneg : (f : Format) (x y : Float) → T (magnitude x) → T (positive y) → T (nonneg (div f x y))
div_nonneg f nan y p q = absurd p
div_nonneg f (inf s) y p q = absurd p
div_nonneg f (fin true m e) y p q = absurd p
div_nonneg f (fin false m e) nan p q = absurd q
div_nonneg f (fin false m e) (inf s) p q = absurd q
div_nonneg f (fin false m e) (fin true n d) p q = absurd q
div_nonneg f (fin false m e) (fin false n d) p q =
    subst (λ (z : Float). T (nonneg z)) (sym (div_is f m e n d q)) (round_nonneg f (m * up e * down d) (n * up d * down e))

quotients : (x dx x' dx' y dy y' dy' : ℕ) → x * dx' ≤ x' * dx → y' * dy ≤ y * dy' → x * dy * (y' * dx') ≤ x' * dy' * (y * dx)
quotients x dx x' dx' y dy y' dy' h k =
    let g = mul-le-mul h k in
    simp (mul_assoc, mul_comm, mul_left_comm) (simp (mul_assoc, mul_comm, mul_left_comm) at g)

pub div_mono : (f : Format) (x x' y y' : Float) → T (magnitude x) → T (magnitude x') → T (positive y) → T (positive y') → T (le x x') → T (le y' y) → T (le (div f x y) (div f x' y'))
div_mono f nan x' y y' p p' q q' h k = absurd p
div_mono f (inf s) x' y y' p p' q q' h k = absurd p
div_mono f (fin true m e) x' y y' p p' q q' h k = absurd p
div_mono f (fin false m e) nan y y' p p' q q' h k = absurd p'
div_mono f (fin false m e) (inf s) y y' p p' q q' h k = absurd p'
div_mono f (fin false m e) (fin true m' e') y y' p p' q q' h k = absurd p'
div_mono f (fin false m e) (fin false m' e') nan y' p p' q q' h k = absurd q
div_mono f (fin false m e) (fin false m' e') (inf s) y' p p' q q' h k = absurd q
div_mono f (fin false m e) (fin false m' e') (fin true n d) y' p p' q q' h k = absurd q
div_mono f (fin false m e) (fin false m' e') (fin false n d) nan p p' q q' h k = absurd q'
div_mono f (fin false m e) (fin false m' e') (fin false n d) (inf s) p p' q q' h k = absurd q'
div_mono f (fin false m e) (fin false m' e') (fin false n d) (fin true n' d') p p' q q' h k = absurd q'
div_mono f (fin false m e) (fin false m' e') (fin false n d) (fin false n' d') p p' q q' h k =
    subst (λ (z : Float). T (le z (div f (fin false m' e') (fin false n' d')))) (sym (div_is f m e n d q))
    (subst (λ (z : Float). T (le (round f false (m * up e * down d) (n * up d * down e)) z)) (sym (div_is f m' e' n' d' q'))
    (round_mono f (m * up e * down d) (n * up d * down e) (m' * up e' * down d') (n' * up d' * down e') (mul-pos (mul-pos (ltb→lt 0 n q) (up_pos d)) (down_pos e)) (mul-pos (mul-pos (ltb→lt 0 n' q') (up_pos d')) (down_pos e'))
    (quotients (m * up e) (down e) (m' * up e') (down e') (n * up d) (down d) (n' * up d') (down d') (nonneg_cross m e m' e' h) (nonneg_cross n' d' n d k))))

pub div_le_one : (f : Format) (x y : Float) → T (magnitude x) → T (positive y) → T (le x y) → T (le (div f x y) one)
div_le_one f nan y p q h = absurd p
div_le_one f (inf s) y p q h = absurd p
div_le_one f (fin true m e) y p q h = absurd p
div_le_one f (fin false m e) nan p q h = absurd q
div_le_one f (fin false m e) (inf s) p q h = absurd q
div_le_one f (fin false m e) (fin true n d) p q h = absurd q
div_le_one f (fin false m e) (fin false n d) p q h =
    subst (λ (z : Float). T (le z one)) (sym (div_is f m e n d q))
    (round_le f (m * up e * down d) (n * up d * down e) 1 (pos 0) (mul-pos (mul-pos (ltb→lt 0 n q) (up_pos d)) (down_pos e)) (one_fits f)
    (le_trans (le_of_eq (mul-one (m * up e * down d))) (le_trans (nonneg_cross m e n d h) (le_of_eq (sym (one-mul (n * up d * down e)))))))

-- ---- products
mul_is : (f : Format) (m : ℕ) (e : ℤ) (n : ℕ) (d : ℤ) → mul f (fin false m e) (fin false n d) ≡ round f false (m * up e * (n * up d)) (down e * down d)
unfolding mul
mul_is f m e n d = refl

pub mul_nonneg : (f : Format) (x y : Float) → T (magnitude x) → T (magnitude y) → T (nonneg (mul f x y))
mul_nonneg f nan y p q = absurd p
mul_nonneg f (inf s) y p q = absurd p
mul_nonneg f (fin true m e) y p q = absurd p
mul_nonneg f (fin false m e) nan p q = absurd q
mul_nonneg f (fin false m e) (inf s) p q = absurd q
mul_nonneg f (fin false m e) (fin true n d) p q = absurd q
mul_nonneg f (fin false m e) (fin false n d) p q =
    subst (λ (z : Float). T (nonneg z)) (sym (mul_is f m e n d)) (round_nonneg f (m * up e * (n * up d)) (down e * down d))

pub mul_mono_mag : (f : Format) (x x' y y' : Float) → T (magnitude x) → T (magnitude x') → T (magnitude y) → T (magnitude y') → T (le x x') → T (le y y') → T (le (mul f x y) (mul f x' y'))
mul_mono_mag f nan x' y y' p p' q q' h k = absurd p
mul_mono_mag f (inf s) x' y y' p p' q q' h k = absurd p
mul_mono_mag f (fin true m e) x' y y' p p' q q' h k = absurd p
mul_mono_mag f (fin false m e) nan y y' p p' q q' h k = absurd p'
mul_mono_mag f (fin false m e) (inf s) y y' p p' q q' h k = absurd p'
mul_mono_mag f (fin false m e) (fin true m' e') y y' p p' q q' h k = absurd p'
mul_mono_mag f (fin false m e) (fin false m' e') nan y' p p' q q' h k = absurd q
mul_mono_mag f (fin false m e) (fin false m' e') (inf s) y' p p' q q' h k = absurd q
mul_mono_mag f (fin false m e) (fin false m' e') (fin true n d) y' p p' q q' h k = absurd q
mul_mono_mag f (fin false m e) (fin false m' e') (fin false n d) nan p p' q q' h k = absurd q'
mul_mono_mag f (fin false m e) (fin false m' e') (fin false n d) (inf s) p p' q q' h k = absurd q'
mul_mono_mag f (fin false m e) (fin false m' e') (fin false n d) (fin true n' d') p p' q q' h k = absurd q'
mul_mono_mag f (fin false m e) (fin false m' e') (fin false n d) (fin false n' d') p p' q q' h k =
    subst (λ (z : Float). T (le z (mul f (fin false m' e') (fin false n' d')))) (sym (mul_is f m e n d))
    (subst (λ (z : Float). T (le (round f false (m * up e * (n * up d)) (down e * down d)) z)) (sym (mul_is f m' e' n' d'))
    (round_mono f (m * up e * (n * up d)) (down e * down d) (m' * up e' * (n' * up d')) (down e' * down d') (mul-pos (down_pos e) (down_pos d)) (mul-pos (down_pos e') (down_pos d'))
    (le_trans (le_of_eq (mul-mul-mul_comm (m * up e) (n * up d) (down e') (down d')))
    (le_trans (mul-le-mul (nonneg_cross m e m' e' h) (nonneg_cross n d n' d' k)) (le_of_eq (mul-mul-mul_comm (m' * up e') (down e) (n' * up d') (down d)))))))

-- x times s ≤ 1 is no more than x
pub mul_shrinks : (f : Format) (x s : Float) → T (magnitude x) → T (magnitude s) → T (fits f x) → T (le s one) → T (le (mul f x s) x)
mul_shrinks f nan s p q w h = absurd p
mul_shrinks f (inf t) s p q w h = absurd p
mul_shrinks f (fin true m e) s p q w h = absurd p
mul_shrinks f (fin false m e) nan p q w h = absurd q
mul_shrinks f (fin false m e) (inf t) p q w h = absurd q
mul_shrinks f (fin false m e) (fin true n d) p q w h = absurd q
mul_shrinks f (fin false m e) (fin false n d) p q w h =
    subst (λ (z : Float). T (le z (fin false m e))) (sym (mul_is f m e n d))
    (round_le f (m * up e * (n * up d)) (down e * down d) m e (mul-pos (down_pos e) (down_pos d)) w
    (le_trans (le_of_eq (mul_assoc (m * up e) (n * up d) (down e)))
    (mul-le-mul (le_of_eq refl) (le_trans (le_of_eq (mul_comm (n * up d) (down e))) (mul-le-mul (le_of_eq refl) (small n d h))))))
  where
    small : (n : ℕ) (d : ℤ) → T (le (fin false n d) one) → n * up d ≤ down d
    small n d h = omega (arith, nonneg_cross n d 1 (pos 0) h)
