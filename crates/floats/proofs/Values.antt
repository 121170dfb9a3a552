-- A value that a format holds is known by its sign and its size, and is what its own fraction rounds to. Assumes nothing.
use Rattle.std.proofs.Common.{◌≡◌, ℕ, zero, suc, ◌+◌, ◌-◌, ◌*◌, ◌/◌, ◌%◌, ◌^◌, ◌<◌, ◌≤◌, Bool, cond, ◌&&◌, T, eqb, ltb, leb, ℤ, pos, negsuc, sym, refl, ap, ◌∙◌, subst, mul_assoc, mul_comm, lt_of_mul-lt-mul_right, mul-lt-mul_of_pos_right, zero-mul, mul-one, mul_right_comm, not-le_of_lt, arith, ltb→lt, leb→le, pow_pos, pow-add}
use native.Mathlib.Nat.{eq_of_mul-eq-mul_right}
use lib.Pow.{pow-lt}
use lib.Ieee.{Float, nan, inf, fin, Format, prec, emax, low, up, down, size, round, fits, to_bits, of_bits}
use lib.Ieee.Digits.{back}
use lib.Ieee.Fits.{and_l, and_r, down_pos, round-fits}
use lib.Ieee.Bits.{of_bits-to_bits}
use lib.Ieee.Exact.{HasValue, round_exact}
use lib.Ieee.Nearest.{div_same}

-- ---- values

-- the same value, in units k times smaller
pub rescale : (x : Float) (s : Bool) (a c k : ℕ) → HasValue x s a c → HasValue x s (a * k) (c * k)
rescale nan s a c k h = absurd h
rescale (inf t) s a c k h = absurd h
rescale (fin t m e) s a c k h = (h.0, sym (mul_assoc (m * up e) c k) ∙ ap (λ (z : ℕ). z * k) h.1 ∙ mul_right_comm a (down e) k)

-- A format writes each value in one way: two that it holds, of one sign and one size, are equal.
same_bits : (f : Format) (s : Bool) (a c m n : ℕ) (e d : ℤ) → 0 < c → m * up e * c ≡ a * down e → n * up d * c ≡ a * down d → to_bits f (fin s m e) ≡ to_bits f (fin s n d)
unfolding to_bits
same_bits f s a c m n e d C p q = ap (λ (w : ℕ). cond s (lib.Ieee.top f) 0 + (lib.Ieee.size w - prec f) * lib.Ieee.hid f + w / 2 ^ (lib.Ieee.size w - prec f)) (div_same (m * up e * 2 ^ low f) (down e) (n * up d * 2 ^ low f) (down d) (down_pos e) (down_pos d) (mul_right_comm (m * up e) (2 ^ low f) (down d) ∙ ap (λ (z : ℕ). z * 2 ^ low f) cross ∙ mul_right_comm (n * up d) (down e) (2 ^ low f)))
  where
    cross : m * up e * down d ≡ n * up d * down e
    cross =
        eq_of_mul-eq-mul_right c C _ _
        (mul_right_comm (m * up e) (down d) c ∙ ap (λ (z : ℕ). z * down d) p ∙ mul_right_comm a (down e) (down d) ∙ ap (λ (z : ℕ). z * down e) (sym q) ∙ mul_right_comm (n * up d) c (down e))

pub value_unique : (f : Format) (x y : Float) (s : Bool) (a c : ℕ) → T (fits f x) → T (fits f y) → 0 < c → HasValue x s a c → HasValue y s a c → x ≡ y
value_unique f nan y s a c F G C h k = absurd h
value_unique f (inf t) y s a c F G C h k = absurd h
value_unique f (fin t m e) nan s a c F G C h k = absurd k
value_unique f (fin t m e) (inf u) s a c F G C h k = absurd k
value_unique f (fin t m e) (fin u n d) s a c F G C h k =
    sym (of_bits-to_bits f (fin t m e) F)
    ∙ ap (λ (b : ℕ). of_bits f b) (same_bits f t a c m n e d C h.1 k.1 ∙ ap (λ (v : Bool). to_bits f (fin v n d)) (h.0 ∙ sym k.0))
    ∙ of_bits-to_bits f (fin u n d) G

-- a value's size in given units is one number
pub value_size : (x : Float) (s t : Bool) (a b c : ℕ) → HasValue x s a c → HasValue x t b c → a ≡ b
value_size nan s t a b c h k = absurd h
value_size (inf u) s t a b c h k = absurd h
value_size (fin u m e) s t a b c h k = eq_of_mul-eq-mul_right (down e) (down_pos e) _ _ (sym h.1 ∙ k.1)

-- ---- where `fits` says that `round` changes nothing
pow_le_back : (i j : ℕ) → 2 ^ i ≤ 2 ^ j → i ≤ j
pow_le_back i j h = let g : ¬ (j < i) = λ (k : j < i). not-le_of_lt (pow-lt k) h in omega arith

-- m * up e / down e is m * 2 ^ j of the smallest values
place : (l : ℕ) (m : ℕ) (e : ℤ) → down e ≤ 2 ^ l → (j : ℕ) × (m * up e * 2 ^ l ≡ m * 2 ^ j * down e)
place l m (pos k) h = (k + l, mul_assoc m (2 ^ k) (2 ^ l) ∙ ap (λ (z : ℕ). m * z) (sym (pow-add 2 k l)) ∙ sym (mul-one (m * 2 ^ (k + l))))
place l m (negsuc k) h =
    let k_le : suc k ≤ l = pow_le_back (suc k) l h in (
      l - suc k,
      ap (λ (z : ℕ). z * 2 ^ l) (mul-one m) ∙ ap (λ (z : ℕ). m * z) (ap (λ (z : ℕ). 2 ^ z) (sym (back l (suc k) k_le)) ∙ pow-add 2 (l - suc k) (suc k)) ∙ sym (mul_assoc m (2 ^ (l - suc k)) (2 ^ suc k)),
    )

value : (f : Format) (s : Bool) (m : ℕ) (e : ℤ) → m < 2 ^ prec f → down e ≤ 2 ^ low f → m * up e < 2 ^ suc (emax f) * down e → HasValue (round f s (m * up e) (down e)) s (m * up e) (down e)
value f s m e a b c =
    let l = low f in
    let p = place l m e b in
    round_exact f s (m * up e) (down e) m p.0 (down_pos e) a
    (lt_of_mul-lt-mul_right (down e)
    (subst (λ (z : ℕ). z < 2 ^ (l + suc (emax f)) * down e) p.1
    (subst (λ (z : ℕ). m * up e * 2 ^ l < z)
    (mul_right_comm (2 ^ suc (emax f)) (down e) (2 ^ l) ∙ ap (λ (z : ℕ). z * down e) (mul_comm (2 ^ suc (emax f)) (2 ^ l) ∙ sym (pow-add 2 l (suc (emax f)))))
    (mul-lt-mul_of_pos_right c (pow_pos l)))))
    p.1

value_fits : (f : Format) (s : Bool) (m : ℕ) (e : ℤ) → T (fits f (fin s m e)) → HasValue (round f s (m * up e) (down e)) s (m * up e) (down e)
unfolding fits
value_fits f s zero e t = round_exact f s (0 * up e) (down e) 0 0 (down_pos e) (pow_pos (prec f)) (pow_pos (low f + suc (emax f))) (simp zero-mul)
value_fits f s (suc m) e t =
    let A = eqb (suc m % 2) 1 in
    let B = ltb (suc m) (2 ^ prec f) in
    let C = leb (down e) (2 ^ low f) in
    let D = ltb (suc m * up e) (2 ^ suc (emax f) * down e) in
    value f s (suc m) e
    (ltb→lt (suc m) (2 ^ prec f) (and_r A B (and_l (A && B) C (and_l (A && B && C) D t))))
    (leb→le (down e) (2 ^ low f) (and_r (A && B) C (and_l (A && B && C) D t)))
    (ltb→lt (suc m * up e) (2 ^ suc (emax f) * down e) (and_r (A && B && C) D t))

pub round_back : (f : Format) (s : Bool) (m : ℕ) (e : ℤ) → T (fits f (fin s m e)) → round f s (m * up e) (down e) ≡ fin s m e
round_back f s m e h = value_unique f (round f s (m * up e) (down e)) (fin s m e) s (m * up e) (down e) (round-fits f s (m * up e) (down e)) h (down_pos e) (value_fits f s m e h) (refl, refl)
