-- The sizes of y and x, and their ratio: what the code asks on the way. Assumes nothing.
use Rattle.std.proofs.Common.{◌≡◌, ℕ, zero, suc, ◌+◌, ◌*◌, ◌<◌, ◌≤◌, Bool, true, false, cond, not, ◌&&◌, ◌||◌, T, eqb, ltb, ℤ, pos, sym, refl, ap, ◌∙◌, subst, ap₂, subst₂, true≢false, zero-lt-suc, mul-pos, arith, eqb→eq, ltb-false, le-ltb, lt-ltb}
use mathlib.Core.Bool.{beq}
use lib.Dec.{not_T}
use lib.Ieee.Bits.{is_true, is_false}
use lib.Ieee.{fin, up, down, lt, eq, nan, inf, binary32, round, div, le, Float, mul}
use lib.Ieee.Fits.{up_pos, eq→eqb, down_pos}
use Rattle.floats.specs.Floats.{abs_of}
use Rattle.sines.specs.Sines.{plus_zero}
use Rattle.angles.specs.Arc.{ratio_of, usable}
use Rattle.bits.proofs.Wide.{or_le}
use Rattle.angles.proofs.Ratio.{half_turn, Quotient, quotient}

-- ---- signs and sizes
pub lt_zero : (s : Bool) (m : ℕ) (e : ℤ) → 0 < m → lt (fin s m e) plus_zero ≡ s
unfolding lt
lt_zero true m e h = lt-ltb 0 (m * up e * 1 + 0 * down e) (go (m * up e) (down e) (mul-pos h (up_pos e)))
  where
    go : (n d : ℕ) → 0 < n → 0 < n * 1 + 0 * d
    go n d h = omega arith
lt_zero false m e h = le-ltb (m * up e * 1) (0 * down e) (go (m * up e) (down e))
  where
    go : (n d : ℕ) → 0 * d ≤ n * 1
    go n d = omega arith

pub zero_lt : (s : Bool) (e : ℤ) → lt (fin s 0 e) plus_zero ≡ false
unfolding lt
zero_lt true e = le-ltb 0 (0 * up e * 1 + 0 * down e) (go (up e) (down e))
  where
    go : (n d : ℕ) → 0 * n * 1 + 0 * d ≤ 0
    go n d = omega arith
zero_lt false e = le-ltb (0 * up e * 1) (0 * down e) (go (up e) (down e))
  where
    go : (n d : ℕ) → 0 * d ≤ 0 * n * 1
    go n d = omega arith

pub not_zero : (s : Bool) (m : ℕ) (e : ℤ) → 0 < m → eq (fin s m e) plus_zero ≡ false
unfolding eq
not_zero s m e h = ap (λ (b : Bool). b && (beq s false || eqb (m * up e * 1) 0)) (is_false (eqb (m * up e * 1) (0 * down e)) (not_T (eqb (m * up e * 1) (0 * down e)) (λ (t : T (eqb (m * up e * 1) (0 * down e))). no (m * up e) (down e) (mul-pos h (up_pos e)) (eqb→eq (m * up e * 1) (0 * down e) t))))
  where
    no : (n d : ℕ) → 0 < n → n * 1 ≡ 0 * d → ⊥
    no n d h e = omega arith

pub is_zero : (s : Bool) (e : ℤ) → eq (fin s 0 e) plus_zero ≡ true
unfolding eq
is_zero s e = ap₂ (λ (a b : Bool). a && (beq s false || b)) (is_true (eqb (0 * up e * 1) (0 * down e)) (eq→eqb (g1 (up e) (down e)))) (is_true (eqb (0 * up e * 1) 0) (eq→eqb (g2 (up e)))) ∙ go s
  where
    g1 : (n d : ℕ) → 0 * n * 1 ≡ 0 * d
    g1 n d = omega arith

    g2 : (n : ℕ) → 0 * n * 1 ≡ 0
    g2 n = omega arith

    go : (s : Bool) → true && (beq s false || true) ≡ true
    go true = refl
    go false = refl

-- ---- the ratio, as a rounded fraction
pub div_fin : (m : ℕ) (e : ℤ) (n : ℕ) (d : ℤ) → 0 < n → div binary32 (fin false m e) (fin false n d) ≡ round binary32 false (m * up e * down d) (n * up d * down e)
unfolding div
div_fin m e n d h = ap (λ (b : Bool). cond b (cond (eqb m 0) nan (inf false)) (round binary32 false (m * up e * down d) (n * up d * down e))) (is_false (eqb n 0) (not_T (eqb n 0) (λ (t : T (eqb n 0)). no n h (eqb→eq n 0 t))))
  where
    no : (n : ℕ) → 0 < n → n ≡ 0 → ⊥
    no n h e = omega arith

pub le_true : (m : ℕ) (e : ℤ) (n : ℕ) (d : ℤ) → le (fin false m e) (fin false n d) ≡ true → m * up e * down d ≤ n * up d * down e
unfolding le
le_true m e n d h = or_le (m * up e * down d) (n * up d * down e) true (subst T (sym h) tt)

pub le_false : (m : ℕ) (e : ℤ) (n : ℕ) (d : ℤ) → le (fin false m e) (fin false n d) ≡ false → n * up d * down e ≤ m * up e * down d
unfolding le
le_false m e n d h = ltb-false (m * up e * down d) (n * up d * down e) (or_false (ltb (m * up e * down d) (n * up d * down e)) _ h)
  where
    or_false : (a b : Bool) → a || b ≡ false → a ≡ false
    or_false true b h = h
    or_false false b h = refl

-- ---- x zero, of either sign
pub le_zero : (m : ℕ) (e d : ℤ) → 0 < m → le (fin false m e) (fin false 0 d) ≡ false
le_zero m e d h = go (le (fin false m e) (fin false 0 d)) refl
  where
    none : (a u v : ℕ) → 0 < a → a ≤ 0 * u * v → ⊥
    none a u v h k = omega arith

    go : (b : Bool) → le (fin false m e) (fin false 0 d) ≡ b → b ≡ false
    go true k = absurd (none (m * up e * down d) (up d) (down e) (mul-pos (mul-pos h (up_pos e)) (down_pos d)) (le_true m e 0 d k))
    go false k = refl

-- ---- what the code asks on the way
pub record Asks (lo big : Float) : Type 0 where
  pub above : T (lt (fin true 1 (pos 0)) (mul binary32 (div binary32 lo big) half_turn))
  pub below : T (lt (mul binary32 (div binary32 lo big) half_turn) (fin false 1 (pos 64)))
  pub top : ratio_of lo big ≤ 2147484168

pub ratio_near : (m : ℕ) (e : ℤ) (n : ℕ) (d : ℤ) → 0 < n → m * up e * down d ≤ n * up d * down e → Quotient (mul binary32 (div binary32 (fin false m e) (fin false n d)) half_turn) (m * up e * down d) (n * up d * down e)
ratio_near m e n d h le = subst (λ (z : Float). Quotient (mul binary32 z half_turn) (m * up e * down d) (n * up d * down e)) (sym (div_fin m e n d h)) (quotient (m * up e * down d) (n * up d * down e) (mul-pos (mul-pos h (up_pos d)) (down_pos e)) le)

asks : (m : ℕ) (e : ℤ) (n : ℕ) (d : ℤ) → 0 < n → m * up e * down d ≤ n * up d * down e → Asks (fin false m e) (fin false n d)
unfolding ratio_of
asks m e n d h le =
    let r = ratio_near m e n d h le in
    record { above = r.above; below = r.below; top = r.top }

pub record Sides (y x : Float) : Type 0 where
  pub flat_asks : le (abs_of y) (abs_of x) ≡ true → Asks (abs_of y) (abs_of x)
  pub steep_asks : le (abs_of y) (abs_of x) ≡ false → Asks (abs_of x) (abs_of y)

pub nonzero : (s : Bool) (m : ℕ) (e : ℤ) → T (not (eq (fin s m e) plus_zero)) → 0 < m
nonzero s zero e t = absurd (subst (λ (b : Bool). T (not b)) (is_zero s e) t)
nonzero s (suc m) e t = zero-lt-suc m

sides : (sy : Bool) (my : ℕ) (ey : ℤ) (sx : Bool) (mx : ℕ) (ex : ℤ) → 0 < my → Sides (fin sy my ey) (fin sx mx ex)
unfolding abs_of
sides sy my ey sx zero ex yp = record {
  flat_asks = λ (h : le (fin false my ey) (fin false 0 ex) ≡ true). absurd (true≢false (sym h ∙ le_zero my ey ex yp));
  steep_asks = λ (h : le (fin false my ey) (fin false 0 ex) ≡ false). asks 0 ex my ey yp (le_false my ey 0 ex h);
}
sides sy my ey sx (suc mx) ex yp = record {
  flat_asks = λ (h : le (fin false my ey) (fin false (suc mx) ex) ≡ true). asks my ey (suc mx) ex (zero-lt-suc mx) (le_true my ey (suc mx) ex h);
  steep_asks = λ (h : le (fin false my ey) (fin false (suc mx) ex) ≡ false). asks (suc mx) ex my ey yp (le_false my ey (suc mx) ex h);
}

pub sides_of : (y x : Float) → T (usable y x) → Sides y x
sides_of nan x t = absurd t
sides_of (inf s) x t = absurd t
sides_of (fin sy my ey) nan t = absurd t
sides_of (fin sy my ey) (inf s) t = absurd t
sides_of (fin sy my ey) (fin sx mx ex) t = sides sy my ey sx mx ex (nonzero sy my ey t)

pub flat_of_lem : (y x p q : Float) → T (usable y x) → p ≡ abs_of y → q ≡ abs_of x → le p q ≡ true → Asks p q
flat_of_lem y x p q t ep eq' h = subst₂ (λ (u v : Float). Asks u v) (sym ep) (sym eq') ((sides_of y x t).flat_asks (sym (ap₂ (λ (u v : Float). le u v) ep eq') ∙ h))

pub steep_of : (y x p q : Float) → T (usable y x) → p ≡ abs_of y → q ≡ abs_of x → le p q ≡ false → Asks q p
steep_of y x p q t ep eq' h = subst₂ (λ (u v : Float). Asks u v) (sym eq') (sym ep) ((sides_of y x t).steep_asks (sym (ap₂ (λ (u v : Float). le u v) ep eq') ∙ h))
