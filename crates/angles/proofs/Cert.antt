-- The certified guess: what the code asks on the way, and the steps, branch by branch. Assumes nothing.
use Rattle.std.proofs.Common.{◌≡◌, ℕ, zero, suc, ◌*◌, ◌/◌, ◌<◌, ◌≤◌, Bool, true, false, cond, not, T, ℤ, sym, ap, ◌∙◌, subst, ap₂, true≢false, le_trans, zero-lt-suc, div-mul-le_self, le_of_mul-le-mul_right, arith}
use lib.Ieee.{Float, fin, up, down, nan, inf, lt, le, neg}
use lib.Ieee.Fits.{down_pos}
use lib.Ieee.Scale.{finite}
use Rattle.floats.specs.Floats.{abs_of}
use Rattle.bits.specs.Parts.{places}
use Rattle.sines.specs.Sines.{plus_zero}
use Rattle.bits.proofs.Wide.{or_le}
use Rattle.angles.proofs.Sides.{lt_zero, zero_lt}
use Rattle.angles.specs.Arc.{signed_pi32, grid_test, cert_of, ratio_of, slope_of, arc_steps, best_steps}
use Rattle.angles.specs.Guess.{arc_guess}

-- ---- the size of a float is not below zero
pub size_not : (x r : Float) → r ≡ abs_of x → T (not (lt r plus_zero))
unfolding abs_of
size_not x r e = subst (λ (z : Float). T (not (lt z plus_zero))) (sym e) (go x)
  where
    go : (x : Float) → T (not (lt (abs_of x) plus_zero))
    go nan = unfold lt in tt
    go (inf s) = unfold lt in tt
    go (fin s zero d) = subst (λ (b : Bool). T (not b)) (sym (zero_lt false d)) tt
    go (fin s (suc m) d) = subst (λ (b : Bool). T (not b)) (sym (lt_zero false (suc m) d (zero-lt-suc m))) tt

-- ---- an angle c from +0 to the f32 nearest π, in units of 2^-40
places_le : (n d : ℕ) → 0 < d → n * 4194304 ≤ 13176795 * d → n * 1099511627776 / d ≤ 17592186044416
places_le n d dp h = le_of_mul-le-mul_right (le_trans (div-mul-le_self (n * 1099511627776) d) (go n d h)) dp
  where
    go : (n d : ℕ) → n * 4194304 ≤ 13176795 * d → n * 1099511627776 ≤ 17592186044416 * d
    go n d h = omega arith

pub top_of : (m : ℕ) (e : ℤ) → le (fin false m e) (signed_pi32 false) ≡ true → m * up e * 4194304 ≤ 13176795 * down e
unfolding le
top_of m e k = go (or_le (m * up e * 4194304) (13176795 * 1 * down e) true (subst T (sym k) tt))
  where
    go : m * up e * 4194304 ≤ 13176795 * 1 * down e → m * up e * 4194304 ≤ 13176795 * down e
    go h = omega arith

pub fixed_asks : (c : Float) → T (not (lt c plus_zero)) → le c (signed_pi32 false) ≡ true → T (finite c) × (places 40 c ≤ 17592186044416)
unfolding places le lt
fixed_asks nan h k = absurd (true≢false (sym k))
fixed_asks (inf true) h k = absurd h
fixed_asks (inf false) h k = absurd (true≢false (sym k))
fixed_asks (fin true zero e) h k = (tt, places_le (0 * up e) (down e) (down_pos e) (none (up e) (down e)))
  where
    none : (u d : ℕ) → 0 * u * 4194304 ≤ 13176795 * d
    none u d = omega arith
fixed_asks (fin true (suc m) e) h k = absurd (subst (λ (b : Bool). T (not b)) (lt_zero true (suc m) e (zero-lt-suc m)) h)
fixed_asks (fin false m e) h k = (tt, places_le (m * up e) (down e) (down_pos e) (top_of m e k))

pub cert_yes : (back : Bool) (py px : ℕ) (c : Float) (X : ℕ) (r : Bool) → le c (signed_pi32 false) ≡ true → X ≡ places 40 c → r ≡ grid_test back py px X → r ≡ cert_of back py px c
unfolding cert_of
cert_yes back py px c X r k e f = f ∙ ap (λ (z : ℕ). grid_test back py px z) e ∙ sym (ap (λ (a : Bool). cond a (grid_test back py px (places 40 c)) false) k)

pub cert_far : (back : Bool) (py px : ℕ) (c : Float) → le c (signed_pi32 false) ≡ false → false ≡ cert_of back py px c
unfolding cert_of
cert_far back py px c k = sym (ap (λ (a : Bool). cond a (grid_test back py px (places 40 c)) false) k)

-- the steps, over what they read of y and x
abbrev pub body : Float → Float → Bool → Bool → Bool → Float → Float → Float
body y x b back s p q =
    let t = cond b (ratio_of p q) (ratio_of q p) in
    let c = abs_of (arc_guess back p q) in
    cond (cert_of back (cond b t 2147483648) (cond b 2147483648 t) c) (cond s (neg c) c) (arc_steps y x)

module _ (y x c : Float) (py px : ℕ) (back k : Bool) (e : back ≡ lt x plus_zero) (ey : py ≡ cond (le (abs_of y) (abs_of x)) (slope_of y x) 2147483648)
    (ex : px ≡ cond (le (abs_of y) (abs_of x)) 2147483648 (slope_of y x)) (ec : c ≡ abs_of (arc_guess (lt x plus_zero) (abs_of y) (abs_of x))) (ek : k ≡ cert_of back py px c) where
  whole_best : best_steps y x ≡ cond k (cond (lt y plus_zero) (neg c) c) (arc_steps y x)
  unfolding best_steps slope_of
  whole_best =
      ap (λ (v : Float). cond (cert_of (lt x plus_zero) (cond (le (abs_of y) (abs_of x)) (slope_of y x) 2147483648) (cond (le (abs_of y) (abs_of x)) 2147483648 (slope_of y x)) v) (cond (lt y plus_zero) (neg v) v) (arc_steps y x)) (sym ec)
      ∙ ap₂ (λ (b : Bool) (u : ℕ). cond (cert_of b u (cond (le (abs_of y) (abs_of x)) 2147483648 (slope_of y x)) c) (cond (lt y plus_zero) (neg c) c) (arc_steps y x)) (sym e) (sym ey)
      ∙ ap (λ (v : ℕ). cond (cert_of back py v c) (cond (lt y plus_zero) (neg c) c) (arc_steps y x)) (sym ex)
      ∙ ap (λ (u : Bool). cond u (cond (lt y plus_zero) (neg c) c) (arc_steps y x)) (sym ek)

  pub best_yes : k ≡ true → (r : Float) → r ≡ cond (lt y plus_zero) (neg c) c → r ≡ best_steps y x
  best_yes h r f = f ∙ sym (whole_best ∙ ap (λ (u : Bool). cond u (cond (lt y plus_zero) (neg c) c) (arc_steps y x)) h)

  pub best_no : k ≡ false → (r : Float) → r ≡ arc_steps y x → r ≡ best_steps y x
  best_no h r f = f ∙ sym (whole_best ∙ ap (λ (u : Bool). cond u (cond (lt y plus_zero) (neg c) c) (arc_steps y x)) h)
