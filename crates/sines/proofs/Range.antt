-- A float from -16 to 16: its size, and what that is in units of 2^-40. Assumes nothing.
use Rattle.std.proofs.Common.{◌≡◌, ℕ, ◌*◌, ◌/◌, ◌<◌, ◌≤◌, Bool, true, false, cond, not, ◌&&◌, ◌||◌, T, eqb, ltb, ◌⊎◌, ℤ, sym, subst, inl, inr, le_trans, le_of_eq, le_of_lt, div-mul-le_self, le_of_mul-le-mul_right, arith, eqb→eq, ltb→lt}
use lib.Ieee.Fits.{and_l, and_r, down_pos}
use lib.Ieee.{Float, nan, inf, fin, up, down, neg, lt, le}
use lib.Ieee.Scale.{finite}
use Rattle.bits.specs.Parts.{places}
use Rattle.bits.proofs.Wide.{or_le}
use Rattle.sines.specs.Sines.{sixteen, in_range, plus_zero, absf}

or_split : (a b : Bool) → T (a || b) → T a ⊎ T b
or_split true b t = inl tt
or_split false b t = inr t

at_most' : (a b : ℕ) (r : Bool) → T (ltb a b || (eqb b a && r)) → a ≤ b
at_most' a b r t = elim (or_split (ltb a b) (eqb b a && r) t) [ inl u ↦ le_of_lt (ltb→lt a b u) | inr u ↦ le_of_eq (sym (eqb→eq b a (and_l (eqb b a) r u))) ]

-- ---- within ±16
pub range_hi : (s : Bool) (m : ℕ) (e : ℤ) → T (in_range (fin s m e)) → m * up e ≤ 16 * down e
unfolding le neg
range_hi true m e t = go (at_most' (m * up e * 1) (16 * down e) true (and_l (le (neg sixteen) (fin true m e)) (le (fin true m e) sixteen) t))
  where
    go : m * up e * 1 ≤ 16 * down e → m * up e ≤ 16 * down e
    go h = omega arith
range_hi false m e t = go (or_le (m * up e * 1) (16 * down e) true (and_r (le (neg sixteen) (fin false m e)) (le (fin false m e) sixteen) t))
  where
    go : m * up e * 1 ≤ 16 * down e → m * up e ≤ 16 * down e
    go h = omega arith

pub no_nan : T (in_range nan) → ⊥
unfolding le neg
no_nan t = t

pub no_inf : (s : Bool) → T (in_range (inf s)) → ⊥
unfolding le neg
no_inf true t = t
no_inf false t = t

-- ---- the size of x, in units of 2^-40
places_le : (n d : ℕ) → 0 < d → n ≤ 16 * d → n * 1099511627776 / d ≤ 17592186044416
places_le n d dp h = le_of_mul-le-mul_right (le_trans (div-mul-le_self (n * 1099511627776) d) (go n d h)) dp
  where
    go : (n d : ℕ) → n ≤ 16 * d → n * 1099511627776 ≤ 17592186044416 * d
    go n d h = omega arith

pub fix_asks : (x a : Float) → T (in_range x) → a ≡ absf x → T (finite a) × (places 40 a ≤ 17592186044416)
unfolding absf neg places
fix_asks nan a r e = absurd (no_nan r)
fix_asks (inf s) a r e = absurd (no_inf s r)
fix_asks (fin s m x) a r e = subst (λ (z : Float). T (finite z) × (places 40 z ≤ 17592186044416)) (sym e) (go (lt (fin s m x) plus_zero))
  where
    go : (b : Bool) → T (finite (cond b (fin (not s) m x) (fin s m x))) × (places 40 (cond b (fin (not s) m x) (fin s m x)) ≤ 17592186044416)
    go true = (tt, places_le (m * up x) (down x) (down_pos x) (range_hi s m x r))
    go false = (tt, places_le (m * up x) (down x) (down_pos x) (range_hi s m x r))

pub below_word : (n : ℕ) → n ≤ 17592186044416 → n < 18446744073709551616
below_word n h = omega arith
