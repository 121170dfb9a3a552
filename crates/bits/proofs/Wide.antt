-- The bit pattern of a binary64 from 2^-60 to below 2: its 53 digits are a whole number, and the value is that number over a power of two. Assumes nothing.
use mathlib.Core.Path.{◌≡◌, refl, sym, ap, ◌∙◌, subst}
use Prim.Native.Nat.{ℕ, zero, suc, ◌+◌, ◌-◌, ◌*◌, ◌/◌, ◌%◌, ◌^◌, ◌≤◌, ◌<◌}
use native.Mathlib.Nat.{le_trans, le_of_eq, lt_of_lt_of_le, lt_of_le_of_lt, mul-one, one-mul, mul_assoc, mul-le-mul_left, mul-le-mul_right, mul-lt-mul_of_pos_right, le_of_mul-le-mul_right, lt_of_mul-lt-mul_right, lt_irrefl}
use native.Mathlib.Omega.{arith}
use mathlib.Core.Bool.{Bool, true, false, not, cond, ◌&&◌, ◌||◌, true≢false}
use lib.IntN.{ℤ, pos, negsuc}
use lib.Dec.{T, leb, ltb, eqb, ltb→lt, eqb→eq, nleb→lt, not_T, lit≤}
use lib.Pow.{pow-add, pow_pos}
use lib.Ieee.{Float, nan, inf, fin, binary32, binary64, up, down, round, odd, fits, le, lt, of_fields, of_bits, to_bits, is_nan}
use lib.Ieee.Bits.{is_true, cond_no, of_bits-to_bits}
use lib.Ieee.Fits.{down_pos, eq→eqb}
use lib.Ieee.Exact.{HasValue, odd_sign}
use lib.Ieee.Scale.{round_same}
use Rattle.bits.specs.Parts.{narrowed}
use Rattle.bits.proofs.Rounding.{pow_lt_back}

-- ---- what the two tests say
pub record Unit (w : Float) : Type 0 where
  pub m : ℕ
  pub e : ℤ
  pub is : w ≡ fin false m e
  pub least : down e ≤ m * up e * 2 ^ 60
  pub below : m * up e < 2 * down e

pub or_le : (a b : ℕ) (r : Bool) → T (ltb a b || (eqb a b && r)) → a ≤ b
or_le a b r t = go (ltb a b) (eqb a b) (ltb→lt a b) (eqb→eq a b) t
  where
    go : (p q : Bool) → (T p → a < b) → (T q → a ≡ b) → T (p || (q && r)) → a ≤ b
    go true q f g t = native.Mathlib.Nat.le_of_lt (f tt)
    go false true f g t = le_of_eq (g tt)
    go false false f g t = absurd t

pub unit_of : (w : Float) → T (le (fin false 1 (negsuc 59)) w) → T (lt w (fin false 1 (pos 1))) → Unit w
unfolding le lt
unit_of nan l h = absurd l
unit_of (inf true) l h = absurd l
unit_of (inf false) l h = absurd h
unit_of (fin true m e) l h = absurd (go (eqb (1 * down e) (m * up e * 2 ^ 60)) (eqb (1 * down e) 0) (eqb→eq (1 * down e) 0) l)
  where
    none : (d : ℕ) → 0 < d → 1 * d ≡ 0 → ⊥
    none d p q = omega arith

    go : (p q : Bool) → (T q → 1 * down e ≡ 0) → T (p && q) → ⊥
    go true true f t = none (down e) (down_pos e) (f tt)
    go true false f t = t
    go false q f t = t
unit_of (fin false m e) l h = record {
  m = m;
  e = e;
  is = refl;
  least = le_trans (le_of_eq (sym (one-mul (down e)))) (or_le (1 * down e) (m * up e * 2 ^ 60) true l);
  below = lt_of_le_of_lt (le_of_eq (sym (mul-one (m * up e)))) (lt_of_lt_of_le (ltb→lt (m * up e * 1) (1 * 2 ^ 1 * down e) h) (le_of_eq (two (down e))));
}
  where
    two : (d : ℕ) → 2 * d ≡ 2 * d
    two d = refl

-- ---- the fields
as_fields : (w : Float) → T (fits binary64 w) → w ≡ of_fields binary64 (leb 9223372036854775808 (to_bits binary64 w)) (to_bits binary64 w % 9223372036854775808 / 4503599627370496) (to_bits binary64 w % 4503599627370496)
unfolding of_bits
as_fields w F = sym (of_bits-to_bits binary64 w F)

value_zero : (s : Bool) (t : ℕ) → HasValue (of_fields binary64 s 0 t) s (t * 2 ^ 0) (2 ^ 1074)
unfolding of_fields
value_zero s t = odd_sign 53 s t 0 1074

value_middle : (s : Bool) (z t : ℕ) → suc z < 2047 → HasValue (of_fields binary64 s (suc z) t) s ((4503599627370496 + t) * 2 ^ z) (2 ^ 1074)
unfolding of_fields
value_middle s z t h = subst (λ (v : Float). HasValue v s ((4503599627370496 + t) * 2 ^ z) (2 ^ 1074)) (sym (cond_no (eqb (suc z) 2047) (cond (eqb t 0) (inf s) nan) (odd 53 s (4503599627370496 + t) z 1074) (not_T (eqb (suc z) 2047) (λ (u : T (eqb (suc z) 2047)). differ z h (eqb→eq (suc z) 2047 u))))) (odd_sign 53 s (4503599627370496 + t) z 1074)
  where
    differ : (z : ℕ) → suc z < 2047 → suc z ≡ 2047 → ⊥
    differ z h e = omega arith

top_field : (s : Bool) (t m : ℕ) (e : ℤ) → fin false m e ≡ of_fields binary64 s 2047 t → ⊥
unfolding of_fields
top_field s t m e q = go (eqb t 0) q
  where
    is_fin : Float → Bool
    is_fin nan = false
    is_fin (inf s) = false
    is_fin (fin s m e) = true

    go : (b : Bool) → fin false m e ≡ cond b (inf s) nan → ⊥
    go true q = true≢false (ap is_fin q)
    go false q = true≢false (ap is_fin q)

-- ---- the exponent's range
-- x C ≡ M P d, d ≤ x A: C ≤ M P A
raise : (x d C N A : ℕ) → 0 < d → x * C ≡ N * d → d ≤ x * A → C ≤ N * A
raise x d C N A dp e h = le_of_mul-le-mul_right (le_trans (mul-le-mul_left C h) (le_of_eq (g1 ∙ ap (λ (z : ℕ). z * A) e ∙ g2))) dp
  where
    g1 : C * (x * A) ≡ x * C * A
    g1 = omega arith

    g2 : N * d * A ≡ N * A * d
    g2 = omega arith

lower : (x d C N A : ℕ) → 0 < C → x * C ≡ N * d → x < A * d → 0 < d → N < A * C
lower x d C N A cp e h dp = lt_of_mul-lt-mul_right d (lt_of_le_of_lt (le_of_eq (sym e)) (lt_of_lt_of_le (mul-lt-mul_of_pos_right h cp) (le_of_eq g1)))
  where
    g1 : A * d * C ≡ A * C * d
    g1 = omega arith

-- what the code reads off the pattern
pub record Read (w : Float) : Type 0 where
  pub field_low : 963 ≤ to_bits binary64 w / 4503599627370496
  pub field_high : to_bits binary64 w / 4503599627370496 ≤ 1023
  pub value : HasValue w false (4503599627370496 + to_bits binary64 w % 4503599627370496) (2 ^ (1075 - to_bits binary64 w / 4503599627370496))

module _ (m : ℕ) (e : ℤ) (lo : down e ≤ m * up e * 2 ^ 60) (hi : m * up e < 2 * down e) where
  no_zero : (s : Bool) (t : ℕ) → t < 4503599627370496 → fin false m e ≡ of_fields binary64 s 0 t → ⊥
  no_zero s t tl q =
      let v : HasValue (fin false m e) s (t * 2 ^ 0) (2 ^ 1074) = subst (λ (w : Float). HasValue w s (t * 2 ^ 0) (2 ^ 1074)) (sym q) (value_zero s t) in
      lt_irrefl (2 ^ 1074) (lt_of_le_of_lt (raise (m * up e) (down e) (2 ^ 1074) (t * 2 ^ 0) (2 ^ 60) (down_pos e) v.1 lo)
      (lt_of_le_of_lt (mul-le-mul_right (2 ^ 60) (le_of_eq (mul-one t))) (lt_of_lt_of_le (mul-lt-mul_of_pos_right tl (pow_pos 60)) (lit≤ tt))))

  middle : (s : Bool) (z t : ℕ) → t < 4503599627370496 → suc z < 2047 → fin false m e ≡ of_fields binary64 s (suc z) t → (s ≡ false) × ((962 ≤ z) × ((z ≤ 1022) × HasValue (fin false m e) false (4503599627370496 + t) (2 ^ (1074 - z))))
  middle s z t tl zl q =
      let M = 4503599627370496 + t in
      let v : HasValue (fin false m e) s (M * 2 ^ z) (2 ^ 1074) = subst (λ (w : Float). HasValue w s (M * 2 ^ z) (2 ^ 1074)) (sym q) (value_middle s z t zl) in
      let l1 : 2 ^ 1074 ≤ M * 2 ^ z * 2 ^ 60 = raise (m * up e) (down e) (2 ^ 1074) (M * 2 ^ z) (2 ^ 60) (down_pos e) v.1 lo in
      let l2 : 2 ^ 1074 < 2 ^ (53 + (z + 60)) = lt_of_le_of_lt l1 (lt_of_le_of_lt (le_of_eq (mul_assoc M (2 ^ z) (2 ^ 60) ∙ ap (λ (n : ℕ). M * n) (sym (pow-add 2 z 60)))) (lt_of_lt_of_le (mul-lt-mul_of_pos_right {m = M} {n = 2 ^ 53} (small t tl) (pow_pos (z + 60))) (le_of_eq (sym (pow-add 2 53 (z + 60)))))) in
      let h1 : M * 2 ^ z < 2 * 2 ^ 1074 = lower (m * up e) (down e) (2 ^ 1074) (M * 2 ^ z) 2 (pow_pos 1074) v.1 hi (down_pos e) in
      let h2 : 2 ^ (52 + z) < 2 ^ 1075 = lt_of_le_of_lt (le_trans (le_of_eq (pow-add 2 52 z)) (mul-le-mul_right {m = 2 ^ 52} {n = M} (2 ^ z) (big t))) (lt_of_lt_of_le h1 (lit≤ tt)) in
      let z1 : 962 ≤ z = f1 z (pow_lt_back 1074 (53 + (z + 60)) l2) in
      let z2 : z ≤ 1022 = f2 z (pow_lt_back (52 + z) 1075 h2) in
      (sym v.0, (z1, (z2, (refl, native.Mathlib.Nat.eq_of_mul-eq-mul_right (2 ^ z) (pow_pos z) _ _ (g1 (m * up e) (2 ^ (1074 - z)) (2 ^ z) ∙ ap (λ (n : ℕ). m * up e * n) (sym (pow-add 2 (1074 - z) z) ∙ ap (λ (n : ℕ). 2 ^ n) (back z z2)) ∙ v.1 ∙ g2 M (2 ^ z) (down e))))))
    where
      small : (t : ℕ) → t < 4503599627370496 → 4503599627370496 + t < 9007199254740992
      small t h = omega arith

      big : (t : ℕ) → 4503599627370496 ≤ 4503599627370496 + t
      big t = omega arith

      f1 : (z : ℕ) → 1074 < 53 + (z + 60) → 962 ≤ z
      f1 z h = omega arith

      f2 : (z : ℕ) → 52 + z < 1075 → z ≤ 1022
      f2 z h = omega arith

      back : (z : ℕ) → z ≤ 1022 → 1074 - z + z ≡ 1074
      back z h = omega arith

      g1 : (x a b : ℕ) → x * a * b ≡ x * (a * b)
      g1 x a b = omega arith

      g2 : (x a d : ℕ) → x * a * d ≡ x * d * a
      g2 x a d = omega arith

-- by the field z of the pattern b
by_field : (m : ℕ) (e : ℤ) (b z : ℕ) → down e ≤ m * up e * 2 ^ 60 → m * up e < 2 * down e → b % 9223372036854775808 / 4503599627370496 ≡ z → fin false m e ≡ of_fields binary64 (leb 9223372036854775808 b) z (b % 4503599627370496)
    → (963 ≤ b / 4503599627370496) × ((b / 4503599627370496 ≤ 1023) × HasValue (fin false m e) false (4503599627370496 + b % 4503599627370496) (2 ^ (1075 - b / 4503599627370496)))
by_field m e b zero lo hi ez q = absurd (no_zero m e lo hi (leb 9223372036854775808 b) (b % 4503599627370496) (cut b) q)
  where
    cut : (b : ℕ) → b % 4503599627370496 < 4503599627370496
    cut b = omega arith
by_field m e b (suc z) lo hi ez q = go (eqb (suc z) 2047) (eqb→eq (suc z) 2047) refl
  where
    cut : (b : ℕ) → b % 4503599627370496 < 4503599627370496
    cut b = omega arith

    cap : (b z : ℕ) → b % 9223372036854775808 / 4503599627370496 ≡ z → z < 2048
    cap b z h = omega arith

    less : (z : ℕ) → suc z < 2048 → (suc z ≡ 2047 → ⊥) → suc z < 2047
    less z h k = omega arith

    same : (b z : ℕ) → b < 9223372036854775808 → b % 9223372036854775808 / 4503599627370496 ≡ suc z → suc z ≡ b / 4503599627370496
    same b z h k = omega arith

    first : (z : ℕ) → 962 ≤ z → 963 ≤ suc z
    first z h = omega arith

    last : (z : ℕ) → z ≤ 1022 → suc z ≤ 1023
    last z h = omega arith

    rest : (z : ℕ) → 1074 - z ≡ 1075 - suc z
    rest z = omega arith

    go : (c : Bool) → (T c → suc z ≡ 2047) → eqb (suc z) 2047 ≡ c → (963 ≤ b / 4503599627370496) × ((b / 4503599627370496 ≤ 1023) × HasValue (fin false m e) false (4503599627370496 + b % 4503599627370496) (2 ^ (1075 - b / 4503599627370496)))
    go true f k = absurd (top_field (leb 9223372036854775808 b) (b % 4503599627370496) m e (q ∙ ap (λ (n : ℕ). of_fields binary64 (leb 9223372036854775808 b) n (b % 4503599627370496)) (f tt)))
    go false f k =
        let zl : suc z < 2047 = less z (cap b (suc z) ez) (λ (j : suc z ≡ 2047). true≢false (sym (is_true (eqb (suc z) 2047) (eq→eqb j)) ∙ k)) in
        let r = middle m e lo hi (leb 9223372036854775808 b) z (b % 4503599627370496) (cut b) zl q in
        let bl : b < 9223372036854775808 = nleb→lt 9223372036854775808 b (subst (λ (c : Bool). T (not c)) (sym r.0) tt) in
        let eq = same b z bl ez in
        (subst (λ (n : ℕ). 963 ≤ n) eq (first z r.1.0), (subst (λ (n : ℕ). n ≤ 1023) eq (last z r.1.1.0), subst (λ (n : ℕ). HasValue (fin false m e) false (4503599627370496 + b % 4503599627370496) (2 ^ n)) (rest z ∙ ap (λ (n : ℕ). 1075 - n) eq) r.1.1.1))

pub read : (w : Float) → T (fits binary64 w) → Unit w → Read w
read w F u =
    let r = by_field u.m u.e (to_bits binary64 w) (to_bits binary64 w % 9223372036854775808 / 4503599627370496) u.least u.below refl (sym u.is ∙ as_fields w F) in
    record { field_low = r.0; field_high = r.1.0; value = subst (λ (v : Float). HasValue v false (4503599627370496 + to_bits binary64 w % 4503599627370496) (2 ^ (1075 - to_bits binary64 w / 4503599627370496))) (sym u.is) r.1.1 }

pub no_nan : (w : Float) → Unit w → T (not (is_nan w))
unfolding is_nan
no_nan w u = subst (λ (v : Float). T (not (is_nan v))) (sym u.is) tt

-- the same fraction, rounded
pub narrow_is : (s : Bool) (w : Float) (M k : ℕ) (r : Float) → HasValue w false M (2 ^ k) → r ≡ round binary32 s M (2 ^ k) → r ≡ narrowed s w
unfolding narrowed
narrow_is s nan M k r v e = absurd v
narrow_is s (inf t) M k r v e = absurd v
narrow_is s (fin t m x) M k r v e = e ∙ round_same binary32 s M (2 ^ k) (m * up x) (down x) (pow_pos k) (down_pos x) (sym v.1)
