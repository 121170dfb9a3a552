-- A binary64 that is about a fraction, rounded to binary32, is within 2^-20 of the fraction. Assumes nothing.
use mathlib.Core.Path.{◌≡◌, refl, sym, subst}
use mathlib.Core.Bool.{Bool, true, false, cond, true≢false}
use Prim.Native.Nat.{ℕ, ◌+◌, ◌*◌, ◌^◌, ◌≤◌, ◌<◌}
use native.Mathlib.Nat.{add-le-add, le_refl, le_trans, le_of_eq, lt_of_le_of_lt, lt_of_lt_of_le, mul-one, mul-pos, mul-le-mul_right, le_of_mul-le-mul_right, mul-lt-mul_of_pos_right}
use native.Mathlib.Omega.{arith}
use lib.Dec.{T, ltb→lt, lit≤}
use lib.Pow.{pow_pos}
use lib.IntN.{ℤ, pos, negsuc}
use lib.Ieee.{Float, nan, inf, fin, binary32, up, down, round, neg, le, lt}
use lib.Ieee.Fits.{down_pos}
use lib.Ieee.Exact.{HasValue}
use lib.Ieee.Scale.{grid}
use Rattle.floats.proofs.Sign.{round_neg}
use Rattle.bits.specs.Parts.{narrowed}
use Rattle.sines.specs.Steps.{dist}
use Rattle.sines.specs.Sines.{plus_zero, single}
use Rattle.angles.proofs.Rounding.{Off, grid_off, rounded}
use borrow.Author.Tests.{ltb-false}
use Rattle.angles.proofs.Sides.{le_false}
use Rattle.angle_laws.specs.Angle.{Ratio, close_to}
use Rattle.angle_laws.proofs.About.{K, About, chain_low, chain_high}

abbrev pub ratio : Bool → ℕ → ℕ → Ratio
ratio s t b = record { neg = s; top = t; bot = b }

-- in units of 2^-23
coarse : (x y z : ℕ) → x * 4294967296 ≤ y * 4294967296 + 2983 * z → x * 8388608 ≤ y * 8388608 + 6 * z
coarse x y z h = omega arith

-- eight units of 2^-23 are 2^-20
eight : (x y z : ℕ) → x * 8388608 ≤ y * 8388608 + 7 * z → y * 8388608 ≤ x * 8388608 + 7 * z → dist x y * 1048576 ≤ z
eight x y z a b = omega arith

-- the rounded value g / 2^149 of A / B, where that is about t / b
near_value : (y : Float) (s : Bool) (g A B t b : ℕ) → 0 < B → HasValue y false g (2 ^ 149) → Off (g * B) (A * 2 ^ 149) (2 ^ 126 * B) → A * b * K ≤ t * B * K + 2983 * (B * b) → t * B * K ≤ A * b * K + 2983 * (B * b) → close_to 1048576 (cond s (neg y) y) (ratio s t b)
unfolding close_to neg
near_value nan s g A B t b bp v o lo hi = absurd v
near_value (inf r) s g A B t b bp v o lo hi = absurd v
near_value (fin true m e) s g A B t b bp v o lo hi = absurd (true≢false v.0)
near_value (fin false m e) s g A B t b bp v o lo hi = go s
  where
    low : m * up e * b * 8388608 ≤ t * down e * 8388608 + (6 + 1) * (down e * b)
    low = chain_low (m * up e) (down e) g (2 ^ 149) (2 ^ 126) A B t b 8388608 6 (pow_pos 149) bp v.1 o.low' (lit≤ tt) (coarse (A * b) (t * B) (B * b) lo)

    high : t * down e * 8388608 ≤ m * up e * b * 8388608 + (6 + 1) * (down e * b)
    high = chain_high (m * up e) (down e) g (2 ^ 149) (2 ^ 126) A B t b 8388608 6 (pow_pos 149) bp v.1 o.high' (lit≤ tt) (coarse (t * B) (A * b) (B * b) hi)

    fin' : dist (m * up e * b) (t * down e) * 1048576 ≤ down e * b
    fin' = eight (m * up e * b) (t * down e) (down e * b) low high

    go : (s : Bool) → close_to 1048576 (cond s (neg (fin false m e)) (fin false m e)) (ratio s t b)
    go true = fin'
    go false = fin'

-- +0, where the fraction is less than 2984 units
near_zero : (s : Bool) (t b : ℕ) → t * K ≤ 2984 * b → close_to 1048576 plus_zero (ratio s t b)
unfolding close_to
near_zero true t b h = go t b h
  where
    go : (t b : ℕ) → t * K ≤ 2984 * b → (0 * b + t * 1) * 1048576 ≤ 1 * b
    go t b h = omega arith
near_zero false t b h = go t b h
  where
    go : (t b : ℕ) → t * K ≤ 2984 * b → dist (0 * b) (t * 1) * 1048576 ≤ 1 * b
    go t b h = omega arith

module _ (m : ℕ) (x : ℤ) (t b : ℕ) (bp : 0 < b) (tb : t ≤ b) (lo : m * up x * b * K ≤ t * down x * K + 2983 * (down x * b)) (hi : t * down x * K ≤ m * up x * b * K + 2983 * (down x * b)) where
  -- below 2: rounded
  kept : (s : Bool) → m * up x < 2 * down x → close_to 1048576 (narrowed s (fin false m x)) (ratio s t b)
  unfolding narrowed
  kept s l = subst (λ (y : Float). close_to 1048576 y (ratio s t b)) (sgn s)
      (near_value (round binary32 false (m * up x) (down x)) s (grid binary32 (m * up x) (down x)) (m * up x) (down x) t b (down_pos x) (rounded (m * up x) (down x) 126 (down_pos x) l2 (lit≤ tt)) (grid_off binary32 (m * up x) (down x) 126 (down_pos x) l2) lo hi)
    where
      l2 : m * up x * 2 ^ 149 < 2 ^ 150 * down x
      l2 = lt_of_lt_of_le (mul-lt-mul_of_pos_right l (pow_pos 149)) (le_of_eq (swap (down x) (2 ^ 149)))
        where
          swap : (d M : ℕ) → 2 * d * M ≡ 2 * M * d
          swap d M = omega arith

      sgn : (s : Bool) → cond s (neg (round binary32 false (m * up x) (down x))) (round binary32 false (m * up x) (down x)) ≡ round binary32 s (m * up x) (down x)
      sgn true = sym (round_neg binary32 (m * up x) (down x))
      sgn false = refl

  -- not below 2: never
  never : 2 * down x ≤ m * up x → ⊥
  never h = no (m * up x) (down x) b (mul-pos (down_pos x) bp) (mul-le-mul_right (b * K) h) lo (mul-le-mul_right (down x * K) tb)
    where
      no : (A B b : ℕ) → 0 < B * b → 2 * B * (b * K) ≤ A * (b * K) → A * b * K ≤ t * B * K + 2983 * (B * b) → t * (B * K) ≤ b * (B * K) → ⊥
      no A B b p u v w = fin' (A * b) (t * B) (B * b) p (f1 u) v (f2 w)
        where
          f1 : 2 * B * (b * K) ≤ A * (b * K) → 2 * (B * b) * K ≤ A * b * K
          f1 f = omega arith

          f2 : t * (B * K) ≤ b * (B * K) → t * B * K ≤ B * b * K
          f2 f = omega arith

          fin' : (x y z : ℕ) → 0 < z → 2 * z * K ≤ x * K → x * K ≤ y * K + 2983 * z → y * K ≤ z * K → ⊥
          fin' x y z p q r s = omega arith

  -- below 2^-60: +0 does
  tiny : m * up x * 2 ^ 60 ≤ 1 * down x → t * K ≤ 2984 * b
  tiny h = le_of_mul-le-mul_right {k = down x} (go (m * up x) (down x) hi (mul-le-mul_right b h)) (down_pos x)
    where
      go : (A B : ℕ) → t * B * K ≤ A * b * K + 2983 * (B * b) → A * 2 ^ 60 * b ≤ 1 * B * b → t * K * B ≤ 2984 * b * B
      go A B f g = le_trans (le_of_eq f2) (le_trans f (le_trans (add (f1 g)) (le_of_eq f3)))
        where
          f1 : A * 2 ^ 60 * b ≤ 1 * B * b → A * b * K ≤ B * b
          f1 f = omega arith

          f2 : t * K * B ≡ t * B * K
          f2 = omega arith

          f3 : B * b + 2983 * (B * b) ≡ 2984 * b * B
          f3 = omega arith

          add : A * b * K ≤ B * b → A * b * K + 2983 * (B * b) ≤ B * b + 2983 * (B * b)
          add h = add-le-add h (le_refl (2983 * (B * b)))

  pub near_fin : (s : Bool) → close_to 1048576 (single s (fin false m x)) (ratio s t b)
  unfolding single
  near_fin s = go (le (fin false 1 (negsuc 59)) (fin false m x)) (lt (fin false m x) (fin false 1 (pos 1))) refl refl
    where
      below : lt (fin false m x) (fin false 1 (pos 1)) ≡ true → m * up x < 2 * down x
      below h = unfold lt in lt_of_le_of_lt (le_of_eq (sym (mul-one (m * up x)))) (ltb→lt (m * up x * 1) (2 * down x) (subst T (sym h) tt))

      above : lt (fin false m x) (fin false 1 (pos 1)) ≡ false → 2 * down x ≤ m * up x
      above h = unfold lt in le_trans (ltb-false (m * up x * 1) (2 * down x) h) (le_of_eq (mul-one (m * up x)))

      go : (p q : Bool) → le (fin false 1 (negsuc 59)) (fin false m x) ≡ p → lt (fin false m x) (fin false 1 (pos 1)) ≡ q → close_to 1048576 (cond p (cond q (narrowed s (fin false m x)) plus_zero) plus_zero) (ratio s t b)
      go true true h k = kept s (below k)
      go true false h k = absurd (never (above k))
      go false q h k = near_zero s t b (tiny (le_false 1 (negsuc 59) m x h))

pub near_single : (v : Float) (t b e : ℕ) → 0 < b → t ≤ b → e ≤ 2983 → About v t b e → (s : Bool) → close_to 1048576 (single s v) (ratio s t b)
near_single v t b e bp tb el a s =
    subst (λ (y : Float). close_to 1048576 (single s y) (ratio s t b)) (sym a.is)
    (near_fin a.m a.x' t b bp tb
    (le_trans a.low (add-le-add (le_refl (t * down a.x' * K)) (mul-le-mul_right (down a.x' * b) el)))
    (le_trans a.high (add-le-add (le_refl (a.m * up a.x' * b * K)) (mul-le-mul_right (down a.x' * b) el))) s)
