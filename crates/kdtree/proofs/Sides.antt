-- Which side of a node's plane a query lies on, told by the rounded difference's sign: where the difference is a zero, no distance within the gap is above 0.
-- For any floats. Assumes nothing.
use mathlib.Core.Path.{◌≡◌, refl, sym, ◌∙◌, subst}
use mathlib.Core.Logic.{◌⊎◌, inl, inr}
use mathlib.Core.Bool.{Bool, true, false, not, ◌&&◌, cond}
use Prim.Native.Nat.{ℕ, ◌+◌, ◌-◌, ◌*◌, ◌≤◌, ◌<◌}
use native.Mathlib.Nat.{mul-pos}
use native.Mathlib.Omega.{arith}
use lib.IntN.{ℤ, pos}
use lib.Dec.{T, ltb}
use lib.Ieee.{Float, nan, inf, fin, binary32, up, down, round, neg, sum, sub, mul, lt, le, fits}
use lib.Ieee.Fits.{down_pos}
use Rattle.floats.specs.Floats.{zero32}
use Rattle.floats.proofs.Preorder.{le_nan, le_trans_f, not_lt→le}
use Rattle.floats.proofs.Sign.{nonneg, round_neg, round_nonneg, sq_round}
use Rattle.floats.proofs.Cross.{cross, le→cross, of_taken, of_left}
use Rattle.floats.proofs.Ops.{finite_number, zero_le_nonneg, neg_le, sub_flip, sub_nonneg, sq_mono}
use Rattle.floats.proofs.Ratio.{round_le}
use Rattle.points.specs.Points.{gap}
use Rattle.kdtree.proofs.OneProduct.{square_zero}
use Rattle.points.proofs.Gap.{gap_comm, gap_nan}

-- ---- at most 0, and its square too
abbrev Nil : Float → Type 0
Nil z = T (le z zero32) × T (le (mul binary32 z z) zero32)

square : (z : Float) → T (nonneg z) → T (le z zero32) → T (le (mul binary32 z z) zero32)
square z n h = subst (λ (w : Float). T (le (mul binary32 z z) w)) square_zero (sq_mono binary32 z zero32 n tt h)

negated : (z : Float) → T (nonneg z) → T (le (neg z) zero32)
negated z n = le_trans_f (neg z) (neg zero32) zero32 (neg_le zero32 z (zero_le_nonneg z n)) (unfold neg le in tt)

nil_round : (s : Bool) (a c : ℕ) → a ≡ 0 → 0 < c → Nil (round binary32 s a c)
nil_round s a c h C = (at_most s, subst (λ (z : Float). T (le z zero32)) (sym (sq_round binary32 s a c)) (square (round binary32 false a c) (round_nonneg binary32 a c) flat))
  where
    flat : T (le (round binary32 false a c) zero32)
    flat = round_le binary32 a c 0 (pos 0) C (unfold fits in tt) (omega arith)

    at_most : (s : Bool) → T (le (round binary32 s a c) zero32)
    at_most false = flat
    at_most true = subst (λ (z : Float). T (le z zero32)) (sym (round_neg binary32 a c)) (negated (round binary32 false a c) (round_nonneg binary32 a c))

-- ±a / c and ±b / c: both 0, or taken off each other
like : (s : Bool) (a b c : ℕ) → a + b ≡ 0 → 0 < c → Nil (sum binary32 s a s b c)
unfolding sum
like true a b c h C = nil_round true (a + b) c h C
like false a b c h C = nil_round false (a + b) c h C

pick : (b s t : Bool) (i j c : ℕ) → i ≡ 0 → j ≡ 0 → 0 < c → Nil (cond b (round binary32 s i c) (round binary32 t j c))
pick true s t i j c h k C = nil_round s i c h C
pick false s t i j c h k C = nil_round t j c k C

unlike : (s : Bool) (a b c : ℕ) → a ≡ b → 0 < c → Nil (sum binary32 s a (not s) b c)
unfolding sum
unlike true a b c h C = pick (ltb a b) false (true && ltb b a) (b - a) (a - b) c (omega arith) (omega arith) C
unlike false a b c h C = pick (ltb a b) true false (b - a) (a - b) c (omega arith) (omega arith) C

-- ---- finite x and v
level : (s : Bool) (m : ℕ) (e : ℤ) (t : Bool) (n : ℕ) (g : ℤ) → T (le (fin s m e) (fin t n g)) → T (le (fin t n g) (fin s m e)) → Nil (sub binary32 (fin s m e) (fin t n g))
unfolding sub
level s m e t n g h k = go s t (le→cross (fin s m e) (fin t n g) tt tt h) (le→cross (fin t n g) (fin s m e) tt tt k) (mul-pos (down_pos e) (down_pos g))
  where
    go : (s t : Bool) → cross (fin s m e) (fin t n g) ≤ cross (fin t n g) (fin s m e) → cross (fin t n g) (fin s m e) ≤ cross (fin s m e) (fin t n g) → 0 < down e * down g
        → Nil (sum binary32 s (m * up e * down g) (not t) (n * up g * down e) (down e * down g))
    go true true h k C = unlike true (m * up e * down g) (n * up g * down e) (down e * down g) (omega arith) C
    go true false h k C = like true (m * up e * down g) (n * up g * down e) (down e * down g) (omega arith) C
    go false true h k C = like false (m * up e * down g) (n * up g * down e) (down e * down g) (omega arith) C
    go false false h k C = unlike false (m * up e * down g) (n * up g * down e) (down e * down g) (omega arith) C

module _ (s : Bool) (m : ℕ) (e : ℤ) (t : Bool) (n : ℕ) (g : ℤ) where
  abbrev x : Float
  x = fin s m e

  abbrev v : Float
  v = fin t n g

  even : lt x v ≡ false → lt v x ≡ false → Nil (sub binary32 x v)
  even h k = level s m e t n g (not_lt→le v x (finite_number v tt) (finite_number x tt) (of_left k)) (not_lt→le x v (finite_number x tt) (finite_number v tt) (of_left h))

  left_finite : (d : Float) → le (sub binary32 x v) zero32 ≡ true → T (le d (gap v x)) → (lt x v ≡ true) ⊎ T (le d zero32)
  left_finite d h r = go (lt x v) (lt v x) refl refl
    where
      within : T (le (gap x v) zero32) → T (le d zero32)
      within k = le_trans_f d (gap v x) zero32 r (subst (λ (z : Float). T (le z zero32)) (gap_comm x v) k)

      go : (a b : Bool) → lt x v ≡ a → lt v x ≡ b → (lt x v ≡ true) ⊎ T (le d zero32)
      go true b ea eb = inl ea
      go false true ea eb = inr (within (square (sub binary32 x v) (sub_nonneg binary32 x v tt tt (of_taken eb)) (of_taken h)))
      go false false ea eb = inr (within (even ea eb).1)

  right_finite : le (sub binary32 x v) zero32 ≡ false → lt v x ≡ true
  right_finite h = go (lt x v) (lt v x) refl refl
    where
      go : (a b : Bool) → lt x v ≡ a → lt v x ≡ b → lt v x ≡ true
      go a true ea eb = eb
      go true false ea eb = absurd (subst T h (subst (λ (z : Float). T (le z zero32)) (sym (sub_flip binary32 x v tt tt (of_taken ea))) (negated (sub binary32 v x) (sub_nonneg binary32 v x tt tt (of_taken ea)))))
      go false false ea eb = absurd (subst T h (even ea eb).0)

-- ---- query minus node at most 0: the query is below the node's coordinate, or a distance within the gap is none at all
pub left_side : (x v d : Float) → le (sub binary32 x v) zero32 ≡ true → T (le d (gap v x)) → (lt x v ≡ true) ⊎ T (le d zero32)
unfolding sub lt le
left_side nan v d h r = absurd (of_taken h)
left_side (inf s) nan d h r = absurd (of_taken h)
left_side (inf true) (inf true) d h r = absurd (of_taken h)
left_side (inf true) (inf false) d h r = inl refl
left_side (inf false) (inf true) d h r = absurd (of_taken h)
left_side (inf false) (inf false) d h r = absurd (of_taken h)
left_side (inf true) (fin t n g) d h r = inl refl
left_side (inf false) (fin t n g) d h r = absurd (of_taken h)
left_side (fin s m e) nan d h r = absurd (of_taken h)
left_side (fin s m e) (inf true) d h r = absurd (of_taken h)
left_side (fin s m e) (inf false) d h r = inl refl
left_side (fin s m e) (fin t n g) d h r = left_finite s m e t n g d h r

-- query minus node not at most 0: the query is above the node's coordinate, unless the gap is no number
pub right_side : (x v d : Float) → le (sub binary32 x v) zero32 ≡ false → T (le d (gap v x)) → lt v x ≡ true
unfolding sub mul lt le
right_side nan v d h r = absurd (le_nan d (subst (λ (z : Float). T (le d z)) (gap_comm v nan ∙ gap_nan v) r))
right_side (inf s) nan d h r = absurd (le_nan d r)
right_side (inf true) (inf true) d h r = absurd (le_nan d r)
right_side (inf true) (inf false) d h r = absurd (of_left h)
right_side (inf false) (inf true) d h r = refl
right_side (inf false) (inf false) d h r = absurd (le_nan d r)
right_side (inf true) (fin t n g) d h r = absurd (of_left h)
right_side (inf false) (fin t n g) d h r = refl
right_side (fin s m e) nan d h r = absurd (le_nan d r)
right_side (fin s m e) (inf true) d h r = refl
right_side (fin s m e) (inf false) d h r = absurd (of_left h)
right_side (fin s m e) (fin t n g) d h r = right_finite s m e t n g h
