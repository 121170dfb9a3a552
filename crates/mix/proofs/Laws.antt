-- What a head and a tail make of an output, that a measurement's taps lie inside the responses, and what one point more adds to a sum.
-- Assumes nothing.
use Prim.Native.Nat.{ℕ, min, zero, suc, ◌+◌, ◌-◌, ◌*◌, ◌≤◌, ◌<◌}
use mathlib.Core.Path.{◌≡◌, refl, sym, ap, ◌∙◌}
use mathlib.Core.List.{List, [], ◌∷◌, ◌++◌, append_assoc, append-nil}
use native.Mathlib.Nat.{le_of_lt, mul-le-mul, mul-le-mul_right, suc-mul}
use native.Mathlib.Omega.{arith}
use native.Mathlib.Numerals.{add-one}
use Rattle.std.proofs.lemmas.List.{replicate-append-replicate}
use lib.ListN.{drop_of_length-le, length-take, length, take, drop, get_or, replicate, length-drop, length-replicate}
use lib.Seq.{take-take, take-suc, get_or-drop}
use lib.Ieee.{Float}
use borrow.Author.Tests.{lt-ltb, le-ltb}
use Rattle.floats.specs.Floats.{zero32}
use Rattle.lists.specs.Over.{over, upto}
use Rattle.lists.proofs.Laws.{take_over, length_over, length_upto}
use Rattle.mix.specs.declared.Ear.{Ear}
use Rattle.mix.specs.declared.Ear.TheVariants.{Left, Right}
use Rattle.mix.specs.declared.Share.{Share}
use Rattle.mix.specs.declared.Points.{Points}
use Rattle.mix.specs.Mix.{receiver_of, out_of, below, tailed, start_of, sums, plus_product, list_of, Sized}

-- ---- taps
pub inside : (m r n k e : ℕ) → k < m → 2 ≤ r → e ≤ 1 → start_of r n e k + n ≤ m * r * n
unfolding start_of
inside m r n k e hk hr he =
    let h : suc (k * r + e) ≤ m * r = omega (arith, suc-mul k r, mul-le-mul_right r hk) in
    omega (arith, suc-mul (k * r + e) n, mul-le-mul_right n h)

pub reaches : (m r n k e z len a : ℕ) → a ≡ start_of r n e k → Sized m r n → k < m → e ≤ 1 → z ≤ n → m * r * n ≤ len → a + z ≤ len
reaches m r n k e z len a q s hk he hz hl = omega (arith, inside m r n k e hk s.two he)

pub product : (k r : ℕ) → k < 16384 → r ≤ 8 → k * r ≤ 131072
product k r hk hr = mul-le-mul {n₂ = 16384} {m₂ = 8} (le_of_lt hk) hr

pub product2 : (k r e n : ℕ) → k < 16384 → r ≤ 8 → e ≤ 1 → n ≤ 8192 → (k * r + e) * n ≤ 1073750016
product2 k r e n hk hr he hn =
    let h : k * r + e ≤ 131073 = omega (arith, product k r hk hr) in
    mul-le-mul {n₂ = 131073} {m₂ = 8192} h hn

pub two_ears : (ear : Ear) → receiver_of ear ≤ 1
two_ears Left = omega arith
two_ears Right = omega arith

-- ---- sample i of a run of n samples that starts at a is there
pub within : (a i n len : ℕ) → i < n → a + n ≤ len → a + i < len
within a i n len h g = omega arith

-- ---- a list of values: the same ones, more of them, and those of a part
module _ {A : Type 0} where
  pub upto_same : (f g : ℕ → A) (n : ℕ) → ((i : ℕ) → i < n → f i ≡ g i) → upto f n ≡ upto g n
  unfolding upto
  upto_same f g zero h = refl
  upto_same f g (suc n) h =
      let p = upto_same f g n (λ i q. h i (omega arith)) in
      let q = h n (omega arith) in
      cc

  pub upto_const : (f : ℕ → A) (v : A) (k j : ℕ) → ((i : ℕ) → k ≤ i → i < k + j → f i ≡ v) → upto f (k + j) ≡ upto f k ++ replicate j v
  unfolding upto
  upto_const f v k zero h = rw (append-nil (upto f k)) (ap (upto f) (plus_zero_lem k))
    where
      plus_zero_lem : (k : ℕ) → k + 0 ≡ k
      plus_zero_lem k = omega arith
  upto_const f v k (suc j) h =
      ap (upto f) (up k j)
      ∙ rw (upto_const f v k j (λ i p q. h i p (omega arith)), h (k + j) (omega arith) (omega arith), append_assoc) (ap (λ (l : List A). upto f k ++ l) (replicate-append-replicate j 1 v ∙ ap (λ (i : ℕ). replicate i v) (add-one j)))
    where
      up : (k j : ℕ) → k + suc j ≡ suc (k + j)
      up k j = omega arith

  pub take_upto : (s : List A) (d : A) (a k : ℕ) → a + k ≤ length s → take k (drop a s) ≡ upto (λ i. get_or s (a + i) d) k
  unfolding upto
  take_upto s d a zero h = refl
  take_upto s d a (suc k) h =
      let b : k < length (drop a s) = simp length-drop (omega arith) in
      rw (take-suc (drop a s) k d b, take_upto s d a k (omega arith), get_or-drop a s k d)

  -- the same where the part runs to the list's end
  pub part_upto : (s : List A) (d : A) (a k : ℕ) → a + k ≤ length s → take k (take (length s - a) (drop a s)) ≡ upto (λ i. get_or s (a + i) d) k
  part_upto s d a k h = take-take k (length s - a) (drop a s) (omega arith) ∙ take_upto s d a k h

-- ---- the tail: +0 over all that stands from k on, written through a part of the list
pub tail_is : (k : ℕ) (d ys : List Float) → ys ≡ over (replicate (length d - k) zero32) (take (length d - k) (drop k d))
    → take k d ++ (ys ++ drop (length d - k) (drop k d)) ≡ tailed k d
unfolding over tailed
tail_is k d ys e =
    let past : length (drop k d) ≤ length d - k = simp length-drop (omega arith) in
    let held : length (take (length d - k) (drop k d)) ≤ length (replicate (length d - k) zero32) = simp (length-take, length-drop, length-replicate) (omega arith) in
    let gone : drop (length d - k) (drop k d) ≡ [] = drop_of_length-le (drop k d) past in
    let none : drop (length (replicate (length d - k) zero32)) (take (length d - k) (drop k d)) ≡ [] = drop_of_length-le (take (length d - k) (drop k d)) held in
    rw (gone, e, none, append-nil (replicate (length d - k) zero32), append-nil (replicate (length d - k) zero32))

-- ---- the head's k samples, and +0 from there on, are the whole output; k is the shorter of n and the output
tail_of : (k : ℕ) (xs d : List Float) → length xs ≡ k → k ≤ length d → tailed k (over xs d) ≡ xs ++ replicate (length d - k) zero32
unfolding tailed
tail_of k xs d e h = rw (← e) (rw (take_over xs d, length_over xs d (omega arith)))

-- a sample below n, and one from n on
pub below_on : (f : ℕ → Float) (n i : ℕ) → i < n → below f n i ≡ f i
below_on f n i h = rw (lt-ltb i n h)

pub below_off : (f : ℕ → Float) (n i : ℕ) → n ≤ i → below f n i ≡ zero32
below_off f n i h = rw (le-ltb i n h)

pub whole : (f : ℕ → Float) (n k : ℕ) (d : List Float) → k ≤ n → k ≤ length d → ((i : ℕ) → k ≤ i → i < length d → n ≤ i) → tailed k (over (upto f k) d) ≡ out_of f n (length d)
unfolding out_of
whole f n k d h g a =
    tail_of k (upto f k) d (length_upto f k) g
    ∙ ap (λ (l : List Float). l ++ replicate (length d - k) zero32) (upto_same f (below f n) k (λ i q. sym (below_on f n i (omega arith))))
    ∙ sym (upto_const (below f n) zero32 k (length d - k) (λ i p q. below_off f n i (a i p (omega arith))))
    ∙ ap (upto (below f n)) (shorter k (length d) g)
  where
    shorter : (k l : ℕ) → k ≤ l → k + (l - k) ≡ l
    shorter k l h = omega arith

-- ---- the shorter of two: past it, within one, is past the other
pub shorter_past : (a b i k : ℕ) → k ≡ min a b → k ≤ i → i < b → a ≤ i
shorter_past a b i k e h g = omega arith

-- ---- the sum over one point more
pub sums_more : (f : ℕ → Float) (s : Float) (ps : List Share) (j : ℕ) (d : Share) → j < length ps
    → sums f s (take (suc j) ps) ≡ plus_product (sums f s (take j ps)) (get_or ps j d).weight (f (get_or ps j d).number)
unfolding sums
sums_more f s [] j d h = absurd (omega arith)
sums_more f s (p ∷ ps) zero d h = refl
sums_more f s (p ∷ ps) (suc j) d h = sums_more f (plus_product s p.weight (f p.number)) ps j d (omega arith)

-- the first points of four, where so many are counted
pub counted : (p : Points) (k : ℕ) → p.count ≡ k → take k (p.a ∷ p.b ∷ p.c ∷ p.d ∷ []) ≡ list_of p
unfolding list_of
counted p k e = ap (λ (j : ℕ). take j (p.a ∷ p.b ∷ p.c ∷ p.d ∷ [])) (sym e)
