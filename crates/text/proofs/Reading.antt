-- Steps of the loops over a line, and what its definitions say of long decimals and of well-formed values. Assumes nothing.
use Prim.Native.Nat.{ℕ, zero, suc, ◌+◌, ◌-◌, ◌*◌, ◌^◌, ◌≤◌, ◌<◌}
use mathlib.Core.Path.{◌≡◌, refl, sym, ap, subst, ◌∙◌}
use mathlib.Core.Bool.{Bool, true, false, cond, ◌&&◌, ◌||◌, not, and-false}
use mathlib.Core.List.{List, [], ◌∷◌, ◌++◌}
use native.Mathlib.Nat.{pow-suc, one-le-pow, pow-le-pow_right, mul-le-mul_right, mul-le-mul_left, zero-add, zero-mul, suc-add}
use native.Mathlib.Numerals.{add-one}
use native.Mathlib.Omega.{arith}
use lib.Dec.{T, eqb, leb, ltb, lit<}
use lib.ListN.{length, get_or, take, drop, set, drop_of_length-le, length-drop}
use lib.Seq.{drop-cons, length-take-le}
use lib.Ieee.{Float}
use borrow.Author.Tests.{lt-ltb, le-ltb, eq-eqb, ne_eqb, le-leb, lt-leb, leb-true, ltb-true, ltb-false, eqb-true, eqb-false}
use Rattle.std.proofs.Common.{◌⊎◌, inl, inr}
use Rattle.std.specs.Bool.{then_some}
use Rattle.std.proofs.lemmas.Option.{cond_some, none-some}
use Rattle.std.specs.Prelude.{Option, Some, None, is_some, MatchOption}
use Rattle.floats.specs.Floats.{zero32}
use Rattle.floats.proofs.Cross.{and_left, and_right}
use Rattle.lists.specs.Over.{over, into, upto}
use Rattle.lists.proofs.Laws.{upto_more}
use Rattle.text.specs.Values.{value_of, from_num, good_at, values_ok, all_below}
use Rattle.text.specs.Number.{hex_of, count_of, digit_of, digit_in, num_from, begins, at_most}

-- ---- digits

low_digit : (b : ℕ) → 48 ≤ b → b ≤ 57 → digit_of b ≡ b - 48
unfolding digit_of
low_digit b h g = rw (le-leb 48 b h, le-leb b 57 g)

not_low : (b : ℕ) → (48 ≤ b → b ≤ 57 → ⊥) → (leb 48 b && leb b 57) ≡ false
not_low b h = by (leb 48 b) (leb b 57) refl refl
  where
    by : (p q : Bool) → leb 48 b ≡ p → leb b 57 ≡ q → (p && q) ≡ false
    by true true e f = absurd (h (leb-true 48 b e) (leb-true b 57 f))
    by true false e f = refl
    by false q e f = refl

not_high : (b : ℕ) → (97 ≤ b → b ≤ 102 → ⊥) → (leb 97 b && leb b 102) ≡ false
not_high b h = by (leb 97 b) (leb b 102) refl refl
  where
    by : (p q : Bool) → leb 97 b ≡ p → leb b 102 ≡ q → (p && q) ≡ false
    by true true e f = absurd (h (leb-true 97 b e) (leb-true b 102 f))
    by true false e f = refl
    by false q e f = refl

high_digit : (b : ℕ) → 97 ≤ b → b ≤ 102 → digit_of b ≡ b - 87
unfolding digit_of
high_digit b h g = rw (not_low b (λ p q. omega arith), le-leb 97 b h, le-leb b 102 g)

other : (b : ℕ) → (48 ≤ b → b ≤ 57 → ⊥) → (97 ≤ b → b ≤ 102 → ⊥) → digit_of b ≡ 16
unfolding digit_of
other b h g = rw (not_low b h, not_high b g)

-- what the code finds of a byte
pub no_digit : (base b : ℕ) → base ≤ 16 → (48 ≤ b → b ≤ 57 → ⊥) → (97 ≤ b → b ≤ 102 → ⊥) → None ≡ digit_in base b
unfolding digit_in
no_digit base b k h g = rw (other b h g, le-ltb 16 base k)

if_so : (t : Bool) (d : ℕ) → then_some t d ≡ cond t (Some d) None
if_so true d = refl
if_so false d = refl

pub as_digit : (base b d : ℕ) (r : Option ℕ) → ((48 ≤ b) × (b ≤ 57) × (d ≡ b - 48)) ⊎ ((97 ≤ b) × (b ≤ 102) × (d ≡ b - 87)) → r ≡ then_some (ltb d base) d → r ≡ digit_in base b
unfolding digit_in
as_digit base b d r (inl (h, g, e)) f = rw (low_digit b h g, ← e) (f ∙ if_so (ltb d base) d)
as_digit base b d r (inr (h, g, e)) f = rw (high_digit b h g, ← e) (f ∙ if_so (ltb d base) d)

-- a digit that is one of the base, and a byte that is none
digit_some : (base b d : ℕ) → Some d ≡ digit_in base b → (digit_of b < base) × (digit_of b ≡ d)
unfolding digit_in
digit_some base b d e = let f = cond_some (ltb (digit_of b) base) (digit_of b) d (sym e) in (ltb-true (digit_of b) base f.0, f.1)

digit_none : (base b : ℕ) → None ≡ digit_in base b → base ≤ digit_of b
unfolding digit_in
digit_none base b e = by (ltb (digit_of b) base) refl e
  where
    by : (t : Bool) → ltb (digit_of b) base ≡ t → None ≡ cond t (Some (digit_of b)) None → base ≤ digit_of b
    by true f e = absurd (none-some (digit_of b) e)
    by false f e = ltb-false (digit_of b) base f

pub digit_small : (base b d : ℕ) → Some d ≡ digit_in base b → d < base
digit_small base b d e = let f = digit_some base b d e in omega arith

pub num_on : (b v i d : ℕ) (s : List ℕ) → i < length s → Some d ≡ digit_in b (get_or s i 0) → num_from b v (drop i s) ≡ num_from b (v * b + d) (drop (i + 1) s)
unfolding num_from
num_on b v i d s h e =
    let f = digit_some b (get_or s i 0) d e in
    rw (drop-cons s i 0, lt-ltb _ _ f.0)
    (ap (λ (x : ℕ). num_from b (v * b + x) (drop (suc i) s)) f.1 ∙ ap (λ (j : ℕ). num_from b (v * b + d) (drop j s)) (sym (add-one i)))

pub num_bad : (b v i : ℕ) (s : List ℕ) → i < length s → None ≡ digit_in b (get_or s i 0) → num_from b v (drop i s) ≡ None
unfolding num_from
num_bad b v i s h e = rw (drop-cons s i 0, le-ltb _ _ (digit_none b (get_or s i 0) e))

pub num_end : (b v i : ℕ) (s : List ℕ) → length s ≤ i → num_from b v (drop i s) ≡ Some v
unfolding num_from
num_end b v i s h = rw (drop_of_length-le s h)

-- a digit more keeps the value below the next power
pub room : (i v d : ℕ) → v < 16 ^ i → d < 16 → v * 16 + d < 16 ^ (i + 1)
room i v d hv hd = rw (add-one, pow-suc) (omega arith)

pub small : (i : ℕ) → i ≤ 8 → 16 ^ i ≤ 4294967296
small i h = pow-le-pow_right {n = 16} (lit< tt) h

pub under : (k v : ℕ) → v ≤ k → at_most k (Some v) ≡ Some v
unfolding at_most
under k v h = rw (le-leb _ _ h)

above : (k v : ℕ) → k < v → at_most k (Some v) ≡ None
unfolding at_most
above k v h = rw (lt-leb _ _ h)

either : (k : ℕ) (b : Bool) (x : Option ℕ) → at_most k x ≡ None → at_most k (cond b x None) ≡ None
unfolding at_most
either k true x e = e
either k false x e = refl

-- what would be above the limit with zeros for the digits to come is above it
grows : (k v : ℕ) (s : List ℕ) → k < v * 10 ^ length s → at_most k (num_from 10 v s) ≡ None
unfolding num_from
grows k v [] h = above k v (omega arith)
grows k v (b ∷ s) h =
    either k (ltb (digit_of b) 10) (num_from 10 (v * 10 + digit_of b) s) (grows k (v * 10 + digit_of b) s (more (digit_of b) (10 ^ length s) (rw pow-suc at h)))
  where
    more : (d p : ℕ) → k < v * (p * 10) → k < (v * 10 + d) * p
    more d p g = omega arith

-- a value once above the limit only grows
pub too_many : (k v : ℕ) (s : List ℕ) → k < v → at_most k (num_from 10 v s) ≡ None
too_many k v s h =
    let p : 0 < 10 ^ length s = one-le-pow (length s) 10 (lit< tt) in
    let q : v * 1 ≤ v * 10 ^ length s = mul-le-mul_left v p in
    grows k v s (omega arith)

less : {x : ℕ} → 48 ≤ x → (x ≡ 48 → ⊥) → 0 < x - 48
less h n = omega arith

-- a digit is 0 in `0` alone
nonzero : (b : ℕ) → (b ≡ 48 → ⊥) → 0 < digit_of b
unfolding digit_of
nonzero b e = go (leb 48 b && leb b 57) (leb 97 b && leb b 102) refl refl
  where
    go : (p q : Bool) → (leb 48 b && leb b 57) ≡ p → (leb 97 b && leb b 102) ≡ q → 0 < cond p (b - 48) (cond q (b - 87) 16)
    go true q f g = let h = leb-true 48 b (and_left (leb 48 b) (leb b 57) f) in less h e
    go false true f g = let h = leb-true 97 b (and_left (leb 97 b) (leb b 102) g) in omega arith
    go false false f g = lit< tt

-- a decimal with more digits than its limit is malformed, however long it is
pub long_count : (k i : ℕ) (s : List ℕ) → k < 10 ^ suc i → suc i < length s → count_of k s ≡ None
unfolding count_of num_from
long_count k i [] h g = absurd (omega arith)
long_count k i (b ∷ []) h g = absurd (omega arith)
long_count k i (b ∷ c ∷ s) h g =
    rw (ne_eqb (length (b ∷ c ∷ s)) 0 (λ q. omega arith), ne_eqb (length (b ∷ c ∷ s)) 1 (λ q. omega arith)) (by (eqb b 48) refl)
  where
    big : (b ≡ 48 → ⊥) → k < digit_of b * 10 ^ length (c ∷ s)
    big n =
        let p : 10 ^ suc i ≤ 10 ^ length (c ∷ s) = pow-le-pow_right {n = 10} (lit< tt) (omega arith) in
        let q : 1 * 10 ^ length (c ∷ s) ≤ digit_of b * 10 ^ length (c ∷ s) = mul-le-mul_right (10 ^ length (c ∷ s)) (nonzero b n) in
        omega arith

    by : (z : Bool) → eqb b 48 ≡ z → cond (z && true) None (at_most k (cond (ltb (digit_of b) 10) (num_from 10 (0 * 10 + digit_of b) (c ∷ s)) None)) ≡ None
    by true e = refl
    by false e = either k (ltb (digit_of b) 10) (num_from 10 (0 * 10 + digit_of b) (c ∷ s)) (rw (zero-mul, zero-add) (grows k (digit_of b) (c ∷ s) (big (eqb-false b 48 e))))

-- what a decimal says is at most its limit
pub count_within : (k v : ℕ) (s : List ℕ) → count_of k s ≡ Some v → v ≤ k
unfolding count_of at_most
count_within k v s e = by (eqb (length s) 0 || (eqb (get_or s 0 0) 48 && not (eqb (length s) 1))) (num_from 10 0 s) e
  where
    most : (w : ℕ) (t : Bool) → leb w k ≡ t → cond t (Some w) None ≡ Some v → v ≤ k
    most w true f e = let g : w ≡ v = cc in omega (arith, leb-true w k f)
    most w false f e = let z : ◌≡◌ {A = ℕ} 0 1 = cc in omega arith

    by : (t : Bool) (x : Option ℕ) → cond t None (at_most k x) ≡ Some v → v ≤ k
    by true x e = let z : ◌≡◌ {A = ℕ} 0 1 = cc in omega arith
    by false None e = let z : ◌≡◌ {A = ℕ} 0 1 = cc in omega arith
    by false (Some w) e = most w (leb w k) refl e

-- ---- a prefix

-- what begins with k is as long
pub begins_length : (k s : List ℕ) → begins k s ≡ true → length k ≤ length s
unfolding begins
begins_length [] s e = omega arith
begins_length (x ∷ k) [] e = absurd (subst (λ (b : Bool). T (not b)) e tt)
begins_length (x ∷ k) (y ∷ s) e = let h = begins_length k s (and_right (eqb y x) (begins k s) e) in omega arith

-- ---- the values of a line

-- the eight digits of value k, as the code takes them
pub eight : (s : List ℕ) (k : ℕ) {r : Option ℕ} → r ≡ hex_of (take (9 * k + 8 - 9 * k) (drop (9 * k) s)) → r ≡ hex_of (take 8 (drop (9 * k) s))
eight s k e =
    let n : 9 * k + 8 - 9 * k ≡ 8 = omega arith in
    e ∙ ap (λ (n : ℕ). hex_of (take n (drop (9 * k) s))) n

-- the value that the digits say, as the code finds it
pub from_is : (o : Option ℕ) (r : Float) → MatchOption o (r ≡ zero32) (λ x. r ≡ value_of x) → r ≡ from_num o
from_is (Some x) r e = e
from_is None r e = e

-- whether value k is a number, as the code asks
pub is_value : (s : List ℕ) (k : ℕ) (r : Option ℕ) (t : Bool) → r ≡ hex_of (take (9 * k + 8 - 9 * k) (drop (9 * k) s)) → t ≡ is_some r → is_some (hex_of (take 8 (drop (9 * k) s))) ≡ t
is_value s k r t e f = ap is_some (sym (eight s k e)) ∙ sym f

pub good_bad : (s : List ℕ) (n k : ℕ) → is_some (hex_of (take 8 (drop (9 * k) s))) ≡ false → good_at s n k ≡ false
unfolding good_at
good_bad s n k e = rw e

pub good_last : (s : List ℕ) (n k : ℕ) → is_some (hex_of (take 8 (drop (9 * k) s))) ≡ true → k + 1 ≡ n → good_at s n k ≡ true
unfolding good_at
good_last s n k e f = rw (e, eq-eqb _ _ f)

pub good_on : (s : List ℕ) (n k : ℕ) → is_some (hex_of (take 8 (drop (9 * k) s))) ≡ true → (k + 1 ≡ n → ⊥) → good_at s n k ≡ eqb (get_or s (9 * k + 8) 0) 44
unfolding good_at
good_on s n k e f = rw (e, ne_eqb _ _ f)

pub all_more : (f : ℕ → Bool) (n : ℕ) → all_below f n ≡ true → f n ≡ true → all_below f (n + 1) ≡ true
unfolding all_below
all_more f n a b = rw (add-one, a) b

-- one that fails is enough, however many come after it
fails_on : (f : ℕ → Bool) (k m : ℕ) → f k ≡ false → all_below f (suc (m + k)) ≡ false
unfolding all_below
fails_on f k zero e = rw (zero-add k, e) (and-false (all_below f k))
fails_on f k (suc m) e = rw (suc-add m k, fails_on f k m e)

pub fails : (f : ℕ → Bool) (k n : ℕ) → k < n → f k ≡ false → all_below f n ≡ false
fails f k n h e =
    let m : n ≡ suc (n - suc k + k) = omega arith in
    ap (all_below f) m ∙ fails_on f k (n - suc k) e

-- what a well-formed line with values says of its length
pub measured : (s : List ℕ) (n : ℕ) → 0 < n → values_ok s n ≡ true → length s + 1 ≡ 9 * n
unfolding values_ok
measured s n h e =
    let z : eqb n 0 ≡ false = ne_eqb n 0 (λ q. omega arith) in
    let f : (eqb (length s + 1) (9 * n) && all_below (good_at s n) n) ≡ true = rw z at e in
    eqb-true (length s + 1) (9 * n) (and_left (eqb (length s + 1) (9 * n)) (all_below (good_at s n) n) f)

-- a line of another length is malformed
pub other_length : (s : List ℕ) (n : ℕ) → 0 < n → (length s + 1 ≡ 9 * n → ⊥) → values_ok s n ≡ false
unfolding values_ok
other_length s n h e = rw (ne_eqb n 0 (λ q. omega arith), ne_eqb (length s + 1) (9 * n) e)

-- values that find no room
pub no_room : (b : Bool) (x y : ℕ) → y < x → false ≡ b && leb x y
no_room b x y h = rw (lt-leb x y h) (sym (and-false b))

-- ---- a store past the front of a list

set_past : (p q : List Float) (n : ℕ) (a : Float) → set (p ++ q) (length p + n) a ≡ p ++ set q n a
set_past [] q n a = rw (zero-add n)
set_past (x ∷ p) q n a = rw (suc-add (length p) n) (ap (λ (l : List Float). x ∷ l) (set_past p q n a))

-- a turn of a loop that stores f k at `at + k`
pub into_more : (f : ℕ → Float) (at k : ℕ) (d : List Float) → at + k < length d → set (into at (upto f k) d) (at + k) (f k) ≡ into at (upto f (k + 1)) d
unfolding into
into_more f at k d h =
    let e : length (take at d) ≡ at = length-take-le at d (omega arith) in
    ap (λ (j : ℕ). set (take at d ++ over (upto f k) (drop at d)) (j + k) (f k)) (sym e)
    ∙ set_past (take at d) (over (upto f k) (drop at d)) k (f k)
    ∙ ap (λ (l : List Float). take at d ++ l) (upto_more f k (drop at d) (simp length-drop (omega arith)))
