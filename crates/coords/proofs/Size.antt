-- The size of a float, its sign dropped: that of a product is the product of the sizes, that of a sum at most their sum, that of a remainder at most the
-- divisor, and a size at most b is a value between -b and b. Assumes nothing.
use Prim.Native.Nat.{ℕ, ◌+◌, ◌-◌, ◌*◌, ◌%◌, ◌<◌, ◌≤◌}
use native.Mathlib.Nat.{mul-pos, mul-le-mul_right, le_of_lt, mod-lt}
use native.Mathlib.Omega.{arith}
use borrow.Author.Tests.{ne_eqb}
use mathlib.Core.Path.{◌≡◌, refl, sym, ap, ◌∙◌, subst}
use mathlib.Core.Bool.{Bool, true, false, cond, ◌&&◌, beq}
use lib.Dec.{T, ltb, ltb→lt}
use lib.IntN.{ℤ}
use lib.Ieee.{Float, nan, inf, fin, Format, up, down, round, neg, sum, add, mul, rem, le, fits, unlike}
use lib.Ieee.Fits.{up_pos, down_pos}
use lib.Ieee.Order.{round_mono}
use lib.Ieee.Positive.{positive}
use lib.Ieee.Scale.{finite}
use Rattle.floats.specs.Floats.{zero32, abs_of}
use Rattle.floats.proofs.Preorder.{le_trans_f}
use Rattle.floats.proofs.Sign.{nonneg, round_neg, round_nonneg}
use Rattle.floats.proofs.Ops.{neg_finite, neg_le, zero_le_nonneg, add_mono}
use Rattle.floats.proofs.Ratio.{magnitude, magnitude_nonneg, size_magnitude, mul_mono_mag, round_le}

size_neg : (x : Float) → abs_of (neg x) ≡ abs_of x
unfolding neg abs_of
size_neg nan = refl
size_neg (inf s) = refl
size_neg (fin s m e) = refl

size_nonneg : (x : Float) → T (nonneg x) → abs_of x ≡ x
unfolding abs_of
size_nonneg nan p = refl
size_nonneg (inf false) p = refl
size_nonneg (inf true) p = absurd p
size_nonneg (fin false m e) p = refl
size_nonneg (fin true m e) p = absurd p

size_round : (f : Format) (s : Bool) (a c : ℕ) → abs_of (round f s a c) ≡ round f false a c
size_round f false a c = size_nonneg (round f false a c) (round_nonneg f a c)
size_round f true a c = ap abs_of (round_neg f a c) ∙ size_neg (round f false a c) ∙ size_nonneg (round f false a c) (round_nonneg f a c)

size_mul : (f : Format) (x y : Float) → T (finite x) → T (finite y) → abs_of (mul f x y) ≡ mul f (abs_of x) (abs_of y)
unfolding mul abs_of
size_mul f nan y p q = absurd p
size_mul f (inf s) y p q = absurd p
size_mul f (fin s m e) nan p q = absurd q
size_mul f (fin s m e) (inf t) p q = absurd q
size_mul f (fin s m e) (fin t n d) p q = size_round f (unlike s t) (m * up e * (n * up d)) (down e * down d)

-- finite, and of a size at most b
pub record Small (b x : Float) : Type 0 where
  pub held : T (finite x)
  pub most : T (le (abs_of x) b)

size_finite : (x b : Float) → T (magnitude b) → T (le (abs_of x) b) → T (finite x)
unfolding le abs_of
size_finite nan b p h = absurd h
size_finite (inf s) nan p h = h
size_finite (inf s) (inf t) p h = p
size_finite (inf s) (fin t n d) p h = h
size_finite (fin s m e) b p h = tt

pub small_wider : (a b x : Float) → T (le a b) → Small a x → Small b x
small_wider a b x l h = record { held = h.held; most = le_trans_f (abs_of x) a b h.most l }

-- a fraction at most a value that fits, rounded
pub small_round : (f : Format) (s : Bool) (a c m : ℕ) (e : ℤ) → 0 < c → T (fits f (fin false m e)) → a * down e ≤ m * up e * c → Small (fin false m e) (round f s a c)
small_round f s a c m e C w h =
    let bound : T (le (abs_of (round f s a c)) (fin false m e)) = subst (λ (z : Float). T (le z (fin false m e))) (sym (size_round f s a c)) (round_le f a c m e C w h) in
    record { held = size_finite (round f s a c) (fin false m e) tt bound; most = bound }

-- a product is at most the bounds' product, and at most what that is at most
pub small_mul : (f : Format) (a b c x y : Float) → T (magnitude a) → T (magnitude b) → T (magnitude c) → T (le (mul f a b) c) → Small a x → Small b y → Small c (mul f x y)
small_mul f a b c x y p q r l hx hy =
    let bound : T (le (abs_of (mul f x y)) c) = subst (λ (z : Float). T (le z c)) (sym (size_mul f x y hx.held hy.held))
    (le_trans_f _ (mul f a b) c (mul_mono_mag f (abs_of x) a (abs_of y) b (size_magnitude x hx.held) p (size_magnitude y hy.held) q hx.most hy.most) l) in
    record { held = size_finite (mul f x y) c r bound; most = bound }

-- the same with a factor's sign turned round
pub small_mul_neg : (f : Format) (c x y : Float) → T (magnitude c) → T (finite x) → T (finite y) → Small c (mul f x y) → Small c (mul f (neg x) y)
small_mul_neg f c x y p q r h =
    let same : abs_of (mul f (neg x) y) ≡ abs_of (mul f x y) = size_mul f (neg x) y (neg_finite x q) r ∙ ap (λ (z : Float). mul f z (abs_of y)) (size_neg x) ∙ sym (size_mul f x y q r) in
    let bound : T (le (abs_of (mul f (neg x) y)) c) = subst (λ (z : Float). T (le z c)) (sym same) h.most in
    record { held = size_finite (mul f (neg x) y) c p bound; most = bound }

-- ---- sums

rounded_most : (f : Format) (s : Bool) (k n c : ℕ) → 0 < c → k ≤ n → T (le (abs_of (round f s k c)) (round f false n c))
rounded_most f s k n c C h = subst (λ (z : Float). T (le z (round f false n c))) (sym (size_round f s k c)) (round_mono f k c n c C C (mul-le-mul_right c h))

size_sum : (f : Format) (s t : Bool) (a b c : ℕ) → 0 < c → T (le (abs_of (sum f s a t b c)) (round f false (a + b) c))
unfolding sum
size_sum f s t a b c C = go (beq s t) (ltb a b)
  where
    go : (same under : Bool) → T (le (abs_of (cond same (round f s (a + b) c) (cond under (round f t (b - a) c) (round f (s && ltb b a) (a - b) c)))) (round f false (a + b) c))
    go true u = rounded_most f s (a + b) (a + b) c C (omega arith)
    go false true = rounded_most f t (b - a) (a + b) c C (omega arith)
    go false false = rounded_most f (s && ltb b a) (a - b) (a + b) c C (omega arith)

size_add : (f : Format) (x y : Float) → T (finite x) → T (finite y) → T (le (abs_of (add f x y)) (add f (abs_of x) (abs_of y)))
unfolding add sum abs_of
size_add f nan y p q = absurd p
size_add f (inf s) y p q = absurd p
size_add f (fin s m e) nan p q = absurd q
size_add f (fin s m e) (inf t) p q = absurd q
size_add f (fin s m e) (fin t n d) p q = size_sum f s t (m * up e * down d) (n * up d * down e) (down e * down d) (mul-pos (down_pos e) (down_pos d))

-- a sum is at most the bounds' sum, and at most what that is at most
pub small_add : (f : Format) (a b c x y : Float) → T (magnitude a) → T (magnitude b) → T (magnitude c) → T (le (add f a b) c) → Small a x → Small b y → Small c (add f x y)
small_add f a b c x y p q r l hx hy =
    let bound : T (le (abs_of (add f x y)) c) = le_trans_f _ _ c (size_add f x y hx.held hy.held)
    (le_trans_f _ (add f a b) c (add_mono f (abs_of x) a (abs_of y) b (magnitude_nonneg (abs_of x) (size_magnitude x hx.held)) (magnitude_nonneg a p) (magnitude_nonneg (abs_of y) (size_magnitude y hy.held)) (magnitude_nonneg b q) hx.most hy.most) l) in
    record { held = size_finite (add f x y) c r bound; most = bound }

-- ---- remainders

-- r / (e · d), with r below n · e, is at most n / d
spread : (r a b c : ℕ) → r < a * b → r * c ≤ a * (b * c)
spread r a b c h = let k : r * c ≤ a * b * c = mul-le-mul_right c (le_of_lt h) in omega arith

-- a remainder is at most what it is divided by
pub small_rem : (f : Format) (x y : Float) → T (finite x) → T (positive y) → T (fits f y) → Small y (rem f x y)
unfolding rem
small_rem f nan y p q w = absurd p
small_rem f (inf s) y p q w = absurd p
small_rem f (fin s m e) nan p q w = absurd q
small_rem f (fin s m e) (inf t) p q w = absurd q
small_rem f (fin s m e) (fin true n d) p q w = absurd q
small_rem f (fin s m e) (fin false n d) p q w =
    let some = ltb→lt 0 n q in
    let under = mod-lt (m * up e * down d) (mul-pos (mul-pos some (up_pos d)) (down_pos e)) in
    rw (ne_eqb n 0 (λ z. omega arith)) (small_round f s (m * up e * down d % (n * up d * down e)) (down e * down d) n d (mul-pos (down_pos e) (down_pos d)) w (spread _ (n * up d) (down e) (down d) under))

-- ---- between -b and b
pub small_between : (b x : Float) → T (le (neg zero32) b) → T (le (neg b) zero32) → Small b x → T (le (neg b) x) × T (le x b)
unfolding neg abs_of
small_between b nan l k h = absurd h.held
small_between b (inf s) l k h = absurd h.held
small_between b (fin false m e) l k h = (le_trans_f (neg b) zero32 (fin false m e) k (zero_le_nonneg (fin false m e) tt), h.most)
small_between b (fin true m e) l k h = (neg_le (fin false m e) b h.most, le_trans_f (fin true m e) (neg zero32) b (neg_le zero32 (fin false m e) (zero_le_nonneg (fin false m e) tt)) l)

neg_twice : (x : Float) → neg (neg x) ≡ x
unfolding neg
neg_twice nan = refl
neg_twice (inf false) = refl
neg_twice (inf true) = refl
neg_twice (fin false m e) = refl
neg_twice (fin true m e) = refl

neg_fin : (m : ℕ) (e : ℤ) → neg (fin true m e) ≡ fin false m e
unfolding neg
neg_fin m e = refl

pub between_small : (b x : Float) → T (finite x) → T (le (neg b) x) → T (le x b) → Small b x
unfolding abs_of
between_small b nan p lo hi = absurd p
between_small b (inf s) p lo hi = absurd p
between_small b (fin false m e) p lo hi = record { held = tt; most = hi }
between_small b (fin true m e) p lo hi =
    let turned : T (le (fin false m e) (neg (neg b))) = subst (λ (z : Float). T (le z (neg (neg b)))) (neg_fin m e) (neg_le (neg b) (fin true m e) lo) in
    record { held = tt; most = subst (λ (z : Float). T (le (fin false m e) z)) (neg_twice b) turned }
