-- Halving: what `seek` comes to passes the test, and the next does not, or there is none. Assumes nothing.
use Rattle.std.proofs.Common.{◌≡◌, ℕ, zero, suc, ◌+◌, ◌-◌, ◌*◌, ◌/◌, ◌^◌, ◌<◌, ◌≤◌, Bool, true, false, not, T, ◌⊎◌, sym, refl, ap, ◌∙◌, subst, ap₂, subst₂, inl, inr, zero-le, le_trans, le_refl, lt_of_lt_of_le, lt_of_le_of_lt, lt_irrefl, mul-le-mul, mul-le-mul_left, pow-suc, arith, lit<, lit≤, le→leb, leb→le}
use lib.Dec.{nleb→lt, not_T}
use lib.Ieee.Bits.{is_true, is_false}
use Rattle.sines.specs.Steps.{sin_fix, cos_fix, fits_under, seek}

abbrev Under : ℕ → ℕ → Type 0
Under t j = 2147483648 * sin_fix (j * 1024) ≤ t * cos_fix (j * 1024)

abbrev Over : ℕ → ℕ → Type 0
Over t j = t * cos_fix (j * 1024) < 2147483648 * sin_fix (j * 1024)

pub record Sought (t j : ℕ) : Type 0 where
  pub few : j < 13176795
  pub under : 2147483648 * sin_fix (j * 1024) ≤ t * cos_fix (j * 1024)
  pub next : (j + 1 ≡ 13176795) ⊎ (t * cos_fix ((j + 1) * 1024) < 2147483648 * sin_fix ((j + 1) * 1024))

mid_lo : (lo hi : ℕ) → lo < hi → lo ≤ (lo + hi) / 2
mid_lo lo hi h = omega arith

mid_hi : (lo hi : ℕ) → lo < hi → (lo + hi) / 2 < hi
mid_hi lo hi h = omega arith

half_hi : (lo hi p : ℕ) → lo < hi → hi ≤ lo + p * 2 → hi ≤ (lo + hi) / 2 + p
half_hi lo hi p h k = omega arith

half_lo : (lo hi p : ℕ) → hi ≤ lo + p * 2 → (lo + hi) / 2 ≤ lo + p
half_lo lo hi p k = omega arith

walk : (f t lo hi : ℕ) → lo < hi → hi ≤ lo + 2 ^ f → hi ≤ 13176795 → Under t lo → (hi ≡ 13176795) ⊎ Over t hi → Sought t (seek f t lo hi)
unfolding seek
walk zero t lo hi l g h u o =
    let e : hi ≡ lo + 1 = one lo hi l g in
    record { few = lt lo hi l h; under = u; next = subst (λ (z : ℕ). (z ≡ 13176795) ⊎ Over t z) e o }
  where
    one : (lo hi : ℕ) → lo < hi → hi ≤ lo + 1 → hi ≡ lo + 1
    one lo hi a b = omega arith

    lt : (lo hi : ℕ) → lo < hi → hi ≤ 13176795 → lo < 13176795
    lt lo hi a b = omega arith
walk (suc f) t lo hi l g h u o =
    let m = (lo + hi) / 2 in
    let g2 : hi ≤ lo + 2 ^ f * 2 = subst (λ (z : ℕ). hi ≤ lo + z) (pow-suc 2 f) g in
    go (fits_under t m) (leb→le (2147483648 * sin_fix (m * 1024)) (t * cos_fix (m * 1024))) (nleb→lt (2147483648 * sin_fix (m * 1024)) (t * cos_fix (m * 1024)))
    (λ (v : Under t m). walk f t m hi (mid_hi lo hi l) (half_hi lo hi (2 ^ f) l g2) h v o)
    (λ (n : lo < m) (v : Over t m). walk f t lo m n (half_lo lo hi (2 ^ f) g2) (le_trans (below lo hi l) h) u (inr v))
  where
    below : (lo hi : ℕ) → lo < hi → (lo + hi) / 2 ≤ hi
    below lo hi l = omega arith

    near : (lo m hi : ℕ) → lo < hi → lo ≤ m → (m ≡ lo → ⊥) → lo < m
    near lo m hi a b c = omega arith

    go : (b : Bool) → (T b → Under t ((lo + hi) / 2)) → (T (not b) → Over t ((lo + hi) / 2)) → (Under t ((lo + hi) / 2) → Sought t (seek f t ((lo + hi) / 2) hi)) → (lo < (lo + hi) / 2 → Over t ((lo + hi) / 2) → Sought t (seek f t lo ((lo + hi) / 2)))
        → Sought t (elim b [ true ↦ seek f t ((lo + hi) / 2) hi | false ↦ seek f t lo ((lo + hi) / 2) ])
    go true y n p q = p (y tt)
    go false y n p q = q (near lo ((lo + hi) / 2) hi l (mid_lo lo hi l) (λ (e : (lo + hi) / 2 ≡ lo). no (subst (λ (z : ℕ). Over t z) e (n tt)) u)) (n tt)
      where
        no : Over t lo → Under t lo → ⊥
        no a b = lt_irrefl (t * cos_fix (lo * 1024)) (lt_of_lt_of_le a b)

sin_zero : sin_fix 0 ≡ 0
unfolding sin_fix
sin_zero = refl

pub sought : (t : ℕ) → Sought t (seek 24 t 0 13176795)
sought t = walk 24 t 0 13176795 (lit< tt) (lit≤ tt) (le_refl 13176795) (subst (λ (z : ℕ). 2147483648 * z ≤ t * cos_fix 0) (sym sin_zero) zero-le) (inl refl)

-- ---- for the code
pub seek_yes : (f t lo hi : ℕ) → 2147483648 * sin_fix ((lo + hi) / 2 * 1024) ≤ t * cos_fix ((lo + hi) / 2 * 1024) → seek (suc f) t lo hi ≡ seek f t ((lo + hi) / 2) hi
unfolding seek
seek_yes f t lo hi h = ap (λ (b : Bool). elim b [ true ↦ seek f t ((lo + hi) / 2) hi | false ↦ seek f t lo ((lo + hi) / 2) ]) (is_true (fits_under t ((lo + hi) / 2)) (le→leb _ _ h))

pub seek_no : (f t lo hi : ℕ) → t * cos_fix ((lo + hi) / 2 * 1024) < 2147483648 * sin_fix ((lo + hi) / 2 * 1024) → seek (suc f) t lo hi ≡ seek f t lo ((lo + hi) / 2)
unfolding seek
seek_no f t lo hi h = ap (λ (b : Bool). elim b [ true ↦ seek f t ((lo + hi) / 2) hi | false ↦ seek f t lo ((lo + hi) / 2) ]) (is_false (fits_under t ((lo + hi) / 2)) (not_T (fits_under t ((lo + hi) / 2)) (λ (u : T (fits_under t ((lo + hi) / 2))). lt_irrefl (t * cos_fix ((lo + hi) / 2 * 1024)) (lt_of_lt_of_le h (leb→le (2147483648 * sin_fix ((lo + hi) / 2 * 1024)) (t * cos_fix ((lo + hi) / 2 * 1024)) u)))))

left : (i : ℕ) → i < 24 → 24 - i ≡ suc (24 - (i + 1))
left i h = omega arith

-- a turn of the loop, in either arm
pub turn_yes : (i t lo hi lo' hi' s k : ℕ) → i < 24 → s ≡ sin_fix ((lo + hi) / 2 * 1024) → k ≡ cos_fix ((lo + hi) / 2 * 1024) → 2147483648 * s ≤ t * k → lo' ≡ (lo + hi) / 2 → hi' ≡ hi
    → seek (24 - i) t lo hi ≡ seek (24 - (i + 1)) t lo' hi'
turn_yes i t lo hi lo' hi' s k h a b c d e =
    ap (λ (f : ℕ). seek f t lo hi) (left i h) ∙ seek_yes (24 - (i + 1)) t lo hi (subst₂ (λ (x y : ℕ). 2147483648 * x ≤ t * y) a b c) ∙ ap₂ (λ (x y : ℕ). seek (24 - (i + 1)) t x y) (sym d) (sym e)

pub turn_no : (i t lo hi lo' hi' s k : ℕ) → i < 24 → s ≡ sin_fix ((lo + hi) / 2 * 1024) → k ≡ cos_fix ((lo + hi) / 2 * 1024) → t * k < 2147483648 * s → lo' ≡ lo → hi' ≡ (lo + hi) / 2
    → seek (24 - i) t lo hi ≡ seek (24 - (i + 1)) t lo' hi'
turn_no i t lo hi lo' hi' s k h a b c d e =
    ap (λ (f : ℕ). seek f t lo hi) (left i h) ∙ seek_no (24 - (i + 1)) t lo hi (subst₂ (λ (x y : ℕ). t * y < 2147483648 * x) a b c) ∙ ap₂ (λ (x y : ℕ). seek (24 - (i + 1)) t x y) (sym d) (sym e)

pub fits_one : (s : ℕ) → s ≤ 2147483648 → 2147483648 * s < 2 ^ 64
fits_one s h = lt_of_le_of_lt (mul-le-mul_left 2147483648 h) (lit< tt)

pub fits_two : (t k : ℕ) → t ≤ 4294967296 → k ≤ 2147483648 → t * k < 2 ^ 64
fits_two t k h g = lt_of_le_of_lt (mul-le-mul h g) (lit< tt)

pub seek_end : (i t lo hi : ℕ) → 24 ≤ i → seek (24 - i) t lo hi ≡ lo
unfolding seek
seek_end i t lo hi h = ap (λ (f : ℕ). seek f t lo hi) (none i h)
  where
    none : (i : ℕ) → 24 ≤ i → 24 - i ≡ 0
    none i h = omega arith
