-- A float from -16 to 16, by its sign, digits and exponent: not below 2^-12 in size, or below. Assumes nothing.
use mathlib.Core.Path.{◌≡◌, refl, ap, subst}
use mathlib.Core.Bool.{Bool, true, false, cond}
use Prim.Native.Nat.{ℕ, zero, suc, ◌+◌, ◌*◌, ◌≤◌, ◌<◌}
use native.Mathlib.Omega.{arith}
use lib.Dec.{T, ltb, ltb→lt, not_T}
use lib.Ieee.Bits.{is_false}
use lib.IntN.{ℤ}
use lib.Ieee.{Float, nan, inf, fin, binary32, up, down, lt, fits}
use lib.Ieee.Fits.{down_pos}
use Rattle.sines.specs.Sines.{small, plus_zero, in_range, absf}
use borrow.Author.Tests.{ltb-true, ltb-false}
use Rattle.sines.proofs.Range.{range_hi, no_nan, no_inf}

fits_sign : (s : Bool) (m : ℕ) (e : ℤ) → T (fits binary32 (fin s m e)) → T (fits binary32 (fin false m e))
unfolding fits
fits_sign s zero e t = t
fits_sign s (suc m) e t = t

-- ---- not below 2^-12 in size
pub record Large (x : Float) : Type 0 where
  pub s : Bool
  pub m : ℕ
  pub e : ℤ
  pub is : x ≡ fin s m e
  pub abs : absf x ≡ fin false m e
  pub sgn : lt x plus_zero ≡ s
  pub lo : down e ≤ 4096 * (m * up e)
  pub hi : m * up e ≤ 16 * down e
  pub fit : T (fits binary32 (fin false m e))

lo_of : (n d : ℕ) → 1 * d ≤ n * 4096 → d ≤ 4096 * n
lo_of n d h = omega arith

hi_of : (n d : ℕ) → n * 4096 < 1 * d → 4096 * n < d
hi_of n d h = omega arith

never : (n d : ℕ) → 0 < d → ltb 0 (n * 4096 + 1 * d) ≡ false → ⊥
never n d dp h = no (ltb-false 0 (n * 4096 + 1 * d) h)
  where
    no : n * 4096 + 1 * d ≤ 0 → ⊥
    no k = omega arith

zero_of : (n d : ℕ) → ltb 0 (n * 1 + 0 * d) ≡ false → 0 < d → 4096 * n < d
zero_of n d h dp = go (ltb-false 0 (n * 1 + 0 * d) h)
  where
    go : n * 1 + 0 * d ≤ 0 → 4096 * n < d
    go k = omega arith

not_below : (n d : ℕ) → ltb (n * 1) (0 * d) ≡ false
not_below n d = is_false (ltb (n * 1) (0 * d)) (not_T (ltb (n * 1) (0 * d)) (λ (t : T (ltb (n * 1) (0 * d))). no (ltb→lt (n * 1) (0 * d) t)))
  where
    no : n * 1 < 0 * d → ⊥
    no k = omega arith

pub large : (x : Float) → T (fits binary32 x) → T (in_range x) → lt (absf x) small ≡ false → Large x
unfolding absf
large nan f r h = absurd (no_nan r)
large (inf s) f r h = absurd (no_inf s r)
large (fin true m e) f r h = go (ltb 0 (m * up e * 1 + 0 * down e)) refl h
  where
    go : (b : Bool) → ltb 0 (m * up e * 1 + 0 * down e) ≡ b → lt (cond b (fin false m e) (fin true m e)) small ≡ false → Large (fin true m e)
    go true q h = record {
      s = true;
      m = m;
      e = e;
      is = refl;
      abs = ap (λ (b : Bool). cond b (fin false m e) (fin true m e)) q;
      sgn = q;
      lo = lo_of (m * up e) (down e) (ltb-false (m * up e * 4096) (1 * down e) h);
      hi = range_hi true m e r;
      fit = fits_sign true m e f;
    }
    go false q h = absurd (never (m * up e) (down e) (down_pos e) h)
large (fin false m e) f r h =
    let q : ltb (m * up e * 1) (0 * down e) ≡ false = not_below (m * up e) (down e) in
    record {
      s = false;
      m = m;
      e = e;
      is = refl;
      abs = ap (λ (b : Bool). cond b (fin true m e) (fin false m e)) q;
      sgn = q;
      lo = lo_of (m * up e) (down e) (ltb-false (m * up e * 4096) (1 * down e) (subst (λ (b : Bool). lt (cond b (fin true m e) (fin false m e)) small ≡ false) q h));
      hi = range_hi false m e r;
      fit = f;
    }

-- ---- below 2^-12 in size
pub record Little (x : Float) : Type 0 where
  pub s : Bool
  pub m : ℕ
  pub e : ℤ
  pub is : x ≡ fin s m e
  pub lo : 4096 * (m * up e) < down e

pub little : (x : Float) → T (in_range x) → lt (absf x) small ≡ true → Little x
unfolding absf
little nan r h = absurd (no_nan r)
little (inf s) r h = absurd (no_inf s r)
little (fin true m e) r h = go (ltb 0 (m * up e * 1 + 0 * down e)) refl h
  where
    go : (b : Bool) → ltb 0 (m * up e * 1 + 0 * down e) ≡ b → lt (cond b (fin false m e) (fin true m e)) small ≡ true → Little (fin true m e)
    go true q h = record { s = true; m = m; e = e; is = refl; lo = hi_of (m * up e) (down e) (ltb-true (m * up e * 4096) (1 * down e) h) }
    go false q h = record { s = true; m = m; e = e; is = refl; lo = zero_of (m * up e) (down e) q (down_pos e) }
little (fin false m e) r h =
    let q : ltb (m * up e * 1) (0 * down e) ≡ false = not_below (m * up e) (down e) in
    record { s = false; m = m; e = e; is = refl; lo = hi_of (m * up e) (down e) (ltb-true (m * up e * 4096) (1 * down e) (subst (λ (b : Bool). lt (cond b (fin true m e) (fin false m e)) small ≡ true) q h)) }
