-- Which patterns are NaN, and what that makes of a value. Assumes nothing.
use Rattle.std.proofs.Common.{◌≡◌, ℕ, ◌%◌, ◌<◌, ◌≤◌, Bool, true, not, T, sym, refl, ◌∙◌, subst, le-ltb, lt-ltb}
use lib.Ieee.{Float, nan, inf, fin, binary32, of_bits, is_nan, nan_bits}
use lib.Ieee.Bits.{nan_bits_is, nan_bits_above}

pub nan_only : (x : Float) → is_nan x ≡ true → x ≡ nan
unfolding is_nan
nan_only nan e = refl
nan_only (inf s) e = absurd (subst (λ (b : Bool). T (not b)) e tt)
nan_only (fin s m k) e = absurd (subst (λ (b : Bool). T (not b)) e tt)

pub pattern_nan : (n : ℕ) → 2139095040 < n % 2147483648 → of_bits binary32 n ≡ nan
pattern_nan n h = nan_only (of_bits binary32 n) (sym (nan_bits_is binary32 n) ∙ nan_bits_above binary32 n ∙ lt-ltb _ _ h)

pub pattern_no_nan : (n : ℕ) → n % 2147483648 ≤ 2139095040 → T (not (nan_bits binary32 n))
pattern_no_nan n h = subst (λ (b : Bool). T (not b)) (sym (nan_bits_above binary32 n ∙ le-ltb _ _ h)) tt
