-- The exact steps, on whole numbers (docs/ANGLES.md). Definitions only.
use Rattle.std.specs.Prelude.{ℕ, zero, suc, ◌+◌, ◌-◌, ◌*◌, ◌/◌, ◌%◌, Bool, true, false, cond, not, List, [], ◌∷◌, ◌==◌, nat_le}
use Rattle.std.specs.Bool.{beq}

-- one of the two, and not both
abbrev pub xor : Bool → Bool → Bool
xor a b = not (beq a b)

-- |a - b|
abbrev pub dist : ℕ → ℕ → ℕ
dist a b = a - b + (b - a)

-- π / 4 in units of 2^-58, cut
abbrev pub Q58 : ℕ
Q58 = 226375608064910088

-- j π / 4 in units of 2^-40, cut
abbrev pub bound : ℕ → ℕ
bound j = j * Q58 / 262144

-- the first q from q on, at most 20, with x ≤ bound (q + 1)
unfoldable pub scan : ℕ → ℕ → ℕ → ℕ
scan zero q x = q
scan (suc fuel) q x = elim (nat_le x (bound (q + 1))) [ true ↦ q | false ↦ scan fuel (q + 1) x ]

-- 2 k
abbrev pub even : ℕ → ℕ
even q = q + q % 2

-- j π / 4 in units of 2^-48, cut
abbrev pub base : ℕ → ℕ
base j = j * Q58 / 1024

-- |r| in units of 2^-34, for x in units of 2^-40, in the eighth q of a turn
abbrev pub rest : ℕ → ℕ → ℕ
rest q x = cond (q % 2 == 0) (x * 256 - base (even q)) (base (even q) - x * 256) / 16384

-- 1 - t/c₁ (1 - t/c₂ (1 - ..)) in fixed point: P stands for 1, T for t
unfoldable pub nest : ℕ → ℕ → List ℕ → ℕ
nest P T [] = P
nest P T (c ∷ cs) = P - T * nest P T cs / P / c

-- 2·3, 4·5, .. 12·13, and 1·2, 3·4, .. 13·14
abbrev pub sin_divs : List ℕ
sin_divs = 6 ∷ 20 ∷ 42 ∷ 72 ∷ 110 ∷ 156 ∷ []

abbrev pub cos_divs : List ℕ
cos_divs = 2 ∷ 12 ∷ 30 ∷ 56 ∷ 90 ∷ 132 ∷ 182 ∷ []

-- the sine and the cosine in units of 2^-31, for an angle a in units of 2^-34
abbrev pub square : ℕ → ℕ
square a = a / 4 * (a / 4) / 17179869184

unfoldable pub sin_fix : ℕ → ℕ
unfolding nest
sin_fix a = a * nest 1073741824 (square a) sin_divs / 8589934592

unfoldable pub cos_fix : ℕ → ℕ
unfolding nest
cos_fix a = 2 * nest 1073741824 (square a) cos_divs

-- ---- the arctangent: the angle j / 2^24 at most π / 4 whose tangent is nearest below t / 2^31, by halving
abbrev pub fits_under : ℕ → ℕ → Bool
fits_under t j = nat_le (2147483648 * sin_fix (j * 1024)) (t * cos_fix (j * 1024))

unfoldable pub seek : ℕ → ℕ → ℕ → ℕ → ℕ
seek zero t lo hi = lo
seek (suc f) t lo hi = elim (fits_under t ((lo + hi) / 2)) [ true ↦ seek f t ((lo + hi) / 2) hi | false ↦ seek f t lo ((lo + hi) / 2) ]
