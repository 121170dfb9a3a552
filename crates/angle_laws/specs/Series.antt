-- The sine and cosine series of document 01 over a fraction R / D, as whole numbers over a common denominator; and the same in nested form, exact and in fixed point.
use Rattle.std.specs.Prelude.{ℕ, zero, suc, ◌*◌, ◌-◌, ◌/◌, ◌^◌, ◌+◌, List, ◌∷◌, []}

abbrev pub fact : ℕ → ℕ
fact zero = 1
fact (suc n) = suc n * fact n

-- (R / D)^i / i!, over n! D^n
abbrev pub term : ℕ → ℕ → ℕ → ℕ → ℕ
term n i R D = fact n / fact i * (R ^ i * D ^ (n - i))

-- r - r^3/3! + r^5/5! - .. + r^13/13!, over 13! D^13
unfoldable pub sin_top : ℕ → ℕ → ℕ
sin_top R D =
    term 13 1 R D + term 13 5 R D + term 13 9 R D + term 13 13 R D
    - (term 13 3 R D + term 13 7 R D + term 13 11 R D)

unfoldable pub sin_bot : ℕ → ℕ
sin_bot D = fact 13 * D ^ 13

-- 1 - r^2/2! + r^4/4! - .. - r^14/14!, over 14! D^14
unfoldable pub cos_top : ℕ → ℕ → ℕ
cos_top R D =
    term 14 0 R D + term 14 4 R D + term 14 8 R D + term 14 12 R D
    - (term 14 2 R D + term 14 6 R D + term 14 10 R D + term 14 14 R D)

unfoldable pub cos_bot : ℕ → ℕ
cos_bot D = fact 14 * D ^ 14

-- 1 - t/c₁ (1 - t/c₂ (1 - ..)), with t = R2 / D2, is top / bot
unfoldable pub bot : ℕ → List ℕ → ℕ
bot D2 [] = 1
bot D2 (c ∷ cs) = c * (D2 * bot D2 cs)

unfoldable pub top : ℕ → ℕ → List ℕ → ℕ
unfolding bot
top R2 D2 [] = 1
top R2 D2 (c ∷ cs) = c * (D2 * bot D2 cs) - R2 * top R2 D2 cs
