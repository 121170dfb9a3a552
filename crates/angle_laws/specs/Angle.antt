-- S and C of document 01's "Angles", for x = ± n / d. Everything is a fraction of whole numbers.
use Rattle.std.specs.Prelude.{ℕ, ◌+◌, ◌-◌, ◌*◌, ◌/◌, ◌%◌, zero, suc, ◌≤◌, Bool, cond, true, false, not, ltb, Float}
use Rattle.std.specs.Bool.{beq}
use Rattle.std.specs.Float.{nan, inf, fin}
use Rattle.std.specs.Float.Ieee.{up, down}
use Rattle.sines.specs.Steps.{dist, xor}
use Rattle.angle_laws.specs.Series.{sin_top, sin_bot, cos_top, cos_bot}

-- ± top / bot
pub record Ratio : Type 0 where
  pub neg : Bool
  pub top : ℕ
  pub bot : ℕ

-- π is taken as exactly 3.14159265358979323846
abbrev pub pi_top : ℕ
pi_top = 314159265358979323846

abbrev pub pi_bot : ℕ
pi_bot = 100000000000000000000

-- The size of k, the whole number nearest 2x / π, which is 2 n piBot / (d piTop) in size. Of two as near k is the lower: the smaller in size above zero, the larger below.
unfoldable pub quarters : Bool → ℕ → ℕ → ℕ
quarters neg n d = (4 * pi_bot * n + pi_top * d - cond neg 0 1) / (2 * (pi_top * d))

-- k mod 4, where k has x's sign
abbrev pub turn : Bool → ℕ → ℕ
turn neg k = cond neg ((4 - k % 4) % 4) (k % 4)

-- r = x - k π/2, in size: |2 piBot n - k piTop d| / (2 piBot d); and whether it is below zero (or zero under a negative x)
abbrev pub rest_top : ℕ → ℕ → ℕ → ℕ
rest_top k n d = dist (2 * pi_bot * n) (k * (pi_top * d))

abbrev pub rest_bot : ℕ → ℕ
rest_bot d = 2 * pi_bot * d

abbrev pub rest_neg : Bool → ℕ → ℕ → ℕ → Bool
rest_neg neg k n d = xor neg (ltb (2 * pi_bot * n) (k * (pi_top * d)))

-- by k mod 4 = 0, 1, 2, 3: S = s, c, -s, -c and C = c, -s, -c, s, of r = ± R / D
abbrev pub pick_s : ℕ → Bool → ℕ → ℕ → Ratio
pick_s zero rn R D = record { neg = rn; top = sin_top R D; bot = sin_bot D }
pick_s (suc zero) rn R D = record { neg = false; top = cos_top R D; bot = cos_bot D }
pick_s (suc (suc zero)) rn R D = record { neg = not rn; top = sin_top R D; bot = sin_bot D }
pick_s (suc (suc (suc n))) rn R D = record { neg = true; top = cos_top R D; bot = cos_bot D }

abbrev pub pick_c : ℕ → Bool → ℕ → ℕ → Ratio
pick_c zero rn R D = record { neg = false; top = cos_top R D; bot = cos_bot D }
pick_c (suc zero) rn R D = record { neg = not rn; top = sin_top R D; bot = sin_bot D }
pick_c (suc (suc zero)) rn R D = record { neg = true; top = cos_top R D; bot = cos_bot D }
pick_c (suc (suc (suc n))) rn R D = record { neg = rn; top = sin_top R D; bot = sin_bot D }

unfoldable pub sine : Bool → ℕ → ℕ → Ratio
unfolding quarters
sine neg n d = let k = quarters neg n d in pick_s (turn neg k) (rest_neg neg k n d) (rest_top k n d) (rest_bot d)

unfoldable pub cosine : Bool → ℕ → ℕ → Ratio
unfolding quarters
cosine neg n d = let k = quarters neg n d in pick_c (turn neg k) (rest_neg neg k n d) (rest_top k n d) (rest_bot d)

-- S(x) and C(x) of a finite x
unfoldable pub S : Float → Ratio
unfolding sine
S nan = record { neg = false; top = 0; bot = 1 }
S (inf s) = record { neg = false; top = 0; bot = 1 }
S (fin s m e) = sine s (m * up e) (down e)

unfoldable pub C : Float → Ratio
unfolding cosine
C nan = record { neg = false; top = 0; bot = 1 }
C (inf s) = record { neg = false; top = 0; bot = 1 }
C (fin s m e) = cosine s (m * up e) (down e)

-- |± a / b - ρ| ≤ 1 / g, denominators multiplied out
abbrev pub apart : Bool → ℕ → ℕ → Ratio → ℕ
apart s a b ρ = cond (beq s ρ.neg) (dist (a * ρ.bot) (ρ.top * b)) (a * ρ.bot + ρ.top * b)

unfoldable pub close_to : ℕ → Float → Ratio → Type 0
close_to g nan ρ = ⊥
close_to g (inf s) ρ = ⊥
close_to g (fin s m e) ρ = apart s (m * up e) (down e) ρ * g ≤ down e * ρ.bot
