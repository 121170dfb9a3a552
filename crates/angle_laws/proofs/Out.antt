-- A whole number below 2^24 times 2^-(g+1) is exact, and the angle of each eighth is place o j / 2^24. Assumes nothing.
use Prim.Native.Nat.{ℕ, zero, suc, ◌+◌, ◌-◌, ◌*◌, ◌/◌, min, ◌≤◌, ◌^◌, ◌<◌}
use mathlib.Core.Path.{◌≡◌, sym, ap, ◌∙◌, subst, refl}
use native.Mathlib.Omega.{arith}
use mathlib.Core.Bool.{Bool, false, true, true≢false}
use native.Mathlib.Nat.{sub-add_cancel, le_of_lt, lt_of_le_of_lt, mul_assoc, mul-le-mul, mul-pos, mul-le-mul_right, mul-one, mul_comm}
use lib.Dec.{lit<, lit≤}
use lib.Pow.{pow_pos, pow-add, pow_mono}
use lib.IntN.{negsuc, pos, ℤ}
use lib.Ieee.{Float, nan, inf, fin, binary32, up, down, round, mul, unlike, of_int}
use lib.Ieee.Fits.{down_pos}
use lib.Ieee.Exact.{HasValue, round_exact}
use lib.Ieee.Scale.{round_same}
use lib.Ieee.Back.{round_whole}
use Rattle.angles.specs.Arc.{angle_of}

-- the angle in units of 2^-24, in the eighth o = 0, 1, 2, 3 of a turn: j, π/2 - j, π/2 + j, π - j, on the grid of the floats there, and within the eighth
unfoldable pub place : ℕ → ℕ → ℕ
place zero j = j
place (suc zero) j = 2 * (13176794 - (min j 13176792 + 1) / 2)
place (suc (suc zero)) j = 4 * (6588398 + min j 13176788 / 4)
place (suc (suc (suc o))) j = 4 * (13176794 - (min j 13176788 + 3) / 4)

scaled : (y : Float) (w g : ℕ) → HasValue y false w 1 → w < 2 ^ 24 → suc g ≤ 149 → HasValue (mul binary32 y (fin false 1 (negsuc g))) false w (2 ^ suc g)
unfolding mul
scaled nan w g h l k = absurd h
scaled (inf s) w g h l k = absurd h
scaled (fin s m e) w g h l k =
    let b = down e * 2 ^ suc g in
    let same : round binary32 (unlike s false) (m * up e * 1) b ≡ round binary32 false w (2 ^ suc g) =
    ap (λ (t : Bool). round binary32 (unlike t false) (m * up e * 1) b) h.0
    ∙ round_same binary32 false (m * up e * 1) b w (2 ^ suc g) (mul-pos (down_pos e) (pow_pos (suc g))) (pow_pos (suc g)) (g1 (m * up e) (2 ^ suc g) w (down e) h.1) in
    subst (λ (z : Float). HasValue z false w (2 ^ suc g)) (sym same)
    (round_exact binary32 false w (2 ^ suc g) w (149 - suc g) (pow_pos (suc g)) l
    (lt_of_le_of_lt (mul-le-mul (le_of_lt l) (pow_mono {i = 149 - suc g} {j = 149} (g2 (suc g)))) (lit< tt))
    (ap (λ (z : ℕ). w * z) (ap (λ (z : ℕ). 2 ^ z) (sym (sub-add_cancel k)) ∙ pow-add 2 (149 - suc g) (suc g)) ∙ sym (mul_assoc w (2 ^ (149 - suc g)) (2 ^ suc g))))
  where
    g1 : (x K w d : ℕ) → x * 1 ≡ w * d → x * 1 * K ≡ w * (d * K)
    g1 x K w d e = ap (λ (z : ℕ). z * K) e ∙ mul_assoc w d K

    g2 : (k : ℕ) → 149 - k ≤ 149
    g2 k = omega arith

pub exact : (w g : ℕ) → w < 16777216 → suc g ≤ 149 → HasValue (mul binary32 (of_int binary32 (pos w)) (fin false 1 (negsuc g))) false w (2 ^ suc g)
unfolding of_int
exact w g l k = scaled (round binary32 false w 1) w g (round_whole binary32 false w (le_of_lt l)) l k

-- ---- the angle of an eighth: finite, not below zero, place o j / 2^24, and at most π
pub record Out (a : Float) (N : ℕ) : Type 0 where
  pub m : ℕ
  pub e : ℤ
  pub is : a ≡ fin false m e
  pub at : N * down e ≡ 16777216 * (m * up e)
  pub top : m * up e * 4194304 ≤ 13176795 * down e

out : (a : Float) (w K f N : ℕ) → HasValue a false w K → K * f ≡ 16777216 → w * f ≡ N → N ≤ 52707180 → Out a N
out nan w K f N h kf wf l = absurd h
out (inf s) w K f N h kf wf l = absurd h
out (fin true m e) w K f N h kf wf l = absurd (true≢false h.0)
out (fin false m e) w K f N h kf wf l =
    let at : N * down e ≡ 16777216 * (m * up e) = go (m * up e) (down e) h.1 kf wf in
    record { m = m; e = e; is = refl; at = at; top = cap (m * up e) (down e) at (mul-le-mul_right (down e) l) }
  where
    go : (n d : ℕ) → n * K ≡ w * d → K * f ≡ 16777216 → w * f ≡ N → N * d ≡ 16777216 * n
    go n d a b c = ap (λ (z : ℕ). z * d) (sym c) ∙ g1 ∙ ap (λ (z : ℕ). z * f) (sym a) ∙ g2 ∙ ap (λ (z : ℕ). z * n) b
      where
        g1 : w * f * d ≡ w * d * f
        g1 = omega arith

        g2 : n * K * f ≡ K * f * n
        g2 = omega arith

    cap : (n d : ℕ) → N * d ≡ 16777216 * n → N * d ≤ 52707180 * d → n * 4194304 ≤ 13176795 * d
    cap n d a b = omega arith

pub angle_out : (o j : ℕ) → o < 4 → j < 13176795 → Out (angle_of o j) (place o j)
unfolding angle_of place
angle_out zero j ho hj = out _ j 16777216 1 j (exact j 23 (omega arith) (lit≤ tt)) refl (mul-one j) (omega arith)
angle_out (suc zero) j ho hj = out _ (13176794 - (min j 13176792 + 1) / 2) 8388608 2 _ (exact (13176794 - (min j 13176792 + 1) / 2) 22 (omega arith) (lit≤ tt)) refl (mul_comm (13176794 - (min j 13176792 + 1) / 2) 2) (omega arith)
angle_out (suc (suc zero)) j ho hj = out _ (6588398 + min j 13176788 / 4) 4194304 4 _ (exact (6588398 + min j 13176788 / 4) 21 (omega arith) (lit≤ tt)) refl (mul_comm (6588398 + min j 13176788 / 4) 4) (omega arith)
angle_out (suc (suc (suc zero))) j ho hj = out _ (13176794 - (min j 13176788 + 3) / 4) 4194304 4 _ (exact (13176794 - (min j 13176788 + 3) / 4) 21 (omega arith) (lit≤ tt)) refl (mul_comm (13176794 - (min j 13176788 + 3) / 4) 4) (omega arith)
angle_out (suc (suc (suc (suc o)))) j ho hj = absurd (omega arith)
