-- The remainder of a value below two turns by one turn: the value itself, or one turn less. Assumes nothing.
use Rattle.std.proofs.Common.{◌≡◌, ℕ, ◌+◌, ◌-◌, ◌*◌, ◌%◌, ◌<◌, ◌≤◌, true, false, T, ltb, ℤ, sym, ap, ◌∙◌, arith, ltb→lt, nltb→le, pos}
use borrow.Author.Tests.{ne_eqb, le-ltb}
use Rattle.std.proofs.Math.Nat.{mul-pos, mod-eq_of_lt, add-mul-mod_self_left}
use lib.Ieee.{Float, nan, inf, fin, Format, binary32, up, down, round, neg, sum, add, sub, rem, lt, fits, of_bits}
use lib.Ieee.Fits.{down_pos}
use lib.Ieee.Scale.{round_same}
use Rattle.floats.specs.Floats.{zero32}
use Rattle.floats.proofs.Cross.{of_taken, of_left}
use Rattle.floats.proofs.Values.{round_back}
use Rattle.coords.specs.Coords.{full32, two_turns}

-- one from b on and below 2 b is b more than its remainder
less_mod : (a b : ℕ) → b ≤ a → a < 2 * b → a % b ≡ a - b
less_mod a b h k =
    let split : a ≡ a - b + b * 1 = omega arith in
    ap (λ (z : ℕ). z % b) split ∙ add-mul-mod_self_left (a - b) b 1 ∙ mod-eq_of_lt (omega arith)

-- x % y of a positive y: the fraction's remainder, rounded
rem_is : (f : Format) (m : ℕ) (e : ℤ) (n : ℕ) (d : ℤ) → 0 < n → rem f (fin false m e) (fin false n d) ≡ round f false (m * up e * down d % (n * up d * down e)) (down e * down d)
unfolding rem
rem_is f m e n d N = rw (ne_eqb n 0 (λ z. omega arith))

-- below y it is x
rem_small : (f : Format) (m : ℕ) (e : ℤ) (n : ℕ) (d : ℤ) → 0 < n → T (fits f (fin false m e)) → m * up e * down d < n * up d * down e → fin false m e ≡ rem f (fin false m e) (fin false n d)
rem_small f m e n d N w h =
    let same : round f false (m * up e * down d) (down e * down d) ≡ round f false (m * up e) (down e) = round_same f false (m * up e * down d) (down e * down d) (m * up e) (down e) (mul-pos (down_pos e) (down_pos d)) (down_pos e) (regroup (m * up e) (down d) (down e)) in
    sym (round_back f false m e w) ∙ sym same ∙ ap (λ (z : ℕ). round f false z (down e * down d)) (sym (mod-eq_of_lt h)) ∙ sym (rem_is f m e n d N)
  where
    regroup : (a c b : ℕ) → a * c * b ≡ a * (b * c)
    regroup a c b = omega arith

-- from y on and below 2 y it is x - y
sub_is : (f : Format) (m : ℕ) (e : ℤ) (n : ℕ) (d : ℤ) → n * up d * down e ≤ m * up e * down d → sub f (fin false m e) (fin false n d) ≡ round f false (m * up e * down d - n * up d * down e) (down e * down d)
unfolding sub add neg sum
sub_is f m e n d h = rw (le-ltb (m * up e * down d) (n * up d * down e) h)

rem_less : (f : Format) (m : ℕ) (e : ℤ) (n : ℕ) (d : ℤ) → 0 < n → n * up d * down e ≤ m * up e * down d → m * up e * down d < 2 * (n * up d * down e) → sub f (fin false m e) (fin false n d) ≡ rem f (fin false m e) (fin false n d)
rem_less f m e n d N h k = sub_is f m e n d h ∙ ap (λ (z : ℕ). round f false z (down e * down d)) (sym (less_mod (m * up e * down d) (n * up d * down e) h k)) ∙ sym (rem_is f m e n d N)

-- ---- by 360
below : (m : ℕ) (e : ℤ) (k : ℕ) → T (ltb (m * up e * 1) (k * down e)) → m * up e * 1 < k * down e
below m e k t = ltb→lt (m * up e * 1) (k * down e) t

pub rem_below : (y : Float) → T (fits binary32 y) → lt zero32 y ≡ true → lt y full32 ≡ true → y ≡ rem binary32 y full32
unfolding of_bits lt
rem_below nan w h k = absurd (of_taken k)
rem_below (inf true) w h k = absurd (of_taken h)
rem_below (inf false) w h k = absurd (of_taken k)
rem_below (fin true m e) w h k = absurd (of_taken h)
rem_below (fin false m e) w h k = rem_small binary32 m e 45 (pos 3) (omega arith) w (below m e 360 (of_taken k))

pub rem_above : (y : Float) → lt zero32 y ≡ true → lt y two_turns ≡ true → lt y full32 ≡ false → sub binary32 y full32 ≡ rem binary32 y full32
unfolding of_bits lt
rem_above nan h k l = absurd (of_taken k)
rem_above (inf true) h k l = absurd (of_taken h)
rem_above (inf false) h k l = absurd (of_taken k)
rem_above (fin true m e) h k l = absurd (of_taken h)
rem_above (fin false m e) h k l = rem_less binary32 m e 45 (pos 3) (omega arith) (nltb→le (m * up e * 1) (360 * down e) (of_left l)) (doubled (m * up e * 1) (down e) (below m e 720 (of_taken k)))
  where
    doubled : (a c : ℕ) → a < 720 * c → a < 2 * (360 * c)
    doubled a c h = omega arith
