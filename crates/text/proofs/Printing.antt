-- Digits as they are printed. Assumes nothing.
use Prim.Native.Nat.{ℕ, zero, suc, ◌+◌, ◌-◌, ◌/◌, ◌%◌, ◌^◌, ◌≤◌, ◌<◌}
use mathlib.Core.Path.{◌≡◌, refl, ap, ◌∙◌}
use mathlib.Core.List.{List, [], ◌∷◌, ◌++◌}
use native.Mathlib.Nat.{pow-suc, mul-div_cancel}
use native.Mathlib.Omega.{arith}
use mathlib.Core.Bool.{Bool, true, false, cond}
use lib.Dec.{ltb, lit<, lit≤}
use lib.ListN.{length, length-append}
use borrow.Author.Tests.{lt-ltb, le-ltb}
use Rattle.text.specs.Print.{decimal_in, decimal_text}

-- the weight of the next hexadecimal digit
pub weight : (i p : ℕ) → i + 1 < 8 → p ≡ 16 ^ (7 - i) → p / 16 ≡ 16 ^ (7 - (i + 1))
weight i p h e =
    let k = 7 - (i + 1) in
    let f : 7 - i ≡ suc k = omega arith in
    ap (λ (q : ℕ). q / 16) (e ∙ ap (λ (j : ℕ). 16 ^ j) f ∙ pow-suc 16 k) ∙ mul-div_cancel (16 ^ k) (lit< tt)

-- more room for digits than there are changes nothing
roomy : (i j x : ℕ) → x < 10 ^ suc i → x < 10 ^ suc j → decimal_in (suc i) x ≡ decimal_in (suc j) x
unfolding decimal_in
roomy zero zero x h g = refl
roomy zero (suc j) x h g = rw (lt-ltb x 10 (rw pow-suc at h))
roomy (suc i) zero x h g = rw (lt-ltb x 10 (rw pow-suc at g))
roomy (suc i) (suc j) x h g = rw (roomy i j (x / 10) (omega (arith, pow-suc 10 (suc i))) (omega (arith, pow-suc 10 (suc j))))

pub one_digit : (x : ℕ) → x < 10 → decimal_text x ≡ (48 + x) ∷ []
unfolding decimal_text decimal_in
one_digit x h = rw (lt-ltb x 10 h)

-- the last digit stands after the decimal of what is left
pub last_digit : (x : ℕ) → 10 ≤ x → x < 18446744073709551616 → decimal_text x ≡ decimal_text (x / 10) ++ ((48 + x % 10) ∷ [])
unfolding decimal_text decimal_in
last_digit x h g =
    rw (le-ltb x 10 h)
    (ap (λ (l : List ℕ). l ++ ((48 + x % 10) ∷ [])) (roomy 18 19 (x / 10) (omega arith) (omega arith)))

pub last_length : (x : ℕ) → 10 ≤ x → x < 18446744073709551616 → length (decimal_text x) ≡ length (decimal_text (x / 10)) + 1
last_length x h g = ap length (last_digit x h g) ∙ length-append (decimal_text (x / 10)) ((48 + x % 10) ∷ [])

-- the decimal of a number has at most 20 digits
within : (room x : ℕ) → length (decimal_in room x) ≤ room
unfolding decimal_in
within zero x = lit≤ tt
within (suc room) x = by (ltb x 10) (within room (x / 10))
  where
    by : (b : Bool) → length (decimal_in room (x / 10)) ≤ room → length (cond b ((48 + x) ∷ []) (decimal_in room (x / 10) ++ ((48 + x % 10) ∷ []))) ≤ suc room
    by true h = omega arith
    by false h = simp length-append (omega arith)

pub decimal_length : (x : ℕ) → length (decimal_text x) ≤ 20
unfolding decimal_text
decimal_length x = within 20 x
