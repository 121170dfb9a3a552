-- How long values are in print, and one value more. Assumes nothing.
use Prim.Native.Nat.{ℕ, ◌+◌, ◌-◌, ◌*◌, ◌<◌}
use mathlib.Core.Path.{◌≡◌, refl, sym, ap, ◌∙◌}
use mathlib.Core.List.{List, [], ◌∷◌, ◌++◌, append_assoc, append-nil}
use native.Mathlib.Numerals.{add-one}
use native.Mathlib.Omega.{arith}
use lib.ListN.{length, take, get_or, length-append}
use lib.Seq.{take-suc, length-take-le}
use lib.Ieee.{Float}
use Rattle.lists.proofs.Laws.{length_upto}
use Rattle.text.specs.Print.{hex_text, digit_at}
use Rattle.text.specs.Values.{bits_of}
use Rattle.blocks.specs.Put.{FitsAt}
use Rattle.blocks.specs.Blocks.{value_text, after_one, list_text}

pub hex_length : (x : ℕ) → length (hex_text x) ≡ 8
unfolding hex_text
hex_length x = length_upto (digit_at x) 8

pub value_length : (x : Float) → length (value_text x) ≡ 8
unfolding value_text
value_length x = hex_length (bits_of x)

after_length : (xs : List Float) → length (after_one xs) ≡ 9 * length xs
unfolding after_one
after_length [] = refl
after_length (x ∷ xs) = let l = length-append (value_text x) (after_one xs) in omega (arith, l, value_length x, after_length xs)

pub list_length : (xs : List Float) → length (list_text xs) ≡ 9 * length xs - 1
unfolding list_text
list_length [] = refl
list_length (x ∷ xs) = let l = length-append (value_text x) (after_one xs) in omega (arith, l, value_length x, after_length xs)

after_more : (xs : List Float) (x : Float) → after_one (xs ++ (x ∷ [])) ≡ after_one xs ++ (44 ∷ value_text x)
unfolding after_one
after_more [] x = append-nil (44 ∷ value_text x)
after_more (y ∷ xs) x = ap (λ (w : List ℕ). (44 ∷ value_text y) ++ w) (after_more xs x) ∙ sym (append_assoc (44 ∷ value_text y) (after_one xs) (44 ∷ value_text x))

pub none : (xs : List Float) → length xs ≡ 0 → list_text xs ≡ []
unfolding list_text
none [] h = refl
none (x ∷ xs) h = absurd (omega arith)

-- the first value, and those after it
pub some : (xs : List Float) (x : Float) (rest : List Float) → xs ≡ x ∷ rest → list_text xs ≡ value_text x ++ after_one rest
unfolding list_text
some xs x rest e = ap list_text e

-- a turn of the loop over those after the first: there is room, and one more is written
pub next : (xs : List Float) (i : ℕ) (z : Float) → i < length xs → after_one (take (i + 1) xs) ≡ after_one (take i xs) ++ (44 ∷ value_text (get_or xs i z))
next xs i z g = ap after_one (ap (λ (k : ℕ). take k xs) (add-one i) ∙ take-suc xs i z g) ∙ after_more (take i xs) (get_or xs i z)

pub room_next : (at i : ℕ) (xs : List Float) (d : List ℕ) (z : Float) → i < length xs → FitsAt at (after_one xs) d → FitsAt at (after_one (take i xs) ++ (44 ∷ value_text (get_or xs i z))) d
room_next at i xs d z g r =
    let l = length-append (after_one (take i xs)) (44 ∷ value_text (get_or xs i z)) in
    let k : length (take i xs) ≡ i = length-take-le i xs (omega arith) in
    omega (arith, r, l, k, after_length (take i xs), after_length xs, value_length (get_or xs i z))
