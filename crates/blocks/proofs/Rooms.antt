-- How many bytes are enough for a block and for a form error. Assumes nothing.
use Prim.Native.Nat.{ℕ, ◌+◌, ◌*◌, ◌≤◌}
use mathlib.Core.Path.{◌≡◌}
use mathlib.Core.List.{List, ◌++◌}
use native.Mathlib.Omega.{arith}
use lib.ListN.{length, length-append}
use lib.Ieee.{Float}
use Rattle.text.specs.Print.{decimal_text}
use Rattle.text.proofs.Printing.{decimal_length}
use Rattle.text.specs.Words.{bytes}
use Rattle.delays.specs.declared.Seconds.{Seconds}
use Rattle.delays.specs.declared.Outcome.{Outcome}
use Rattle.delays.specs.declared.Outcome.TheVariants.{Exact, Blended, Refused}
use Rattle.refusals.specs.Refusals.{number_of, place_of}
use Rattle.lookup.specs.declared.Located.{Located}
use Rattle.lookup.specs.declared.Located.TheVariants as located
use Rattle.blocks.specs.Blocks.{newline, word_line, count_line, value_text, value_line, list_text, values_line, head_text, delays_text, filter_text, found_text, refused_text, block_of, form_error}
use Rattle.blocks.proofs.Values.{value_length, list_length}

word : (w : List ℕ) → length (word_line w) ≡ length w + 1
unfolding word_line
word w = length-append w newline

count : (key : List ℕ) (k : ℕ) → length (count_line key k) ≤ length key + 21
unfolding count_line
count key k = omega (arith, length-append (key ++ decimal_text k) newline, length-append key (decimal_text k), decimal_length k)

value : (key : List ℕ) (x : Float) → length (value_line key x) ≡ length key + 9
unfolding value_line
value key x = omega (arith, length-append (key ++ value_text x) newline, length-append key (value_text x), value_length x)

values : (key : List ℕ) (xs : List Float) → length (values_line key xs) ≤ length key + 9 * length xs + 1
unfolding values_line
values key xs = omega (arith, length-append (key ++ list_text xs) newline, length-append key (list_text xs), list_length xs)

head : (w : List ℕ) (k p : ℕ) → length (head_text w k p) ≤ length w + 58
unfolding head_text bytes
head w k p =
    omega (arith, length-append (word_line w ++ count_line (bytes "nearest=") k) (count_line (bytes "points=") p), length-append (word_line w) (count_line (bytes "nearest=") k), word w, count (bytes "nearest=") k, count (bytes "points=") p)

both : (l r : Seconds) → length (delays_text l r) ≤ 32
unfolding delays_text bytes
both l r = omega (arith, length-append (value_line (bytes "ldelay=") l.0) (value_line (bytes "rdelay=") r.0), value (bytes "ldelay=") l.0, value (bytes "rdelay=") r.0)

filter : (w : List ℕ) (k p : ℕ) (l r : Seconds) (left right : List Float) → length (filter_text w k p l r left right) ≤ length w + 9 * length left + 9 * length right + 103
unfolding filter_text bytes
filter w k p l r left right =
    let h = head_text w k p in
    let a = values_line (bytes "left=") left in
    let b = values_line (bytes "right=") right in
    let t = delays_text l r in
    omega (arith, length-append (h ++ a ++ b) t, length-append (h ++ a) b, length-append h a, head w k p, values (bytes "left=") left, values (bytes "right=") right, both l r)

pub refused_room : (k p : ℕ) → length (refused_text k p) ≤ 70
unfolding refused_text bytes
refused_room k p =
    let w = word_line (bytes "answer=refused") in
    omega (arith, length-append (w ++ count_line (bytes "reason=") k) (count_line (bytes "place=") p), length-append w (count_line (bytes "reason=") k), word (bytes "answer=refused"), count (bytes "reason=") k, count (bytes "place=") p)

found : (w : List ℕ) (f : Located) (p : ℕ) (l r : Seconds) (left right : List Float) → length (found_text w f p l r left right) ≤ length w + 9 * length left + 9 * length right + 103
found w (located.At k) p l r left right = filter w k p l r left right
found w (located.Refused refusal) p l r left right = omega (arith, refused_room (number_of refusal) (place_of refusal))

-- 9 bytes for each value and 120 more
pub block_room : (o : Outcome) (f : Located) (left right : List Float) → length (block_of o f left right) ≤ 9 * length left + 9 * length right + 120
unfolding bytes
block_room (Exact l r) f left right = omega (arith, found (bytes "answer=exact") f 1 l r left right)
block_room (Blended l r p) f left right = omega (arith, found (bytes "answer=blended") f p l r left right)
block_room (Refused reason place) f left right = omega (arith, refused_room reason place)

pub error_room : (k : ℕ) → length (form_error k) ≤ 40
unfolding form_error bytes
error_room k = omega (arith, count (bytes "form error at line ") k)
