-- Values in a line: f32 bits, eight lower-case hexadecimal digits each, with a comma between two. Definitions only.
-- Every NaN pattern is the one value `nan`, and `nan` is printed as 7fc00000: lib.Ieee's own `of_bits` and `to_bits`.
use Rattle.std.specs.Prelude.{ℕ, zero, suc, ◌+◌, ◌*◌, Bool, true, cond, ◌&&◌, ◌||◌, List, eqb, length, get_or, take, drop, Float, is_some, Option, Some, None}
use Rattle.std.specs.Float.Ieee.{of_bits, to_bits}
use Rattle.std.specs.Float.{binary32}
use Rattle.floats.specs.Floats.{zero32}
use Rattle.lists.specs.Over.{into, upto}
use Rattle.text.specs.Number.{hex_of}

abbrev pub value_of : ℕ → Float
value_of b = of_bits binary32 b

abbrev pub bits_of : Float → ℕ
bits_of x = to_bits binary32 x

-- whether f holds of each number below n
unfoldable pub all_below : (ℕ → Bool) → ℕ → Bool
all_below f zero = true
all_below f (suc n) = all_below f n && f n

abbrev pub from_num : Option ℕ → Float
from_num (Some v) = value_of v
from_num None = zero32

-- value k of a line: each takes eight digits and its comma
unfoldable pub value_at : List ℕ → ℕ → Float
value_at s k = from_num (hex_of (take 8 (drop (9 * k) s)))

-- value k of n is well formed, and a comma stands after it unless it is the last
unfoldable pub good_at : List ℕ → ℕ → ℕ → Bool
good_at s n k = is_some (hex_of (take 8 (drop (9 * k) s))) && (eqb (k + 1) n || eqb (get_or s (9 * k + 8) 0) 44)

-- exactly n values; none at all is the empty line
unfoldable pub values_ok : List ℕ → ℕ → Bool
values_ok s n = cond (eqb n 0) (eqb (length s) 0) (eqb (length s + 1) (9 * n) && all_below (good_at s n) n)

-- the list after n values went to place `at`: all of them, or untouched
unfoldable pub stored : Bool → List ℕ → ℕ → ℕ → List Float → List Float
stored good s n at d = cond good (into at (upto (value_at s) n) d) d
