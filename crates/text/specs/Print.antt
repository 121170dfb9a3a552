-- Numbers as they are printed: a pattern in eight lower-case hexadecimal digits, a decimal without leading zeros. Definitions only.
use Rattle.std.specs.Prelude.{ℕ, zero, suc, ◌+◌, ◌-◌, ◌/◌, ◌%◌, ◌^◌, cond, List, [], ◌∷◌, ◌++◌, ltb}
use Rattle.lists.specs.Over.{upto}

-- the glyph of a digit below 16
unfoldable pub glyph_of : ℕ → ℕ
glyph_of d = cond (ltb d 10) (48 + d) (87 + d)

-- digit i of eight, the most significant first
unfoldable pub digit_at : ℕ → ℕ → ℕ
digit_at x i = glyph_of (x / 16 ^ (7 - i) % 16)

unfoldable pub hex_text : ℕ → List ℕ
hex_text x = upto (digit_at x) 8

-- at most so many decimal digits of x, the last ones
unfoldable pub decimal_in : ℕ → ℕ → List ℕ
decimal_in zero x = []
decimal_in (suc room) x = cond (ltb x 10) ((48 + x) ∷ []) (decimal_in room (x / 10) ++ ((48 + x % 10) ∷ []))

-- the decimal of a 64-bit number: 20 digits are enough
unfoldable pub decimal_text : ℕ → List ℕ
decimal_text x = decimal_in 20 x
