-- Numbers in a line, from document 01's "The query program": eight lower-case hexadecimal digits, and decimals with a limit. Bytes are
-- numbers: `0` is 48, `a` is 97. Definitions only.
use Rattle.std.specs.Prelude.{ℕ, ◌+◌, ◌-◌, ◌*◌, Bool, true, false, cond, ◌&&◌, ◌||◌, not, List, [], ◌∷◌, eqb, leb, ltb, length, get_or, Option, Some, None}

-- a digit's value: `0` to `9`, `a` to `f`; 16 for any other byte
unfoldable pub digit_of : ℕ → ℕ
digit_of b = cond (leb 48 b && leb b 57) (b - 48) (cond (leb 97 b && leb b 102) (b - 87) 16)

-- a digit of the base, where the byte is one
unfoldable pub digit_in : ℕ → ℕ → Option ℕ
digit_in base b = cond (ltb (digit_of b) base) (Some (digit_of b)) None

-- the number that digits go on to after v, without bound; none where one is no digit of the base
unfoldable pub num_from : ℕ → ℕ → List ℕ → Option ℕ
num_from base v [] = Some v
num_from base v (b ∷ bs) = cond (ltb (digit_of b) base) (num_from base (v * base + digit_of b) bs) None

-- eight lower-case hexadecimal digits and nothing else
unfoldable pub hex_of : List ℕ → Option ℕ
hex_of s = cond (eqb (length s) 8) (num_from 16 0 s) None

unfoldable pub at_most : ℕ → Option ℕ → Option ℕ
at_most k (Some v) = cond (leb v k) (Some v) None
at_most k None = None

-- a decimal: no sign, and no leading zero but in `0` itself; above the limit it is malformed
unfoldable pub count_of : ℕ → List ℕ → Option ℕ
count_of limit s = cond (eqb (length s) 0 || (eqb (get_or s 0 0) 48 && not (eqb (length s) 1))) None (at_most limit (num_from 10 0 s))

-- whether s begins with k
unfoldable pub begins : List ℕ → List ℕ → Bool
begins [] s = true
begins (x ∷ k) [] = false
begins (x ∷ k) (y ∷ s) = eqb y x && begins k s
