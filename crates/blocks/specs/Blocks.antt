-- What the query program prints, from document 01's "The query program": a block for each query, and the form error. Definitions only.
use Rattle.std.specs.Prelude.{ℕ, List, [], ◌∷◌, ◌++◌, Float}
use Rattle.text.specs.Print.{hex_text, decimal_text}
use Rattle.text.specs.Values.{bits_of}
use Rattle.text.specs.Words.{bytes}
use Rattle.delays.specs.declared.Seconds.{Seconds}
use Rattle.delays.specs.declared.Outcome.{Outcome}
use Rattle.delays.specs.declared.Outcome.TheVariants.{Exact, Blended, Refused}
use Rattle.refusals.specs.Refusals.{number_of, place_of}
use Rattle.lookup.specs.declared.Located.{Located}
use Rattle.lookup.specs.declared.Located.TheVariants as located

-- ---- a line of each kind

abbrev pub newline : List ℕ
newline = 10 ∷ []

unfoldable pub word_line : List ℕ → List ℕ
word_line word = word ++ newline

unfoldable pub count_line : List ℕ → ℕ → List ℕ
count_line key k = key ++ decimal_text k ++ newline

-- a value's eight digits; every NaN is 7fc00000
unfoldable pub value_text : Float → List ℕ
value_text x = hex_text (bits_of x)

unfoldable pub value_line : List ℕ → Float → List ℕ
value_line key x = key ++ value_text x ++ newline

-- values that come after another: a comma before each
unfoldable pub after_one : List Float → List ℕ
after_one [] = []
after_one (x ∷ xs) = (44 ∷ value_text x) ++ after_one xs

-- a comma between two values; none at all is nothing
unfoldable pub list_text : List Float → List ℕ
list_text [] = []
list_text (x ∷ xs) = value_text x ++ after_one xs

unfoldable pub values_line : List ℕ → List Float → List ℕ
values_line key xs = key ++ list_text xs ++ newline

-- ---- blocks

unfoldable pub head_text : List ℕ → ℕ → ℕ → List ℕ
head_text answer nearest points = word_line answer ++ count_line (bytes "nearest=") nearest ++ count_line (bytes "points=") points

unfoldable pub delays_text : Seconds → Seconds → List ℕ
delays_text l r = value_line (bytes "ldelay=") l.0 ++ value_line (bytes "rdelay=") r.0

unfoldable pub filter_text : List ℕ → ℕ → ℕ → Seconds → Seconds → List Float → List Float → List ℕ
filter_text answer nearest points l r left right =
    head_text answer nearest points ++ values_line (bytes "left=") left ++ values_line (bytes "right=") right ++ delays_text l r

unfoldable pub refused_text : ℕ → ℕ → List ℕ
refused_text reason place = word_line (bytes "answer=refused") ++ count_line (bytes "reason=") reason ++ count_line (bytes "place=") place

-- a filter's block names the measurement that was found. A find that was refused is told as that: no filter of a set is answered then
-- (crate `answers`, `found_where_answered`)
abbrev pub found_text : List ℕ → Located → ℕ → Seconds → Seconds → List Float → List Float → List ℕ
found_text answer (located.At number) points l r left right = filter_text answer number points l r left right
found_text answer (located.Refused refusal) points l r left right = refused_text (number_of refusal) (place_of refusal)

-- the block of a query: the filter's outcome, what the find answered, and both responses
abbrev pub block_of : Outcome → Located → List Float → List Float → List ℕ
block_of (Exact l r) found left right = found_text (bytes "answer=exact") found 1 l r left right
block_of (Blended l r points) found left right = found_text (bytes "answer=blended") found points l r left right
block_of (Refused reason place) found left right = refused_text reason place

-- ---- the form error, at line k

unfoldable pub form_error : ℕ → List ℕ
form_error k = count_line (bytes "form error at line ") k
