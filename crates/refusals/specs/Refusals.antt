-- Document 01's table "What a call says no to", line by line: the number of each case, and the place then given. When a line is met is said where it is
-- checked: lines 1 to 8 in specs/Refusals.antt of the crate `limits`, line 7 of single angle calls in `angles`, line 9 by the search that meets it.
use Rattle.std.specs.Prelude.{ℕ, Bool, ⊤, Result, Ok, Err, if◌then◌else◌}
use Rattle.refusals.specs.declared.Refusal.{Refusal}
use Rattle.refusals.specs.declared.Refusal.TheVariants.{UnknownKind, BadSizes, ShortLists, BadPosition, BadAngleStep, BadRadiusStep, BadRate, BadValue, NoMeasurement, BadLink}

-- no.
abbrev pub number_of : Refusal → ℕ
number_of (UnknownKind kind) = 1
number_of BadSizes = 2
number_of ShortLists = 3
number_of (BadPosition index) = 4
number_of BadAngleStep = 5
number_of BadRadiusStep = 5
number_of BadRate = 6
number_of (BadValue argument) = 7
number_of (NoMeasurement number) = 8
number_of BadLink = 9

-- place
abbrev pub place_of : Refusal → ℕ
place_of (UnknownKind kind) = kind
place_of BadSizes = 0
place_of ShortLists = 0
place_of (BadPosition index) = index
place_of BadAngleStep = 0
place_of BadRadiusStep = 1
place_of BadRate = 0
place_of (BadValue argument) = argument
place_of (NoMeasurement number) = number
place_of BadLink = 0

-- what is asked for is so, or the refusal
abbrev pub allowed : Bool → Refusal → Result ⊤ Refusal
allowed ok refusal = if ok then Ok tt else Err refusal
