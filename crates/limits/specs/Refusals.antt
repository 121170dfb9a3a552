-- Document 01's "What a call says no to": its table line by line, and for each call the lines that it checks, in order. Definitions only.
use Rattle.std.specs.Prelude.{ℕ, ◌-◌, ◌%◌, Bool, cond, not, List, [], ◌∷◌, leb, ltb, length, Float, ⊤, Result, Ok, Err}
use Rattle.std.specs.Float.Ieee.Scale.{finite}
use Rattle.points.specs.declared.Point3.{Point3}
use Rattle.limits.specs.declared.Sizes.{Sizes}
use Rattle.limits.specs.declared.TreeLengths.{TreeLengths}
use Rattle.limits.specs.declared.Lengths.{Lengths}
use Rattle.refusals.specs.declared.Refusal.{Refusal}
use Rattle.refusals.specs.declared.Refusal.TheVariants.{UnknownKind, BadSizes, ShortLists, BadPosition, BadAngleStep, BadRadiusStep, BadRate, BadValue, NoMeasurement}
use Rattle.limits.specs.Allowed.{sizes_ok, tree_fits, load_fits, kind_ok, position_ok, first_bad, angle_step_ok, radius_step_ok, rate_ok}

-- a line of the table: the refusal, which has the line's number and place, and whether it is met
pub record Check : Type 0 where
  pub refusal : Refusal
  pub met : Bool

abbrev pub line : Refusal → Bool → Check
line refusal met = record { refusal = refusal; met = met }

-- the refusal of the first line that is met; Ok where none is
unfoldable pub verdict_of : List Check → Result ⊤ Refusal
verdict_of [] = Ok tt
verdict_of (c ∷ cs) = cond c.met (Err c.refusal) (verdict_of cs)

-- ---- the lines: number | met when | place; number and place are those of the refusal (specs/Refusals.antt of the crate `refusals`). The rest of 7, single angle calls, is the crate `angles`'; 9 is met on the way by a search

-- 1 | position kind is neither 0 (cartesian) nor 1 (spherical) | the kind
abbrev pub unknown_kind : ℕ → Check
unknown_kind kind = line (UnknownKind kind) (not (kind_ok kind))

-- 2 | M, C, R or N not allowed | 0
abbrev pub bad_sizes : Sizes → Check
bad_sizes s = line BadSizes (not (sizes_ok s))

-- 3 | a lent list too short, or positions not 3M long | 0
abbrev pub short_lists : Bool → Check
short_lists fit = line ShortLists (not fit)

-- 4 | a position value, of the first n, not allowed | its first index
abbrev pub bad_value : ℕ → List Float → ℕ → Check
bad_value kind xs n = line (BadPosition (first_bad (position_ok kind) xs n)) (ltb (first_bad (position_ok kind) xs n) n)

-- 5 | a step not allowed | 0 angle, 1 radius
abbrev pub bad_angle_step : Float → Check
bad_angle_step x = line BadAngleStep (not (angle_step_ok x))

abbrev pub bad_radius_step : Float → Check
bad_radius_step x = line BadRadiusStep (not (radius_step_ok x))

-- 6 | the rate not allowed | 0
abbrev pub bad_rate : Float → Check
bad_rate x = line BadRate (not (rate_ok x))

-- 7 | a query coordinate not finite | axis
abbrev pub not_finite : ℕ → Float → Check
not_finite axis x = line (BadValue axis) (not (finite x))

-- 8 | a measurement number at or above M | the number
abbrev pub bad_number : Sizes → ℕ → Check
bad_number s number = line (NoMeasurement number) (leb s.m number)

-- ---- the calls

-- the three coordinates of a query
abbrev pub query_lines : Point3 → List Check
query_lines q = not_finite 0 q.x ∷ not_finite 1 q.y ∷ not_finite 2 q.z ∷ []

-- what a load checks after its lists: 4, 5, 6
abbrev pub content_lines : ℕ → List Float → ℕ → Float → Float → Float → List Check
content_lines kind xs n angle radius rate = bad_value kind xs n ∷ bad_angle_step angle ∷ bad_radius_step radius ∷ bad_rate rate ∷ []

-- load: 1 to 6
abbrev pub load_lines : ℕ → Sizes → Lengths → List Float → Float → Float → Float → List Check
load_lines kind s l xs angle radius rate =
    unknown_kind kind ∷ bad_sizes s ∷ short_lists (load_fits s l (length xs)) ∷ content_lines kind xs (length xs) angle radius rate

-- find and find_mut: 2, 3, 7
abbrev pub find_lines : Sizes → TreeLengths → Point3 → List Check
find_lines s t q = bad_sizes s ∷ short_lists (tree_fits s t) ∷ query_lines q

-- a filter query, over whether its lists fit: 2, 3, 6, 7
abbrev pub filter_lines : Sizes → Bool → Float → Point3 → List Check
filter_lines s fit rate q = bad_sizes s ∷ short_lists fit ∷ bad_rate rate ∷ query_lines q

-- a call by number, over whether its list fits: 2, 3, 8
abbrev pub number_lines : Sizes → Bool → ℕ → List Check
number_lines s fit number = bad_sizes s ∷ short_lists fit ∷ bad_number s number ∷ []

-- the filter by number, which is given a rate: 2, 3, 6, 8
abbrev pub rated_lines : Sizes → Bool → Float → ℕ → List Check
rated_lines s fit rate number = bad_sizes s ∷ short_lists fit ∷ bad_rate rate ∷ bad_number s number ∷ []

-- max_delay: 6
abbrev pub rate_lines : Float → List Check
rate_lines rate = bad_rate rate ∷ []

-- how many values of a list stand in whole triplets
abbrev pub triplets : List Float → ℕ
triplets xs = length xs - length xs % 3

-- a conversion from the kind: 4, over whole triplets
abbrev pub value_lines : ℕ → List Float → List Check
value_lines kind xs = bad_value kind xs (triplets xs) ∷ []
