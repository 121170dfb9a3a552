-- The three filters of a set: what each answers and what both outputs then hold, refusals included. Definitions only.
use Rattle.std.specs.Prelude.{ℕ, List, length, Float, ⊤, Result, Ok, Err}
use Rattle.points.specs.declared.Point3.{Point3}
use Rattle.refusals.specs.declared.Refusal.{Refusal}
use Rattle.refusals.specs.Refusals.{number_of, place_of}
use Rattle.limits.specs.declared.Sizes.{Sizes}
use Rattle.limits.specs.declared.Lengths.{Lengths}
use Rattle.limits.specs.Allowed.{tree_lengths, plain_fits, blend_fits, responses_fit}
use Rattle.limits.specs.Refusals.{verdict_of, filter_lines, rated_lines}
use Rattle.lookup.specs.declared.Lookup.{Lookup}
use Rattle.lookup.specs.declared.Located.{Located}
use Rattle.lookup.specs.declared.Located.TheVariants.{At, Refused}
use Rattle.lookup.specs.Lookup.{locate_of}
use Rattle.interpolate.specs.Blend.{FilterAnswer, refused_of, extract_of, interpolate_of}

-- ---- the lists that are lent

abbrev pub lengths_of : List Float → List ℕ → List ℕ → List Float → List ℕ → Lengths
lengths_of cart left right resp near = record { tree = tree_lengths cart left right; responses = length resp; neighbours = length near }

-- ---- refusals: "sets every left and right sample to +0 and answers no delays"

-- a refusal, over outputs of these two lengths
abbrev pub refused_by : Refusal → ℕ → ℕ → FilterAnswer
refused_by refusal ll rl = refused_of (number_of refusal) (place_of refusal) ll rl

-- nothing is refused beforehand
unfoldable pub allowed : Result ⊤ Refusal → ℕ → ℕ → FilterAnswer → FilterAnswer
allowed (Ok fine) ll rl f = f
allowed (Err refusal) ll rl f = refused_by refusal ll rl

-- nothing is refused on the way to the nearest measurement
unfoldable pub nearest_or : Located → ℕ → ℕ → (ℕ → FilterAnswer) → FilterAnswer
nearest_or (At k) ll rl f = f k
nearest_or (Refused refusal) ll rl f = refused_by refusal ll rl

-- ---- the calls, over outputs of these two lengths

-- the blend at the query as given, around the measurement that is nearest to the clamped query
unfoldable pub filter_says : Sizes → Lookup → List Float → List ℕ → List ℕ → List ℕ → List Float → List Float → Float → Point3 → ℕ → ℕ → FilterAnswer
filter_says s look cart left right near resp delays rate q ll rl =
    allowed (verdict_of (filter_lines s (blend_fits s (lengths_of cart left right resp near)) rate q)) ll rl
    (nearest_or (locate_of look s.m cart left right q) ll rl (interpolate_of s.m s.r s.n resp delays rate ll rl cart near q))

-- the nearest measurement as it is
unfoldable pub plain_says : Sizes → Lookup → List Float → List ℕ → List ℕ → List Float → List Float → Float → Point3 → ℕ → ℕ → FilterAnswer
plain_says s look cart left right resp delays rate q ll rl =
    allowed (verdict_of (filter_lines s (plain_fits s (tree_lengths cart left right) (length resp)) rate q)) ll rl
    (nearest_or (locate_of look s.m cart left right q) ll rl (extract_of s.m s.r s.n resp delays rate ll rl))

-- a measurement by its number
unfoldable pub number_says : Sizes → List Float → List Float → Float → ℕ → ℕ → ℕ → FilterAnswer
number_says s resp delays rate number ll rl =
    allowed (verdict_of (rated_lines s (responses_fit s (length resp)) rate number)) ll rl (extract_of s.m s.r s.n resp delays rate ll rl number)
