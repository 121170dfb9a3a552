-- What a measurement's number gives: its left or right response as a part of the caller's list, and its six neighbours. Definitions only.
use Rattle.std.specs.Prelude.{ℕ, List, [], length, take, drop, Float, Result, Ok, Err}
use Rattle.std.specs.Result.{result_and}
use Rattle.refusals.specs.declared.Refusal.{Refusal}
use Rattle.limits.specs.declared.Sizes.{Sizes}
use Rattle.limits.specs.Allowed.{responses_fit, neighbours_fit}
use Rattle.limits.specs.Refusals.{verdict_of, number_lines}
use Rattle.mix.specs.Mix.{start_of}
use Rattle.interpolate.specs.Blend.{entry}
use Rattle.stored.specs.declared.Taps.{Taps}
use Rattle.stored.specs.declared.Entries.{Entries}

-- ---- responses

-- the n taps of a measurement for receiver e, 0 left or 1 right, in a list of this length; or the refusal
unfoldable pub part_of : Sizes → ℕ → ℕ → ℕ → Result Taps Refusal
part_of s len number e = result_and (verdict_of (number_lines s (responses_fit s len) number)) (Ok (record { start = start_of s.r s.n e number; count = s.n }))

-- the part of a list; refused, it is empty
unfoldable pub taps_in : Result Taps Refusal → List Float → List Float
taps_in (Ok taps) xs = take taps.count (drop taps.start xs)
taps_in (Err refusal) xs = []

abbrev pub response_of : Sizes → List Float → ℕ → ℕ → List Float
response_of s xs number e = taps_in (part_of s (length xs) number e) xs

-- ---- neighbours

-- the entries as they stand
abbrev pub entries_of : List ℕ → ℕ → Entries
entries_of near k = record { phi_plus = entry near k 0; phi_minus = entry near k 1; theta_plus = entry near k 2; theta_minus = entry near k 3; radius_plus = entry near k 4; radius_minus = entry near k 5 }

unfoldable pub around_of : Sizes → List ℕ → ℕ → Result Entries Refusal
around_of s near number = result_and (verdict_of (number_lines s (neighbours_fit s (length near)) number)) (Ok (entries_of near number))
