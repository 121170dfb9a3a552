-- Seconds from samples, and what each case of an outcome says by document 01's numbers. Definitions only.
use Rattle.std.specs.Prelude.{true, false, Float}
use Rattle.std.specs.Float.Ieee.{div}
use Rattle.std.specs.Float.{binary32}
use Rattle.floats.specs.Floats.{zero32}
use Rattle.delays.specs.declared.Samples.{Samples}
use Rattle.delays.specs.declared.Seconds.{Seconds}
use Rattle.delays.specs.declared.Outcome.{Outcome}
use Rattle.delays.specs.declared.Outcome.TheVariants.{Exact, Blended, Refused}
use Rattle.delays.specs.declared.Answer.{Answer}

-- "Seconds = samples / rate"
abbrev pub seconds_of : Samples → Float → Seconds
seconds_of d rate = record { 0 = div binary32 d.0 rate }

-- exact: no refusal, one point; blended: no refusal, so many points; refused: its number and place, no points, and both delays +0
abbrev pub answer_of : Outcome → Answer
answer_of (Exact l r) = record { reason = 0; place = 0; blended = false; points = 1; left = l; right = r }
answer_of (Blended l r n) = record { reason = 0; place = 0; blended = true; points = n; left = l; right = r }
answer_of (Refused k p) = record { reason = k; place = p; blended = false; points = 0; left = record { 0 = zero32 }; right = record { 0 = zero32 } }
