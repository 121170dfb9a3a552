-- The longest delay of a set, in seconds. Definitions only.
use Rattle.std.specs.Prelude.{List, fold, Float, Result, Ok}
use Rattle.std.specs.Result.{result_and}
use Rattle.floats.specs.Floats.{zero32, max_of}
use Rattle.delays.specs.declared.Samples.{Samples}
use Rattle.delays.specs.declared.Seconds.{Seconds}
use Rattle.delays.specs.Delays.{seconds_of}
use Rattle.refusals.specs.declared.Refusal.{Refusal}
use Rattle.limits.specs.Refusals.{verdict_of, rate_lines}

-- the greatest of +0 and a list, one after the other; `max_of` passes over NaN
abbrev pub longest_of : List Float → Samples
longest_of ds = record { 0 = fold max_of zero32 ds }

unfoldable pub max_delay_of : List Float → Float → Result Seconds Refusal
max_delay_of ds rate = result_and (verdict_of (rate_lines rate)) (Ok (seconds_of (longest_of ds) rate))
