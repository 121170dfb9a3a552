-- What crosses the C border: document 01's number and values for each case of an answer, and the version. Definitions only.
use Rattle.std.specs.Prelude.{ℕ, ◌+◌, ◌*◌, false, pos, Result, Ok, Err, Float}
use Rattle.std.specs.Float.{fin}
use Rattle.refusals.specs.declared.Refusal.{Refusal}
use Rattle.refusals.specs.Refusals.{number_of, place_of}
use Rattle.sofa.specs.declared.SofaValue.{SofaValue}

-- a value has reason 0 and place 0; a refusal has its number and place, and +0 for a value
abbrev pub value_as : Result Float Refusal → SofaValue
value_as (Ok v) = record { reason = 0; place = 0; value = v }
value_as (Err refusal) = record { reason = number_of refusal; place = place_of refusal; value = fin false 0 (pos 0) }

-- version 0.1.0: 65536 times the first part, 256 times the second, and the third
abbrev pub version_number : ℕ
version_number = 0 * 65536 + 1 * 256 + 0
