-- The conversions at the C border. Definitions only.
use Rattle.std.specs.Prelude.{ℕ, List, Float, Result, Ok, Err}
use Rattle.refusals.specs.declared.Refusal.{Refusal}
use Rattle.refusals.specs.Refusals as refusals
use Rattle.coords.specs.Arrays.{Converted, convert_of}
use Rattle.sofa.specs.declared.convert.SofaRefusal.{SofaRefusal}

-- document 01's number of what an answer says no to, and its place; 0 and 0 where nothing is refused
abbrev pub reason_of : {T : Type 0} → Result T Refusal → ℕ
reason_of (Ok x) = 0
reason_of (Err refusal) = refusals.number_of refusal

abbrev pub place_of : {T : Type 0} → Result T Refusal → ℕ
place_of (Ok x) = 0
place_of (Err refusal) = refusals.place_of refusal

abbrev pub refusal_as : {T : Type 0} → Result T Refusal → SofaRefusal
refusal_as answer = record { reason = reason_of answer; place = place_of answer }

-- what a conversion answers, and what its list then holds
pub record Turned : Type 0 where
  pub out : SofaRefusal
  pub values : List Float

abbrev pub turned_by : SofaRefusal → List Float → Turned
turned_by o xs = record { out = o; values = xs }

abbrev pub told_of : Converted → Turned
told_of c = turned_by (refusal_as c.answer) c.values

-- from the kind, 0 cartesian or 1 spherical
abbrev pub turn_says : ℕ → List Float → Turned
turn_says kind xs = told_of (convert_of kind xs)
