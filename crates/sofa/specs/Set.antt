-- A set at the C border: document 01's number and values for each case of an answer. Definitions only.
use Rattle.std.specs.Prelude.{List, cond, Float, Result, Ok, Err}
use Rattle.floats.specs.Floats.{zero32}
use Rattle.refusals.specs.declared.Refusal.{Refusal}
use Rattle.refusals.specs.Refusals.{number_of, place_of}
use Rattle.delays.specs.declared.Outcome.{Outcome}
use Rattle.delays.specs.declared.Answer.{Answer}
use Rattle.delays.specs.declared.Seconds.{Seconds}
use Rattle.delays.specs.Delays.{answer_of}
use Rattle.lookup.specs.declared.Lookup.{Lookup}
use Rattle.lookup.specs.declared.Located.{Located}
use Rattle.lookup.specs.declared.Located.TheVariants as located
use Rattle.lookup.specs.Lookup.{Moved}
use Rattle.interpolate.specs.Blend.{FilterAnswer}
use Rattle.stored.specs.declared.Taps.{Taps}
use Rattle.stored.specs.declared.Entries.{Entries}
use Rattle.loads.specs.Load.{Work, Load}
use Rattle.sofa.specs.declared.SofaValue.{SofaValue}
use Rattle.sofa.specs.declared.tree.SofaFound.{SofaFound}
use Rattle.sofa.specs.Tree.{no_box}
use Rattle.sofa.specs.declared.set.SofaLoaded.{SofaLoaded}
use Rattle.sofa.specs.declared.set.SofaFiltered.{SofaFiltered}
use Rattle.sofa.specs.declared.set.SofaPart.{SofaPart}
use Rattle.sofa.specs.declared.set.SofaNeighbors.{SofaNeighbors}

-- ---- one answer at a time: reason 0 and place 0 where nothing is refused

-- a refused number is 65535
abbrev pub located_as : Located → SofaFound
located_as (located.At n) = record { reason = 0; place = 0; number = n }
located_as (located.Refused refusal) = record { reason = number_of refusal; place = place_of refusal; number = 65535 }

-- refused, the box and the bounds are +0
abbrev pub no_lookup : Lookup
no_lookup = record {
  bounds = no_box;
  phi_min = zero32;
  phi_max = zero32;
  theta_min = zero32;
  theta_max = zero32;
  radius_min = zero32;
  radius_max = zero32;
}

abbrev pub loaded_as : Result Lookup Refusal → SofaLoaded
loaded_as (Ok look) = record { reason = 0; place = 0; lookup = look }
loaded_as (Err refusal) = record { reason = number_of refusal; place = place_of refusal; lookup = no_lookup }

-- the fields of an answer; blended is 1 or 0
abbrev pub answer_as : Answer → SofaFiltered
answer_as a = record { reason = a.reason; place = a.place; blended = cond a.blended 1 0; points = a.points; ldelay = a.left.0; rdelay = a.right.0 }

-- `answer_of` (crate delays) says what each case of an outcome is
abbrev pub filtered_as : Outcome → SofaFiltered
filtered_as o = answer_as (answer_of o)

-- refused, the part is empty
abbrev pub part_as : Result Taps Refusal → SofaPart
part_as (Ok taps) = record { reason = 0; place = 0; start = taps.start; count = taps.count }
part_as (Err refusal) = record { reason = number_of refusal; place = place_of refusal; start = 0; count = 0 }

-- refused, each entry is 65535
abbrev pub around_as : Result Entries Refusal → SofaNeighbors
around_as (Ok e) =
    record { reason = 0; place = 0; phi_plus = e.phi_plus; phi_minus = e.phi_minus; theta_plus = e.theta_plus; theta_minus = e.theta_minus; radius_plus = e.radius_plus; radius_minus = e.radius_minus }
around_as (Err refusal) =
    record { reason = number_of refusal; place = place_of refusal; phi_plus = 65535; phi_minus = 65535; theta_plus = 65535; theta_minus = 65535; radius_plus = 65535; radius_minus = 65535 }

-- seconds; refused, +0
abbrev pub longest_as : Result Seconds Refusal → SofaValue
longest_as (Ok s) = record { reason = 0; place = 0; value = s.0 }
longest_as (Err refusal) = record { reason = number_of refusal; place = place_of refusal; value = zero32 }

-- ---- an answer with what the lent lists then hold

pub record LoadedSet : Type 0 where
  pub out : SofaLoaded
  pub work : Work

abbrev pub loaded_by : SofaLoaded → Work → LoadedSet
loaded_by o w = record { out = o; work = w }

abbrev pub load_told : Load → LoadedSet
load_told l = loaded_by (loaded_as l.answer) l.work

pub record MovedTo : Type 0 where
  pub out : SofaFound
  pub coordinates : List Float

abbrev pub moved_by : SofaFound → List Float → MovedTo
moved_by o l = record { out = o; coordinates = l }

abbrev pub move_told : Moved → MovedTo
move_told m = moved_by (located_as m.answer) m.coordinates

pub record Filtered : Type 0 where
  pub out : SofaFiltered
  pub left : List Float
  pub right : List Float

abbrev pub filtered_by : SofaFiltered → List Float → List Float → Filtered
filtered_by o l r = record { out = o; left = l; right = r }

abbrev pub filter_told : FilterAnswer → Filtered
filter_told f = filtered_by (filtered_as f.answer) f.left f.right
