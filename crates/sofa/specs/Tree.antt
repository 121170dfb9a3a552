-- The bare tree at the C border: what stands for each case of its answers. Definitions only.
use Rattle.std.specs.Prelude.{ℕ, Float, Option, Some, None, Result, Ok, Err}
use Rattle.floats.specs.Floats.{zero32}
use Rattle.points.specs.declared.Point3.{Point3}
use Rattle.kdtree.specs.declared.BoundingBox.{BoundingBox}
use Rattle.refusals.specs.declared.Refusal.{Refusal}
use Rattle.refusals.specs.Refusals.{number_of, place_of}
use Rattle.kdtree.specs.Insert.{Lists, Stored, insert_of}
use Rattle.kdtree.specs.Nearest.{nearest_of}
use Rattle.sofa.specs.declared.tree.SofaInserted.{SofaInserted}
use Rattle.sofa.specs.declared.tree.SofaFound.{SofaFound}

abbrev pub no_box : BoundingBox
no_box = record { min_x = zero32; min_y = zero32; min_z = zero32; max_x = zero32; max_y = zero32; max_z = zero32 }

-- the new box, with reason 0; a refusal has its number and place, and +0 for each corner
abbrev pub inserted_as : Result BoundingBox Refusal → SofaInserted
inserted_as (Ok b) = record { reason = 0; place = 0; bounds = b }
inserted_as (Err refusal) = record { reason = number_of refusal; place = place_of refusal; bounds = no_box }

-- the number, with reason 0; nothing is 65535, with reason 0; a refusal has its number and place, and 65535
abbrev pub found_as : Result (Option ℕ) Refusal → SofaFound
found_as (Ok None) = record { reason = 0; place = 0; number = 65535 }
found_as (Ok (Some n)) = record { reason = 0; place = 0; number = n }
found_as (Err refusal) = record { reason = number_of refusal; place = place_of refusal; number = 65535 }

abbrev pub point : Float → Float → Float → Point3
point x y z = record { x = x; y = y; z = z }

-- what an insert answers and leaves in the lists
pub record Left : Type 0 where
  pub out : SofaInserted
  pub lists : Lists

abbrev pub left_by : SofaInserted → Lists → Left
left_by o a = record { out = o; lists = a }

abbrev pub insert_told : Stored → Left
insert_told s = record { out = inserted_as s.out; lists = s.lists }

abbrev pub insert_says : Lists → ℕ → BoundingBox → Float → Float → Float → ℕ → Left
insert_says a c b x y z number = insert_told (insert_of a c b (point x y z) number)

abbrev pub nearest_says : Lists → ℕ → BoundingBox → Float → Float → Float → SofaFound
nearest_says a c b x y z = found_as (nearest_of a c b (point x y z))
