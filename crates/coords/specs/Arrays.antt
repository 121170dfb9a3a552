-- A lent list converted in place, three values at a time. Definitions only.
use Rattle.std.specs.Prelude.{ℕ, cond, List, [], ◌∷◌, eqb, Float, ⊤, Result, Ok, Err}
use Rattle.points.specs.declared.Point3.{Point3}
use Rattle.refusals.specs.declared.Refusal.{Refusal}
use Rattle.limits.specs.Refusals.{verdict_of, value_lines}
use Rattle.coords.specs.declared.Spherical.{Spherical}
use Rattle.coords.specs.Coords.{cartesian_of, spherical_of}

-- a spherical triplet as three values of a list, and back
abbrev pub laid : Spherical → Point3
laid s = record { x = s.azimuth; y = s.elevation; z = s.radius }

abbrev pub lifted : Point3 → Spherical
lifted t = record { azimuth = t.x; elevation = t.y; radius = t.z }

-- from the kind, 0 cartesian or 1 spherical, to the other one
unfoldable pub turned : ℕ → Point3 → Point3
turned kind t = cond (eqb kind 0) (laid (spherical_of t)) (cartesian_of (lifted t))

-- each whole triplet changed by f; one or two values left over stay
unfoldable pub by_triplets : (Point3 → Point3) → List Float → List Float
by_triplets f [] = []
by_triplets f (a ∷ []) = a ∷ []
by_triplets f (a ∷ b ∷ []) = a ∷ b ∷ []
by_triplets f (a ∷ b ∷ c ∷ rest) = let t = f (record { x = a; y = b; z = c }) in t.x ∷ t.y ∷ t.z ∷ by_triplets f rest

-- what a conversion answers, and what its list then holds
pub record Converted : Type 0 where
  pub answer : Result ⊤ Refusal
  pub values : List Float

abbrev pub converted_as : Result ⊤ Refusal → List Float → Converted
converted_as v xs = record { answer = v; values = xs }

-- refused, the list stays
unfoldable pub kept_or : Result ⊤ Refusal → List Float → List Float → List Float
kept_or (Ok done) old new = new
kept_or (Err refusal) old new = old

-- a list of triplets of the kind, each value checked by 4 first
unfoldable pub convert_of : ℕ → List Float → Converted
convert_of kind xs = let v = verdict_of (value_lines kind xs) in converted_as v (kept_or v xs (by_triplets (turned kind) xs))
