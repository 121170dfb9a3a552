-- A line `key=..`: the key, and what stands behind it. Definitions only.
use Rattle.std.specs.Prelude.{ℕ, ◌+◌, Bool, cond, ◌&&◌, List, eqb, leb, length, drop, Float, Option, Some, None}
use Rattle.text.specs.Number.{begins}
use Rattle.text.specs.Values.{values_ok, value_at}
use Rattle.points.specs.declared.Point3.{Point3}

-- the line is this word and nothing else
unfoldable pub exactly_of : List ℕ → List ℕ → Bool
exactly_of word l = begins word l && eqb (length l) (length word)

-- what is read behind the key
unfoldable pub num_behind : List ℕ → (List ℕ → Option ℕ) → List ℕ → Option ℕ
num_behind key read l = cond (begins key l) (read (drop (length key) l)) None

-- behind the key stand exactly n values, and there is room for them in d from place `at` on
unfoldable pub values_fit : List ℕ → ℕ → ℕ → List ℕ → List Float → Bool
values_fit key n at l d = begins key l && (values_ok (drop (length key) l) n && leb (at + n) (length d))

-- three values as a point
unfoldable pub point_of : List ℕ → Point3
point_of s = record { x = value_at s 0; y = value_at s 1; z = value_at s 2 }

unfoldable pub point_read : List ℕ → Option Point3
point_read s = cond (values_ok s 3) (Some (point_of s)) None

unfoldable pub point_behind : List ℕ → List ℕ → Option Point3
point_behind key l = cond (begins key l) (point_read (drop (length key) l)) None
