-- A loaded set beside the bare tree that is filled with the same measurements, in place order. Definitions only; the theorems are in proofs/Loaded.antt.
use Rattle.std.specs.Prelude.{◌≡◌, List, [], ◌∷◌, map, ℕ, zero, suc, ◌*◌, ◌<◌, ◌≤◌, length, replicate, Float}
use Rattle.points.specs.declared.Point3.{Point3}
use Rattle.points.specs.Points.{point_at}
use Rattle.kdtree.specs.Geometry.{box_at}
use Rattle.kdtree.specs.Tree.{subtree}
use Rattle.kdtree.specs.Unpruned.{Item, order}
use Rattle.kdtree.specs.Insert.{lists_of}
use Rattle.kdtree_laws.specs.Demand3.{Numbered, Bare, empty, fill}
use Rattle.lookup.specs.declared.Located.{Located}
use Rattle.lookup.specs.declared.Located.TheVariants.{At}
use Rattle.lookup.specs.Build.{Links}

-- a measurement's number is its place
abbrev pub placed : List Float → ℕ → Numbered
placed xs i = record { number = i; point = point_at xs i }

-- n measurements from the place i on
unfoldable pub placed_from : List Float → ℕ → ℕ → List Numbered
placed_from xs zero i = []
placed_from xs (suc n) i = placed xs i ∷ placed_from xs n (suc i)

-- the measurements of a set in the order in which the unpruned walk over its links comes to them: nearer side, node, farther side
abbrev pub walked : List Float → ℕ → List ℕ → List ℕ → Point3 → List Numbered
walked xs m left right p = map (λ (i : Item). placed xs i.place) (order p (subtree left right xs m m 0) 0)

-- the lists of a set of m measurements are long enough, and it is not empty
pub record Room (xs : List Float) (m : ℕ) (d : Links) : Type 0 where
  pub some : 0 < m
  pub most : m ≤ 16384
  pub positions : 3 * m ≤ length xs
  pub left : m ≤ length d.left
  pub right : m ≤ length d.right

-- the bare tree: its positions are the Cartesian list itself, and its links start as the lists that were lent
abbrev pub lent : List Float → ℕ → Links → Bare
lent xs m d = empty (lists_of xs d.left d.right (replicate m 0)) (box_at (point_at xs 0))

unfoldable pub filled_with : List Float → ℕ → Links → Bare
filled_with xs m d = fill (placed_from xs m 0) (lent xs m d)

-- an answer that is a number below m
pub record Below (m : ℕ) (r : Located) : Type 0 where
  pub number : ℕ
  pub is : r ≡ At number
  pub below : number < m
