-- The bare tree's nearest: the whole answer of one call, refusals included.
use Rattle.std.specs.Prelude.{ℕ, ◌*◌, Bool, cond, ◌&&◌, List, length, get_or, eqb, leb, Option, Some, None, Result, Ok, Err, Float}
use Rattle.points.specs.declared.Point3.{Point3}
use Rattle.points.specs.Points.{point_at, dist_sq_of}
use Rattle.kdtree.specs.declared.BoundingBox.{BoundingBox}
use Rattle.kdtree.specs.declared.Best.{Best}
use Rattle.refusals.specs.declared.Refusal.{Refusal}
use Rattle.refusals.specs.declared.Refusal.TheVariants.{ShortLists, BadLink}
use Rattle.kdtree.specs.Tree.{subtree}
use Rattle.kdtree.specs.Search.{search}
use Rattle.kdtree.specs.Insert.{Lists}

-- the search begins with the root as best, and no visit yet
unfoldable pub start_at : List Float → ℕ → Point3 → Best
start_at positions root q = record { place = root; dist = dist_sq_of (point_at positions root) q; visits = 0 }

-- the place found below a root, among count places
unfoldable pub found_from : List Float → List ℕ → List ℕ → ℕ → ℕ → BoundingBox → Point3 → Option Best
found_from positions left right c root b q = search c q (subtree left right positions c c root) b 0 (start_at positions root q)

-- the root of a tree that inserts filled is place 0
abbrev pub start_at_root : List Float → Point3 → Best
start_at_root positions q = start_at positions 0 q

abbrev pub place_found : List Float → List ℕ → List ℕ → ℕ → BoundingBox → Point3 → Option Best
place_found positions left right c b q = found_from positions left right c 0 b q

-- no list is shorter than the count asks, and at most 16384 are in
abbrev pub lengths_for : ℕ → ℕ → ℕ → ℕ → ℕ → Bool
lengths_for c positions left right numbers = leb c 16384 && (leb (3 * c) positions && (leb c left && (leb c right && leb c numbers)))

abbrev pub readable : Lists → ℕ → Bool
readable a c = lengths_for c (length a.positions) (length a.left) (length a.right) (length a.numbers)

-- the number kept with the place found, or the refusal of a search that stopped
unfoldable pub number_of : List ℕ → Option Best → Result (Option ℕ) Refusal
number_of numbers (Some s) = Ok (Some (get_or numbers s.place 0))
number_of numbers None = Err BadLink

unfoldable pub nearest_of : Lists → ℕ → BoundingBox → Point3 → Result (Option ℕ) Refusal
nearest_of a c b q =
    let found = number_of a.numbers (place_found a.positions a.left a.right c b q) in
    let r = cond (eqb c 0) (Ok None) found in
    cond (readable a c) r (Err ShortLists)
