-- The tree that the links draw.
use Prim.Native.Nat.{ℕ, zero, suc, ◌*◌, ◌≤◌}
use Rattle.std.specs.Prelude.{cond, List, length, get_or, eqb, ltb, Float}
use Rattle.points.specs.declared.Point3.{Point3}
use Rattle.points.specs.Points.{point_at}
use Rattle.kdtree.specs.declared.Link.{Link}
use Rattle.kdtree.specs.declared.Link.TheVariants.{Gone, To, Bad}

-- an absent side, a side with a bad link, a node with its place, its point and its two sides
pub data Tree : Type 0 where
  gone : Tree
  bad : Tree
  node : ℕ → Point3 → Tree → Tree → Tree

-- the three lists of a tree reach as far as its places do, and it has at most 16384
abbrev pub TreeHolds : ℕ → List Float → List ℕ → List ℕ → Type 0
TreeHolds count positions left right = (3 * count ≤ length positions) × (count ≤ length left) × (count ≤ length right) × (count ≤ 16384)

-- what the link l of the owner o says among count places: absent, or good when above its owner and below the count
unfoldable pub link_of : ℕ → ℕ → ℕ → Link
link_of count o l = cond (eqb l 65535) Gone (cond (ltb o l) (cond (ltb l count) (To l) Bad) Bad)

unfoldable pub side_of : Link → Tree → Tree
side_of Gone t = gone
side_of (To n) t = t
side_of Bad t = bad

module _ (left right : List ℕ) (positions : List Float) (count : ℕ) where
  -- the tree below a place, links followed at most as often as the first number says: count - n is enough, since good links climb
  unfoldable pub subtree : ℕ → ℕ → Tree
  unfolding link_of side_of
  subtree zero n = bad
  subtree (suc k) n =
      let l = subtree k (get_or left n 0) in
      let r = subtree k (get_or right n 0) in
      node n (point_at positions n) (side_of (link_of count n (get_or left n 0)) l) (side_of (link_of count n (get_or right n 0)) r)
