-- The pruned search: nearer side, node, farther side if its box may hold something nearer.
use Rattle.std.specs.Prelude.{ℕ, ◌+◌, Bool, ltb, Option, Some, None, Float}
use Rattle.std.proofs.Math.Bool.{cond}
use Rattle.std.specs.Float.Ieee.{lt}
use Rattle.points.specs.declared.Point3.{Point3}
use Rattle.kdtree.specs.declared.BoundingBox.{BoundingBox}
use Rattle.kdtree.specs.declared.Best.{Best}
use Rattle.points.specs.Points.{dist_sq_of}
use Rattle.kdtree.specs.Geometry.{coord_of, box_dist_sq, with_min, with_max, next_axis, left_first}
use Rattle.kdtree.specs.Tree.{Tree, gone, bad, node}

abbrev pub best_of : Float → ℕ → ℕ → Best
best_of dist place visits = record { dist = dist; place = place; visits = visits }

-- the node wins only if strictly smaller
unfoldable pub improve : ℕ → Float → Best → Best
improve n d s = cond (lt d s.dist) (record { place = n; dist = d; visits = s.visits }) s

unfoldable pub visited : Best → Best
visited s = record { place = s.place; dist = s.dist; visits = s.visits + 1 }

-- the boxes of the two sides of a node whose coordinate is v
unfoldable pub nearer_box : Bool → BoundingBox → ℕ → Float → BoundingBox
nearer_box go_left b axis v = cond go_left (with_max b axis v) (with_min b axis v)

unfoldable pub farther_box : Bool → BoundingBox → ℕ → Float → BoundingBox
farther_box go_left b axis v = cond go_left (with_min b axis v) (with_max b axis v)

abbrev pub Go : Type 0
Go = BoundingBox → ℕ → Best → Option Best

-- the farther side: its link first, then the box, which must be strictly nearer than the best
unfoldable pub farther : Point3 → Tree → Go → BoundingBox → ℕ → Best → Option Best
farther q gone go b axis s = Some s
farther q bad go b axis s = None
farther q (node n p l r) go b axis s = let w = go b axis s in cond (lt (box_dist_sq b q) s.dist) w (Some s)

-- what follows the nearer side, unless that stopped
unfoldable pub after_near : Option Best → (Best → Option Best) → Option Best
after_near (Some s) k = k s
after_near None k = None

module _ (count : ℕ) (q : Point3) where
  -- a bad link stops it when it comes to that side, and so does visit count + 1
  unfoldable pub search : Tree → Go
  unfolding improve visited farther after_near nearer_box farther_box
  search gone b axis s = Some s
  search bad b axis s = None
  search (node n p l r) b axis s =
      let go_left = left_first q p axis in
      let v = coord_of p axis in
      let deeper = after_near (cond go_left (search l) (search r) (nearer_box go_left b axis v) (next_axis axis) (visited s))
      (λ t. farther q (cond go_left r l) (cond go_left (search r) (search l)) (farther_box go_left b axis v) (next_axis axis) (improve n (dist_sq_of p q) t)) in
      cond (ltb s.visits count) deeper None
