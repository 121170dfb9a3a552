-- The unpruned walk: nearer side, node, farther side, everywhere; and the order in which it comes to the nodes.
use Rattle.std.specs.Prelude.{ℕ, suc, ◌+◌, cond, List, [], ◌∷◌, ◌++◌, Float}
use Rattle.std.specs.Float.Ieee.{lt}
use Rattle.points.specs.declared.Point3.{Point3}
use Rattle.kdtree.specs.declared.Best.{Best}
use Rattle.points.specs.Points.{dist_sq_of}
use Rattle.kdtree.specs.Geometry.{next_axis, left_first}
use Rattle.kdtree.specs.Tree.{Tree, gone, bad, node}

-- the best so far, without the visits
pub record Pick : Type 0 where
  pub place : ℕ
  pub dist : Float

unfoldable pub pick_of : Best → Pick
pick_of s = record { place = s.place; dist = s.dist }

-- a node's place and point
pub record Item : Type 0 where
  pub place : ℕ
  pub point : Point3

module _ (q : Point3) where
  -- a node wins only if strictly smaller
  unfoldable pub meet : ℕ → Point3 → Pick → Pick
  meet n p k = cond (lt (dist_sq_of p q) k.dist) (record { place = n; dist = dist_sq_of p q }) k

  unfoldable pub walk : Tree → ℕ → Pick → Pick
  walk gone axis k = k
  walk bad axis k = k
  walk (node n p l r) axis k =
      cond (left_first q p axis) (walk r) (walk l) (next_axis axis) (meet n p (cond (left_first q p axis) (walk l) (walk r) (next_axis axis) k))

  -- the nodes in the order in which the walk comes to them
  unfoldable pub order : Tree → ℕ → List Item
  order gone axis = []
  order bad axis = []
  order (node n p l r) axis =
      cond (left_first q p axis) (order l) (order r) (next_axis axis)
      ++ ((record { place = n; point = p }) ∷ cond (left_first q p axis) (order r) (order l) (next_axis axis))

unfoldable pub size : Tree → ℕ
size gone = 0
size bad = 0
size (node n p l r) = suc (size l + size r)
