-- src/sofa/kdtree.rs. Definitions only. What the Rust changes through `&mut` is passed and returned.
use Rattle.std.specs.Prelude.{ℕ, ◌+◌, ◌%◌, Bool, true, false, cond, Float}
use Rattle.std.specs.Float.{binary32}
use Rattle.std.specs.Float.Ieee.{add, sub, lt, le}
use Rattle.floats.specs.Floats.{zero32}
use Rattle.points.specs.declared.Point3.{Point3}
use Rattle.source.specs.Rust.{Option, None, Some, at, put, powi2}

-- struct KdNode { pos, split_dim, data, left, right }; a link is an Option<Box<KdNode>>
mutual
  pub data KdNode : Type 0 where
    kd_node : Point3 → ℕ → ℕ → Link → Link → KdNode

  pub data Link : Type 0 where
    none : Link
    some : KdNode → Link

-- node.pos, node.data
abbrev pub pos_of : KdNode → Point3
pos_of (kd_node pos dim value left right) = pos

abbrev pub data_of : KdNode → ℕ
data_of (kd_node pos dim value left right) = value

-- struct BoundingBox
pub record BoundingBox : Type 0 where
  pub min : Point3
  pub max : Point3

-- BoundingBox::new
unfoldable pub new_box : Point3 → BoundingBox
new_box pos = record { min = pos; max = pos }

-- BoundingBox::extend, the body of its loop and the loop
unfoldable pub extend_at : BoundingBox → Point3 → ℕ → BoundingBox
extend_at b pos i = record {
  min = cond (lt (at pos i) (at b.min i)) (put b.min i (at pos i)) b.min;
  max = cond (lt (at b.max i) (at pos i)) (put b.max i (at pos i)) b.max;
}

unfoldable pub extend : BoundingBox → Point3 → BoundingBox
extend b pos = extend_at (extend_at (extend_at b pos 0) pos 1) pos 2

-- BoundingBox::dist_sq, the body of its loop and the loop
unfoldable pub dist_sq_at : Float → BoundingBox → Point3 → ℕ → Float
dist_sq_at result b pos i =
    cond (lt (at pos i) (at b.min i)) (add binary32 result (powi2 (sub binary32 (at b.min i) (at pos i))))
    (cond (lt (at b.max i) (at pos i)) (add binary32 result (powi2 (sub binary32 (at b.max i) (at pos i)))) result)

unfoldable pub box_dist_sq : BoundingBox → Point3 → Float
box_dist_sq b pos = dist_sq_at (dist_sq_at (dist_sq_at zero32 b pos 0) b pos 1) b pos 2

-- struct KdTree
pub record KdTree : Type 0 where
  pub root : Link
  pub bounds : Option BoundingBox

-- KdTree::new
unfoldable pub new_tree : KdTree
new_tree = record { root = none; bounds = None }

-- KdTree::insert_rec: what stands at the link afterwards
unfoldable mutual
  pub insert_rec : Link → Point3 → ℕ → ℕ → Link
  insert_rec none pos value depth = some (kd_node pos (depth % 3) value none none)
  insert_rec (some n) pos value depth = insert_below n pos value depth

  -- its arm `Some(n)`
  pub insert_below : KdNode → Point3 → ℕ → ℕ → Link
  insert_below (kd_node p dim v left right) pos value depth =
      cond (lt (at pos dim) (at p dim)) (some (kd_node p dim v (insert_rec left pos value (depth + 1)) right))
      (some (kd_node p dim v left (insert_rec right pos value (depth + 1))))

-- KdTree::insert
unfoldable pub grown_by : Option BoundingBox → Point3 → BoundingBox
grown_by (Some bounds) pos = extend bounds pos
grown_by None pos = new_box pos

unfoldable pub insert : KdTree → Point3 → ℕ → KdTree
insert t pos value = record { root = insert_rec t.root pos value 0; bounds = Some (grown_by t.bounds pos) }

-- KdTree::dist_sq
unfoldable pub dist_sq : Point3 → Point3 → Float
dist_sq a b = add binary32 (add binary32 (powi2 (sub binary32 (at a 0) (at b 0))) (powi2 (sub binary32 (at a 1) (at b 1)))) (powi2 (sub binary32 (at a 2) (at b 2)))

-- `best` and `best_dist_sq`
pub record Best : Type 0 where
  pub best : KdNode
  pub best_dist_sq : Float

-- rect with max[dim] or min[dim] replaced, as `go_left` says
abbrev pub nearer_rect : Bool → BoundingBox → ℕ → Float → BoundingBox
nearer_rect true rect dim v = record { min = rect.min; max = put rect.max dim v }
nearer_rect false rect dim v = record { min = put rect.min dim v; max = rect.max }

abbrev pub farther_rect : Bool → BoundingBox → ℕ → Float → BoundingBox
farther_rect true rect dim v = record { min = put rect.min dim v; max = rect.max }
farther_rect false rect dim v = record { min = rect.min; max = put rect.max dim v }

-- the node itself, `if dist_sq < *best_dist_sq`
abbrev pub current : KdNode → Point3 → Best → Best
current n pos b = cond (lt (dist_sq (pos_of n) pos) b.best_dist_sq) (record { best = n; best_dist_sq = dist_sq (pos_of n) pos }) b

-- KdTree::nearest_rec: `best` and `best_dist_sq` afterwards. `rect` is put back after each side, so that it is as before at the end: it is not returned.
unfoldable mutual
  pub nearest_rec : KdNode → Point3 → Best → BoundingBox → Best
  nearest_rec (kd_node p dim v left right) pos b rect =
      let diff = sub binary32 (at pos dim) (at p dim) in
      let go_left = le diff zero32 in
      let nearer = nearer_rect go_left rect dim (at p dim) in
      let farther = farther_rect go_left rect dim (at p dim) in
      let near = cond go_left (nearer_side left pos b nearer) (nearer_side right pos b nearer) in
      let here = current (kd_node p dim v left right) pos near in
      cond go_left (farther_side right pos here farther) (farther_side left pos here farther)

  -- `if let Some(nearer_node) = nearer`
  pub nearer_side : Link → Point3 → Best → BoundingBox → Best
  nearer_side none pos b rect = b
  nearer_side (some n) pos b rect = nearest_rec n pos b rect

  -- `if let Some(farther_node) = farther`, and within it `if rect.dist_sq(pos) < *best_dist_sq`
  pub farther_side : Link → Point3 → Best → BoundingBox → Best
  farther_side none pos b rect = b
  farther_side (some n) pos b rect = let w = nearest_rec n pos b rect in cond (lt (box_dist_sq rect pos) b.best_dist_sq) w b

-- KdTree::nearest
unfoldable pub nearest_from : Link → Option BoundingBox → Point3 → Option ℕ
nearest_from none bounds pos = None
nearest_from (some root) None pos = None
nearest_from (some root) (Some bounds) pos = Some (data_of (nearest_rec root pos (record { best = root; best_dist_sq = dist_sq (pos_of root) pos }) bounds).best)

unfoldable pub nearest : KdTree → Point3 → Option ℕ
nearest t pos = nearest_from t.root t.bounds pos

-- KdTree::is_empty
unfoldable pub is_empty : KdTree → Bool
is_empty t = empty_link t.root
  where
    empty_link : Link → Bool
    empty_link none = true
    empty_link (some n) = false
