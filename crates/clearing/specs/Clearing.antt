-- A clearing: an open box around a measurement, and the places of all others that stand in it; and when that alone tells which is nearest to a query. Definitions only.
use Rattle.std.specs.Prelude.{Bool, true, false, not, ◌&&◌, ◌||◌, List, ℕ, zero, suc, ◌+◌, eqb, ltb, get_or, set, replicate, Float}
use Rattle.std.proofs.Math.Bool.{cond}
use Rattle.std.specs.Float.{binary32}
use Rattle.std.specs.Float.Ieee.{add, sub, mul, lt, le, of_bits}
use Rattle.floats.specs.Floats.{abs_of}
use Rattle.points.specs.declared.Point3.{Point3}
use Rattle.points.specs.Points.{gap, point_at, dist_sq_of}
use Rattle.kdtree.specs.declared.BoundingBox.{BoundingBox}
use Rattle.kdtree.specs.Geometry.{coord_of, next_axis, box_at, min_at, max_at, with_min, with_max}
use Rattle.kdtree.specs.Tree.{Tree, gone, bad, node}
use Rattle.clearing.specs.declared.Clearing.{Clearing}
use Rattle.clearing.specs.declared.Kept.{Kept}
use Rattle.clearing.specs.declared.Nearest.{Nearest}

-- ---- open boxes

abbrev pub strictly_between : Float → Float → Float → Bool
strictly_between lo hi x = lt lo x && lt x hi

unfoldable pub holds : BoundingBox → Point3 → Bool
holds b x = strictly_between b.min_x b.max_x x.x && (strictly_between b.min_y b.max_y x.y && strictly_between b.min_z b.max_z x.z)

-- ---- a box drawn in until a point is out

-- the axis on which x is farthest from p, of two that are as far the earlier
unfoldable pub far_axis : Point3 → Point3 → ℕ
far_axis p x =
    let a = abs_of (sub binary32 x.x p.x) in
    let b = abs_of (sub binary32 x.y p.y) in
    let c = abs_of (sub binary32 x.z p.z) in
    cond (le b a && le c a) 0 (cond (le c b) 1 2)

-- the face on that side of p goes to x
unfoldable pub drawn_in : BoundingBox → Point3 → Point3 → BoundingBox
drawn_in b p x =
    let n = far_axis p x in
    cond (lt (coord_of x n) (coord_of p n)) (with_min b n (coord_of x n)) (with_max b n (coord_of x n))

-- whether a box reaches past a node's coordinate v, from the left of it or from the right
unfoldable pub reaches : Bool → BoundingBox → ℕ → Float → Bool
reaches on-left b axis v = cond on-left (not (le (max_at b axis) v)) (lt (min_at b axis) v)

-- ---- the places in it

-- room for 24 places
abbrev pub most : ℕ
most = 24

-- one place more, after those that are listed
unfoldable pub listed : Clearing → ℕ → Clearing
listed c n = record { faces = c.faces; count = c.count + 1; places = set c.places c.count n }

unfoldable pub faced : Clearing → BoundingBox → Clearing
faced c b = record { faces = b; count = c.count; places = c.places }

-- the clearing of a walk: what its levels hand on, and the places that are lent to them
abbrev pub held_in : Kept → List ℕ → Clearing
held_in k l = record { faces = k.faces; count = k.count; places = l }

-- p and as far as w from it on each axis, and no place yet
unfoldable pub around : Point3 → Float → Clearing
around p w = record {
  faces = record {
    min_x = sub binary32 p.x w;
    min_y = sub binary32 p.y w;
    min_z = sub binary32 p.z w;
    max_x = add binary32 p.x w;
    max_y = add binary32 p.y w;
    max_z = add binary32 p.z w;
  };
  count = 0;
  places = replicate most 0;
}

module _ (own : ℕ) (p : Point3) where
  -- a point other than its own that the box holds is listed, or where there is no room is put out of the box
  unfoldable pub met : ℕ → Point3 → Clearing → Clearing
  met n x c = cond (eqb n own || not (holds c.faces x)) c (cond (ltb c.count most) (listed c n) (faced c (drawn_in c.faces p x)))

  -- node, the side that p is on, and the other side if the box reaches there; a bad link is passed over
  unfoldable pub cleared : Tree → ℕ → Clearing → Clearing
  unfolding met reaches
  cleared gone axis b = b
  cleared bad axis b = b
  cleared (node n x l r) axis b =
      let on-left = lt (coord_of p axis) (coord_of x axis) in
      let c = cond on-left (cleared l) (cleared r) (next_axis axis) (met n x b) in
      let d = cond on-left (cleared r) (cleared l) (next_axis axis) c in
      cond (reaches on-left c.faces axis (coord_of x axis)) d c

-- p alone
unfoldable pub none : Point3 → Clearing
none p = record { faces = box_at p; count = 0; places = replicate most 0 }

-- the clearing around p, no wider than w to each side; where the first step leads out of that, nothing is looked for
unfoldable pub clearing_of : ℕ → Point3 → Tree → Float → Float → Clearing
clearing_of own p t w step = cond (lt w step) (none p) (cleared own p t 0 (around p w))

-- how far to look from the next measurement, after n places: less if there was no room, more if half of it was not taken, a little more if nothing was looked for
unfoldable pub reach_after : Float → Float → ℕ → Float
reach_after w step n =
    cond (lt w step) (mul binary32 w (of_bits binary32 0x3f840000))
    (cond (ltb n most) (cond (ltb n 12) (mul binary32 w (of_bits binary32 0x3fa00000)) w) (mul binary32 w (of_bits binary32 0x3f4ccccd)))

-- ---- what a clearing tells of a query

-- between two faces, and nearer to p than to either: d is the squared distance from p
unfoldable pub nearer_than_faces : Float → Float → Float → Float → Bool
nearer_than_faces d lo hi q = strictly_between lo hi q && (lt d (gap lo q) && lt d (gap hi q))

-- p is nearer to q than every face of the clearing is, and than the root if that is another
unfoldable pub alone_in : BoundingBox → ℕ → Point3 → Point3 → Point3 → Bool
alone_in b own p root q =
    let d = dist_sq_of p q in
    (eqb own 0 || lt d (dist_sq_of root q))
    && (nearer_than_faces d b.min_x b.max_x q.x && (nearer_than_faces d b.min_y b.max_y q.y && nearer_than_faces d b.min_z b.max_z q.z))

-- ---- the nearest of those listed

-- a place at the distance d beside the nearest so far; of two as near neither is named
unfoldable pub nearer : Nearest → ℕ → Float → Nearest
nearer s n d =
    cond (lt d s.dist) (record { place = n; dist = d; tied = false })
    (cond (le d s.dist) (record { place = s.place; dist = s.dist; tied = true }) s)

module _ (xs : List Float) (m : ℕ) (q : Point3) (places : List ℕ) where
  -- k entries from the entry i on; one that is no place among m is passed over
  unfoldable pub nearest_listed : ℕ → ℕ → Nearest → Nearest
  nearest_listed zero i s = s
  nearest_listed (suc k) i s = let n = get_or places i 0 in nearest_listed k (i + 1) (cond (ltb n m) (nearer s n (dist_sq_of (point_at xs n) q)) s)

unfoldable pub listed_count : Clearing → ℕ
listed_count c = cond (ltb c.count most) c.count most

-- its own, and all that are listed
unfoldable pub nearest_within : List Float → ℕ → Point3 → ℕ → Clearing → Nearest
nearest_within xs m q own c =
    nearest_listed xs m q c.places (listed_count c) 0 (record { place = own; dist = dist_sq_of (point_at xs own) q; tied = false })
