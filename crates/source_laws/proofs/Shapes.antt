-- Points by their index and boxes by their corners: the source's shapes and the port's say the same. Assumes nothing.
use mathlib.Core.Path.{◌≡◌, refl}
use mathlib.Core.Bool.{Bool, true, false, cond}
use Prim.Native.Nat.{ℕ, zero, suc, ◌+◌, ◌%◌}
use native.Mathlib.Omega.{arith}
use lib.Ieee.{Float, binary32, sub, lt, le}
use Rattle.floats.specs.Floats.{zero32}
use Rattle.points.specs.declared.Point3.{Point3}
use Rattle.points.specs.Points.{dist_sq_of}
use Rattle.kdtree.specs.Geometry.{byAxis, coord_of, next_axis, outside, box_dist_sq, box_at, grown, with_min, with_max, goes_left, left_first}
use Rattle.source.specs.Rust.{at, put}
use Rattle.source.specs.Kdtree as source
use Rattle.source.specs.Kdtree.{new_box, extend_at, extend, dist_sq_at, dist_sq}
use Rattle.source_laws.specs.Drawn.{flat}

pub at_coord : (p : Point3) (axis : ℕ) → at p axis ≡ coord_of p axis
unfolding at coord_of byAxis
at_coord p zero = refl
at_coord p (suc zero) = refl
at_coord p (suc (suc n)) = refl

pub dist_same : (a b : Point3) → dist_sq a b ≡ dist_sq_of a b
unfolding dist_sq dist_sq_of at
dist_same a b = refl

-- ---- boxes

pub flat_new : (p : Point3) → flat (new_box p) ≡ box_at p
unfolding flat new_box box_at
flat_new p = refl

pub flat_max : (b : source.BoundingBox) (axis : ℕ) (v : Float) → flat (record { min = b.min; max = put b.max axis v }) ≡ with_max (flat b) axis v
unfolding flat put with_max byAxis
flat_max b zero v = refl
flat_max b (suc zero) v = refl
flat_max b (suc (suc n)) v = refl

pub flat_min : (b : source.BoundingBox) (axis : ℕ) (v : Float) → flat (record { min = put b.min axis v; max = b.max }) ≡ with_min (flat b) axis v
unfolding flat put with_min byAxis
flat_min b zero v = refl
flat_min b (suc zero) v = refl
flat_min b (suc (suc n)) v = refl

pub box_dist : (b : source.BoundingBox) (q : Point3) → source.box_dist_sq b q ≡ box_dist_sq (flat b) q
unfolding source.box_dist_sq dist_sq_at at box_dist_sq outside flat
box_dist b q = refl

-- one coordinate replaced, or none
put_x : (c : Bool) (p : Point3) (v : Float) → cond c (put p 0 v) p ≡ record { x = cond c v p.x; y = p.y; z = p.z }
unfolding put
put_x true p v = refl
put_x false p v = refl

put_y : (c : Bool) (p : Point3) (v : Float) → cond c (put p 1 v) p ≡ record { x = p.x; y = cond c v p.y; z = p.z }
unfolding put
put_y true p v = refl
put_y false p v = refl

put_z : (c : Bool) (p : Point3) (v : Float) → cond c (put p 2 v) p ≡ record { x = p.x; y = p.y; z = cond c v p.z }
unfolding put
put_z true p v = refl
put_z false p v = refl

pub flat_extend : (b : source.BoundingBox) (p : Point3) → flat (extend b p) ≡ grown (flat b) p
unfolding flat extend extend_at at grown
flat_extend b p = simp (put_x, put_y, put_z)

-- ---- the axis

pub next_depth : (depth : ℕ) → next_axis (depth % 3) ≡ (depth + 1) % 3
unfolding next_axis byAxis
next_depth depth = go (depth % 3) refl
  where
    go : (a : ℕ) → depth % 3 ≡ a → byAxis a 1 2 0 ≡ (depth + 1) % 3
    go zero e = omega arith
    go (suc zero) e = omega arith
    go (suc (suc n)) e = omega arith

-- ---- the tests

pub left_first_lem : (q p : Point3) (axis : ℕ) → le (sub binary32 (at q axis) (at p axis)) zero32 ≡ left_first q p axis
unfolding left_first
left_first_lem q p axis = rw (at_coord q axis, at_coord p axis)

pub goes_left_lem : (p x : Point3) (axis : ℕ) → lt (at p axis) (at x axis) ≡ goes_left p x axis
unfolding goes_left
goes_left_lem p x axis = rw (at_coord p axis, at_coord x axis)
