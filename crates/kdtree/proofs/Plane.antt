-- What the plane between the sides of a node tells: where the query lies on the one side of it, and not past the box of the other, the square of its
-- distance to the plane is one of the terms of that box's distance, and a sum of squares rounds to no less. For any box and any floats. Assumes nothing.
use mathlib.Core.Path.{◌≡◌, refl, sym, ap, ◌∙◌, subst}
use mathlib.Core.Logic.{◌⊎◌, inl, inr}
use mathlib.Core.Bool.{Bool, true, false, not, cond, ◌&&◌, ◌||◌}
use Prim.Native.Nat.{ℕ, zero, suc}
use lib.Dec.{T}
use lib.Ieee.{Float, binary32, add, sub, lt, le, fits, of_bits}
use lib.Ieee.Fits.{add-fits, mul-fits}
use lib.Ieee.Bits.{of_bits-fits}
use Rattle.floats.specs.Floats.{zero32}
use Rattle.floats.proofs.Preorder.{le_refl_f, le_trans_f, le→not_lt}
use Rattle.floats.proofs.Sign.{nonneg}
use Rattle.floats.proofs.Cross.{of_taken}
use Rattle.floats.proofs.Ops.{nonneg_number, zero_le_nonneg, add_nonneg, add_grows, add_grows_r}
use Rattle.points.specs.declared.Point3.{Point3}
use Rattle.points.specs.Points.{gap}
use Rattle.points.proofs.Gap.{gap_comm, gap_outside}
use Rattle.kdtree.specs.declared.BoundingBox.{BoundingBox}
use Rattle.kdtree.specs.Geometry.{byAxis, coord_of, outside, box_dist_sq, min_at, with_min, with_max}
use Rattle.kdtree.specs.Search.{farther_box}
use Rattle.kdtree.proofs.Whole.{both}
use Rattle.kdtree.proofs.Sides.{left_side, right_side}

-- a sum of squares so far
abbrev Sum : Float → Type 0
Sum s = T (nonneg s) × T (fits binary32 s)

-- what follows a sum, and no less
abbrev Grown : Float → Float → Type 0
Grown s t = Sum t × T (le s t)

start : Sum zero32
unfolding of_bits
start = (tt, of_bits-fits binary32 0)

-- the gap to the one end or to the other, from outside
past_least : (q l : Float) → lt q l ≡ true → T (nonneg (gap l q))
past_least q l h = gap_outside q l (of_taken h)

past_greatest : (q g : Float) → lt g q ≡ true → T (nonneg (gap g q))
past_greatest q g h = subst (λ (z : Float). T (nonneg z)) (gap_comm q g) (gap_outside g q (of_taken h))

more : (s g : Float) → Sum s → T (nonneg g) → Grown s (add binary32 s g)
more s g h n = ((add_nonneg binary32 s g h.0 n, add-fits binary32 s g), add_grows binary32 s g h.0 n h.1)

grows : (s l g q : Float) → Sum s → Grown s (outside s l g q)
unfolding outside
grows s l g q h = go (lt q l) (lt g q) refl refl
  where
    go : (x y : Bool) → lt q l ≡ x → lt g q ≡ y → Grown s (cond x (add binary32 s (gap l q)) (cond y (add binary32 s (gap g q)) s))
    go true y ex ey = more s (gap l q) h (past_least q l ex)
    go false true ex ey = more s (gap g q) h (past_greatest q g ey)
    go false false ex ey = (h, le_refl_f s (nonneg_number s h.0))

-- ---- one term that is no less than d

module _ (d v q : Float) (reached : T (le d (gap v q))) where
  within : (s : Float) → Sum s → T (nonneg (gap v q)) → T (le d (add binary32 s (gap v q)))
  within s h n = le_trans_f d (gap v q) (add binary32 s (gap v q)) reached (add_grows_r binary32 s (gap v q) h.0 n (mul-fits binary32 _ _))

  below : (s g : Float) → Sum s → lt q v ≡ true → T (le d (outside s v g q))
  unfolding outside
  below s g h e = subst (λ (x : Bool). T (le d (cond x (add binary32 s (gap v q)) (cond (lt g q) (add binary32 s (gap g q)) s)))) (sym e) (within s h (past_least q v e))

  above : (s l : Float) → Sum s → lt q l ≡ false → lt v q ≡ true → T (le d (outside s l v q))
  unfolding outside
  above s l h f e =
      subst (λ (x : Bool). T (le d (cond x (add binary32 s (gap l q)) (cond (lt v q) (add binary32 s (gap v q)) s)))) (sym f)
      (subst (λ (x : Bool). T (le d (cond x (add binary32 s (gap v q)) s))) (sym e) (within s h (past_greatest q v e)))

-- ---- and then the whole distance is not: the terms by the axis

module _ (d : Float) (q : Point3) where
  -- from one axis on
  after_z : (s l g : Float) → T (le d s) → Sum s → T (le d (outside s l g q.z))
  after_z s l g h u = le_trans_f d s (outside s l g q.z) h (grows s l g q.z u).1

  after_y : (s l g l' g' : Float) → T (le d s) → Sum s → T (le d (outside (outside s l g q.y) l' g' q.z))
  after_y s l g l' g' h u =
      let w = grows s l g q.y u in
      after_z (outside s l g q.y) l' g' (le_trans_f d s (outside s l g q.y) h w.1) w.0

  module _ (b : BoundingBox) (v : Float) where
    abbrev x_sum : Sum (outside zero32 b.min_x b.max_x q.x)
    x_sum = (grows zero32 b.min_x b.max_x q.x start).0

    abbrev y_sum : Sum (outside (outside zero32 b.min_x b.max_x q.x) b.min_y b.max_y q.y)
    y_sum = (grows (outside zero32 b.min_x b.max_x q.x) b.min_y b.max_y q.y x_sum).0

    left_of : (axis : ℕ) → T (le d (gap v (coord_of q axis))) → lt (coord_of q axis) v ≡ true → T (le d (box_dist_sq (with_min b axis v) q))
    unfolding byAxis coord_of box_dist_sq with_min
    left_of zero r e =
        after_y (outside zero32 v b.max_x q.x) b.min_y b.max_y b.min_z b.max_z (below d v q.x r zero32 b.max_x start e)
        (grows zero32 v b.max_x q.x start).0
    left_of (suc zero) r e =
        after_z (outside (outside zero32 b.min_x b.max_x q.x) v b.max_y q.y) b.min_z b.max_z (below d v q.y r _ b.max_y x_sum e)
        (grows _ v b.max_y q.y x_sum).0
    left_of (suc (suc axis)) r e = below d v q.z r _ b.max_z y_sum e

    right_of : (axis : ℕ) → T (le d (gap v (coord_of q axis))) → lt (coord_of q axis) (min_at b axis) ≡ false → lt v (coord_of q axis) ≡ true → T (le d (box_dist_sq (with_max b axis v) q))
    unfolding byAxis coord_of box_dist_sq with_max min_at
    right_of zero r f e =
        after_y (outside zero32 b.min_x v q.x) b.min_y b.max_y b.min_z b.max_z (above d v q.x r zero32 b.min_x start f e)
        (grows zero32 b.min_x v q.x start).0
    right_of (suc zero) r f e =
        after_z (outside (outside zero32 b.min_x b.max_x q.x) b.min_y v q.y) b.min_z b.max_z (above d v q.y r _ b.min_y x_sum f e)
        (grows _ b.min_y v q.y x_sum).0
    right_of (suc (suc axis)) r f e = above d v q.z r _ b.min_z y_sum f e

-- ---- the farther side

no : (b : Bool) → T (not b) → b ≡ false
no false h = refl
no true h = absurd h

whole : (b : BoundingBox) (q : Point3) → T (le zero32 (box_dist_sq b q))
unfolding box_dist_sq
whole b q = zero_le_nonneg (box_dist_sq b q) (grows _ b.min_z b.max_z q.z (y_sum zero32 q b zero32)).0.0

passed : (b : BoundingBox) (axis : ℕ) (v : Float) (g : Bool) (q : Point3) (d : Float) → g ≡ le (sub binary32 (coord_of q axis) v) zero32 → T (le d (gap v (coord_of q axis)))
    → g || not (lt (coord_of q axis) (min_at b axis)) ≡ true → T (le d (box_dist_sq (farther_box g b axis v) q))
unfolding farther_box
passed b axis v true q d eg r e = go (left_side (coord_of q axis) v d (sym eg) r)
  where
    go : (lt (coord_of q axis) v ≡ true) ⊎ T (le d zero32) → T (le d (box_dist_sq (with_min b axis v) q))
    go (inl h) = left_of d q b v axis r h
    go (inr h) = le_trans_f d zero32 (box_dist_sq (with_min b axis v) q) h (whole (with_min b axis v) q)
passed b axis v false q d eg r e = right_of d q b v axis r (no _ (of_taken e)) (right_side (coord_of q axis) v d (sym eg) r)

-- the same of the values that the code has
pub passed_by : (b : BoundingBox) (axis : ℕ) (v : Float) (g : Bool) (q : Point3) (d x l : Float) → x ≡ coord_of q axis → l ≡ min_at b axis
    → g ≡ le (sub binary32 (coord_of q axis) v) zero32 → le d (gap v x) && (g || not (lt x l)) ≡ true → false ≡ lt (box_dist_sq (farther_box g b axis v) q) d
passed_by b axis v g q d x l ex el eg t =
    let f = both _ _ t in
    let r : le d (gap v (coord_of q axis)) ≡ true = ap (λ (x : Float). le d (gap v x)) (sym ex) ∙ f.0 in
    let e : g || not (lt (coord_of q axis) (min_at b axis)) ≡ true = cc in
    sym (no _ (le→not_lt d (box_dist_sq (farther_box g b axis v) q) (passed b axis v g q d eg (of_taken r) e)))

-- the box's own answer
pub by_box : (b fb : BoundingBox) (q u : Point3) (r d : Float) → fb ≡ b → u ≡ q → r ≡ box_dist_sq fb u → lt r d ≡ lt (box_dist_sq b q) d
by_box b fb q u r d eb eu er = cc
