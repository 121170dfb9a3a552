-- No point inside a box is nearer to the query than the box, in rounded arithmetic: of any floats whatever (`box_under`). And what the boxes of
-- a tree keep inside. Assumes nothing.
use mathlib.Core.Path.{◌≡◌, refl, sym, ap, ◌∙◌, subst}
use mathlib.Core.Logic.{inl, inr}
use mathlib.Core.Bool.{Bool, true, false, not, cond}
use lib.Dec.{T, T_not, not_T}
use lib.IntN.{pos}
use lib.Ieee.{Float, fin, binary32, add, sub, lt, le, fits, of_bits}
use lib.Ieee.Fits.{add-fits, mul-fits}
use Rattle.points.specs.declared.Point3.{Point3}
use Rattle.kdtree.specs.declared.BoundingBox.{BoundingBox}
use Rattle.points.specs.Points.{gap, dist_sq_of}
use Rattle.kdtree.specs.Geometry.{outside, box_dist_sq, lower, upper, grown}
use Rattle.floats.proofs.Cross.{of_taken, of_left}
use Rattle.floats.proofs.Preorder.{number, le_trans_f, lt→le, le→not_lt, not_lt→le, not_lt_trans, lt_irrefl_f, lt_trans_f}
use Rattle.floats.proofs.Sign.{nonneg}
use Rattle.floats.proofs.Ops.{nonneg_number, add_nonneg, add_mono, add_grows, zero_plus}
use Rattle.points.proofs.Gap.{Fair, sq_fair, add_fair, add_nan_l, add_nan_r, gap_comm, gap_outside, nan_not_lt, gap_below, gap_above}

abbrev zero : Float
zero = fin false 0 (pos 0)

-- ---- a point in a box: below no lower corner, above no upper one. A `nan` is below and above nothing
abbrev pub Between : Float → Float → Float → Type 0
Between lo hi x = T (not (lt x lo)) × T (not (lt hi x))

pub record Inside (b : BoundingBox) (p : Point3) : Type 0 where
  pub on_x_lem : Between b.min_x b.max_x p.x
  pub on_y_lem : Between b.min_y b.max_y p.y
  pub on_z : Between b.min_z b.max_z p.z

-- ---- one axis of a box's distance, in each of its three cases
module _ (r lo hi p : Float) where
  outside_below : lt p lo ≡ true → outside r lo hi p ≡ add binary32 r (gap lo p)
  unfolding outside
  outside_below h = simp h

  outside_above : lt p lo ≡ false → lt hi p ≡ true → outside r lo hi p ≡ add binary32 r (gap hi p)
  unfolding outside
  outside_above h k = simp (h, k)

  outside_within : lt p lo ≡ false → lt hi p ≡ false → outside r lo hi p ≡ r
  unfolding outside
  outside_within h k = simp (h, k)

-- a test, with what it says of itself
data Told (b : Bool) : Type 0 where
  it_is : b ≡ true → Told b
  it_is_not : b ≡ false → Told b

told : (b : Bool) → Told b
told true = it_is refl
told false = it_is_not refl

pub outside_nonneg : (r lo hi p : Float) → T (nonneg r) → T (nonneg (outside r lo hi p))
outside_nonneg r lo hi p R = go (told (lt p lo)) (told (lt hi p))
  where
    go : Told (lt p lo) → Told (lt hi p) → T (nonneg (outside r lo hi p))
    go (it_is a) u = subst (λ (z : Float). T (nonneg z)) (sym (outside_below r lo hi p a)) (add_nonneg binary32 r (gap lo p) R (gap_outside p lo (of_taken a)))
    go (it_is_not a) (it_is b) =
        subst (λ (z : Float). T (nonneg z)) (sym (outside_above r lo hi p a b)) (add_nonneg binary32 r (gap hi p) R (subst (λ (z : Float). T (nonneg z)) (gap_comm p hi) (gap_outside hi p (of_taken b))))
    go (it_is_not a) (it_is_not b) = subst (λ (z : Float). T (nonneg z)) (sym (outside_within r lo hi p a b)) R

-- a box's distance is never `nan`, whatever the box and the query are
pub box_nonneg : (b : BoundingBox) (p : Point3) → T (nonneg (box_dist_sq b p))
unfolding box_dist_sq of_bits
box_nonneg b p =
    let x = outside zero b.min_x b.max_x p.x in
    let y = outside x b.min_y b.max_y p.y in
    outside_nonneg y b.min_z b.max_z p.z (outside_nonneg x b.min_y b.max_y p.y (outside_nonneg zero b.min_x b.max_x p.x tt))

pub box_number : (b : BoundingBox) (p : Point3) → T (number (box_dist_sq b p))
box_number b p = nonneg_number (box_dist_sq b p) (box_nonneg b p)

-- the sum so far is no more for the box than for a point in it: then with the next axis too
pub step : (r s lo hi p x : Float) → T (nonneg r) → Fair s → T (fits binary32 s) → T (not (lt s r)) → Between lo hi x → T (not (lt (add binary32 s (gap x p)) (outside r lo hi p)))
step r s lo hi p x R S F h i = go S (sq_fair (sub binary32 x p))
  where
    num : T (nonneg s) → T (le r s)
    num t = not_lt→le s r (nonneg_number s t) (nonneg_number r R) h

    side : (g : Float) → T (nonneg s) → T (nonneg (gap x p)) → T (nonneg g) → T (not (lt (gap x p) g)) → T (le (add binary32 r g) (add binary32 s (gap x p)))
    side g a b c k = add_mono binary32 r s g (gap x p) R a c b (num a) (not_lt→le (gap x p) g (nonneg_number (gap x p) b) (nonneg_number g c) k)

    pick : T (nonneg s) → T (nonneg (gap x p)) → Told (lt p lo) → Told (lt hi p) → T (le (outside r lo hi p) (add binary32 s (gap x p)))
    pick a b (it_is t) u =
        subst (λ (z : Float). T (le z (add binary32 s (gap x p)))) (sym (outside_below r lo hi p t)) (side (gap lo p) a b (gap_outside p lo (of_taken t)) (gap_below p lo x (of_taken t) i.0))
    pick a b (it_is_not t) (it_is u) =
        subst (λ (z : Float). T (le z (add binary32 s (gap x p)))) (sym (outside_above r lo hi p t u))
        (side (gap hi p) a b (subst (λ (z : Float). T (nonneg z)) (gap_comm p hi) (gap_outside hi p (of_taken u))) (gap_above p hi x (of_taken u) i.1))
    pick a b (it_is_not t) (it_is_not u) =
        subst (λ (z : Float). T (le z (add binary32 s (gap x p)))) (sym (outside_within r lo hi p t u)) (le_trans_f r s (add binary32 s (gap x p)) (num a) (add_grows binary32 s (gap x p) a b F))

    go : Fair s → Fair (gap x p) → T (not (lt (add binary32 s (gap x p)) (outside r lo hi p)))
    go (inl e) g = nan_not_lt (add binary32 s (gap x p)) (outside r lo hi p) (ap (λ (z : Float). add binary32 z (gap x p)) e ∙ add_nan_l (gap x p))
    go (inr a) (inl e) = nan_not_lt (add binary32 s (gap x p)) (outside r lo hi p) (ap (λ (z : Float). add binary32 s z) e ∙ add_nan_r s)
    go (inr a) (inr b) = le→not_lt (outside r lo hi p) (add binary32 s (gap x p)) (pick a b (told (lt p lo)) (told (lt hi p)))

-- ---- the box lemma, of any floats
-- the point's sum, started from +0 as the box's is
zero_fair : (z : Float) → Fair z → T (fits binary32 z) → add binary32 zero z ≡ z
zero_fair z (inl e) F = ap (λ (w : Float). add binary32 zero w) e ∙ add_nan_r zero ∙ sym e
zero_fair z (inr p) F = zero_plus binary32 z p F

pub from_zero : (x p : Float) → add binary32 zero (gap x p) ≡ gap x p
from_zero x p = zero_fair (gap x p) (sq_fair (sub binary32 x p)) (mul-fits binary32 (sub binary32 x p) (sub binary32 x p))

pub box_under : (b : BoundingBox) (x p : Point3) → Inside b x → T (not (lt (dist_sq_of x p) (box_dist_sq b p)))
unfolding dist_sq_of box_dist_sq of_bits
box_under b x p i =
    let r1 = outside zero b.min_x b.max_x p.x in
    let r2 = outside r1 b.min_y b.max_y p.y in
    let s1 = gap x.x p.x in
    let s2 = add binary32 s1 (gap x.y p.y) in
    let R1 = outside_nonneg zero b.min_x b.max_x p.x tt in
    let R2 = outside_nonneg r1 b.min_y b.max_y p.y R1 in
    let S1 = sq_fair (sub binary32 x.x p.x) in
    let S2 = add_fair s1 (gap x.y p.y) S1 (sq_fair (sub binary32 x.y p.y)) in
    let h1 : T (not (lt s1 r1)) =
    subst (λ (z : Float). T (not (lt z r1))) (from_zero x.x p.x) (step zero zero b.min_x b.max_x p.x x.x tt (inr tt) (unfold fits in tt) (lt_irrefl_f zero) i.on_x_lem) in
    let h2 = step r1 s1 b.min_y b.max_y p.y x.y R1 S1 (mul-fits binary32 (sub binary32 x.x p.x) (sub binary32 x.x p.x)) h1 i.on_y_lem in
    step r2 s2 b.min_z b.max_z p.z x.z R2 S2 (add-fits binary32 s1 (gap x.y p.y)) h2 i.on_z

-- ---- so a box that is not nearer than the best holds no point that is nearer
pub prune_point : (b : BoundingBox) (x p : Point3) (best : Float) → Inside b x → T (not (lt (box_dist_sq b p) best)) → T (not (lt (dist_sq_of x p) best))
prune_point b x p best i h = not_lt_trans (dist_sq_of x p) (box_dist_sq b p) best (box_number b p) (box_under b x p i) h

-- ---- how a point comes to be inside: on one axis
pub within_self : (x : Float) → Between x x x
within_self x = (lt_irrefl_f x, lt_irrefl_f x)

not_lt_lower : (lo q x : Float) → T (not (lt x lo)) → T (not (lt x (lower lo q)))
not_lt_lower lo q x h = go (told (lt q lo))
  where
    go : Told (lt q lo) → T (not (lt x (lower lo q)))
    go (it_is t) = subst (λ (u : Bool). T (not (lt x (cond u q lo)))) (sym t) (not_T (lt x q) (λ (k : T (lt x q)). T_not (lt x lo) h (lt_trans_f x q lo k (of_taken t))))
    go (it_is_not t) = subst (λ (u : Bool). T (not (lt x (cond u q lo)))) (sym t) h

not_lt_upper : (hi q x : Float) → T (not (lt hi x)) → T (not (lt (upper hi q) x))
not_lt_upper hi q x h = go (told (lt hi q))
  where
    go : Told (lt hi q) → T (not (lt (upper hi q) x))
    go (it_is t) = subst (λ (u : Bool). T (not (lt (cond u q hi) x))) (sym t) (not_T (lt q x) (λ (k : T (lt q x)). T_not (lt hi x) h (lt_trans_f hi q x (of_taken t) k)))
    go (it_is_not t) = subst (λ (u : Bool). T (not (lt (cond u q hi) x))) (sym t) h

new_lower : (lo q : Float) → T (not (lt q (lower lo q)))
new_lower lo q = go (told (lt q lo))
  where
    go : Told (lt q lo) → T (not (lt q (lower lo q)))
    go (it_is t) = subst (λ (u : Bool). T (not (lt q (cond u q lo)))) (sym t) (lt_irrefl_f q)
    go (it_is_not t) = subst (λ (u : Bool). T (not (lt q (cond u q lo)))) (sym t) (of_left t)

new_upper : (hi q : Float) → T (not (lt (upper hi q) q))
new_upper hi q = go (told (lt hi q))
  where
    go : Told (lt hi q) → T (not (lt (upper hi q) q))
    go (it_is t) = subst (λ (u : Bool). T (not (lt (cond u q hi) q))) (sym t) (lt_irrefl_f q)
    go (it_is_not t) = subst (λ (u : Bool). T (not (lt (cond u q hi) q))) (sym t) (of_left t)

pub within_old : (lo hi q x : Float) → Between lo hi x → Between (lower lo q) (upper hi q) x
within_old lo hi q x i = (not_lt_lower lo q x i.0, not_lt_upper hi q x i.1)

pub within_new : (lo hi q : Float) → Between (lower lo q) (upper hi q) q
within_new lo hi q = (new_lower lo q, new_upper hi q)

-- a box that grows keeps what it holds, and holds what it grew for: of any floats
pub grown_old : (b : BoundingBox) (q x : Point3) → Inside b x → Inside (grown b q) x
unfolding grown
grown_old b q x i = record {
  on_x_lem = within_old b.min_x b.max_x q.x x.x i.on_x_lem;
  on_y_lem = within_old b.min_y b.max_y q.y x.y i.on_y_lem;
  on_z = within_old b.min_z b.max_z q.z x.z i.on_z;
}

pub grown_new : (b : BoundingBox) (q : Point3) → Inside (grown b q) q
unfolding grown
grown_new b q = record { on_x_lem = within_new b.min_x b.max_x q.x; on_y_lem = within_new b.min_y b.max_y q.y; on_z = within_new b.min_z b.max_z q.z }

-- a side that is moved to a node's coordinate c: what is strictly below c goes left, and all else right
pub within_left : (lo hi c x : Float) → Between lo hi x → T (lt x c) → Between lo c x
within_left lo hi c x i h = (i.0, le→not_lt x c (lt→le x c h))

pub within_right : (lo hi c x : Float) → Between lo hi x → T (not (lt x c)) → Between c hi x
within_right lo hi c x i h = (h, i.1)
