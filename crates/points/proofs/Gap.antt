-- The square of a rounded difference: along one axis it grows with the distance, on either side of the query, whatever overflows. No float is left out:
-- a `nan` or an infinity in a coordinate gives a `nan` or an infinity, and `lt` fails of those as it should. Assumes nothing.
use mathlib.Core.Path.{◌≡◌, refl, sym, ap, ◌∙◌, subst}
use mathlib.Core.Logic.{◌⊎◌, inl, inr}
use Prim.Native.Nat.{ℕ, ◌+◌, ◌-◌, ◌*◌}
use mathlib.Core.Bool.{Bool, true, false, not, ◌&&◌, cond}
use lib.IntN.{ℤ}
use lib.Dec.{T, ltb}
use lib.Ieee.{Float, nan, inf, fin, Format, binary32, up, down, round, sum, add, sub, mul, neg, lt, le, is_nan}
use lib.Ieee.Scale.{finite}
use Rattle.points.specs.Points.{gap}
use Rattle.floats.proofs.Preorder.{number, lt_nan, le→not_lt, not_lt→le, lt_le_trans, le_lt_trans}
use Rattle.floats.proofs.Sign.{nonneg, round_neg, round_nonneg, sq_sub_comm}
use Rattle.floats.proofs.Ops.{nonneg_number, sub_nonneg, sub_mono, sub_anti, sq_nonneg, sq_mono, add_nonneg}

-- ---- what a distance can be: `nan`, or not negative
abbrev pub Fair : Float → Type 0
Fair z = (z ≡ nan) ⊎ T (nonneg z)

sq_nan : mul binary32 nan nan ≡ nan
unfolding mul
sq_nan = refl

pub add_nan_l : (y : Float) → add binary32 nan y ≡ nan
unfolding add
add_nan_l y = refl

pub add_nan_r : (x : Float) → add binary32 x nan ≡ nan
unfolding add
add_nan_r nan = refl
add_nan_r (inf s) = refl
add_nan_r (fin s m e) = refl

pub sq_fair : (z : Float) → Fair (mul binary32 z z)
sq_fair nan = inl sq_nan
sq_fair (inf s) = inr (sq_nonneg binary32 (inf s) (unfold is_nan in tt))
sq_fair (fin s m e) = inr (sq_nonneg binary32 (fin s m e) (unfold is_nan in tt))

pub add_fair : (x y : Float) → Fair x → Fair y → Fair (add binary32 x y)
add_fair x y (inl p) q = inl (ap (λ (z : Float). add binary32 z y) p ∙ add_nan_l y)
add_fair x y (inr p) (inl q) = inl (ap (λ (z : Float). add binary32 x z) q ∙ add_nan_r x)
add_fair x y (inr p) (inr q) = inr (add_nonneg binary32 x y p q)

-- ---- a difference of finite floats is a number
neg_number : (x : Float) → T (number x) → T (number (neg x))
unfolding neg is_nan
neg_number nan t = t
neg_number (inf s) t = tt
neg_number (fin s m e) t = tt

round_number : (f : Format) (s : Bool) (a c : ℕ) → T (number (round f s a c))
round_number f false a c = nonneg_number (round f false a c) (round_nonneg f a c)
round_number f true a c = subst (λ (z : Float). T (number z)) (sym (round_neg f a c)) (neg_number (round f false a c) (nonneg_number (round f false a c) (round_nonneg f a c)))

cond_number : (b : Bool) (x y : Float) → T (number x) → T (number y) → T (number (cond b x y))
cond_number true x y p q = p
cond_number false x y p q = q

sum_number : (f : Format) (s : Bool) (a : ℕ) (t : Bool) (b c : ℕ) → T (number (sum f s a t b c))
unfolding sum
sum_number f s a t b c =
    cond_number (mathlib.Core.Bool.beq s t) (round f s (a + b) c) (cond (ltb a b) (round f t (b - a) c) (round f (s && ltb b a) (a - b) c)) (round_number f s (a + b) c)
    (cond_number (ltb a b) (round f t (b - a) c) (round f (s && ltb b a) (a - b) c) (round_number f t (b - a) c) (round_number f (s && ltb b a) (a - b) c))

pub sub_number : (f : Format) (x y : Float) → T (finite x) → T (finite y) → T (number (sub f x y))
unfolding sub
sub_number f nan y p q = absurd p
sub_number f (inf s) y p q = absurd p
sub_number f (fin s m e) nan p q = absurd q
sub_number f (fin s m e) (inf t) p q = absurd q
sub_number f (fin s m e) (fin t n d) p q = sum_number f s (m * up e * down d) (not t) (n * up d * down e) (down e * down d)

pub gap_finite : (x y : Float) → T (finite x) → T (finite y) → T (nonneg (gap x y))
gap_finite x y p q = sq_nonneg binary32 (sub binary32 x y) (sub_number binary32 x y p q)

-- ---- the gap is the same either way round
pub gap_comm : (x y : Float) → gap x y ≡ gap y x
gap_comm x y = sq_sub_comm binary32 x y

-- ---- finite p < l ≤ x, and finite x ≤ u < p
pub gap_mono : (p l x : Float) → T (finite p) → T (finite l) → T (finite x) → T (lt p l) → T (le l x) → T (le (gap l p) (gap x p))
gap_mono p l x P L X h k =
    sq_mono binary32 (sub binary32 l p) (sub binary32 x p) (sub_nonneg binary32 l p L P h) (sub_nonneg binary32 x p X P (lt_le_trans p l x h k)) (sub_mono binary32 p l x P L X h k)

pub gap_anti : (p u x : Float) → T (finite p) → T (finite u) → T (finite x) → T (lt u p) → T (le x u) → T (le (gap u p) (gap x p))
gap_anti p u x P L X h k =
    subst (λ (z : Float). T (le z (gap x p))) (gap_comm p u)
    (subst (λ (z : Float). T (le (gap p u) z)) (gap_comm p x)
    (sq_mono binary32 (sub binary32 p u) (sub binary32 p x) (sub_nonneg binary32 p u P L h) (sub_nonneg binary32 p x P X (le_lt_trans x u p k h)) (sub_anti binary32 p u x P L X h k)))

-- ---- the same of any floats, with `lt` failing for `le` the other way round. First: outside a box's side, the gap to the side is a number
gap_inf : (s : Bool) (n : ℕ) (t : Bool) (d : ℤ) → gap (inf s) (fin t n d) ≡ inf false
unfolding sub mul
gap_inf true n t d = refl
gap_inf false n t d = refl

gap_inf_r : (s : Bool) (n : ℕ) (t : Bool) (d : ℤ) → gap (fin t n d) (inf s) ≡ inf false
gap_inf_r s n t d = gap_comm (fin t n d) (inf s) ∙ gap_inf s n t d

gap_infs : (s : Bool) → gap (inf s) (inf (not s)) ≡ inf false
unfolding sub mul
gap_infs true = refl
gap_infs false = refl

pub gap_nan : (y : Float) → gap nan y ≡ nan
unfolding sub mul
gap_nan y = refl

pub gap_outside : (p l : Float) → T (lt p l) → T (nonneg (gap l p))
unfolding lt
gap_outside nan l h = absurd h
gap_outside (inf s) nan h = absurd h
gap_outside (inf true) (inf true) h = absurd h
gap_outside (inf true) (inf false) h = subst (λ (z : Float). T (nonneg z)) (sym (gap_infs false)) tt
gap_outside (inf false) (inf t) h = absurd h
gap_outside (inf s) (fin t n d) h = subst (λ (z : Float). T (nonneg z)) (sym (gap_inf_r s n t d)) tt
gap_outside (fin s m e) nan h = absurd h
gap_outside (fin s m e) (inf t) h = subst (λ (z : Float). T (nonneg z)) (sym (gap_inf t m s e)) tt
gap_outside (fin s m e) (fin t n d) h = gap_finite (fin t n d) (fin s m e) tt tt

-- +infinity is below no float, and neither is `nan`
inf_not_lt : (x y : Float) → x ≡ inf false → T (not (lt x y))
inf_not_lt x y e = subst (λ (z : Float). T (not (lt z y))) (sym e) (top y)
  where
    top : (y : Float) → T (not (lt (inf false) y))
    top nan = unfold lt in tt
    top (inf t) = unfold lt in tt
    top (fin t n d) = unfold lt in tt

pub nan_not_lt : (x y : Float) → x ≡ nan → T (not (lt x y))
nan_not_lt x y e = subst (λ (z : Float). T (not (lt z y))) (sym e) (unfold lt in tt)

pub gap_below : (p l x : Float) → T (lt p l) → T (not (lt x l)) → T (not (lt (gap x p) (gap l p)))
unfolding lt
gap_below p l nan h k = nan_not_lt (gap nan p) (gap l p) (gap_nan p)
gap_below nan l (inf u) h k = absurd h
gap_below (inf false) nan (inf u) h k = absurd h
gap_below (inf false) (inf t) (inf u) h k = absurd h
gap_below (inf false) (fin t n d) (inf u) h k = absurd h
gap_below (inf true) nan (inf u) h k = absurd h
gap_below (inf true) (inf true) (inf u) h k = absurd h
gap_below (inf true) (inf false) (inf true) h k = absurd k
gap_below (inf true) (inf false) (inf false) h k = inf_not_lt (gap (inf false) (inf true)) (gap (inf false) (inf true)) (gap_infs false)
gap_below (inf true) (fin t n d) (inf true) h k = absurd k
gap_below (inf true) (fin t n d) (inf false) h k = inf_not_lt (gap (inf false) (inf true)) (gap (fin t n d) (inf true)) (gap_infs false)
gap_below (fin s m e) l (inf u) h k = inf_not_lt (gap (inf u) (fin s m e)) (gap l (fin s m e)) (gap_inf u m s e)
gap_below nan l (fin u o g) h k = absurd h
gap_below (inf s) l (fin u o g) h k = inf_not_lt (gap (fin u o g) (inf s)) (gap l (inf s)) (gap_inf_r s o u g)
gap_below (fin s m e) nan (fin u o g) h k = absurd h
gap_below (fin s m e) (inf true) (fin u o g) h k = absurd h
gap_below (fin s m e) (inf false) (fin u o g) h k = absurd k
gap_below (fin s m e) (fin t n d) (fin u o g) h k =
    let p = fin s m e in
    let l = fin t n d in
    let x = fin u o g in
    le→not_lt (gap l p) (gap x p) (gap_mono p l x tt tt tt h (not_lt→le x l (unfold is_nan in tt) (unfold is_nan in tt) k))

pub gap_above : (p u x : Float) → T (lt u p) → T (not (lt u x)) → T (not (lt (gap x p) (gap u p)))
unfolding lt
gap_above p u nan h k = nan_not_lt (gap nan p) (gap u p) (gap_nan p)
gap_above nan u (inf w) h k = absurd (subst T (lt_nan u) h)
gap_above (inf true) nan (inf w) h k = absurd h
gap_above (inf true) (inf true) (inf w) h k = absurd h
gap_above (inf true) (inf false) (inf w) h k = absurd h
gap_above (inf true) (fin t n d) (inf w) h k = absurd h
gap_above (inf false) nan (inf w) h k = absurd h
gap_above (inf false) (inf true) (inf true) h k = inf_not_lt (gap (inf true) (inf false)) (gap (inf true) (inf false)) (gap_infs true)
gap_above (inf false) (inf true) (inf false) h k = absurd k
gap_above (inf false) (inf false) (inf w) h k = absurd h
gap_above (inf false) (fin t n d) (inf true) h k = inf_not_lt (gap (inf true) (inf false)) (gap (fin t n d) (inf false)) (gap_infs true)
gap_above (inf false) (fin t n d) (inf false) h k = absurd k
gap_above (fin s m e) u (inf w) h k = inf_not_lt (gap (inf w) (fin s m e)) (gap u (fin s m e)) (gap_inf w m s e)
gap_above nan u (fin w o g) h k = absurd (subst T (lt_nan u) h)
gap_above (inf s) u (fin w o g) h k = inf_not_lt (gap (fin w o g) (inf s)) (gap u (inf s)) (gap_inf_r s o w g)
gap_above (fin s m e) nan (fin w o g) h k = absurd h
gap_above (fin s m e) (inf true) (fin w o g) h k = absurd k
gap_above (fin s m e) (inf false) (fin w o g) h k = absurd h
gap_above (fin s m e) (fin t n d) (fin w o g) h k =
    let p = fin s m e in
    let u = fin t n d in
    let x = fin w o g in
    le→not_lt (gap u p) (gap x p) (gap_anti p u x tt tt tt h (not_lt→le u x (unfold is_nan in tt) (unfold is_nan in tt) k))
