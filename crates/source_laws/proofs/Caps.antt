-- The source's step cap for an allowed angle step is the port's: the larger of the two magnitudes is the step. Assumes nothing.
use mathlib.Core.Path.{◌≡◌, refl, sym, ap, subst}
use mathlib.Core.Bool.{Bool, true, false, cond}
use lib.Dec.{T}
use lib.Ieee.{Float, nan, inf, fin, binary32, neg, lt, is_nan, of_bits}
use Rattle.floats.specs.Floats.{zero32, abs_of, max_of}
use lib.Ieee.Bits.{is_true, is_false}
use Rattle.floats.proofs.Preorder.{lt_le_trans, lt→le, le→not_lt}
use Rattle.limits.specs.Allowed.{nearest32, angle_step_ok}
use Rattle.limits.proofs.Ends.{tenth, between_low}
use Rattle.neighbors.specs.Neighbors.{angle_cap}
use Rattle.source.specs.Neighbors.{max_steps}

-- an allowed step is above 0
pub above_zero : (x : Float) → angle_step_ok x ≡ true → lt zero32 x ≡ true
unfolding angle_step_ok
above_zero x e = is_true (lt zero32 x) (lt_le_trans zero32 (nearest32 1 10) x (subst (λ (y : Float). T (lt zero32 y)) (sym tenth) first) (between_low (nearest32 1 10) (nearest32 45 1) x e))
  where
    first : T (lt zero32 (of_bits binary32 0x3dcccccd))
    first = unfold lt of_bits in tt

pub abs_positive : (x : Float) → lt zero32 x ≡ true → abs_of x ≡ x
unfolding abs_of lt
abs_positive nan h = refl
abs_positive (inf true) h = absurd (subst T (sym h) tt)
abs_positive (inf false) h = refl
abs_positive (fin true m e) h = absurd (subst T (sym h) tt)
abs_positive (fin false m e) h = refl

pub abs_negated : (x : Float) → abs_of (neg x) ≡ abs_of x
unfolding abs_of neg
abs_negated nan = refl
abs_negated (inf s) = refl
abs_negated (fin s m e) = refl

not_nan : (x : Float) → lt zero32 x ≡ true → is_nan x ≡ false
unfolding lt is_nan
not_nan nan h = absurd (subst T (sym h) tt)
not_nan (inf s) h = refl
not_nan (fin s m e) h = refl

not_below : (x : Float) → lt zero32 x ≡ true → lt x zero32 ≡ false
not_below x h = is_false (lt x zero32) (le→not_lt zero32 x (lt→le zero32 x (subst T (sym h) tt)))

max_left : (x : Float) → lt zero32 x ≡ true → max_of x zero32 ≡ x
unfolding max_of
max_left x h = simp (not_nan x h, not_below x h)

max_right : (x : Float) → lt zero32 x ≡ true → max_of zero32 x ≡ x
unfolding max_of is_nan
max_right x h = ap (λ (b : Bool). cond b x zero32) h

module _ (angle : Float) (ok : angle_step_ok angle ≡ true) (a : Float) (ea : abs_of a ≡ angle) where
  positive : lt zero32 angle ≡ true
  positive = above_zero angle ok

  -- an azimuth search, an elevation search
  pub phi_cap : max_steps a zero32 ≡ angle_cap angle
  unfolding max_steps angle_cap
  phi_cap = rw ea (unfold abs_of in simp (positive, max_left angle positive))

  pub theta_cap : max_steps zero32 a ≡ angle_cap angle
  unfolding max_steps angle_cap
  theta_cap = rw ea (unfold abs_of lt in simp (positive, max_right angle positive))

pub radius_cap : max_steps zero32 zero32 ≡ 100
unfolding max_steps abs_of lt
radius_cap = refl
