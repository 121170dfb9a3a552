-- Sine and cosine of every f32 from -16 to 16: the steps answer within 2^-20 of S and C. Assumes nothing.
use mathlib.Core.Path.{◌≡◌, refl, sym, subst, subst₂}
use mathlib.Core.Bool.{Bool, true, false, cond}
use Prim.Native.Nat.{◌*◌}
use lib.Dec.{T}
use lib.Ieee.{Float, binary32, up, down, lt, fits}
use lib.Ieee.Fits.{down_pos}
use Rattle.sines.specs.Sines.{plus_zero, one, small, in_range, absf, sin_from, cos_from, sine_steps, cosine_steps}
use Rattle.angle_laws.specs.Angle.{S, C, sine, cosine, close_to}
use Rattle.angle_laws.proofs.Cases.{large, little}
use Rattle.angle_laws.proofs.Chosen.{sin_from_lem, cos_from_lem}
use Rattle.angle_laws.proofs.Small.{sine_small, cosine_small}

module _ (x : Float) (f : T (fits binary32 x)) (r : T (in_range x)) where
  pub sine_near : close_to 1048576 (sine_steps x) (S x)
  unfolding sine_steps S close_to
  sine_near = go (lt (absf x) small) refl
    where
      go : (b : Bool) → lt (absf x) small ≡ b → close_to 1048576 (cond b x (sin_from (lt x plus_zero) (absf x))) (S x)
      go true q =
          let l = little x r q in
          subst (λ (y : Float). close_to 1048576 y (S y)) (sym l.is) (sine_small (l.m * up l.e) (down l.e) (down_pos l.e) l.lo l.s)
      go false q =
          let l = large x f r q in
          subst₂ (λ (b : Bool) (y : Float). close_to 1048576 (sin_from b (absf x)) (S y)) (sym l.sgn) (sym l.is)
          (subst (λ (y : Float). close_to 1048576 (sin_from l.s y) (sine l.s (l.m * up l.e) (down l.e))) (sym l.abs) (sin_from_lem l.m l.e l.fit l.hi l.s))

  pub cosine_near : close_to 1048576 (cosine_steps x) (C x)
  unfolding cosine_steps C close_to
  cosine_near = go (lt (absf x) small) refl
    where
      go : (b : Bool) → lt (absf x) small ≡ b → close_to 1048576 (cond b one (cos_from (absf x))) (C x)
      go true q =
          let l = little x r q in
          subst (λ (y : Float). close_to 1048576 one (C y)) (sym l.is) (cosine_small (l.m * up l.e) (down l.e) (down_pos l.e) l.lo l.s)
      go false q =
          let l = large x f r q in
          subst (λ (y : Float). close_to 1048576 (cos_from (absf x)) (C y)) (sym l.is)
          (subst (λ (y : Float). close_to 1048576 (cos_from y) (cosine l.s (l.m * up l.e) (down l.e))) (sym l.abs) (cos_from_lem l.m l.e l.fit l.hi l.s))
