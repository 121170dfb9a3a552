-- The arctangent where y is zero: the steps, branch by branch. Assumes nothing.
use Rattle.std.proofs.Common.{◌≡◌, Bool, true, false, cond, not, ◌&&◌, T, sym, ap, ◌∙◌, subst, ap₂}
use lib.Ieee.{Float, binary32, div, lt, eq, neg}
use lib.Ieee.Scale.{finite}
use Rattle.sines.specs.Sines.{plus_zero, one}
use Rattle.angles.specs.Arc.{behind_of, best_steps, signed_pi32, arctan_steps}

-- ---- the code's branches
pub tan_pi : (y x : Float) (w s : Bool) → eq y plus_zero ≡ true → w ≡ behind_of x → w ≡ true → lt (div binary32 one y) plus_zero ≡ s → cond s (signed_pi32 true) (signed_pi32 false) ≡ arctan_steps y x
unfolding arctan_steps neg
tan_pi y x w s a b c d = sym (ap₂ (λ (p q : Bool). cond p (cond q (cond (lt (div binary32 one y) plus_zero) (signed_pi32 true) (signed_pi32 false)) y) (best_steps y x)) a (sym b ∙ c) ∙ ap (λ (z : Bool). cond z (signed_pi32 true) (signed_pi32 false)) d)

pub tan_zero : (y x : Float) (w : Bool) → eq y plus_zero ≡ true → w ≡ behind_of x → w ≡ false → y ≡ arctan_steps y x
unfolding arctan_steps neg
tan_zero y x w a b c = sym (ap₂ (λ (p q : Bool). cond p (cond q (cond (lt (div binary32 one y) plus_zero) (signed_pi32 true) (signed_pi32 false)) y) (best_steps y x)) a (sym b ∙ c))

pub tan_arc : (y x r : Float) → eq y plus_zero ≡ false → r ≡ best_steps y x → r ≡ arctan_steps y x
unfolding arctan_steps neg
tan_arc y x r a e = e ∙ sym (ap (λ (p : Bool). cond p (cond (behind_of x) (cond (lt (div binary32 one y) plus_zero) (signed_pi32 true) (signed_pi32 false)) y) (best_steps y x)) a)

pub usable_of : (y x : Float) → T (finite y && finite x) → eq y plus_zero ≡ false → T (finite y && (finite x && not (eq y plus_zero)))
usable_of y x t h = subst (λ (b : Bool). T (finite y && (finite x && not b))) (sym h) (go (finite y) (finite x) t)
  where
    go : (a b : Bool) → T (a && b) → T (a && (b && true))
    go true true t = tt
    go true false t = t
    go false b t = t
