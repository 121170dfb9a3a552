-- One axis of a box's distance by one square: that of +0 where q lies within. Assumes nothing.
use mathlib.Core.Path.{◌≡◌, refl, sym, ap, ◌∙◌, subst}
use mathlib.Core.Bool.{true, false}
use lib.Dec.{T}
use lib.Ieee.{Float, nan, inf, fin, binary32, add, sub, mul, lt, fits}
use Rattle.floats.specs.Floats.{zero32}
use Rattle.floats.proofs.Sign.{nonneg}
use Rattle.floats.proofs.Cross.{of_taken}
use Rattle.floats.proofs.Ops.{add_nonneg, plus_zero_lem}
use Rattle.points.proofs.Gap.{gap_comm, gap_outside}
use Rattle.kdtree.specs.Geometry.{firm, Firm, outside}

to_nonneg : (x : Float) → Firm x → T (nonneg x)
unfolding firm
to_nonneg nan h = h
to_nonneg (inf s) h = h
to_nonneg (fin s m e) h = h

of_nonneg : (x : Float) → T (nonneg x) → Firm x
unfolding firm
of_nonneg nan h = h
of_nonneg (inf s) h = h
of_nonneg (fin s m e) h = h

pub firm_zero : Firm zero32
unfolding firm
firm_zero = tt

pub square_zero : mul binary32 zero32 zero32 ≡ zero32
unfolding mul
square_zero = refl

module _ (sum min max q g : Float) (f : Firm sum) where
  abbrev pub Good : Type 0
  Good = (add binary32 sum (mul binary32 g g) ≡ outside sum min max q) × Firm (add binary32 sum (mul binary32 g g))

  made : (z : Float) → g ≡ z → T (nonneg (mul binary32 z z)) → add binary32 sum (mul binary32 z z) ≡ outside sum min max q → Good
  made z eg n e =
      let x = ap (λ (w : Float). add binary32 sum (mul binary32 w w)) eg in
      (x ∙ e, subst Firm (sym x) (of_nonneg _ (add_nonneg binary32 sum (mul binary32 z z) (to_nonneg sum f) n)))

  pub on_below : lt q min ≡ true → g ≡ sub binary32 min q → Good
  unfolding outside
  on_below h eg = made (sub binary32 min q) eg (gap_outside q min (of_taken h)) (simp h)

  pub on_above : lt q min ≡ false → lt max q ≡ true → g ≡ sub binary32 max q → Good
  unfolding outside
  on_above h k eg = made (sub binary32 max q) eg (subst (λ (z : Float). T (nonneg z)) (gap_comm q max) (gap_outside max q (of_taken k))) (simp (h, k))

  pub on_within : T (fits binary32 sum) → lt q min ≡ false → lt max q ≡ false → g ≡ zero32 → Good
  unfolding outside
  on_within t h k eg =
      made zero32 eg (subst (λ (z : Float). T (nonneg z)) (sym square_zero) tt)
      (ap (add binary32 sum) square_zero ∙ (plus_zero_lem binary32 sum (to_nonneg sum f) t ∙ simp (h, k)))
