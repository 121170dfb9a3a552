-- The ends of the ranges: 0.1 as a bit pattern, and that a value between two finite ends is finite. Assumes nothing.
use mathlib.Core.Path.{◌≡◌, refl}
use mathlib.Core.Bool.{true, false}
use lib.Dec.{T}
use lib.Ieee.{Float, nan, inf, fin, binary32, round, of_bits, neg, le, lt, eq}
use lib.Ieee.Scale.{finite}
use Rattle.floats.proofs.Cross.{of_taken, and_left, and_right}
use Rattle.floats.proofs.Preorder.{le_nan}
use Rattle.limits.specs.Allowed.{nearest32, between, within, angle_ok, radius_ok, angle_step_ok}

pub tenth : nearest32 1 10 ≡ of_bits binary32 0x3dcccccd
unfolding round of_bits
tenth = refl

pub between_low : (lo hi x : Float) → between lo hi x ≡ true → T (le lo x)
unfolding between
between_low lo hi x e = of_taken (and_left (le lo x) (le x hi) e)

pub between_high : (lo hi x : Float) → between lo hi x ≡ true → T (le x hi)
unfolding between
between_high lo hi x e = of_taken (and_right (le lo x) (le x hi) e)

squeezed : (lo hi x : Float) → T (finite lo) → T (finite hi) → T (le lo x) → T (le x hi) → T (finite x)
unfolding le lt eq
squeezed lo hi nan a b l h = absurd (le_nan lo l)
squeezed lo (fin t n d) (inf false) a b l h = h
squeezed lo nan (inf false) a b l h = elim b [ ]
squeezed lo (inf _) (inf false) a b l h = elim b [ ]
squeezed (fin s m e) hi (inf true) a b l h = l
squeezed nan hi (inf true) a b l h = elim a [ ]
squeezed (inf _) hi (inf true) a b l h = elim a [ ]
squeezed lo hi (fin s m e) a b l h = tt

pub between_finite : (lo hi x : Float) → T (finite lo) → T (finite hi) → between lo hi x ≡ true → T (finite x)
between_finite lo hi x a b e = squeezed lo hi x a b (between_low lo hi x e) (between_high lo hi x e)

pub angle_finite : (x : Float) → angle_ok x ≡ true → T (finite x)
unfolding angle_ok within round neg
angle_finite x e = between_finite (neg (nearest32 720 1)) (nearest32 720 1) x tt tt e

pub radius_finite : (x : Float) → radius_ok x ≡ true → T (finite x)
unfolding radius_ok round
radius_finite x e = between_finite (nearest32 0 1) (nearest32 10000 1) x tt tt e

pub angle_step_finite : (x : Float) → angle_step_ok x ≡ true → T (finite x)
unfolding angle_step_ok round
angle_step_finite x e = between_finite (nearest32 1 10) (nearest32 45 1) x tt tt e
