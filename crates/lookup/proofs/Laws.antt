-- The bounds, the clamp and the answers in the terms of the code. Assumes nothing.
use mathlib.Core.Path.{◌≡◌, refl, sym, ap, ◌∙◌}
use mathlib.Core.Bool.{Bool, true, false, cond, ◌&&◌}
use mathlib.Core.List.{List, [], ◌∷◌}
use lib.ListN.{length}
use Prim.Native.Nat.{ℕ, zero, suc, ◌+◌, ◌<◌}
use native.Mathlib.Omega.{arith}
use native.Mathlib.Numerals.{add-one}
use lib.Ieee.{Float, binary32, lt, div}
use Rattle.floats.specs.Floats.{zero32}
use Rattle.points.specs.declared.Point3.{Point3}
use Rattle.points.specs.Points.{point_at, listed}
use Rattle.kdtree.specs.declared.BoundingBox.{BoundingBox}
use Rattle.kdtree.specs.declared.Best.{Best}
use Rattle.std.specs.Prelude.{⊤}
use Rattle.std.proofs.Common.{Option, Some, None, Result, Ok, Err}
use Rattle.kdtree.specs.Geometry.{box_at, grown}
use Rattle.kdtree.specs.Nearest.{place_found}
use Rattle.coords.specs.declared.Spherical.{Spherical}
use Rattle.coords.specs.Coords.{spherical_of, radius_of}
use Rattle.refusals.specs.declared.Refusal.{Refusal}
use Rattle.refusals.specs.declared.Refusal.TheVariants.{BadLink}
use Rattle.lookup.specs.declared.Lookup.{Lookup}
use Rattle.lookup.specs.declared.Located.{Located}
use Rattle.lookup.specs.declared.Located.TheVariants.{At, Refused}
use Rattle.lookup.specs.Build.{box_to, box_of, least_of, greatest_of, lookup_of, unmeasured, widened}
use Rattle.lookup.specs.Lookup.{scaled, clamped_to, clamped_by, located_by, locate_of, unless, point_in, put_point, moved_as, moved_if_found}

-- ---- the bounds

pub measured_first : (xs : List Float) (p : Point3) (b : BoundingBox) (s : Spherical) (none look : Lookup) → p ≡ point_at xs 0 → b ≡ box_at p → s ≡ spherical_of p
    → none ≡ unmeasured b → look ≡ widened none b s → look ≡ lookup_of xs 1
unfolding lookup_of box_of box_to least_of greatest_of unmeasured widened
measured_first xs p b s none look ep eb es en el =
    el ∙ ap (λ (n : Lookup). widened n b s) en ∙ ap (λ (t : Spherical). widened (unmeasured b) b t) es ∙ ap (λ (c : BoundingBox). widened (unmeasured c) c (spherical_of p)) eb
    ∙ ap (λ (q : Point3). widened (unmeasured (box_at q)) (box_at q) (spherical_of q)) ep

pub measured_more : (xs : List Float) (i : ℕ) (p : Point3) (look more : Lookup) (b : BoundingBox) (s : Spherical) → 0 < i → look ≡ lookup_of xs i → p ≡ point_at xs i
    → b ≡ grown look.bounds p → s ≡ spherical_of p → more ≡ widened look b s → more ≡ lookup_of xs (i + 1)
unfolding lookup_of box_of box_to least_of greatest_of widened
measured_more xs zero p look more b s h el ep eb es em = absurd (omega arith)
measured_more xs (suc i) p look more b s h el ep eb es em =
    em ∙ ap (λ (t : Spherical). widened look b t) es ∙ ap (λ (c : BoundingBox). widened look c (spherical_of p)) eb
    ∙ ap (λ (k : Lookup). widened k (grown k.bounds p) (spherical_of p)) el
    ∙ ap (λ (q : Point3). widened (lookup_of xs (suc i)) (grown (lookup_of xs (suc i)).bounds q) (spherical_of q)) ep
    ∙ ap (λ (k : ℕ). lookup_of xs k) (sym (add-one (suc i)))

-- ---- the clamp

module _ (look : Lookup) (p : Point3) (r : Float) (er : r ≡ radius_of p) where
  abbrev body : Bool → Bool → Float → Point3
  body a b r = cond a (scaled p (div binary32 look.radius_max r)) (cond b (scaled p (div binary32 look.radius_min r)) p)

  by : (a b : Bool) → lt look.radius_max r ≡ a → (lt r look.radius_min && lt zero32 r) ≡ b → body a b r ≡ clamped_by look p
  unfolding clamped_by clamped_to
  by a b ea eb =
      ap (λ (c : Bool). body c b r) (sym ea) ∙ ap (λ (c : Bool). body (lt look.radius_max r) c r) (sym eb)
      ∙ ap (λ (t : Float). body (lt look.radius_max t) (lt t look.radius_min && lt zero32 t) t) er

  pub drawn_in_lem : (w : Point3) → w ≡ scaled p (div binary32 look.radius_max r) → lt look.radius_max r ≡ true → w ≡ clamped_by look p
  drawn_in_lem w ew e = ew ∙ by true (lt r look.radius_min && lt zero32 r) e refl

  pub drawn_out : (w : Point3) → w ≡ scaled p (div binary32 look.radius_min r) → lt look.radius_max r ≡ false
      → (lt r look.radius_min && lt zero32 r) ≡ true → w ≡ clamped_by look p
  drawn_out w ew e f = ew ∙ by false true e f

  pub unchanged : lt look.radius_max r ≡ false → (lt r look.radius_min && lt zero32 r) ≡ false → p ≡ clamped_by look p
  unchanged e f = by false false e f

-- ---- the answers

pub located_found : (w v : Option Best) (s : Best) → w ≡ v → w ≡ Some s → At s.place ≡ located_by v
unfolding located_by
located_found w v s e f = ap located_by (sym f ∙ e)

pub located_none : (w v : Option Best) → w ≡ v → w ≡ None → Refused BadLink ≡ located_by v
unfolding located_by
located_none w v e f = ap located_by (sym f ∙ e)

pub located : (look : Lookup) (m : ℕ) (xs : List Float) (left right : List ℕ) (q p : Point3) (r : Located) → p ≡ clamped_by look q
    → r ≡ located_by (place_found xs left right m look.bounds p) → r ≡ locate_of look m xs left right q
unfolding locate_of
located look m xs left right q p r ep er = er ∙ ap (λ (x : Point3). located_by (place_found xs left right m look.bounds x)) ep

pub answered : (v : Result ⊤ Refusal) (r a : Located) → v ≡ Ok tt → r ≡ a → r ≡ unless v a
unfolding unless
answered v r a e h = h ∙ sym (ap (λ (w : Result ⊤ Refusal). unless w a) e)

pub refused : (v : Result ⊤ Refusal) (a : Located) (r : Refusal) → v ≡ Err r → Refused r ≡ unless v a
unfolding unless
refused v a r e = sym (ap (λ (w : Result ⊤ Refusal). unless w a) e)

-- three coordinates written one by one are the list of the point
put_listed : (l : List Float) (p : Point3) → length l ≡ 3 → put_point l p ≡ listed p
put_listed [] p e = absurd (omega (arith, e))
put_listed (x ∷ []) p e = absurd (omega (arith, e))
put_listed (x ∷ y ∷ []) p e = absurd (omega (arith, e))
put_listed (x ∷ y ∷ z ∷ []) p e = refl
put_listed (x ∷ y ∷ z ∷ u ∷ l) p e = absurd (omega (arith, e))

pub moved_at : (look : Lookup) (l : List Float) (r v : Located) (number : ℕ) (p : Point3) (xs : List Float) → length l ≡ 3 → r ≡ v → r ≡ At number
    → p ≡ clamped_by look (point_in l) → xs ≡ listed p → moved_as r xs ≡ moved_if_found v look l
unfolding moved_if_found
moved_at look l r v number p xs three e h ep ex =
    ap (moved_as r) (ex ∙ sym (put_listed l p three)) ∙ ap (λ (t : Point3). moved_as r (put_point l t)) ep ∙ ap (λ (x : Located). moved_as x (put_point l (clamped_by look (point_in l)))) h
    ∙ sym (ap (λ (x : Located). moved_if_found x look l) (sym e ∙ h))

pub moved_not : (look : Lookup) (l : List Float) (r v : Located) (x : Refusal) → r ≡ v → r ≡ Refused x → moved_as r l ≡ moved_if_found v look l
unfolding moved_if_found
moved_not look l r v x e h = ap (λ (x : Located). moved_as x l) h ∙ sym (ap (λ (x : Located). moved_if_found x look l) (sym e ∙ h))
