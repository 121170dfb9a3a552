-- One turn of a search in the terms of the code: where the step leads, whether it leaves, what is found there. Assumes nothing.
use Rattle.std.proofs.Common.{◌≡◌, ℕ, suc, ◌+◌, ◌≤◌, Bool, true, false, cond, ◌&&◌, ltb, sym, ap, ◌∙◌, eq-eqb, ne_eqb}
use lib.Ieee.{eq}
use Rattle.floats.specs.Floats.{zero32}
use Rattle.refusals.specs.declared.Refusal.{Refusal}
use Rattle.points.specs.declared.Point3.{Point3}
use Rattle.coords.specs.declared.Spherical.{Spherical}
use Rattle.coords.specs.declared.Turn.{Turn}
use Rattle.coords.specs.Coords.{turn_of, along_of, cartesian_of}
use Rattle.lookup.specs.declared.Located.{Located}
use Rattle.lookup.specs.declared.Located.TheVariants as located
use Rattle.lookup.specs.Lookup.{locate_of}
use Rattle.neighbors.specs.declared.Surroundings.{Surroundings}
use Rattle.neighbors.specs.declared.Reached.{Reached}
use Rattle.neighbors.specs.declared.Reached.TheVariants.{At, Absent}
use Rattle.neighbors.specs.Neighbors.{after, tilted, moved, leaves, passed_on, unless_own, going}
use Rattle.neighbors.proofs.Fixed.{Kept, turned_is, kept_on}

-- ---- the point that a step leads to, of turns that may be kept

module _ (from step : Spherical) (i : ℕ) (h : i + 1 ≤ 4294967296) (there : Spherical) (et : there ≡ moved from step (i + 1)) (phi theta : Turn)
    (kp : Kept (λ x. x) from.azimuth step.azimuth i phi) (kt : Kept tilted from.elevation step.elevation i theta) (phi' theta' : Turn)
    (ep : phi' ≡ cond (ltb 0 i && eq step.azimuth zero32) phi (turn_of there.azimuth))
    (eh : theta' ≡ cond (ltb 0 i && eq step.elevation zero32) theta (turn_of there.elevation)) where
  azimuth_is : there.azimuth ≡ after from.azimuth step.azimuth (i + 1)
  unfolding moved
  azimuth_is = ap (λ (s : Spherical). s.azimuth) et

  elevation_is : there.elevation ≡ tilted (after from.elevation step.elevation (i + 1))
  unfolding moved
  elevation_is = ap (λ (s : Spherical). s.elevation) et

  pub phi_on : Kept (λ x. x) from.azimuth step.azimuth (i + 1) phi'
  phi_on = kept_on (λ x. x) from.azimuth step.azimuth i h phi kp phi' there.azimuth azimuth_is ep

  pub theta_on : Kept tilted from.elevation step.elevation (i + 1) theta'
  theta_on = kept_on tilted from.elevation step.elevation i h theta kt theta' there.elevation elevation_is eh

  -- THE SAME POINT as the plain conversion's
  pub point_is : (q : Point3) → q ≡ along_of phi' theta' there.radius → q ≡ cartesian_of there
  unfolding cartesian_of
  point_is q e =
      e ∙ ap (λ (t : Turn). along_of t theta' there.radius) (turned_is (λ x. x) from.azimuth step.azimuth i h phi kp phi' there.azimuth azimuth_is ep)
      ∙ ap (λ (t : Turn). along_of (turn_of there.azimuth) t there.radius) (turned_is tilted from.elevation step.elevation i h theta kt theta' there.elevation elevation_is eh)

-- ---- one turn

-- what a found number comes to
module _ (own : ℕ) (found : Located) (further : Reached) where
  pub refused : (refusal : Refusal) → found ≡ located.Refused refusal → (r : Reached) → r ≡ passed_on found → r ≡ unless_own own found further
  unfolding unless_own
  refused refusal h r er = er ∙ ap passed_on h ∙ sym (ap (λ (f : Located). unless_own own f further) h)

  pub other : (n : ℕ) → found ≡ located.At n → (n ≡ own → ⊥) → At n ≡ unless_own own found further
  unfolding unless_own
  other n h f = sym (ap (λ (f : Located). unless_own own f further) h ∙ ap (λ (b : Bool). cond b further (At n)) (ne_eqb n own f))

  pub same : (n : ℕ) → found ≡ located.At n → n ≡ own → further ≡ unless_own own found further
  unfolding unless_own
  same n h f = sym (ap (λ (f : Located). unless_own own f further) h ∙ ap (λ (b : Bool). cond b further (At n)) (eq-eqb n own f))

module _ (s : Surroundings) (from step : Spherical) where
  abbrev found_at : Point3 → Located
  found_at q = locate_of s.look s.tree.count s.tree.positions.now s.tree.left.now s.tree.right.now q

  -- k steps are left when i are done
  abbrev pub go : ℕ → ℕ → Reached
  go k i = going s.look s.tree.count s.tree.positions.now s.tree.left.now s.tree.right.now s.own from step k i

  pub at_end : (k i : ℕ) → k ≡ 0 → Absent ≡ go k i
  unfolding going
  at_end k i e = sym (ap (λ (j : ℕ). go j i) e)

  module _ (k j i : ℕ) (ek : k ≡ suc j) (there : Spherical) (et : there ≡ moved from step (i + 1)) where
    abbrev chosen : Bool → Spherical → Reached
    chosen b p = elim b [ true ↦ Absent | false ↦ unless_own s.own (found_at (cartesian_of p)) (go j (i + 1)) ]

    by : (b : Bool) → leaves s.look step.radius there.radius ≡ b → go k i ≡ chosen b there
    unfolding going
    by b e =
        ap (λ (n : ℕ). go n i) ek ∙ ap (λ (p : Spherical). chosen (leaves s.look step.radius p.radius) p) (sym et) ∙ ap (λ (c : Bool). chosen c there) e

    pub out : leaves s.look step.radius there.radius ≡ true → Absent ≡ go k i
    out e = sym (by true e)

    pub stayed : leaves s.look step.radius there.radius ≡ false → (q : Point3) → q ≡ cartesian_of there → (found : Located) → found ≡ found_at q
        → unless_own s.own found (go j (i + 1)) ≡ go k i
    stayed e q eqq found ef =
        sym (by false e ∙ ap (λ (p : Point3). unless_own s.own (found_at p) (go j (i + 1))) (sym eqq) ∙ ap (λ (f : Located). unless_own s.own f (go j (i + 1))) (sym ef))
