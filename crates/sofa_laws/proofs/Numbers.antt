-- Root, sine, cosine, arctangent and the conversions at the border (specs/Numbers.antt). Assumes nothing.
use mathlib.Core.Path.{◌≡◌, refl, sym, ap, ◌∙◌, subst}
use mathlib.Core.Bool.{Bool, true, false, cond, ◌&&◌}
use mathlib.Core.List.{List}
use Prim.Native.Nat.{ℕ, ◌<◌}
use native.Mathlib.Omega.{arith}
use lib.Dec.{T}
use lib.Ieee.{Float, binary32, fits}
use lib.Ieee.Scale.{finite}
use Rattle.root.specs.Root.{root_of}
use Rattle.root.proofs.Nearest.{root_of_rounded}
use Rattle.root.proofs.Laws.{rounded_unique}
use Rattle.sines.specs.Sines.{in_range, sine_steps, cosine_steps}
use Rattle.angles.specs.Arc.{arctan_steps}
use Rattle.std.specs.Prelude.{⊤, Result, Ok, Err}
use Rattle.refusals.specs.declared.Refusal.{Refusal}
use Rattle.refusals.specs.declared.Refusal.TheVariants.{BadValue}
use Rattle.angles.specs.Says.{sine_says, cosine_says, arctan_says}
use Rattle.angle_laws.specs.Angle.{Ratio, close_to}
use Rattle.angle_laws.specs.Asked.{Arctan}
use Rattle.angle_laws.proofs.Near.{sine_near, cosine_near}
use Rattle.angle_laws.proofs.Zero.{arctan_good}
use Rattle.limits.specs.Refusals.{verdict_of, triplets, value_lines}
use Rattle.limits.proofs.Lines.{done, more, unmet→ok}
use Rattle.coords.specs.Arrays.{Converted, by_triplets, turned, converted_as, kept_or, convert_of}
use Rattle.source.specs.Coords.{convert_array_to_spherical, convert_array_to_cartesian}
use Rattle.source_laws.specs.Drawn.{ported}
use Rattle.source_laws.proofs.Turns.{turns}
use Rattle.load_laws.proofs.Domain.{values_allowed}
use Rattle.sofa.specs.declared.SofaValue.{SofaValue}
use Rattle.sofa.specs.declared.convert.SofaRefusal.{SofaRefusal}
use Rattle.sofa.specs.Border.{value_as}
use Rattle.sofa.specs.Convert.{reason_of, place_of, Turned, turned_by, turn_says}
use Rattle.sofa_laws.specs.Numbers.{RootHeard, not_allowed, NearHeard, ArctangentHeard, TurnHeard, NumbersHeard}
use Rattle.sofa_laws.proofs.Host.{unrefused}

-- ---- the root

root_heard : (x r : Float) → r ≡ root_of x → T (fits binary32 x) → RootHeard x r
unfolding root_of
root_heard x r says fit = subst (RootHeard x) (sym says) (record {
  nearest = λ p. root_of_rounded x fit p;
  only = λ p t R. rounded_unique x t (root_of x) fit p R (root_of_rounded x fit p);
  of_zero = λ s e z. ap root_of z ∙ sym z;
  of_infinity = λ z. ap root_of z ∙ sym z;
  of_below = λ m e z. ap root_of z;
  of_minus_infinity = λ z. ap root_of z;
  of_nan = λ z. ap root_of z;
})

-- ---- sine, cosine, arctangent

abbrev say_by : Bool → Float → ℕ → Result Float Refusal
say_by b v place = cond b (Ok v) (Err (BadValue place))

value_is : (b : Bool) (x : Float) (v : SofaValue) (place : ℕ) → v ≡ value_as (say_by b x place) → T b → v ≡ record { reason = 0; place = 0; value = x }
value_is true x v place e h = e
value_is false x v place e h = absurd h

refused_is : (b : Bool) (x : Float) (v : SofaValue) (place : ℕ) → v ≡ value_as (say_by b x place) → b ≡ false → v ≡ not_allowed place
refused_is b x v place e h = e ∙ ap (λ (c : Bool). value_as (say_by c x place)) h

near_heard : (x y : Float) (ρ : Ratio) (v : SofaValue) → v ≡ value_as (say_by (in_range x) y 0) → (T (in_range x) → close_to 1048576 y ρ) → NearHeard x ρ v
near_heard x y ρ v says near = record {
  told = λ h. ap (λ (u : SofaValue). u.reason) (value_is (in_range x) y v 0 says h);
  near = λ h. subst (λ (u : SofaValue). close_to 1048576 u.value ρ) (sym (value_is (in_range x) y v 0 says h)) (near h);
  refused = refused_is (in_range x) y v 0 says;
}

arctangent_heard : (y x : Float) (v : SofaValue) → v ≡ value_as (arctan_says y x) → ArctangentHeard y x v
unfolding arctan_says
arctangent_heard y x v says = record {
  told = λ h. ap (λ (u : SofaValue). u.reason) (is (finite y) (finite x) says h);
  asked = λ h. subst (λ (u : SofaValue). Arctan y x u.value) (sym (is (finite y) (finite x) says h)) (arctan_good y x h);
  refused_y = λ h. says ∙ ap (λ (b : Bool). value_as (cond b (say_by (finite x) (arctan_steps y x) 1) (Err (BadValue 0)))) h;
  refused_x = λ h k. says ∙ ap (λ (b : Bool). value_as (cond b (say_by (finite x) (arctan_steps y x) 1) (Err (BadValue 0)))) h ∙ ap (λ (b : Bool). value_as (say_by b (arctan_steps y x) 1)) k;
}
  where
    is : (b c : Bool) → v ≡ value_as (cond b (say_by c (arctan_steps y x) 1) (Err (BadValue 0))) → T (b && c) → v ≡ record { reason = 0; place = 0; value = arctan_steps y x }
    is true true e h = e
    is true false e h = absurd h
    is false c e h = absurd h

-- ---- conversions

kept_list : (v : Result ⊤ Refusal) (old new : List Float) → (reason_of v ≡ 0 → ⊥) → kept_or v old new ≡ old
unfolding kept_or
kept_list (Ok fine) old new h = absurd (h refl)
kept_list (Err refusal) old new h = refl

module _ (kind : ℕ) (xs ys source : List Float) (r : SofaRefusal) (says : turned_by r ys ≡ turn_says kind xs) where
  abbrev v : Result ⊤ Refusal
  v = verdict_of (value_lines kind xs)

  answer_is : (convert_of kind xs).answer ≡ v
  unfolding convert_of
  answer_is = refl

  reason_told : r.reason ≡ reason_of v
  reason_told = ap (λ (t : Turned). t.out.reason) says ∙ ap reason_of answer_is

  list_is : ys ≡ (convert_of kind xs).values
  list_is = ap (λ (t : Turned). t.values) says

  turn_heard : kind < 2 → (v ≡ Ok tt → convert_of kind xs ≡ converted_as (Ok tt) source) → TurnHeard kind xs ys source r
  turn_heard known same = record {
    reason = reason_told;
    place = ap (λ (t : Turned). t.out.place) says ∙ ap place_of answer_is;
    in_domain = λ h. reason_told ∙ ap reason_of (unmet→ok _ (more (values_allowed kind xs (triplets xs) known (omega arith) h) done));
    turned = λ e. list_is ∙ ap (λ (c : Converted). c.values) (same (unrefused v (sym reason_told ∙ e)));
    keeps = λ h. list_is ∙ (unfold convert_of in kept_list v xs (by_triplets (turned kind) xs) (λ e. h (reason_told ∙ e)));
  }

-- THE THEOREM
pub numbers : NumbersHeard
unfolding sine_says cosine_says
numbers = record {
  root = λ κs a r e p fit. root_heard a.0 r p fit;
  sine = λ κs a v e p fit. near_heard a.0 (sine_steps a.0) _ v p (sine_near a.0 fit);
  cosine = λ κs a v e p fit. near_heard a.0 (cosine_steps a.0) _ v p (cosine_near a.0 fit);
  arctangent = λ κs a v e p. arctangent_heard a.0 a.1.0 v p;
  to_spherical = λ κs a r e p. turn_heard 0 a.0.now e.0.now (convert_array_to_spherical ported a.0.now) r p (omega arith) (turns.to_spherical a.0.now);
  to_cartesian = λ κs a r e p. turn_heard 1 a.0.now e.0.now (convert_array_to_cartesian ported a.0.now) r p (omega arith) (turns.to_cartesian a.0.now);
}
