-- WHAT A HOST HEARS OF CALLS WITHOUT A SET: root, sine, cosine, arctangent, and the conversions. Definitions only; the theorem `numbers` is in proofs/Numbers.antt.
-- `Post` is a call's own contract: of its arguments a, its answer, and its parameters at the return e (specs/Calls.antt). That a value fits binary32 says no more than
-- that it is an f32.
use Rattle.std.specs.Prelude.{◌≡◌, Bool, true, false, ◌&&◌, List, ℕ, suc, ◌<◌, T, get_or, Float}
use Rattle.std.specs.Float.{nan, inf, fin, binary32}
use Rattle.std.specs.Float.Ieee.{fits}
use Rattle.std.specs.Float.Ieee.Scale.{finite}
use Rattle.std.specs.Float.Ieee.Positive.{positive}
use Rattle.floats.specs.Floats.{zero32}
use Rattle.root.specs.Nearest.{Rounded}
use Rattle.sines.specs.Sines.{in_range}
use Rattle.angle_laws.specs.Angle.{Ratio, S, C, close_to}
use Rattle.angle_laws.specs.Asked.{Arctan}
use Rattle.limits.specs.Refusals.{verdict_of, triplets, value_lines}
use Rattle.source.specs.Coords.{convert_array_to_spherical, convert_array_to_cartesian}
use Rattle.source_laws.specs.Drawn.{ported}
use Rattle.load_laws.specs.Domain.{Position}
use Rattle.sofa.specs.declared.SofaValue.{SofaValue}
use Rattle.sofa.specs.declared.convert.SofaRefusal.{SofaRefusal}
use Rattle.sofa.specs.Convert.{reason_of, place_of}
use Rattle.sofa.proofs.sofa_root.Reads as root
use Rattle.sofa.proofs.sofa_sine.Reads as sine
use Rattle.sofa.proofs.sofa_cosine.Reads as cosine
use Rattle.sofa.proofs.sofa_arctangent.Reads as arctangent
use Rattle.sofa.proofs.convert.sofa_to_spherical.Reads as to_spherical
use Rattle.sofa.proofs.convert.sofa_to_cartesian.Reads as to_cartesian

-- IEEE 754's square root: of a finite value above zero the f32 nearest to the exact root, which only one is
pub record RootHeard (x r : Float) : Type 0 where
  pub nearest : T (positive x) → Rounded x r
  pub only : T (positive x) → (t : Float) → Rounded x t → t ≡ r
  pub of_zero : (s : Bool) (e : _) → x ≡ fin s 0 e → r ≡ x
  pub of_infinity : x ≡ inf false → r ≡ x
  pub of_below : (m : ℕ) (e : _) → x ≡ fin true (suc m) e → r ≡ nan
  pub of_minus_infinity : x ≡ inf true → r ≡ nan
  pub of_nan : x ≡ nan → r ≡ nan

-- 7, at the argument's place
abbrev pub not_allowed : ℕ → SofaValue
not_allowed place = record { reason = 7; place = place; value = zero32 }

-- sine and cosine: from -16 to 16 within 2^-20 of document 01's S or C
pub record NearHeard (x : Float) (ρ : Ratio) (v : SofaValue) : Type 0 where
  pub told : T (in_range x) → v.reason ≡ 0
  pub near : T (in_range x) → close_to 1048576 v.value ρ
  pub refused : in_range x ≡ false → v ≡ not_allowed 0

-- the arctangent of finite y and x: all of document 01's rules
pub record ArctangentHeard (y x : Float) (v : SofaValue) : Type 0 where
  pub told : T (finite y && finite x) → v.reason ≡ 0
  pub asked : T (finite y && finite x) → Arctan y x v.value
  pub refused_y : finite y ≡ false → v ≡ not_allowed 0
  pub refused_x : finite y ≡ true → finite x ≡ false → v ≡ not_allowed 1

-- a conversion from the kind, of a list that held xs and then ys: reason and place are the table's, 0 wherever each whole triplet is in document 01's domain; with
-- reason 0 the list is what the source makes of it, with any other as it was
pub record TurnHeard (kind : ℕ) (xs ys : List Float) (source : List Float) (r : SofaRefusal) : Type 0 where
  pub reason : r.reason ≡ reason_of (verdict_of (value_lines kind xs))
  pub place : r.place ≡ place_of (verdict_of (value_lines kind xs))
  pub in_domain : ((i : ℕ) → i < triplets xs → Position kind i (get_or xs i nan)) → r.reason ≡ 0
  pub turned : r.reason ≡ 0 → ys ≡ source
  pub keeps : (r.reason ≡ 0 → ⊥) → ys ≡ xs

pub record NumbersHeard : Type 0 where
  pub root : (κs : _) (a : _) (r : Float) (e : _) → root.Post κs a r e → T (fits binary32 a.0) → RootHeard a.0 r
  pub sine : (κs : _) (a : _) (v : SofaValue) (e : _) → sine.Post κs a v e → T (fits binary32 a.0) → NearHeard a.0 (S a.0) v
  pub cosine : (κs : _) (a : _) (v : SofaValue) (e : _) → cosine.Post κs a v e → T (fits binary32 a.0) → NearHeard a.0 (C a.0) v
  pub arctangent : (κs : _) (a : _) (v : SofaValue) (e : _) → arctangent.Post κs a v e → ArctangentHeard a.0 a.1.0 v
  -- the source with the port's sine, cosine and arctangent
  pub to_spherical : (κs : _) (a : _) (r : SofaRefusal) (e : _) → to_spherical.Post κs a r e
      → TurnHeard 0 a.0.now e.0.now (convert_array_to_spherical ported a.0.now) r
  pub to_cartesian : (κs : _) (a : _) (r : SofaRefusal) (e : _) → to_cartesian.Post κs a r e
      → TurnHeard 1 a.0.now e.0.now (convert_array_to_cartesian ported a.0.now) r
