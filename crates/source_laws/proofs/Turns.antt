-- COORDS.RS: the port's conversions are the source's (specs/Turns.antt). Assumes nothing.
use mathlib.Core.Path.{◌≡◌, refl, sym, ap, ◌∙◌}
use mathlib.Core.List.{List, [], ◌∷◌}
use Prim.Native.Nat.{ℕ}
use lib.Ieee.{Float}
use Rattle.std.specs.Prelude.{⊤, Result, Ok}
use Rattle.refusals.specs.declared.Refusal.{Refusal}
use Rattle.points.specs.declared.Point3.{Point3}
use Rattle.limits.specs.Refusals.{verdict_of, value_lines}
use Rattle.coords.specs.declared.Spherical.{Spherical}
use Rattle.coords.specs.Coords.{turn_of, along_of, cartesian_of, radius_of, spherical_of}
use Rattle.coords.specs.Arrays.{laid, lifted, turned, by_triplets, converted_as, kept_or, convert_of}
use Rattle.source.specs.Rust.{array}
use Rattle.source.specs.Coords.{cartesian_to_spherical, spherical_to_cartesian, radius, convert_array_to_spherical, convert_array_to_cartesian}
use Rattle.source_laws.specs.Drawn.{ported}
use Rattle.source_laws.specs.Turns.{SameTurns}

-- ---- one point

pub spherical_same : (p : Point3) → cartesian_to_spherical ported p ≡ laid (spherical_of p)
unfolding cartesian_to_spherical spherical_of radius_of
spherical_same p = refl

pub cartesian_same : (s : Spherical) → spherical_to_cartesian ported (laid s) ≡ cartesian_of s
unfolding spherical_to_cartesian cartesian_of along_of turn_of
cartesian_same s = refl

pub radius_same : (p : Point3) → radius p ≡ radius_of p
unfolding radius radius_of
radius_same p = refl

-- ---- a list

to_spherical : (xs : List Float) → by_triplets (turned 0) xs ≡ convert_array_to_spherical ported xs
unfolding by_triplets turned convert_array_to_spherical
to_spherical [] = refl
to_spherical (a ∷ []) = refl
to_spherical (a ∷ b ∷ []) = refl
to_spherical (a ∷ b ∷ c ∷ rest) =
    ap (λ (p : Point3). p.x ∷ p.y ∷ p.z ∷ by_triplets (turned 0) rest) (sym (spherical_same (array a b c)))
    ∙ ap (λ (l : List Float). let p = cartesian_to_spherical ported (array a b c) in p.x ∷ p.y ∷ p.z ∷ l) (to_spherical rest)

pub to_cartesian : (xs : List Float) → by_triplets (turned 1) xs ≡ convert_array_to_cartesian ported xs
unfolding by_triplets turned convert_array_to_cartesian
to_cartesian [] = refl
to_cartesian (a ∷ []) = refl
to_cartesian (a ∷ b ∷ []) = refl
to_cartesian (a ∷ b ∷ c ∷ rest) =
    ap (λ (p : Point3). p.x ∷ p.y ∷ p.z ∷ by_triplets (turned 1) rest) (sym (cartesian_same (lifted (array a b c))))
    ∙ ap (λ (l : List Float). let p = spherical_to_cartesian ported (array a b c) in p.x ∷ p.y ∷ p.z ∷ l) (to_cartesian rest)

-- where nothing is refused
allowed : (kind : ℕ) (xs ys : List Float) → by_triplets (turned kind) xs ≡ ys → verdict_of (value_lines kind xs) ≡ Ok tt → convert_of kind xs ≡ converted_as (Ok tt) ys
unfolding convert_of kept_or
allowed kind xs ys e fine = ap (λ (v : Result ⊤ Refusal). converted_as v (kept_or v xs (by_triplets (turned kind) xs))) fine ∙ ap (converted_as (Ok tt)) e

pub turns : SameTurns
turns = record {
  spherical = spherical_same;
  cartesian = λ p. cartesian_same (lifted p);
  radii = radius_same;
  to_spherical = λ xs. allowed 0 xs (convert_array_to_spherical ported xs) (to_spherical xs);
  to_cartesian = λ xs. allowed 1 xs (convert_array_to_cartesian ported xs) (to_cartesian xs);
}
