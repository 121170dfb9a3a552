-- The number that a search answers is a measurement's, whatever the links are. Assumes nothing.
use Prim.Native.Nat.{ℕ, ◌<◌}
use mathlib.Core.Path.{◌≡◌, refl, ap}
use mathlib.Core.List.{List}
use native.Mathlib.Omega.{arith}
use lib.Ieee.{Float}
use Rattle.points.specs.declared.Point3.{Point3}
use Rattle.kdtree.specs.declared.BoundingBox.{BoundingBox}
use Rattle.kdtree.specs.declared.Best.{Best}
use Rattle.std.specs.Prelude.{Option, Some, None}
use Rattle.refusals.specs.declared.Refusal.{Refusal}
use Rattle.refusals.specs.declared.Refusal.TheVariants.{BadLink}
use Rattle.kdtree.specs.Tree.{subtree}
use Rattle.kdtree.specs.Nearest.{start_at, start_at_root, found_from, place_found}
use Rattle.kdtree.proofs.Nodes.{found_below, subtree_below}
use Rattle.lookup.specs.declared.Lookup.{Lookup}
use Rattle.lookup.specs.declared.Located.{Located}
use Rattle.lookup.specs.declared.Located.TheVariants.{At, Refused}
use Rattle.lookup.specs.Lookup.{clamped_by, located_by, locate_of}

place_below : (m : ℕ) (xs : List Float) (left right : List ℕ) (b : BoundingBox) (q : Point3) (s : Best) → 0 < m → Some s ≡ place_found xs left right m b q → s.place < m
unfolding found_from start_at
place_below m xs left right b q s h e = found_below m m q (subtree left right xs m m 0) b 0 (start_at_root xs q) s (subtree_below left right xs m m 0 h) h e

-- the number of an answer
abbrev number_in : Located → ℕ
number_in (At n) = n
number_in (Refused refusal) = 0

pub located_below : (look : Lookup) (m : ℕ) (xs : List Float) (left right : List ℕ) (q : Point3) (k : ℕ) → 0 < m → At k ≡ locate_of look m xs left right q → k < m
unfolding locate_of located_by
located_below look m xs left right q k h e = go (place_found xs left right m look.bounds (clamped_by look q)) refl e
  where
    never : (r : Refusal) → At k ≡ Refused r → ⊥
    never r z = let w : ◌≡◌ {A = ℕ} 0 1 = cc in omega arith

    number : (s : Best) → At k ≡ located_by (Some s) → k ≡ s.place
    number s z = ap number_in z

    go : (w : Option Best) → w ≡ place_found xs left right m look.bounds (clamped_by look q) → At k ≡ located_by w → k < m
    go (Some s) ew z = let b = place_below m xs left right look.bounds (clamped_by look q) s h ew in omega (arith, number s z, b)
    go None ew z = absurd (never BadLink z)
