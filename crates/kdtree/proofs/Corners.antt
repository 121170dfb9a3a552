-- What the code does by an index and the definitions by the axis: coordinates, the next axis, one corner of a box replaced. Assumes nothing.
use mathlib.Core.Path.{◌≡◌, refl, ap, ◌∙◌}
use mathlib.Core.Bool.{Bool, true, false, cond}
use mathlib.Core.List.{[], ◌∷◌}
use Prim.Native.Nat.{ℕ, zero, suc, ◌+◌, ◌<◌, ◌≤◌}
use native.Mathlib.Omega.{arith}
use lib.Dec.{eqb}
use lib.ListN.{get_or}
use lib.Ieee.{Float, nan}
use Rattle.kdtree.specs.declared.BoundingBox.{BoundingBox}
use Rattle.kdtree.specs.Geometry.{byAxis, next_axis, corner_of, with_min, with_max}

pub low_most : (n : ℕ) → byAxis n 0 1 2 ≤ 2
unfolding byAxis
low_most zero = omega arith
low_most (suc zero) = omega arith
low_most (suc (suc n)) = omega arith

pub next_same : (n : ℕ) → n < 2 → n + 1 ≡ next_axis n
unfolding next_axis byAxis
next_same zero h = refl
next_same (suc zero) h = refl
next_same (suc (suc n)) h = absurd (omega arith)

pub next_none : (n : ℕ) → 2 ≤ n → ◌≡◌ {A = ℕ} 0 (next_axis n)
unfolding next_axis byAxis
next_none zero h = absurd (omega arith)
next_none (suc zero) h = absurd (omega arith)
next_none (suc (suc n)) h = refl

-- three in a row, read by the index of an axis
pub at_index : (n : ℕ) (x y z : Float) → get_or (x ∷ y ∷ z ∷ []) (byAxis n 0 1 2) nan ≡ byAxis n x y z
unfolding byAxis
at_index zero x y z = refl
at_index (suc zero) x y z = refl
at_index (suc (suc n)) x y z = refl

-- the box that the code makes, k being the corner's number
abbrev selected : BoundingBox → ℕ → Float → BoundingBox
selected b k v = record {
  min_x = cond (eqb k 0) v b.min_x;
  min_y = cond (eqb k 1) v b.min_y;
  min_z = cond (eqb k 2) v b.min_z;
  max_x = cond (eqb k 3) v b.max_x;
  max_y = cond (eqb k 4) v b.max_y;
  max_z = cond (eqb k 5) v b.max_z;
}

by_number : (b : BoundingBox) (n : ℕ) (v : Float) (g : Bool) → selected b (corner_of n g) v ≡ cond g (with_max b n v) (with_min b n v)
unfolding byAxis corner_of with_min with_max
by_number b zero v true = refl
by_number b zero v false = refl
by_number b (suc zero) v true = refl
by_number b (suc zero) v false = refl
by_number b (suc (suc n)) v true = refl
by_number b (suc (suc n)) v false = refl

-- the box put together from what each selection gave
pub made : (b : BoundingBox) (n : ℕ) (v : Float) (g : Bool) (k : ℕ) → k ≡ corner_of n g → {x y z x' y' z' : Float} → x ≡ cond (eqb k 0) v b.min_x → y ≡ cond (eqb k 1) v b.min_y
    → z ≡ cond (eqb k 2) v b.min_z → x' ≡ cond (eqb k 3) v b.max_x → y' ≡ cond (eqb k 4) v b.max_y → z' ≡ cond (eqb k 5) v b.max_z
    → ◌≡◌ {A = BoundingBox} (record { min_x = x; min_y = y; min_z = z; max_x = x'; max_y = y'; max_z = z' }) (cond g (with_max b n v) (with_min b n v))
made b n v g k e ex ey ez ex' ey' ez' =
    let w : selected b k v ≡ cond g (with_max b n v) (with_min b n v) = ap (λ (k : ℕ). selected b k v) e ∙ by_number b n v g in
    cc
