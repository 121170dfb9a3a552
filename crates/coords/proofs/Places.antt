-- A list changed three values at a time, place by place: it keeps its length, each point is the change of the point that stood there, and values
-- left over stay. Assumes nothing.
use Prim.Native.Nat.{ℕ, zero, suc, ◌+◌, ◌*◌, ◌≤◌, ◌<◌}
use mathlib.Core.Path.{◌≡◌, refl, ap, ◌∙◌}
use mathlib.Core.List.{List, [], ◌∷◌}
use native.Mathlib.Omega.{arith}
use lib.ListN.{length, get_or}
use lib.Ieee.{Float, nan}
use Rattle.points.specs.declared.Point3.{Point3}
use Rattle.points.specs.Points.{point_at}
use Rattle.coords.specs.Arrays.{by_triplets}

-- past one triplet
past : (a b c : Float) (rest : List Float) (i j : ℕ) → i ≡ 3 + j → get_or (a ∷ b ∷ c ∷ rest) i nan ≡ get_or rest j nan
past a b c rest i j e = let s : i ≡ suc (suc (suc j)) = omega arith in rw s

next_place : (a b c : Float) (rest : List Float) (place : ℕ) → point_at (a ∷ b ∷ c ∷ rest) (suc place) ≡ point_at rest place
unfolding point_at
next_place a b c rest place =
    rw (past a b c rest (3 * suc place) (3 * place) (omega arith), past a b c rest (3 * suc place + 1) (3 * place + 1) (omega arith), past a b c rest (3 * suc place + 2) (3 * place + 2) (omega arith))

module _ (f : Point3 → Point3) where
  pub changed_length : (xs : List Float) → length (by_triplets f xs) ≡ length xs
  unfolding by_triplets
  changed_length [] = refl
  changed_length (a ∷ []) = refl
  changed_length (a ∷ b ∷ []) = refl
  changed_length (a ∷ b ∷ c ∷ rest) = ap (λ (n : ℕ). suc (suc (suc n))) (changed_length rest)

  pub changed_at : (xs : List Float) (place : ℕ) → 3 * place + 2 < length xs → point_at (by_triplets f xs) place ≡ f (point_at xs place)
  unfolding by_triplets
  changed_at [] place h = absurd (omega arith)
  changed_at (a ∷ []) place h = absurd (omega arith)
  changed_at (a ∷ b ∷ []) place h = absurd (omega arith)
  changed_at (a ∷ b ∷ c ∷ rest) zero h = unfold point_at in refl
  changed_at (a ∷ b ∷ c ∷ rest) (suc place) h =
      next_place _ _ _ (by_triplets f rest) place ∙ changed_at rest place (omega arith) ∙ rw (next_place a b c rest place)

  pub left_over : (xs : List Float) (i count : ℕ) → length xs < 3 * count + 3 → 3 * count ≤ i → get_or (by_triplets f xs) i nan ≡ get_or xs i nan
  unfolding by_triplets
  left_over [] i count l h = refl
  left_over (a ∷ []) i count l h = refl
  left_over (a ∷ b ∷ []) i count l h = refl
  left_over (a ∷ b ∷ c ∷ rest) i zero l h = absurd (omega arith)
  left_over (a ∷ b ∷ c ∷ rest) zero (suc count) l h = absurd (omega arith)
  left_over (a ∷ b ∷ c ∷ rest) (suc zero) (suc count) l h = absurd (omega arith)
  left_over (a ∷ b ∷ c ∷ rest) (suc (suc zero)) (suc count) l h = absurd (omega arith)
  left_over (a ∷ b ∷ c ∷ rest) (suc (suc (suc i))) (suc count) l h = left_over rest i count (omega arith) (omega arith)
