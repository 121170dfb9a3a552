-- The nested form, level by level from the innermost: what the loop of `nest` keeps. Assumes nothing.
use Rattle.std.proofs.Common.{◌≡◌, ℕ, ◌+◌, ◌-◌, ◌*◌, ◌/◌, ◌<◌, ◌≤◌, List, [], ◌∷◌, length, reverse, slice_index_or, suc, refl, sym, ap, ◌∙◌, subst, arith}
use Rattle.std.proofs.Math.ListN.{take}
use Rattle.std.proofs.Math.Seq.{take-suc}
use Rattle.std.proofs.lemmas.List.{reverse-append}
use Rattle.sines.specs.Steps.{nest}
use Rattle.sines.proofs.Bounds.{nest_le}

pub nest_begun : (P t : ℕ) → P ≡ nest P t []
unfolding nest
nest_begun P t = refl

pub nest_more : (P t i h r : ℕ) (cs : List ℕ) → i < length cs → h ≡ nest P t (reverse (take i cs)) → r ≡ P - t * h / P / slice_index_or cs i 0 → r ≡ nest P t (reverse (take (i + 1) cs))
unfolding nest
nest_more P t i h r cs l k e =
    e ∙ ap (λ (z : ℕ). P - t * z / P / slice_index_or cs i 0) k
    ∙ sym (ap (λ (z : List ℕ). nest P t z) (ap (λ (n : ℕ). reverse (take n cs)) (next i) ∙ ap (λ (z : List ℕ). reverse z) (take-suc cs i 0 l) ∙ reverse-append (take i cs) (slice_index_or cs i 0 ∷ [])))
  where
    next : (i : ℕ) → i + 1 ≡ suc i
    next i = omega arith

pub nest_fits : (P t h : ℕ) (cs : List ℕ) → h ≡ nest P t cs → h ≤ P
nest_fits P t h cs e = subst (λ (z : ℕ). z ≤ P) (sym e) (nest_le P t cs)
