-- One byte of a chunk. Assumes nothing.
use Prim.Native.Nat.{ℕ, suc, ◌+◌, ◌≤◌, ◌<◌, min}
use mathlib.Core.Path.{◌≡◌, refl, sym, ap, ◌∙◌}
use mathlib.Core.Bool.{Bool, true, false}
use mathlib.Core.List.{List, [], ◌∷◌, ◌++◌}
use native.Mathlib.Numerals.{add-one}
use native.Mathlib.Omega.{arith}
use lib.ListN.{length, get_or, take, drop, set, drop_of_length-le, length-append}
use lib.Seq.{drop-cons, take-suc-set, set_out, take_all, take-length, take-append-le, length-take-le}
use lib.Dec.{ltb}
use borrow.Author.Tests.{eq-eqb, ne_eqb, ltb-true, ltb-false}
use Rattle.lists.specs.Over.{over}
use Rattle.lists.proofs.Laws.{over_at}
use Rattle.text.specs.Lines.{line, more, cut}

module _ (keep : List ℕ → List ℕ) (have s : List ℕ) (i : ℕ) (inside : i < length s) where
  pub cut_line : get_or s i 0 ≡ 10 → cut keep have (drop i s) ≡ line have (drop (i + 1) s)
  unfolding cut
  cut_line e = rw (add-one, drop-cons s i 0, eq-eqb _ 10 e)

  pub cut_on : (get_or s i 0 ≡ 10 → ⊥) → cut keep have (drop i s) ≡ cut keep (keep (have ++ (get_or s i 0 ∷ []))) (drop (i + 1) s)
  unfolding cut
  cut_on e = rw (add-one, drop-cons s i 0, ne_eqb _ 10 e)

pub cut_end : (keep : List ℕ → List ℕ) (have s : List ℕ) (i : ℕ) → length s ≤ i → cut keep have (drop i s) ≡ more have
unfolding cut
cut_end keep have s i h = rw (drop_of_length-le s h)

-- what the buffer holds after a byte: the first bytes of the line so far
pub kept : (buf : List ℕ) (u b : ℕ) → u ≤ length buf → take (min (u + 1) (length buf)) (set buf u b) ≡ take (length buf) (take u buf ++ (b ∷ []))
kept buf u b h = by (ltb u (length buf)) refl
  where
    by : (t : Bool) → ltb u (length buf) ≡ t → take (min (u + 1) (length buf)) (set buf u b) ≡ take (length buf) (take u buf ++ (b ∷ []))
    by true e =
        let g : u < length buf = ltb-true u (length buf) e in
        let m : min (u + 1) (length buf) ≡ suc u = omega arith in
        let n : length (take u buf ++ (b ∷ [])) ≤ length buf = simp (length-append, length-take-le u buf h) (omega arith) in
        ap (λ (k : ℕ). take k (set buf u b)) m ∙ take-suc-set buf u b g ∙ sym (take_all (length buf) (take u buf ++ (b ∷ [])) n)
    by false e =
        let g : length buf ≤ u = ltb-false u (length buf) e in
        let m : min (u + 1) (length buf) ≡ length buf = omega arith in
        let n : length buf ≤ length (take u buf) = simp (length-take-le u buf h) (omega arith) in
        let f : u ≡ length buf = omega arith in
        ap (λ (k : ℕ). take k (set buf u b)) m
        ∙ ap (take (length buf)) (set_out buf u b g ∙ sym (ap (λ (k : ℕ). take k buf) f ∙ take-length buf))
        ∙ sym (take-append-le (length buf) (take u buf) (b ∷ []) n)

-- and past them what it held before
pub rest_kept : (buf₀ buf : List ℕ) (u b : ℕ) → u ≤ length buf → length buf ≡ length buf₀ → buf ≡ over (take u buf) buf₀
    → set buf u b ≡ over (take (min (u + 1) (length buf)) (set buf u b)) buf₀
rest_kept buf₀ buf u b h l o = by (ltb u (length buf)) refl
  where
    by : (t : Bool) → ltb u (length buf) ≡ t → set buf u b ≡ over (take (min (u + 1) (length buf)) (set buf u b)) buf₀
    by true e =
        let g : u < length buf = ltb-true u (length buf) e in
        let m : suc u ≡ min (u + 1) (length buf) = omega arith in
        ap (λ (t : List ℕ). set t u b) o ∙ over_at (take u buf) buf₀ u b (length-take-le u buf h) (omega arith)
        ∙ ap (λ (t : List ℕ). over t buf₀) (sym (take-suc-set buf u b g) ∙ ap (λ (k : ℕ). take k (set buf u b)) m)
    by false e =
        let g : length buf ≤ u = ltb-false u (length buf) e in
        let m : u ≡ min (u + 1) (length buf) = omega arith in
        let s = set_out buf u b g in
        s ∙ o ∙ ap (λ (t : List ℕ). over (take u t) buf₀) (sym s) ∙ ap (λ (k : ℕ). over (take k (set buf u b)) buf₀) m
