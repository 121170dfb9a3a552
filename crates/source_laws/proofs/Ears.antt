-- Samples: the source fills a list of n zeros pass by pass and copies it out; the port makes one pass. The same sums in the same order. Assumes nothing.
use mathlib.Core.Path.{◌≡◌, refl, sym, ap, ◌∙◌, subst}
use mathlib.Core.Bool.{Bool, true, false}
use mathlib.Core.List.{List, ◌++◌}
use Prim.Native.Nat.{ℕ, zero, suc, ◌+◌, ◌-◌, ◌<◌, ◌≤◌, min}
use native.Mathlib.Nat.{min-le_left, min-le_right}
use native.Mathlib.Omega.{arith}
use lib.Dec.{eqb}
use lib.ListN.{length, get_or, set, take, replicate, length-set}
use lib.Seq.{get_or-set_same, get_or-set_other}
use lib.Ieee.{Float, nan, binary32, add, mul}
use borrow.Author.Tests.{eqb-true, eqb-false}
use Rattle.floats.specs.Floats.{zero32}
use Rattle.lists.specs.Over.{upto}
use Rattle.mix.specs.Mix.{below, out_of}
use Rattle.mix.proofs.Laws.{upto_same, upto_const, take_upto, below_on, below_off}
use Rattle.source.specs.Rust.{index}
use Rattle.source.specs.Interpolate.{adding}
use Rattle.source.specs.Reader.{fill_ear}

-- ---- one ear copied out

pub ear_same : (out ir : List Float) (f : ℕ → Float) (n : ℕ) → length ir ≡ n → ((i : ℕ) → i < n → get_or ir i nan ≡ f i) → fill_ear out ir ≡ out_of f n (length out)
unfolding fill_ear out_of
ear_same out ir f n e h =
    let k = min (length ir) (length out) in
    let kl : k ≤ length ir = min-le_left (length ir) (length out) in
    let kr : k ≤ length out = min-le_right (length ir) (length out) in
    let a : take k ir ≡ upto (λ i. get_or ir (0 + i) nan) k = take_upto ir nan 0 k (omega arith) in
    let b : upto (λ i. get_or ir (0 + i) nan) k ≡ upto (below f n) k = upto_same (λ i. get_or ir (0 + i) nan) (below f n) k (λ i q. at_start i ∙ h i (omega arith) ∙ sym (below_on f n i (omega arith))) in
    let c : k + (length out - k) ≡ length out = omega arith in
    ap (λ (l : List Float). l ++ replicate (length out - k) zero32) (a ∙ b)
    ∙ sym (upto_const (below f n) zero32 k (length out - k) (λ i p q. below_off f n i (past (length ir) (length out) i p (omega arith) e)))
    ∙ ap (upto (below f n)) c
  where
    at_start : (i : ℕ) → get_or ir (0 + i) nan ≡ get_or ir i nan
    at_start i = let z : 0 + i ≡ i = omega arith in ap (λ (j : ℕ). get_or ir j nan) z

    past : (a b i : ℕ) → min a b ≤ i → i < b → a ≡ n → n ≤ i
    past a b i p q r = omega arith

-- ---- one pass

module _ (ir : List Float) (offset : ℕ) (w : Float) where
  abbrev summed : List Float → ℕ → Float
  summed left j = add binary32 (index left j) (mul binary32 (index ir (offset + j)) w)

  pub adding_long : (k i : ℕ) (left : List Float) → length (adding ir offset w k i left) ≡ length left
  unfolding adding
  adding_long zero i left = refl
  adding_long (suc k) i left = adding_long k (i + 1) (set left i (summed left i)) ∙ length-set left i (summed left i)

  adding_before : (k i : ℕ) (left : List Float) (j : ℕ) → j < i → get_or (adding ir offset w k i left) j nan ≡ get_or left j nan
  unfolding adding
  adding_before zero i left j h = refl
  adding_before (suc k) i left j h = adding_before k (i + 1) (set left i (summed left i)) j (omega arith) ∙ get_or-set_other left i j (summed left i) nan (λ e. omega arith)

  pub adding_at : (k i : ℕ) (left : List Float) (j : ℕ) → i ≤ j → j < i + k → i + k ≤ length left → get_or (adding ir offset w k i left) j nan ≡ summed left j
  unfolding adding
  adding_at zero i left j a b l = absurd (omega arith)
  adding_at (suc k) i left j a b l = go (eqb i j) refl (adding_at k (i + 1) (set left i (summed left i)) j)
    where
      next : List Float
      next = set left i (summed left i)

      go : (c : Bool) → eqb i j ≡ c
          → (i + 1 ≤ j → j < i + 1 + k → i + 1 + k ≤ length next → get_or (adding ir offset w k (i + 1) next) j nan ≡ summed next j)
          → get_or (adding ir offset w k (i + 1) next) j nan ≡ summed left j
      go true e ih =
          let q : i ≡ j = eqb-true i j e in
          subst (λ (x : ℕ). get_or (adding ir offset w k (i + 1) next) x nan ≡ summed left x) q
          (adding_before k (i + 1) next i (omega arith) ∙ get_or-set_same left i (summed left i) nan (omega arith))
      go false e ih =
          let q : i ≡ j → ⊥ = eqb-false i j e in
          let z : length next ≡ length left = length-set left i (summed left i) in
          ih (omega arith) (omega arith) (omega arith)
          ∙ ap (λ (x : Float). add binary32 x (mul binary32 (index ir (offset + j)) w)) (get_or-set_other left i j (summed left i) nan (λ r. q (sym r)))
