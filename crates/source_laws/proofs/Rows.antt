-- A row of the neighbour table: its six entries stand for the source's six. Assumes nothing.
use mathlib.Core.Path.{◌≡◌, ap, ◌∙◌}
use mathlib.Core.List.{List}
use mathlib.Core.Bool.{true}
use Prim.Native.Nat.{ℕ, suc, ◌+◌, ◌*◌, ◌/◌, ◌%◌, ◌<◌, ◌≤◌}
use native.Mathlib.Omega.{arith}
use lib.ListN.{get_or}
use lib.Ieee.{Float}
use Rattle.lists.specs.Over.{over, upto}
use Rattle.lists.proofs.Laws.{get_or_over_upto}
use Rattle.limits.specs.Allowed.{angle_step_ok}
use Rattle.interpolate.specs.Blend.{neighbors_of}
use Rattle.source.specs.Neighbors.{Neighbors}
use Rattle.source_laws.specs.Drawn.{entered, sixth, entered_all}
use Rattle.source_laws.proofs.Linked.{Holds}
use Rattle.source_laws.proofs.Table.{six, entry_at, six_same}
use Rattle.source_laws.proofs.Interpolate.{SixIn}

module _ (xs : List Float) (n : ℕ) (small : suc n ≤ 16384) (left right : List ℕ) (h : Holds xs n left right) (angle radius : Float) (ok : angle_step_ok angle ≡ true) where
  abbrev ours : ℕ → Neighbors
  ours = six xs n small left right h angle radius ok

  abbrev entries : ℕ → ℕ
  entries = entry_at xs n small left right h angle radius ok

  entry_here : (k j : ℕ) → j < 6 → entries (6 * k + j) ≡ entered (sixth (ours k) j)
  entry_here k j l =
      let a : (6 * k + j) / 6 ≡ k = omega arith in
      let b : (6 * k + j) % 6 ≡ j = omega arith in
      ap (λ (i : ℕ). entered (sixth (ours i) ((6 * k + j) % 6))) a ∙ ap (λ (i : ℕ). entered (sixth (ours k) i)) b

  cell : (d : List ℕ) (k j : ℕ) → k < suc n → j < 6 → get_or (over (upto entries (6 * suc n)) d) (6 * k + j) 0 ≡ entered (sixth (ours k) j)
  cell d k j a b = get_or_over_upto entries (6 * suc n) (6 * k + j) d 0 (omega arith) ∙ entry_here k j b

  pub row_same : (d : List ℕ) (k : ℕ) → k < suc n → neighbors_of (over (upto entries (6 * suc n)) d) k ≡ entered_all (ours k)
  unfolding sixth
  row_same d k l =
      let c0 = cell d k 0 l (omega arith) in
      let c1 = cell d k 1 l (omega arith) in
      let c2 = cell d k 2 l (omega arith) in
      let c3 = cell d k 3 l (omega arith) in
      let c4 = cell d k 4 l (omega arith) in
      let c5 = cell d k 5 l (omega arith) in
      λ i. record { phi_plus = c0 i; phi_minus = c1 i; theta_plus = c2 i; theta_minus = c3 i; radius_plus = c4 i; radius_minus = c5 i }

  pub row_in : (k : ℕ) → SixIn (suc n) (ours k)
  unfolding sixth
  row_in k =
      let s = six_same xs n small left right h angle radius ok k in
      record { a = (s 0 (omega arith)).1; b = (s 1 (omega arith)).1; c = (s 2 (omega arith)).1; d = (s 3 (omega arith)).1; e = (s 4 (omega arith)).1; f = (s 5 (omega arith)).1 }
