-- The table: a turn of its loops, a row as a part of it, and the whole where no entry refuses. Assumes nothing.
use Rattle.std.specs.Prelude.{⊤, Result, Ok, Err}
use Rattle.refusals.specs.declared.Refusal.{Refusal}
use Rattle.std.proofs.Common.{◌≡◌, ℕ, zero, suc, ◌+◌, ◌*◌, ◌/◌, ◌%◌, ◌<◌, ◌≤◌, List, length, set, sym, refl, ap, ◌∙◌, subst, arith}
use lib.Ieee.{Float}
use Rattle.lists.specs.Over.{over, upto}
use Rattle.lists.proofs.Laws.{over_nil, upto_more}
use Rattle.points.specs.declared.Point3.{Point3}
use Rattle.points.specs.Points.{point_at}
use Rattle.coords.specs.declared.Spherical.{Spherical}
use Rattle.coords.specs.Coords.{spherical_of}
use Rattle.lookup.specs.declared.Lookup.{Lookup}
use Rattle.kdtree.specs.declared.Tree.{Tree}
use Rattle.neighbors.specs.declared.Steps.{Steps}
use Rattle.neighbors.specs.declared.Reached.{Reached}
use Rattle.neighbors.specs.declared.Reached.TheVariants.{At, Absent, Refused}
use Rattle.neighbors.specs.Neighbors.{step_of, cap_of, direction_of, neighbor_of, table_entry, absent_mark, Tabled, tabled_as, by_entry, writing}

-- what is written of an entry: nothing of one that refuses
abbrev pub Writes : Reached → ℕ → Type 0
Writes (At n) k = n ≡ k
Writes Absent k = absent_mark ≡ k
Writes (Refused refusal) k = ⊥

pub writes_at : (r : Reached) (n k : ℕ) → r ≡ At n → k ≡ n → Writes r k
writes_at r n k e h = subst (λ (x : Reached). Writes x k) (sym e) (sym h)

pub writes_absent : (r : Reached) (k : ℕ) → r ≡ Absent → k ≡ absent_mark → Writes r k
writes_absent r k e h = subst (λ (x : Reached). Writes x k) (sym e) (sym h)

written : (r : Reached) (k : ℕ) → Writes r k → (d : List ℕ) (f : ℕ → Tabled) → by_entry r d f ≡ f k
written (At n) k w d f = ap f w
written Absent k w d f = ap f w
written (Refused refusal) k w d f = absurd w

module _ (entry : ℕ → Reached) where
  pub at_end : (j k : ℕ) (d : List ℕ) → j ≡ 0 → tabled_as (Ok tt) d ≡ writing entry j k d
  unfolding writing
  at_end j k d e = sym (ap (λ (n : ℕ). writing entry n k d) e)

  module _ (j i k : ℕ) (d : List ℕ) (ej : j ≡ suc i) (a : Reached) (ea : a ≡ entry k) where
    met : writing entry j k d ≡ by_entry a d (λ n. writing entry i (k + 1) (set d k n))
    unfolding writing
    met = ap (λ (n : ℕ). writing entry n k d) ej ∙ ap (λ (x : Reached). by_entry x d (λ n. writing entry i (k + 1) (set d k n))) (sym ea)

    pub refused : (refusal : Refusal) → a ≡ Refused refusal → tabled_as (Err refusal) d ≡ writing entry j k d
    refused refusal e = sym (met ∙ ap (λ (x : Reached). by_entry x d (λ n. writing entry i (k + 1) (set d k n))) e)

    pub on : (n : ℕ) → Writes a n → writing entry i (k + 1) (set d k n) ≡ writing entry j k d
    on n w = sym (met ∙ written a n w d (λ n. writing entry i (k + 1) (set d k n)))

  -- ---- a row as a part of the table

  abbrev pub then_on : Tabled → (List ℕ → Tabled) → Tabled
  then_on t f = by t.answer t.table
    where
      by : Result ⊤ Refusal → List ℕ → Tabled
      by (Ok tt) d = f d
      by (Err refusal) d = tabled_as (Err refusal) d

  pub in_parts : (a b n k : ℕ) (d : List ℕ) → n ≡ a + b → writing entry n k d ≡ then_on (writing entry a k d) (writing entry b (k + a))
  unfolding writing
  in_parts zero b n k d h = let e : n ≡ b = omega arith in let f : k ≡ k + 0 = omega arith in ap (λ (n : ℕ). writing entry n k d) e ∙ ap (λ (n : ℕ). writing entry b n d) f
  in_parts (suc a) b n k d h = let e : n ≡ suc (a + b) = omega arith in ap (λ (n : ℕ). writing entry n k d) e ∙ go (entry k) (λ n. in_parts a b (a + b) (k + 1) (set d k n) refl)
    where
      shift : (t : Tabled) → then_on t (writing entry b (k + 1 + a)) ≡ then_on t (writing entry b (k + suc a))
      shift t = let e : k + 1 + a ≡ k + suc a = omega arith in ap (λ (n : ℕ). then_on t (writing entry b n)) e

      go : (x : Reached) → ((n : ℕ) → writing entry (a + b) (k + 1) (set d k n) ≡ then_on (writing entry a (k + 1) (set d k n)) (writing entry b (k + 1 + a)))
          → by_entry x d (λ n. writing entry (a + b) (k + 1) (set d k n)) ≡ then_on (by_entry x d (λ n. writing entry a (k + 1) (set d k n))) (writing entry b (k + suc a))
      go (At n) f = f n ∙ shift (writing entry a (k + 1) (set d k n))
      go Absent f = f absent_mark ∙ shift (writing entry a (k + 1) (set d k absent_mark))
      go (Refused refusal) f = refl

  -- what a loop over parts needs: the part answered Ok, or it refused
  module _ (a b j k : ℕ) (d : List ℕ) (ej : j ≡ a + b) (t : Result ⊤ Refusal) (d' : List ℕ) (ed : tabled_as t d' ≡ writing entry a k d) where
    parts : then_on (tabled_as t d') (writing entry b (k + a)) ≡ writing entry j k d
    parts = ap (λ (x : Tabled). then_on x (writing entry b (k + a))) ed ∙ sym (in_parts a b j k d ej)

    pub part_fine : t ≡ Ok tt → writing entry b (k + a) d' ≡ writing entry j k d
    part_fine e = sym (ap (λ (v : Result ⊤ Refusal). then_on (tabled_as v d') (writing entry b (k + a))) e) ∙ parts

    pub part_refused : (refusal : Refusal) → t ≡ Err refusal → tabled_as (Err refusal) d' ≡ writing entry j k d
    part_refused refusal e = sym (ap (λ (v : Result ⊤ Refusal). then_on (tabled_as v d') (writing entry b (k + a))) e) ∙ parts

-- ---- no entry refuses

module _ (entry : ℕ → Reached) (number : ℕ → ℕ) (d : List ℕ) where
  from_here : (j k : ℕ) → ((i : ℕ) → i < k + j → Writes (entry i) (number i)) → k + j ≤ length d
      → writing entry j k (over (upto number k) d) ≡ tabled_as (Ok tt) (over (upto number (k + j)) d)
  from_here zero k f h = sym (at_end entry 0 k (over (upto number k) d) refl) ∙ (let e : k ≡ k + 0 = omega arith in ap (λ (n : ℕ). tabled_as (Ok tt) (over (upto number n) d)) e)
  from_here (suc j) k f h =
      sym (on entry (suc j) j k (over (upto number k) d) refl (entry k) refl (number k) (f k (omega arith)))
      ∙ ap (writing entry j (k + 1)) (upto_more number k d (omega arith))
      ∙ from_here j (k + 1) (λ i l. f i (omega arith)) (omega arith)
      ∙ (let e : k + 1 + j ≡ k + suc j = omega arith in ap (λ (n : ℕ). tabled_as (Ok tt) (over (upto number n) d)) e)

  -- EVERY ENTRY ANSWERED: the table holds the numbers, and then what it held
  pub all_answered : (n : ℕ) → ((i : ℕ) → i < n → Writes (entry i) (number i)) → n ≤ length d → writing entry n 0 d ≡ tabled_as (Ok tt) (over (upto number n) d)
  unfolding upto
  all_answered n f h = ap (writing entry n 0) (sym (over_nil d)) ∙ from_here n 0 (λ i l. f i (omega arith)) (omega arith) ∙ (let e : 0 + n ≡ n = omega arith in ap (λ (k : ℕ). tabled_as (Ok tt) (over (upto number k) d)) e)

-- ---- an entry in the terms of the code

pub entry_is : (look : Lookup) (m : ℕ) (xs : List Float) (left right : List ℕ) (angle radius : Float) (own d : ℕ) → d < 6 → (p : Point3) (from step : Spherical) (cap : ℕ)
    → p ≡ point_at xs own → from ≡ spherical_of p → step ≡ step_of d angle radius → cap ≡ cap_of d angle → (r : Reached) → r ≡ direction_of look m xs left right own from step cap
    → r ≡ table_entry look m xs left right angle radius (6 * own + d)
unfolding table_entry neighbor_of
entry_is look m xs left right angle radius own d h p from step cap ep ef es ec r er =
    let eo : (6 * own + d) / 6 ≡ own = omega arith in
    let ed : (6 * own + d) % 6 ≡ d = omega arith in
    er ∙ ap (λ (f : Spherical). direction_of look m xs left right own f step cap) (ef ∙ ap spherical_of ep)
    ∙ ap (λ (s : Spherical). direction_of look m xs left right own (spherical_of (point_at xs own)) s cap) es
    ∙ ap (direction_of look m xs left right own (spherical_of (point_at xs own)) (step_of d angle radius)) ec
    ∙ ap (λ (n : ℕ). direction_of look m xs left right n (spherical_of (point_at xs n)) (step_of d angle radius) (cap_of d angle)) (sym eo)
    ∙ ap (λ (n : ℕ). direction_of look m xs left right ((6 * own + d) / 6) (spherical_of (point_at xs ((6 * own + d) / 6))) (step_of n angle radius) (cap_of n angle)) (sym ed)

abbrev pub entries : Lookup → Tree → Steps → ℕ → Reached
entries look t s k = table_entry look t.count t.positions.now t.left.now t.right.now s.angle s.radius k
