-- What a load answers, and what its four work lists then hold. Definitions only.
use Rattle.std.specs.Prelude.{ℕ, ◌*◌, cond, List, eqb, length, Float, ⊤, Result, Ok, Err}
use Rattle.refusals.specs.declared.Refusal.{Refusal}
use Rattle.lists.specs.Over.{over, upto}
use Rattle.limits.specs.declared.Sizes.{Sizes}
use Rattle.limits.specs.declared.Lengths.{Lengths}
use Rattle.limits.specs.Refusals.{verdict_of, load_lines}
use Rattle.coords.specs.Arrays.{turned, by_triplets}
use Rattle.lookup.specs.declared.Lookup.{Lookup}
use Rattle.lookup.specs.Build.{linked, lookup_of}
use Rattle.neighbors.specs.Neighbors.{table_entry, mark_of}

-- ---- the lists lent for work, and what a load leaves

pub record Work : Type 0 where
  pub left : List ℕ
  pub right : List ℕ
  pub neighbours : List ℕ
  pub cartesian : List Float

abbrev pub work_of : List ℕ → List ℕ → List ℕ → List Float → Work
work_of l r n c = record { left = l; right = r; neighbours = n; cartesian = c }

pub record Load : Type 0 where
  pub answer : Result Lookup Refusal
  pub work : Work

abbrev pub load_as : Result Lookup Refusal → Work → Load
load_as a w = record { answer = a; work = w }

-- ---- a set

-- "spherical positions are converted there, cartesian ones copied"
unfoldable pub cartesian_from : ℕ → List Float → List Float
cartesian_from kind xs = cond (eqb kind 0) xs (by_triplets (turned 1) xs)

-- the links, the neighbours and the bounds of the first m positions of a Cartesian list, the rest of each list as it was; that no neighbour is refused is
-- a theorem (neighbor_laws, proofs/Settled.antt)
unfoldable pub indexed : ℕ → Float → Float → Work → Load
indexed m angle radius d =
    let xs = d.cartesian in
    let look = lookup_of xs m in
    let l = over (linked xs m).left d.left in
    let r = over (linked xs m).right d.right in
    load_as (Ok look) (work_of l r (over (upto (λ k. mark_of (table_entry look m xs l r angle radius k)) (6 * m)) d.neighbours) xs)

-- the Cartesian list with a set's positions at its front
abbrev pub placed_in : ℕ → List Float → Work → Work
placed_in kind xs d = work_of d.left d.right d.neighbours (over (cartesian_from kind xs) d.cartesian)

-- ---- the call

abbrev pub lengths_in : ℕ → Work → Lengths
lengths_in responses d =
    record { tree = record { cartesian = length d.cartesian; left = length d.left; right = length d.right }; responses = responses; neighbours = length d.neighbours }

-- refused, nothing is written
unfoldable pub load_by : Result ⊤ Refusal → Load → Work → Load
load_by (Ok tt) done d = done
load_by (Err refusal) done d = load_as (Err refusal) d

unfoldable pub load_of : ℕ → Sizes → List Float → ℕ → Float → Float → Float → Work → Load
load_of kind s xs responses angle radius rate d =
    load_by (verdict_of (load_lines kind s (lengths_in responses d) xs angle radius rate)) (indexed s.m angle radius (placed_in kind xs d)) d
