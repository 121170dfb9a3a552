-- The ways through a load: refused, or placed and indexed. Assumes nothing.
use Prim.Native.Nat.{ℕ, ◌*◌, ◌<◌, ◌≤◌}
use mathlib.Core.Path.{◌≡◌, refl, sym, ap, ◌∙◌}
use mathlib.Core.Bool.{Bool, true, false, cond}
use mathlib.Core.List.{List, ◌++◌, append-nil}
use native.Mathlib.Omega.{arith}
use lib.Dec.{eqb}
use lib.ListN.{length, take, drop, length-append}
use lib.Seq.{take-length, drop-length}
use lib.Ieee.{Float}
use borrow.Author.Tests.{eq-eqb, ne_eqb}
use Rattle.std.specs.Prelude.{⊤, Result, Ok, Err}
use Rattle.refusals.specs.declared.Refusal.{Refusal}
use Rattle.lists.specs.Over.{over, upto}
use Rattle.kdtree.specs.Tree.{TreeHolds}
use Rattle.limits.specs.declared.Sizes.{Sizes}
use Rattle.limits.specs.Refusals.{verdict_of, load_lines}
use Rattle.limits.proofs.Passed as passed
use Rattle.coords.specs.Arrays.{turned, by_triplets}
use Rattle.coords.proofs.Places.{changed_length}
use Rattle.lookup.specs.declared.Lookup.{Lookup}
use Rattle.lookup.specs.Build.{Built, links_of, linked, lookup_of, built_as, build_of}
use Rattle.lookup_laws.specs.Loaded.{Room}
use Rattle.neighbors.specs.Neighbors.{Tabled, tabled_as, table_entry, mark_of, table_of}
use Rattle.neighbor_laws.proofs.Settled as table
use Rattle.loads.specs.Load.{Work, work_of, Load, load_as, cartesian_from, indexed, placed_in, lengths_in, load_by, load_of}

-- ---- the Cartesian list

pub whole : (xs d : List Float) → length xs ≡ length d → over (take (length xs) xs) d ≡ xs
unfolding over
whole xs d e = ap (λ (l : List Float). l ++ drop (length l) d) (take-length xs) ∙ ap (λ (n : ℕ). xs ++ drop n d) e ∙ ap (λ (l : List Float). xs ++ l) (drop-length d) ∙ append-nil xs

pub as_given : (kind : ℕ) (xs y d : List Float) → length xs ≡ length d → y ≡ over (take (length xs) xs) d → kind ≡ 0 → y ≡ cartesian_from kind xs
unfolding cartesian_from
as_given kind xs y d l e h = e ∙ whole xs d l ∙ sym (ap (λ (b : Bool). cond b xs (by_triplets (turned 1) xs)) (eq-eqb kind 0 h))

pub turned_there : (kind : ℕ) (xs y z d : List Float) → length xs ≡ length d → y ≡ over (take (length xs) xs) d → (kind ≡ 0 → ⊥) → z ≡ by_triplets (turned 1) y → z ≡ cartesian_from kind xs
unfolding cartesian_from
turned_there kind xs y z d l e h ez = ez ∙ ap (by_triplets (turned 1)) (e ∙ whole xs d l) ∙ sym (ap (λ (b : Bool). cond b xs (by_triplets (turned 1) xs)) (ne_eqb kind 0 h))

pub as_long : (kind : ℕ) (xs : List Float) → length (cartesian_from kind xs) ≡ length xs
unfolding cartesian_from
as_long kind xs = go (eqb kind 0)
  where
    go : (b : Bool) → length (cond b xs (by_triplets (turned 1) xs)) ≡ length xs
    go true = refl
    go false = changed_length (turned 1) xs

-- a list whose first n elements were lent and rewritten
pub front : (n : ℕ) (y z d : List Float) → y ≡ z → length y ≡ n → y ++ drop n d ≡ over z d
unfolding over
front n y z d e l = ap (λ (k : ℕ). y ++ drop k d) (sym l) ∙ ap (λ (x : List Float). x ++ drop (length x) d) e

pub front_fits : (n : ℕ) (y d : List Float) → length y ≡ n → n ≤ length (y ++ drop n d)
front_fits n y d l = omega (arith, l, length-append y (drop n d))

-- ---- links and neighbours

module _ (m : ℕ) (angle radius : Float) (left right neigh : List ℕ) (xs : List Float) (room : Room xs m (links_of left right)) (fits : 6 * m ≤ length neigh) where
  abbrev look* : Lookup
  look* = lookup_of xs m

  abbrev left* : List ℕ
  left* = over (linked xs m).left left

  abbrev right* : List ℕ
  right* = over (linked xs m).right right

  abbrev entry* : ℕ → ℕ
  entry* k = mark_of (table_entry look* m xs left* right* angle radius k)

  -- the whole table is written, and nothing refused on the way
  pub filled : table_of look* m xs left* right* angle radius neigh ≡ tabled_as (Ok tt) (over (upto entry* (6 * m)) neigh)
  filled = table.filled xs m (links_of left right) room look* angle radius neigh fits

  pub is_indexed : (look : Lookup) (l r n : List ℕ) (v : Result ⊤ Refusal) → built_as look (links_of l r) ≡ build_of xs m (links_of left right) → tabled_as v n ≡ table_of look m xs l r angle radius neigh
      → load_as (Ok look) (work_of l r n xs) ≡ indexed m angle radius (work_of left right neigh xs)
  unfolding indexed build_of
  is_indexed look l r n v eb et =
      let el : look ≡ look* = ap (λ (b : Built). b.lookup) eb in
      let e1 : l ≡ left* = ap (λ (b : Built). b.links.left) eb in
      let e2 : r ≡ right* = ap (λ (b : Built). b.links.right) eb in
      let en : n ≡ over (upto entry* (6 * m)) neigh =
      ap (λ (t : Tabled). t.table)
      (et ∙ ap (λ (x : Lookup). table_of x m xs l r angle radius neigh) el ∙ ap (λ (x : List ℕ). table_of look* m xs x r angle radius neigh) e1
      ∙ ap (λ (x : List ℕ). table_of look* m xs left* x angle radius neigh) e2 ∙ filled) in
      ap (λ (x : Lookup). load_as (Ok x) (work_of l r n xs)) el ∙ ap (λ (x : List ℕ). load_as (Ok look*) (work_of x r n xs)) e1
      ∙ ap (λ (x : List ℕ). load_as (Ok look*) (work_of left* x n xs)) e2 ∙ ap (λ (x : List ℕ). load_as (Ok look*) (work_of left* right* x xs)) en

-- ---- the call

-- what a load that is not refused knows of its lists
pub record Accepted (s : Sizes) (xs : List Float) (d : Work) : Type 0 where
  pub some : 0 < s.m
  pub exact : length xs ≡ 3 * s.m
  pub lists : TreeHolds s.m d.cartesian d.left d.right
  pub neighbours : 6 * s.m ≤ length d.neighbours

module _ (kind : ℕ) (s : Sizes) (xs : List Float) (responses : ℕ) (angle radius rate : Float) (d : Work) (w : Result ⊤ Refusal)
    (ew : w ≡ verdict_of (load_lines kind s (lengths_in responses d) xs angle radius rate)) where
  abbrev done : Load
  done = indexed s.m angle radius (placed_in kind xs d)

  pub refused : (refusal : Refusal) → w ≡ Err refusal → load_as (Err refusal) d ≡ load_of kind s xs responses angle radius rate d
  unfolding load_of load_by
  refused refusal h = sym (ap (λ (u : Result ⊤ Refusal). load_by u done d) (sym ew ∙ h))

  module _ (fine : w ≡ Ok tt) where
    pub accepted : Accepted s xs d
    accepted =
        let went = passed.load_passed kind s (lengths_in responses d) xs angle radius rate (sym ew ∙ fine) in
        let b = went.room.blend in
        record { some = went.sizes.some; exact = went.room.exact; lists = (b.plain.tree.cartesian, b.plain.tree.left, b.plain.tree.right, went.sizes.most); neighbours = b.neighbours }

    pub ready : (x : Load) (c : List Float) → c ≡ over (cartesian_from kind xs) d.cartesian → x ≡ indexed s.m angle radius (work_of d.left d.right d.neighbours c)
        → x ≡ load_of kind s xs responses angle radius rate d
    unfolding load_of load_by
    ready x c ec ex =
        ex ∙ ap (λ (y : List Float). indexed s.m angle radius (work_of d.left d.right d.neighbours y)) ec ∙ sym (ap (λ (u : Result ⊤ Refusal). load_by u done d) (sym ew ∙ fine))

-- where a load answers Ok, no line of its table is met
pub fine_by : (v : Result ⊤ Refusal) (done : Load) (d : Work) (look : Lookup) → (load_by v done d).answer ≡ Ok look → v ≡ Ok tt
unfolding load_by
fine_by (Ok tt) done d look e = refl
fine_by (Err refusal) done d look e = cc
