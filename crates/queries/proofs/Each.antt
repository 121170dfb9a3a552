-- A loaded set prints one block for each query, in their order, and stays as it is: each block is that of its query alone (`each_block`). A line that
-- is no query prints the form error of its number and ends (`no_query`). Assumes nothing.
use Prim.Native.Nat.{ℕ}
use mathlib.Core.Path.{◌≡◌, refl, sym, ap, ◌∙◌}
use mathlib.Core.List.{List, [], ◌∷◌, ◌++◌, append_assoc, append-nil}
use Rattle.std.specs.Prelude.{Option, Some, None}
use Rattle.points.specs.declared.Point3.{Point3}
use Rattle.text.specs.Machine.{reads}
use Rattle.text.specs.Words.{bytes}
use Rattle.text.specs.Keys.{point_behind}
use Rattle.settext.specs.declared.State.{State}
use Rattle.settext.specs.State.{line_number, counted, bad_of}
use Rattle.settext.specs.Lines.{TextLists, After, asked, query_line}
use Rattle.lookup.specs.declared.Lookup.{Lookup}
use Rattle.loads.specs.Load.{Work}
use Rattle.blocks.specs.Blocks.{form_error}
use Rattle.answers.specs.Answers.{nearest_number, filtered_of, answer_block}
use Rattle.queries.specs.declared.runs.Phase.TheVariants.{Ready, Over}
use Rattle.queries.specs.Program.{session, Turn, turn_as, step_turn, after_turn, line_turn, known_as, ended, printing, on_line}
use Rattle.queries.proofs.Order.{InOrder, only_queries, in_order}

-- lines, each of which asks a query
pub data Ask : List (List ℕ) → List Point3 → Type 0 where
  none : Ask [] []
  one : {l : List ℕ} {q : Point3} {ls : List (List ℕ)} {qs : List Point3} → point_behind (bytes "query=") l ≡ Some q → Ask ls qs → Ask (l ∷ ls) (q ∷ qs)

module _ (look : Lookup) (d : TextLists) (w : Work) where
  -- the block of a query at the set
  abbrev pub block : State → Point3 → List ℕ
  block s q = answer_block s look w d.responses d.delays q

  unfoldable pub blocks : State → List Point3 → List ℕ
  blocks s [] = []
  blocks s (q ∷ qs) = block s q ++ blocks s qs

  -- how many lines were read does not show in a block
  pub alone : (s : State) (q : Point3) → block (counted s) q ≡ block s q
  unfolding answer_block nearest_number filtered_of
  alone s q = refl

  same_blocks : (s : State) (qs : List Point3) → blocks (counted s) qs ≡ blocks s qs
  unfolding blocks
  same_blocks s [] = refl
  same_blocks s (q ∷ qs) = rw (alone s q, same_blocks s qs)

  module _ (s : State) (here : InOrder (Ready s look)) (l : List ℕ) where
    by_place : line_turn (session (Ready s look) d w) l ≡ step_turn (Ready s look) (asked s (point_behind (bytes "query=") l)) d w
    unfolding line_turn query_line
    by_place = ap (λ (a : After). after_turn (Ready s look) a w) (only_queries s l d here.0)

    -- a query prints its block, and the set stays
    pub a_query : (q : Point3) → point_behind (bytes "query=") l ≡ Some q → line_turn (session (Ready s look) d w) l ≡ turn_as (Ready (counted s) look) d w (block s q)
    a_query q e = by_place ∙ ap (λ (p : Option Point3). step_turn (Ready s look) (asked s p) d w) e ∙ ap (turn_as (Ready (counted s) look) d w) (alone s q)

    pub no_query : point_behind (bytes "query=") l ≡ None → line_turn (session (Ready s look) d w) l ≡ turn_as Over d w (form_error (line_number s))
    unfolding bad_of
    no_query e = by_place ∙ ap (λ (p : Option Point3). step_turn (Ready s look) (asked s p) d w) e

  -- One block for each query, in their order
  pub each_block : {ls : List (List ℕ)} {qs : List Point3} (s : State) (p : List ℕ) → InOrder (Ready s look) → Ask ls qs
      → (reads ended on_line (known_as (session (Ready s look) d w) p) ls).printed ≡ p ++ blocks s qs
  unfolding reads on_line blocks
  each_block s p h none = sym (append-nil p)
  each_block s p h (one {l} {q} {ls} {qs} e m) =
      let t = a_query s h l q e in
      let g : InOrder (Ready (counted s) look) = rw t at (in_order (session (Ready s look) d w) l h) in
      ap (λ (t : Turn). (reads ended on_line (printing p t) ls).printed) t
      ∙ each_block (counted s) (p ++ block s q) g m
      ∙ ap (λ (b : List ℕ). (p ++ block s q) ++ b) (same_blocks s qs)
      ∙ append_assoc p (block s q) (blocks s qs)
