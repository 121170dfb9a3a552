-- Where the filter of a query is answered, its measurement was found: a block names a number, or tells the filter's own refusal (`found_where_answered`).
-- Assumes nothing.
use Prim.Native.Nat.{ℕ}
use mathlib.Core.Path.{◌≡◌, refl, ap, ◌∙◌}
use mathlib.Core.Bool.{true, not}
use mathlib.Core.List.{List}
use lib.Ieee.{Float}
use Rattle.points.specs.declared.Point3.{Point3}
use Rattle.limits.specs.declared.Sizes.{Sizes}
use Rattle.limits.specs.declared.Lengths.{Lengths}
use Rattle.std.specs.Prelude.{⊤, Result, Ok, Err}
use Rattle.refusals.specs.declared.Refusal.{Refusal}
use Rattle.limits.specs.Allowed.{tree_fits, responses_fit, neighbours_fit, plain_fits, blend_fits}
use Rattle.limits.specs.Refusals.{verdict_of, short_lists, find_lines, filter_lines}
use Rattle.limits.proofs.Lines.{passed, goes_on}
use Rattle.floats.proofs.Cross.{and_left}
use borrow.Author.Tests.{not-false}
use Rattle.lookup.specs.declared.Lookup.{Lookup}
use Rattle.lookup.specs.declared.Located.{Located}
use Rattle.lookup.specs.declared.Located.TheVariants.{At, Refused}
use Rattle.lookup.specs.Lookup.{locate_of, unless, find_of}
use Rattle.delays.specs.declared.Outcome.{Outcome}
use Rattle.delays.specs.declared.Outcome.TheVariants as outcome
use Rattle.interpolate.specs.Blend.{FilterAnswer}
use Rattle.loads.specs.Load.{Work}
use Rattle.reader.specs.Queries.{lengths_of, allowed, nearest_or, filter_says}
use Rattle.settext.specs.declared.State.{State}
use Rattle.answers.specs.Answers.{sizes_in, nearest_number, filtered_of}

-- the outcome is no refusal
abbrev pub Answers : Outcome → Type 0
Answers (outcome.Exact l r) = Unit {0}
Answers (outcome.Blended l r points) = Unit {0}
Answers (outcome.Refused reason place) = ⊥

-- what a find needs is among what a filter needs
fits : (s : Sizes) (l : Lengths) → blend_fits s l ≡ true → tree_fits s l.tree ≡ true
unfolding blend_fits plain_fits
fits s l h =
    and_left (tree_fits s l.tree) (responses_fit s l.responses) (and_left (plain_fits s l.tree l.responses) (neighbours_fit s l.neighbours) h)

find_fine : (s : Sizes) (l : Lengths) (rate : Float) (q : Point3) → verdict_of (filter_lines s (blend_fits s l) rate q) ≡ Ok tt → verdict_of (find_lines s l.tree q) ≡ Ok tt
find_fine s l rate q e =
    let p2 = passed _ _ e in
    let p3 = passed _ _ p2.1 in
    let p6 = passed _ _ p3.1 in
    goes_on _ _ p2.0 ∙ goes_on (short_lists (tree_fits s l.tree)) _ (ap not (fits s l (not-false _ p3.0))) ∙ p6.1

pub record Number (f : Located) : Type 0 where
  pub number : ℕ
  pub found : f ≡ At number

by_found : (f : Located) (ll rl : ℕ) (g : ℕ → FilterAnswer) → Answers (nearest_or f ll rl g).answer → Number f
unfolding nearest_or
by_found (At k) ll rl g a = record { number = k; found = refl }
by_found (Refused refusal) ll rl g a = absurd a

by_verdict : (v w : Result ⊤ Refusal) (f : Located) (ll rl : ℕ) (g : ℕ → FilterAnswer) → (v ≡ Ok tt → w ≡ Ok tt) → Answers (allowed v ll rl (nearest_or f ll rl g)).answer → Number (unless w f)
unfolding allowed unless
by_verdict (Ok fine) w f ll rl g e a = rw (e refl) (by_found f ll rl g a)
by_verdict (Err refusal) w f ll rl g e a = absurd a

pub found_where_answered : (s : State) (look : Lookup) (d : Work) (responses delays : List Float) (q : Point3) → Answers (filtered_of s look d responses delays q).answer → Number (nearest_number s look d q)
unfolding filtered_of filter_says nearest_number find_of
found_where_answered s look d responses delays q a =
    by_verdict _ _ (locate_of look s.m d.cartesian d.left d.right q) s.n s.n _ (find_fine (sizes_in s) (lengths_of d.cartesian d.left d.right responses d.neighbours) s.rate q) a
