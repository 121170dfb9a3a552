-- What a turn comes to, by what the code was told of the chunk and of the line; and what stands at the front of a list that was written.
-- Assumes nothing.
use Prim.Native.Nat.{ℕ, ◌≤◌, ◌<◌}
use mathlib.Core.Path.{◌≡◌, refl, sym, ap, subst, ◌∙◌}
use mathlib.Core.Bool.{true, false}
use mathlib.Core.List.{List, [], ◌++◌}
use native.Mathlib.Omega.{arith}
use lib.ListN.{length, take, drop, drop_of_length-le, length-append}
use lib.Ieee.{Float}
use Rattle.std.specs.Prelude.{Result, Ok, Err}
use Rattle.lists.specs.Over.{over}
use Rattle.lists.proofs.Laws.{over_nil, take_over}
use Rattle.text.specs.declared.Cut.{Cut}
use Rattle.text.specs.declared.Cut.TheVariants.{Line, More}
use Rattle.text.specs.Lines.{Part, CutWithin, part_bytes, cut, cut_part}
use Rattle.text.specs.Machine.{At}
use Rattle.settext.specs.declared.State.{State}
use Rattle.settext_laws.specs.Kept.{Few}
use Rattle.settext.specs.declared.Step.{Step}
use Rattle.settext.specs.declared.Step.TheVariants.{Next, Complete, Query, Malformed}
use Rattle.settext.specs.Lines.{TextLists, After, line_of}
use Rattle.settext_laws.proofs.Reached.{line}
use Rattle.points.specs.declared.Point3.{Point3}
use Rattle.lookup.specs.declared.Lookup.{Lookup}
use Rattle.refusals.specs.declared.Refusal.{Refusal}
use Rattle.refusals.specs.Refusals.{number_of, place_of}
use Rattle.loads.specs.Load.{Work, Load, load_as}
use Rattle.blocks.specs.Blocks.{refused_text, form_error}
use Rattle.answers.specs.Answers.{set_of}
use Rattle.queries.specs.declared.Ears.{Ears}
use Rattle.queries.specs.declared.Store.{Store}
use Rattle.queries.specs.declared.runs.Phase.{Phase}
use Rattle.queries.specs.declared.runs.Phase.TheVariants.{Reading, Ready, Over}
use Rattle.queries.specs.Program.{Session, session, Turn, turn_as, state_in, is_over, phase_after, load_turn, by_load, block_in, step_turn, after_turn, line_turn, ears_of, step_ears, after_ears, line_ears}
use Rattle.queries.specs.Sound.{SoundPhase}
use Rattle.queries.specs.Machine.{between_bytes, advance_as, line_advance, part_advance, advance_of, part_ears, advance_ears, advance_buf, Front, TurnSays, AskSays}

-- once over, nothing is read and nothing printed
pub silent : (room : ℕ) (a : At Session) (s : List ℕ) → is_over a.known.phase ≡ true → advance_of room a s ≡ advance_as a [] []
unfolding advance_of
silent room a s e = rw e

pub silent_ears : (room : ℕ) (a : At Session) (s : List ℕ) (k : Ears) → is_over a.known.phase ≡ true → k ≡ advance_ears room a s k
unfolding advance_ears
silent_ears room a s k e = rw e

pub goes_by : (room : ℕ) (a : At Session) (s : List ℕ) → is_over a.known.phase ≡ false → advance_of room a s ≡ part_advance a.known (cut (take room) a.have s)
unfolding advance_of
goes_by room a s e = rw e

ears_by : (room : ℕ) (a : At Session) (s : List ℕ) (k : Ears) → is_over a.known.phase ≡ false → part_ears a.known (cut (take room) a.have s) k ≡ advance_ears room a s k
unfolding advance_ears
ears_by room a s k e = rw e

pub silent_buf : (room : ℕ) (a : At Session) (s buf : List ℕ) → is_over a.known.phase ≡ true → buf ≡ advance_buf room a s buf
unfolding advance_buf
silent_buf room a s buf e = rw e

pub buf_by : (room : ℕ) (a : At Session) (s buf buf' : List ℕ) → is_over a.known.phase ≡ false → buf' ≡ over (part_bytes (cut (take room) a.have s)) buf → buf' ≡ advance_buf room a s buf
unfolding advance_buf
buf_by room a s buf buf' e f = rw e f

none_left : (s : List ℕ) → drop (length s) s ≡ []
none_left s = let h : length s ≤ length s = omega arith in drop_of_length-le s h

pub all_over : (room : ℕ) (a : At Session) (s chunk : List ℕ) → is_over a.known.phase ≡ true → advance_as a (drop (length chunk) chunk) [] ≡ advance_of room a s
all_over room a s chunk e = ap (λ (l : List ℕ). advance_as a l []) (none_left chunk) ∙ sym (silent room a s e)

module _ (buf buf' chunk : List ℕ) (k : Session) (from used : ℕ) (r : Cut) (going : is_over k.phase ≡ false)
    (said : cut_part r buf' chunk ≡ cut (take (length buf)) (take used buf) (drop from chunk)) where
  by_cut : part_advance k (cut_part r buf' chunk) ≡ advance_of (length buf) (between_bytes k (take used buf)) (drop from chunk)
  by_cut = ap (part_advance k) said ∙ sym (goes_by (length buf) (between_bytes k (take used buf)) (drop from chunk) going)

  ears_cut : (e : Ears) → part_ears k (cut_part r buf' chunk) e ≡ advance_ears (length buf) (between_bytes k (take used buf)) (drop from chunk) e
  ears_cut e = ap (λ (p : Part). part_ears k p e) said ∙ ears_by (length buf) (between_bytes k (take used buf)) (drop from chunk) e going

  module _ (next n : ℕ) (e : r ≡ Line next n) where
    pub a_line : line_advance (line_turn k (take n buf')) (drop next chunk) ≡ advance_of (length buf) (between_bytes k (take used buf)) (drop from chunk)
    a_line = ap (λ (r : Cut). part_advance k (cut_part r buf' chunk)) (sym e) ∙ by_cut

    pub line_ears_lem : (h : Ears) → line_ears k (take n buf') h ≡ advance_ears (length buf) (between_bytes k (take used buf)) (drop from chunk) h
    line_ears_lem h = ap (λ (r : Cut). part_ears k (cut_part r buf' chunk) h) (sym e) ∙ ears_cut h

  module _ (n : ℕ) (e : r ≡ More n) where
    pub no_line : advance_as (between_bytes k (take n buf')) (drop (length chunk) chunk) [] ≡ advance_of (length buf) (between_bytes k (take used buf)) (drop from chunk)
    no_line =
        ap (λ (l : List ℕ). advance_as (between_bytes k (take n buf')) l []) (none_left chunk) ∙ ap (λ (r : Cut). part_advance k (cut_part r buf' chunk)) (sym e) ∙ by_cut

    pub more_ears : (h : Ears) → h ≡ advance_ears (length buf) (between_bytes k (take used buf)) (drop from chunk) h
    more_ears h = ap (λ (r : Cut). part_ears k (cut_part r buf' chunk) h) (sym e) ∙ ears_cut h

-- how far the code was told to go
module _ (buf chunk : List ℕ) (from : ℕ) (r : Cut) where
  pub found_line : (next n : ℕ) → r ≡ Line next n → CutWithin r from (length buf) (length chunk) → (n ≤ length buf) × (from < next) × (next ≤ length chunk)
  found_line next n e h = subst (λ (r : Cut). CutWithin r from (length buf) (length chunk)) e h

-- what was written at the front
module _ {xs d d' : List ℕ} {n : ℕ} (p : Front xs d d' n) where
  pub front : take n d' ≡ xs
  front = ap (λ (l : List ℕ). take n l) p.same ∙ ap (λ (n : ℕ). take n (over xs d)) p.count ∙ take_over xs d

  pub fits : n ≤ length d'
  unfolding over
  fits = omega (arith, ap length p.same, length-append xs (drop (length xs) d), p.count)

pub nothing : (d : List ℕ) → Front [] d d 0
nothing d = record { count = refl; same = sym (over_nil d) }

-- before the load, and once over, a query has no block
pub unasked : (f : Phase) (s : State) (q : Point3) (m : Store) → ((t : State) (look : Lookup) → f ≡ Ready t look → ⊥) → AskSays f s q m m 0
unasked (Reading t) s q m h = record { printed = nothing m.out; ears = refl; given = refl; work = refl }
unasked (Ready t look) s q m h = absurd (h t look refl)
unasked Over s q m h = record { printed = nothing m.out; ears = refl; given = refl; work = refl }

pub put : {xs d d' : List ℕ} {n : ℕ} → n ≡ length xs → d' ≡ over xs d → Front xs d d' n
put e f = record { count = e; same = f }

-- a list whose first n values were replaced by others
pub laid : {xs ys : List Float} {n : ℕ} (d : List Float) → ys ≡ xs → length ys ≡ n → ys ++ drop n d ≡ over xs d
unfolding over
laid {ys = ys} d e f = ap (λ (k : ℕ). ys ++ drop k d) (sym f) ∙ ap (λ (zs : List Float). zs ++ drop (length zs) d) e

pub same_ears : {l l' r r' : List Float} → l ≡ l' → r ≡ r' → ears_of l r ≡ ears_of l' r'
same_ears e f = cc

-- the same text
pub renamed : {xs ys d d' : List ℕ} {n : ℕ} → xs ≡ ys → Front xs d d' n → Front ys d d' n
renamed {d = d} {d' = d'} {n = n} e p = subst (λ (t : List ℕ). Front t d d' n) e p

-- a turn that is known by its session and its text
pub says : {x t : Turn} {d d' : List ℕ} {n : ℕ} → x ≡ t → Front x.printed d d' n → TurnSays t x.session d d' n
says {x} {d = d} {d' = d'} {n = n} e p = subst (λ (t : Turn). TurnSays t x.session d d' n) e (record { session = refl; printed = p })

-- a load, by what it answered
module _ (s : State) (d : TextLists) (w' : Work) (a : Result Lookup Refusal) (l : Load) (told : load_as a w' ≡ l) where
  by_answer : load_turn s d w' a ≡ by_load s d l
  by_answer = ap (by_load s d) told

  pub load_ready : (look : Lookup) → a ≡ Ok look → turn_as (Ready s look) d w' [] ≡ by_load s d l
  load_ready look e = ap (load_turn s d w') (sym e) ∙ by_answer

  pub load_refused : (refusal : Refusal) → a ≡ Err refusal → turn_as Over d w' (refused_text (number_of refusal) (place_of refusal)) ≡ by_load s d l
  load_refused refusal e = ap (load_turn s d w') (sym e) ∙ by_answer

-- a line, by what it was
module _ (f : Phase) (d : TextLists) (w : Work) (t : Step) where
  pub step_next : (g : Phase) (s : State) → g ≡ phase_after f s → t ≡ Next s → turn_as g d w [] ≡ step_turn f t d w
  step_next g s a e = ap (λ (g : Phase). turn_as g d w []) a ∙ ap (λ (t : Step). step_turn f t d w) (sym e)

  pub step_complete : {k : Session} {out out' : List ℕ} {n : ℕ} (s : State) → TurnSays (by_load s d (set_of s d.positions (length d.responses) w)) k out out' n → t ≡ Complete s
      → TurnSays (step_turn f t d w) k out out' n
  step_complete {k} {out} {out'} {n} s a e = subst (λ (t : Step). TurnSays (step_turn f t d w) k out out' n) (sym e) a

  pub step_query : (g : Phase) (s : State) (q : Point3) → g ≡ phase_after f s → t ≡ Query s q → turn_as g d w (block_in f s d.responses d.delays w q) ≡ step_turn f t d w
  step_query g s q a e = ap (λ (g : Phase). turn_as g d w (block_in f s d.responses d.delays w q)) a ∙ ap (λ (t : Step). step_turn f t d w) (sym e)

  pub step_bad : (k : ℕ) → t ≡ Malformed k → turn_as Over d w (form_error k) ≡ step_turn f t d w
  step_bad k e = ap (λ (t : Step). step_turn f t d w) (sym e)

module _ (f : Phase) (d : TextLists) (l : List ℕ) (a : After) (s : State) (told : a ≡ line_of s l d) (of : s ≡ state_in f) where
  by_line : a ≡ line_of (state_in f) l d
  by_line = told ∙ ap (λ (s : State). line_of s l d) of

  -- the limits hold of what the line was
  pub line_few : SoundPhase f → Few a.step
  line_few h = subst (λ (a : After). Few a.step) (sym by_line) (line (state_in f) h l d)

  pub line_turn_lem : (w : Work) → step_turn f a.step a.lists w ≡ line_turn (session f d w) l
  unfolding line_turn
  line_turn_lem w = ap (λ (a : After). after_turn f a w) by_line

  pub line_ears_of : (w : Work) (e : Ears) → step_ears f a.step a.lists w e ≡ line_ears (session f d w) l e
  unfolding line_ears
  line_ears_of w e = ap (λ (a : After). after_ears f a w e) by_line
