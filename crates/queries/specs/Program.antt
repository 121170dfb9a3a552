-- The query program, from document 01's "The query program": what each line of its input makes it print, and what it prints of a whole text.
-- Definitions only.
use Rattle.std.specs.Prelude.{ℕ, Bool, true, false, List, [], ◌++◌, length, replicate, Float, Result, Ok, Err}
use Rattle.floats.specs.Floats.{zero32}
use Rattle.lists.specs.Over.{over}
use Rattle.points.specs.declared.Point3.{Point3}
use Rattle.text.specs.Machine.{split, reads}
use Rattle.settext.specs.declared.State.{State}
use Rattle.settext.specs.declared.Step.{Step}
use Rattle.settext.specs.declared.Step.TheVariants.{Next, Complete, Query, Malformed}
use Rattle.settext.specs.State.{start_state}
use Rattle.settext.specs.Lines.{TextLists, text_lists, After, line_of, end_of}
use Rattle.refusals.specs.declared.Refusal.{Refusal}
use Rattle.refusals.specs.Refusals.{number_of, place_of}
use Rattle.lookup.specs.declared.Lookup.{Lookup}
use Rattle.loads.specs.Load.{Work, Load, work_of}
use Rattle.blocks.specs.Blocks.{refused_text, form_error}
use Rattle.answers.specs.Answers.{set_of, filtered_of, answer_block}
use Rattle.queries.specs.declared.SetLists.{SetLists}
use Rattle.queries.specs.declared.WorkLists.{WorkLists}
use Rattle.queries.specs.declared.Ears.{Ears}
use Rattle.queries.specs.declared.Store.{Store}
use Rattle.queries.specs.declared.runs.Phase.{Phase}
use Rattle.queries.specs.declared.runs.Phase.TheVariants.{Reading, Ready, Over}

-- ---- between two lines

-- how far the program is, the numbers of the set, and the lists that its load fills
pub record Session : Type 0 where
  pub phase : Phase
  pub lists : TextLists
  pub work : Work

abbrev pub session : Phase → TextLists → Work → Session
session f d w = record { phase = f; lists = d; work = w }

-- what the program's lists hold
abbrev pub text_in : SetLists → TextLists
text_in d = text_lists d.positions d.responses d.delays

abbrev pub work_in : WorkLists → Work
work_in w = work_of w.left w.right w.neighbours w.cartesian

abbrev pub session_in : Phase → Store → Session
session_in f m = session f (text_in m.given) (work_in m.work)

-- what a line makes of it, and what is printed then
pub record Turn : Type 0 where
  pub session : Session
  pub printed : List ℕ

abbrev pub turn_as : Phase → TextLists → Work → List ℕ → Turn
turn_as f d w p = record { session = session f d w; printed = p }

abbrev pub state_in : Phase → State
state_in (Reading s) = s
state_in (Ready s look) = s
state_in Over = start_state

abbrev pub is_over : Phase → Bool
is_over (Reading s) = false
is_over (Ready s look) = false
is_over Over = true

-- ---- one line

-- the phase stays, with one line more read
abbrev pub phase_after : Phase → State → Phase
phase_after (Reading t) s = Reading s
phase_after (Ready t look) s = Ready s look
phase_after Over s = Over

-- after the last line of the set: "a refused load prints one refused block and ends"
abbrev pub load_turn : State → TextLists → Work → Result Lookup Refusal → Turn
load_turn s d w (Ok look) = turn_as (Ready s look) d w []
load_turn s d w (Err refusal) = turn_as Over d w (refused_text (number_of refusal) (place_of refusal))

abbrev pub by_load : State → TextLists → Load → Turn
by_load s d l = load_turn s d l.work l.answer

-- the block of a query; before the load there is none
abbrev pub block_in : Phase → State → List Float → List Float → Work → Point3 → List ℕ
block_in (Reading t) s responses delays w q = []
block_in (Ready t look) s responses delays w q = answer_block s look w responses delays q
block_in Over s responses delays w q = []

-- by what the line was: one of the set, its last, a query, or malformed
abbrev pub step_turn : Phase → Step → TextLists → Work → Turn
step_turn f (Next s) d w = turn_as (phase_after f s) d w []
step_turn f (Complete s) d w = by_load s d (set_of s d.positions (length d.responses) w)
step_turn f (Query s q) d w = turn_as (phase_after f s) d w (block_in f s d.responses d.delays w q)
step_turn f (Malformed k) d w = turn_as Over d w (form_error k)

abbrev pub after_turn : Phase → After → Work → Turn
after_turn f a w = step_turn f a.step a.lists w

unfoldable pub line_turn : Session → List ℕ → Turn
line_turn k l = after_turn k.phase (line_of (state_in k.phase) l k.lists) k.work

-- ---- the two lists that a query's responses are put in

abbrev pub ears_of : List Float → List Float → Ears
ears_of l r = record { left = l; right = r }

-- those of the filter at the front; before the load there are none
abbrev pub ears_in : Phase → State → List Float → List Float → Work → Point3 → Ears → Ears
ears_in (Reading t) s responses delays w q e = e
ears_in (Ready t look) s responses delays w q e =
    let f = filtered_of s look w responses delays q in
    ears_of (over f.left e.left) (over f.right e.right)
ears_in Over s responses delays w q e = e

-- only a query puts something there
abbrev pub step_ears : Phase → Step → TextLists → Work → Ears → Ears
step_ears f (Next s) d w e = e
step_ears f (Complete s) d w e = e
step_ears f (Query s q) d w e = ears_in f s d.responses d.delays w q e
step_ears f (Malformed k) d w e = e

abbrev pub after_ears : Phase → After → Work → Ears → Ears
after_ears f a w e = step_ears f a.step a.lists w e

unfoldable pub line_ears : Session → List ℕ → Ears → Ears
line_ears k l e = after_ears k.phase (line_of (state_in k.phase) l k.lists) k.work e

-- ---- a whole text

-- what is known between two lines, and all that was printed so far
pub record Known : Type 0 where
  pub session : Session
  pub printed : List ℕ

abbrev pub known_as : Session → List ℕ → Known
known_as k p = record { session = k; printed = p }

-- nothing is read after a form error or a refused load
abbrev pub ended : Known → Bool
ended k = is_over k.session.phase

-- what was printed before stays
abbrev pub printing : List ℕ → Turn → Known
printing p t = known_as t.session (p ++ t.printed)

unfoldable pub on_line : Known → List ℕ → Known
on_line k l = printing k.printed (line_turn k.session l)

-- at the end of the text, with the bytes after its last newline
abbrev pub end_text : Result Unit ℕ → List ℕ
end_text (Ok u) = []
end_text (Err k) = form_error k

abbrev pub closing : Phase → List ℕ → List ℕ
closing (Reading s) rest = end_text (end_of s rest)
closing (Ready s look) rest = end_text (end_of s rest)
closing Over rest = []

abbrev pub closed : Known → List ℕ → List ℕ
closed k rest = k.printed ++ closing k.session.phase rest

-- before the first line
abbrev pub begun : TextLists → Work → Session
begun d w = session (Reading start_state) d w

-- all that is printed of a text, over lent lists
unfoldable pub output_from : TextLists → Work → List ℕ → List ℕ
output_from d w text = closed (reads ended on_line (known_as (begun d w) []) (split text).lines) (split text).rest

-- room for any set that the text form allows: 256 positions, 4096 responses and 4096 delays
abbrev pub no_lists : TextLists
no_lists = text_lists (replicate 768 zero32) (replicate 4096 zero32) (replicate 4096 zero32)

abbrev pub no_work : Work
no_work = work_of (replicate 256 0) (replicate 256 0) (replicate 1536 0) (replicate 768 zero32)

-- the whole program: its input, and its output
unfoldable pub output_of : List ℕ → List ℕ
output_of text = output_from no_lists no_work text
