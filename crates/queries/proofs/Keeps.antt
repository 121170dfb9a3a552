-- The limits of the text form hold at the start and after every line. Assumes nothing.
use Prim.Native.Nat.{ℕ}
use mathlib.Core.List.{List}
use lib.ListN.{length}
use Rattle.std.specs.Prelude.{Result, Ok, Err}
use Rattle.lookup.specs.declared.Lookup.{Lookup}
use Rattle.settext.specs.declared.State.{State}
use Rattle.settext.specs.declared.Step.{Step}
use Rattle.settext.specs.declared.Step.TheVariants.{Next, Complete, Query, Malformed}
use Rattle.settext.specs.Lines.{TextLists, line_of}
use Rattle.settext_laws.specs.Kept.{Reached, Few}
use Rattle.settext_laws.proofs.Reached.{begins_so, line}
use Rattle.refusals.specs.declared.Refusal.{Refusal}
use Rattle.loads.specs.Load.{Work}
use Rattle.answers.specs.Answers.{set_of}
use Rattle.queries.specs.declared.runs.Phase.{Phase}
use Rattle.queries.specs.declared.runs.Phase.TheVariants.{Reading, Ready, Over}
use Rattle.queries.specs.Program.{Session, state_in, phase_after, load_turn, step_turn, line_turn}
use Rattle.queries.specs.Sound.{SoundPhase}

moved_sound : (f : Phase) (s : State) → Reached s → SoundPhase (phase_after f s)
moved_sound (Reading t) s h = h
moved_sound (Ready t look) s h = h
moved_sound Over s h = begins_so

load_sound : (s : State) (d : TextLists) (w : Work) (r : Result Lookup Refusal) → Reached s → SoundPhase (load_turn s d w r).session.phase
load_sound s d w (Ok look) h = h
load_sound s d w (Err refusal) h = begins_so

pub step_sound : (f : Phase) (t : Step) (d : TextLists) (w : Work) → Few t → SoundPhase (step_turn f t d w).session.phase
step_sound f (Next s) d w h = moved_sound f s h
step_sound f (Complete s) d w h = let l = set_of s d.positions (length d.responses) w in load_sound s d l.work l.answer h
step_sound f (Query s q) d w h = moved_sound f s h
step_sound f (Malformed k) d w h = begins_so

pub turn_sound : (k : Session) (l : List ℕ) → SoundPhase k.phase → SoundPhase (line_turn k l).session.phase
unfolding line_turn
turn_sound k l h =
    let a = line_of (state_in k.phase) l k.lists in
    step_sound k.phase a.step a.lists k.work (line (state_in k.phase) h l k.lists)
