-- What holds of every run: definitions, and that it holds before the first line.
use Rattle.std.specs.Prelude.{ℕ, ◌≤◌}
use lib.Dec.{lit≤}
use Rattle.settext.specs.State.{start_state}
use Rattle.settext_laws.specs.Kept.{Reached}
use Rattle.settext_laws.proofs.Reached.{begins_so}
use Rattle.queries.specs.declared.runs.Phase.{Phase}
use Rattle.queries.specs.declared.runs.Phase.TheVariants.{Reading}
use Rattle.queries.specs.Program.{state_in}

-- the counts of the set are within the limits of the text form
abbrev pub SoundPhase : Phase → Type 0
SoundPhase f = Reached (state_in f)

-- and the line begun is in the line buffer
pub record Sound (f : Phase) (n : ℕ) : Type 0 where
  pub limits : SoundPhase f
  pub used : n ≤ 40000

-- before the first line
pub start_sound : Sound (Reading start_state) 0
start_sound = record { limits = begins_so; used = lit≤ tt }
