-- What the program does with what the system answered, call after call. Definitions only.
use Rattle.std.specs.Prelude.{ℕ, zero, suc, ◌+◌, ◌≤◌, ◌≡◌, Bool, true, false, ◌&&◌, ◌||◌, List, [], ◌∷◌, ◌++◌, leb, ltb, length, take, replicate, Result, Ok, Err, IfOk, IsOk, ⊤}
use Rattle.std.specs.Result.{result_unwrap_or}
use Rattle.std.specs.declared.io.Error.{Error}
use Rattle.floats.specs.Floats.{zero32}
use Rattle.lists.specs.Over.{over}
use Rattle.text.specs.Machine.{At}
use Rattle.queries.specs.declared.Ears.{Ears}
use Rattle.queries.specs.declared.Memory.{Memory}
use Rattle.queries.specs.declared.runs.Run.{Run}
use Rattle.queries.specs.Program.{Session, is_over, ears_of, closing, begun, no_lists, no_work}
use Rattle.queries.specs.Machine.{Advance, between_bytes, run_place, advance_of, advance_ears, advance_buf}
use Rattle.sofaquery.specs.declared.Flow.{Flow}
use Rattle.sofaquery.specs.declared.Flow.TheVariants.{More, Ended, Unread, Unwritten}
use Rattle.sofaquery.specs.declared.Went.{Went}

-- ---- by what a call answered

abbrev pub goes_on : Flow → Bool
goes_on More = true
goes_on Ended = false
goes_on Unread = false
goes_on Unwritten = false

-- a read fails, or answers how many bytes there are, 0 at the end
abbrev pub read_flow : Result ℕ Error → Flow
read_flow (Err e) = Unread
read_flow (Ok zero) = Ended
read_flow (Ok (suc k)) = More

unfoldable pub after_read : Run → Result ℕ Error → Went
after_read t got = record { run = t; at = 0; have = result_unwrap_or got 0; flow = read_flow got }

-- a write went well or not; then nothing is left to do, or there is
abbrev pub write_flow : Result ⊤ Error → Bool → Flow
write_flow (Err e) done = Unwritten
write_flow (Ok u) true = Ended
write_flow (Ok u) false = More

-- nothing is left once the chunk is used up and all is printed
unfoldable pub after_write : Run → ℕ → ℕ → Result ⊤ Error → Went
after_write t at have wrote = record { run = t; at = at; have = have; flow = write_flow wrote (leb have at && is_over t.phase) }

-- what is written last: at the end of the text what is still to be printed, nothing where something failed
abbrev pub last_by : Flow → Run → List ℕ → List ℕ
last_by More t buf = []
last_by Ended t buf = closing t.phase (take t.used buf)
last_by Unread t buf = []
last_by Unwritten t buf = []

abbrev pub last_text : Went → List ℕ → List ℕ
last_text w buf = last_by w.flow w.run buf

-- and what has come of it all, by whether that was written
abbrev pub end_flow : Flow → Result ⊤ Error → Flow
end_flow More wrote = More
end_flow Ended wrote = write_flow wrote true
end_flow Unread wrote = Unread
end_flow Unwritten wrote = Unwritten

-- the text was not one of the form, or its load was refused: the run is over, or something was left to print
unfoldable pub not_taken : Run → ℕ → Bool
not_taken t count = is_over t.phase || ltb 0 count

-- ---- call after call

-- what the program's lists hold: the machine's place, the line buffer, the responses of the last query, and the list of what is to be written
pub record ListsHeld : Type 0 where
  pub place : At Session
  pub buf : List ℕ
  pub ears : Ears
  pub out : List ℕ

abbrev pub held : At Session → List ℕ → Ears → List ℕ → ListsHeld
held a buf e out = record { place = a; buf = buf; ears = e; out = out }

abbrev pub here : Run → Memory → ListsHeld
here t m = held (run_place t m) m.buf m.store.ears m.store.out

-- all zeros
abbrev pub start_held : ListsHeld
start_held = held (between_bytes (begun no_lists no_work) []) (replicate 40000 0) (ears_of (replicate 4096 zero32) (replicate 4096 zero32)) (replicate 73848 0)

-- after a turn over the rest of a chunk
abbrev pub held_after : ListsHeld → List ℕ → ListsHeld
held_after h rest =
    let v = advance_of 40000 h.place rest in
    held v.place (advance_buf 40000 h.place rest h.buf) (advance_ears 40000 h.place rest h.ears) (over v.printed h.out)

-- where the program is: what its lists hold, what is left of the chunk, and what came of the last call
pub record Stand : Type 0 where
  pub held : ListsHeld
  pub rest : List ℕ
  pub flow : Flow

abbrev pub stand_at : ListsHeld → List ℕ → Flow → Stand
stand_at h rest flow = record { held = h; rest = rest; flow = flow }

abbrev pub used_up : List ℕ → Bool
used_up [] = true
used_up (x ∷ xs) = false

-- a read answered so, and left these bytes in the chunk
abbrev pub reading : Stand → Result ℕ Error → List ℕ → Stand
reading a got bytes = stand_at a.held (take (result_unwrap_or got 0) bytes) (read_flow got)

abbrev pub turn_at : Stand → Advance
turn_at a = advance_of 40000 a.held.place a.rest

-- a turn was made, and what it says was written or not
abbrev pub wrote_turn : Stand → Result ⊤ Error → Stand
wrote_turn a wrote =
    let v = turn_at a in
    stand_at (held_after a.held a.rest) v.left (write_flow wrote (used_up v.left && is_over v.place.known.phase))

-- a call, with what was handed over and what the system answered
pub data Call : Type 0 where
  read : Result ℕ Error → List ℕ → Call
  write : List ℕ → Result ⊤ Error → Call

-- What is known of an answer: a read that does not fail counts bytes of the chunk, and nothing to write goes well
abbrev pub Answered : Call → Type 0
Answered (read got bytes) = IfOk got (λ n. n ≤ 65536)
Answered (write text wrote) = text ≡ [] → IsOk wrote

-- The calls that the program makes from one place to another: while there may be more to read, it reads where the chunk is used up, and
-- else makes a turn and writes what that says
pub data Ran : Stand → List Call → Stand → Type 0 where
  none : {a : Stand} → Ran a [] a
  reads : {a z : Stand} {cs : List Call} (got : Result ℕ Error) (bytes : List ℕ) → Answered (read got bytes) → goes_on a.flow ≡ true → used_up a.rest ≡ true → Ran (reading a got bytes) cs z → Ran a (read got bytes ∷ cs) z
  turns : {a z : Stand} {cs : List Call} (wrote : Result ⊤ Error) → Answered (write (turn_at a).printed wrote) → goes_on a.flow ≡ true → used_up a.rest ≡ false → Ran (wrote_turn a wrote) cs z → Ran a (write (turn_at a).printed wrote ∷ cs) z

-- before the first call
abbrev pub start_stand : Stand
start_stand = stand_at start_held [] More

-- with so many calls left that it may still make
pub record Made (left : ℕ) (z : Stand) : Type 0 where
  pub calls : List Call
  pub ran : Ran start_stand calls z
  pub counted : length calls + left ≡ 18446744073709551615

-- The program came to a place by such calls, until one of them ended it or it had made all that it may
pub record Came (z : ListsHeld) (w : Went) : Type 0 where
  pub rest : List ℕ
  pub left : ℕ
  pub made : Made left (stand_at z rest w.flow)
  pub stops : goes_on w.flow ≡ true → left ≡ 0

-- and is about to write what is left
abbrev pub Ends : Went → Memory → Type 0
Ends w m = Came (here w.run m) w

-- ---- what was read and what was to be written

unfoldable pub read_in : List Call → List (List ℕ)
read_in [] = []
read_in (read got bytes ∷ cs) = take (result_unwrap_or got 0) bytes ∷ read_in cs
read_in (write text wrote ∷ cs) = read_in cs

unfoldable pub written_in : List Call → List ℕ
written_in [] = []
written_in (read got bytes ∷ cs) = written_in cs
written_in (write text wrote ∷ cs) = text ++ written_in cs
