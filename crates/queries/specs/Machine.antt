-- One turn of the program: it reads a chunk up to the end of a line, or to the chunk's end, and says what to print. Definitions only.
use Rattle.std.specs.Prelude.{ℕ, ◌≤◌, ◌<◌, ◌≡◌, cond, List, [], ◌∷◌, ◌++◌, length, take, drop, Float}
use Rattle.lists.specs.Over.{over}
use Rattle.text.specs.Lines.{Part, line, more, part_bytes, cut}
use Rattle.text.specs.Machine.{At}
use Rattle.points.specs.declared.Point3.{Point3}
use Rattle.settext.specs.declared.State.{State}
use Rattle.settext.specs.declared.Step.{Step}
use Rattle.settext.specs.State.{start_state}
use Rattle.lookup.specs.declared.Lookup.{Lookup}
use Rattle.loads.specs.Load.{Work}
use Rattle.answers.specs.Answers.{set_of, filtered_of, answer_block}
use Rattle.queries.specs.declared.runs.Phase.{Phase}
use Rattle.queries.specs.declared.runs.Phase.TheVariants.{Reading}
use Rattle.queries.specs.declared.runs.Run.{Run}
use Rattle.queries.specs.declared.Turned.{Turned}
use Rattle.queries.specs.declared.Told.{Told}
use Rattle.queries.specs.declared.Ears.{Ears}
use Rattle.queries.specs.declared.Store.{Store}
use Rattle.queries.specs.declared.Memory.{Memory}
use Rattle.queries.specs.Program.{Session, text_in, work_in, session_in, Turn, is_over, block_in, by_load, step_turn, line_turn, ears_of, ears_in, step_ears, line_ears, closing}
use Rattle.queries.specs.Sound.{start_sound}

abbrev pub start_run : Run
start_run = record { phase = Reading start_state; used = 0; sound = start_sound }

-- between two bytes: the session, and what is kept of the line begun
abbrev pub between_bytes : Session → List ℕ → At Session
between_bytes k h = record { known = k; have = h }

-- where a turn comes to, what is left of the chunk, and what is printed
pub record Advance : Type 0 where
  pub place : At Session
  pub left : List ℕ
  pub printed : List ℕ

abbrev pub advance_as : At Session → List ℕ → List ℕ → Advance
advance_as a l p = record { place = a; left = l; printed = p }

abbrev pub line_advance : Turn → List ℕ → Advance
line_advance t rest = advance_as (between_bytes t.session []) rest t.printed

abbrev pub part_advance : Session → Part → Advance
part_advance k (line l rest) = line_advance (line_turn k l) rest
part_advance k (more h) = advance_as (between_bytes k h) [] []

-- with a line buffer of so many bytes; once over, nothing is read and nothing printed
unfoldable pub advance_of : ℕ → At Session → List ℕ → Advance
advance_of room a s = cond (is_over a.known.phase) (advance_as a [] []) (part_advance a.known (cut (take room) a.have s))

-- what the turn leaves in the two lists of responses
abbrev pub part_ears : Session → Part → Ears → Ears
part_ears k (line l rest) e = line_ears k l e
part_ears k (more h) e = e

unfoldable pub advance_ears : ℕ → At Session → List ℕ → Ears → Ears
advance_ears room a s e = cond (is_over a.known.phase) e (part_ears a.known (cut (take room) a.have s) e)

-- and in the line buffer: the bytes of its line at the front, and the rest of it stays
unfoldable pub advance_buf : ℕ → At Session → List ℕ → List ℕ → List ℕ
advance_buf room a s buf = cond (is_over a.known.phase) buf (over (part_bytes (cut (take room) a.have s)) buf)

-- the place that a run stands for, by the program's lists
abbrev pub run_place : Run → Memory → At Session
run_place t m = between_bytes (session_in t.phase m.store) (take t.used m.buf)

-- ---- what the calls promise

-- so many bytes at the front of a list are these, and the rest of it stays
pub record Front (text out out' : List ℕ) (r : ℕ) : Type 0 where
  pub count : r ≡ length text
  pub same : out' ≡ over text out

-- a turn came to a session, and what it prints is at the front of `out`
pub record TurnSays (t : Turn) (k : Session) (out out' : List ℕ) (n : ℕ) : Type 0 where
  pub session : k ≡ t.session
  pub printed : Front t.printed out out' n

pub record AnswerSays (s : State) (look : Lookup) (w : Work) (responses delays : List Float) (q : Point3) (e e' : Ears) (out out' : List ℕ) (r : ℕ) : Type 0 where
  pub printed : Front (answer_block s look w responses delays q) out out' r
  pub ears : e' ≡ (let f = filtered_of s look w responses delays q in ears_of (over f.left e.left) (over f.right e.right))

pub record AskSays (f : Phase) (s : State) (q : Point3) (m m' : Store) (r : ℕ) : Type 0 where
  pub printed : Front (block_in f s m.given.responses m.given.delays (work_in m.work) q) m.out m'.out r
  pub ears : m'.ears ≡ ears_in f s m.given.responses m.given.delays (work_in m.work) q m.ears
  pub given : m'.given ≡ m.given
  pub work : m'.work ≡ m.work

pub record LoadSays (s : State) (m m' : Store) (r : Turned) : Type 0 where
  pub turn : TurnSays (by_load s (text_in m.given) (set_of s m.given.positions (length m.given.responses) (work_in m.work))) (session_in r.phase m') m.out m'.out r.count
  pub ears : m'.ears ≡ m.ears

pub record StepSays (f : Phase) (t : Step) (m m' : Store) (r : Turned) : Type 0 where
  pub turn : TurnSays (step_turn f t (text_in m.given) (work_in m.work)) (session_in r.phase m') m.out m'.out r.count
  pub ears : m'.ears ≡ step_ears f t (text_in m.given) (work_in m.work) m.ears

pub record LineSays (f : Phase) (l : List ℕ) (m m' : Store) (r : Turned) : Type 0 where
  pub turn : TurnSays (line_turn (session_in f m) l) (session_in r.phase m') m.out m'.out r.count
  pub ears : m'.ears ≡ line_ears (session_in f m) l m.ears

pub record AdvanceSays (chunk : List ℕ) (from : ℕ) (m m' : Memory) (t : Run) (r : Told) : Type 0 where
  pub place : run_place r.run m' ≡ (advance_of 40000 (run_place t m) (drop from chunk)).place
  pub left : drop r.next chunk ≡ (advance_of 40000 (run_place t m) (drop from chunk)).left
  pub printed : Front (advance_of 40000 (run_place t m) (drop from chunk)).printed m.store.out m'.store.out r.count
  pub ears : m'.store.ears ≡ advance_ears 40000 (run_place t m) (drop from chunk) m.store.ears
  pub buffer : m'.buf ≡ advance_buf 40000 (run_place t m) (drop from chunk) m.buf
  pub next : r.next ≤ length chunk
  pub moves : from < length chunk → from < r.next

abbrev pub FinishSays : List ℕ → Run → List ℕ → List ℕ → ℕ → Type 0
FinishSays buf t out out' r = Front (closing t.phase (take t.used buf)) out out' r

-- ---- chunk after chunk

-- chunks put together
unfoldable pub joined : List (List ℕ) → List ℕ
joined [] = []
joined (c ∷ cs) = c ++ joined cs

-- The turns that a program can make of chunks, with a line buffer of so many bytes: from a place, over these chunks, printing this, to a place
pub data Makes (room : ℕ) : At Session → List (List ℕ) → List ℕ → At Session → Type 0 where
  -- all is read
  done : {a : At Session} → Makes room a [] [] a
  -- a chunk is used up
  next : {a z : At Session} {cs : List (List ℕ)} {p : List ℕ} → Makes room a cs p z → Makes room a ([] ∷ cs) p z
  -- a turn, from any place of a chunk
  goes : {a z : At Session} {c : List ℕ} {cs : List (List ℕ)} {p : List ℕ}
      → Makes room (advance_of room a c).place ((advance_of room a c).left ∷ cs) p z → Makes room a (c ∷ cs) ((advance_of room a c).printed ++ p) z
