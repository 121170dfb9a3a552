-- Calls put together, one after another: what the system answered decides where they lead (`same_end`), and where the program ends with the text,
-- what they and the end write is the output that document 01 gives it (`whole_output`). Assumes nothing.
use Prim.Native.Nat.{ℕ, zero, suc, ◌+◌, ◌-◌, ◌≤◌, ◌<◌}
use mathlib.Core.Path.{◌≡◌, refl, sym, ap, ◌∙◌, subst}
use mathlib.Core.Bool.{Bool, true, false, ◌&&◌}
use mathlib.Core.List.{List, [], ◌∷◌, ◌++◌}
use native.Mathlib.Omega.{arith}
use lib.Dec.{T, leb}
use lib.ListN.{length, take, drop, length-append, length-drop}
use borrow.Author.Tests.{le-leb, lt-leb}
use lib.Seq.{length-take-le}
use Rattle.std.specs.Prelude.{Result, Ok, Err, IfOk, ⊤}
use Rattle.std.specs.Result.{result_unwrap_or}
use Rattle.std.specs.declared.io.Error.{Error}
use Rattle.std.specs.Io.{ReadsAtMost}
use Rattle.text.specs.Machine.{At}
use Rattle.queries.specs.declared.Ears.{Ears}
use Rattle.queries.specs.declared.runs.Phase.{Phase}
use Rattle.queries.specs.declared.runs.Run.{Run}
use Rattle.queries.specs.Program.{Session, is_over, closing, output_of}
use Rattle.queries.specs.Machine.{advance_of, joined, Makes}
use Rattle.queries.specs.Machine.Makes.{done, next, goes}
use Rattle.queries.proofs.Whole.{program}
use Rattle.sofaquery.specs.declared.Flow.{Flow}
use Rattle.sofaquery.specs.declared.Flow.TheVariants.{More, Ended, Unread, Unwritten}
use Rattle.sofaquery.specs.declared.Went.{Went}
use Rattle.sofaquery.specs.Calls.{goes_on, read_flow, after_read, write_flow, after_write, last_by, ListsHeld, held, held_after, Stand, stand_at, used_up, reading, turn_at, wrote_turn, Call, read, write, Answered, Ran, none, reads, turns, start_stand, Made, read_in, written_in}

-- where something failed, nothing is written last
pub nothing_last : (f : Flow) (t : Run) (buf : List ℕ) → (f ≡ Ended → ⊥) → last_by f t buf ≡ []
nothing_last More t buf h = refl
nothing_last Ended t buf h = absurd (h refl)
nothing_last Unread t buf h = refl
nothing_last Unwritten t buf h = refl

-- ---- a call more

then : {a z y : Stand} {cs ds : List Call} → Ran a cs z → Ran z ds y → Ran a (cs ++ ds) y
then none n = n
then (reads got bytes h e f m) n = reads got bytes h e f (then m n)
then (turns wrote h e f m) n = turns wrote h e f (then m n)

module _ (left left' : ℕ) (fewer : left ≡ left' + 1) {a : Stand} (m : Made left a) where
  one_more : (c : Call) → length (m.calls ++ (c ∷ [])) + left' ≡ 18446744073709551615
  one_more c = omega (arith, length-append m.calls (c ∷ []), m.counted, fewer)

  module _ (going : goes_on a.flow ≡ true) where
    read_more : (got : Result ℕ Error) (bytes : List ℕ) → Answered (read got bytes) → used_up a.rest ≡ true → Made left' (reading a got bytes)
    read_more got bytes h f = record { calls = m.calls ++ (read got bytes ∷ []); ran = then m.ran (reads got bytes h going f none); counted = one_more (read got bytes) }

    turn_more : (wrote : Result ⊤ Error) → Answered (write (turn_at a).printed wrote) → used_up a.rest ≡ false → Made left' (wrote_turn a wrote)
    turn_more wrote h f =
        record { calls = m.calls ++ (write (turn_at a).printed wrote ∷ []); ran = then m.ran (turns wrote h going f none); counted = one_more (write (turn_at a).printed wrote) }

used_drop : (xs : List ℕ) (n : ℕ) → used_up (drop n xs) ≡ leb (length xs) n
used_drop xs n = by_length (drop n xs) (length xs) n (length-drop n xs)
  where
    by_length : (ys : List ℕ) (k n : ℕ) → length ys ≡ k - n → used_up ys ≡ leb k n
    by_length [] k n e = sym (le-leb k n (omega (arith, e)))
    by_length (y ∷ ys) k n e = sym (lt-leb k n (omega (arith, e)))

-- a read counts bytes of the chunk
counted_in : (got : Result ℕ Error) → IfOk got (λ n. n ≤ 65536) → result_unwrap_or got 0 ≤ 65536
counted_in (Ok n) h = h
counted_in (Err e) h = omega arith

pub answered : (got : Result ℕ Error) (bytes : List ℕ) → length bytes ≡ 65536 → ReadsAtMost got bytes → IfOk got (λ n. n ≤ 65536)
answered (Ok n) bytes e h = omega (arith, e, h.0)
answered (Err x) bytes e h = tt

-- after a read
module _ (t : Run) (got : Result ℕ Error) where
  module _ (w : Went) (e : w ≡ after_read t got) where
    pub read_have : IfOk got (λ n. n ≤ 65536) → w.have ≤ 65536
    unfolding after_read
    read_have h = rw e (counted_in got h)

-- after a write
module _ (t : Run) (to have : ℕ) (wrote : Result ⊤ Error) where
  module _ (w : Went) (e : w ≡ after_write t to have wrote) where
    pub write_have : w.have ≡ have
    unfolding after_write
    write_have = ap (λ (w : Went). w.have) e

pub same_held : {a b : At Session} {k l : List ℕ} {e f : Ears} {o p : List ℕ} → a ≡ b → k ≡ l → e ≡ f → o ≡ p → held a k e o ≡ held b l f p
same_held x v y z = cc

-- a call more, over the bytes of the chunk that it has, from a place on
module _ (left left' : ℕ) (fewer : left ≡ left' + 1) (a : ListsHeld) (chunk : List ℕ) (have at : ℕ) (room : have ≤ length chunk) (flow : Flow)
    (m : Made left (stand_at a (drop at (take have chunk)) flow)) (going : goes_on flow ≡ true) where
  len : length (take have chunk) ≡ have
  len = length-take-le have chunk room

  used : (n : ℕ) → used_up (drop n (take have chunk)) ≡ leb have n
  used n = used_drop (take have chunk) n ∙ ap (λ (k : ℕ). leb k n) len

  pub chunk_more : have ≤ at → (place : Run → ListsHeld) (t : Run) → place t ≡ a → (got : Result ℕ Error) (bytes : List ℕ) → Answered (read got bytes) → (w : Went) → w ≡ after_read t got
      → Made left' (stand_at (place w.run) (drop w.at (take w.have bytes)) w.flow)
  unfolding after_read
  chunk_more h place t p got bytes g w e =
      let m1 : Made left' (stand_at a (take (result_unwrap_or got 0) bytes) (read_flow got)) = read_more left left' fewer m going got bytes g (used at ∙ le-leb have at h) in
      let m2 : Made left' (stand_at (place t) (take (result_unwrap_or got 0) bytes) (read_flow got)) = subst (λ (b : ListsHeld). Made left' (stand_at b (take (result_unwrap_or got 0) bytes) (read_flow got))) (sym p) m1 in
      subst (λ (w : Went). Made left' (stand_at (place w.run) (drop w.at (take w.have bytes)) w.flow)) (sym e) m2

  pub line_more : at < have → (place : Run → ListsHeld) (t : Run) (to : ℕ) → place t ≡ held_after a (drop at (take have chunk)) → drop to (take have chunk) ≡ (advance_of 40000 a.place (drop at (take have chunk))).left
      → (place t).place.known.phase ≡ t.phase → (wrote : Result ⊤ Error) → Answered (write (advance_of 40000 a.place (drop at (take have chunk))).printed wrote) → (w : Went) → w ≡ after_write t to have wrote → Made left' (stand_at (place w.run) (drop w.at (take w.have chunk)) w.flow)
  unfolding after_write
  line_more h place t to e f p wrote g w said =
      let on : ListsHeld → List ℕ → Bool → Phase → Type 0 = λ z l u f. Made left' (stand_at z l (write_flow wrote (u && is_over f))) in
      let v = advance_of 40000 a.place (drop at (take have chunk)) in
      let rest = drop to (take have chunk) in
      let m1 : on (held_after a (drop at (take have chunk))) v.left (used_up v.left) v.place.known.phase = turn_more left left' fewer m going wrote g (used at ∙ lt-leb have at h) in
      let m2 : on (place t) v.left (used_up v.left) (place t).place.known.phase = subst (λ (z : ListsHeld). on z v.left (used_up v.left) z.place.known.phase) (sym e) m1 in
      let m3 : on (place t) rest (used_up rest) (place t).place.known.phase = subst (λ (l : List ℕ). on (place t) l (used_up l) (place t).place.known.phase) (sym f) m2 in
      let m4 : on (place t) rest (leb have to) (place t).place.known.phase = subst (λ (u : Bool). on (place t) rest u (place t).place.known.phase) (used to) m3 in
      let m5 : on (place t) rest (leb have to) t.phase = subst (on (place t) rest (leb have to)) p m4 in
      subst (λ (w : Went). Made left' (stand_at (place w.run) (drop w.at (take w.have chunk)) w.flow)) (sym said) m5

-- where the calls lead from a place, by what was answered alone
abbrev led_by : List Call → Stand → Stand
led_by [] a = a
led_by (read got bytes ∷ cs) a = led_by cs (reading a got bytes)
led_by (write text wrote ∷ cs) a = led_by cs (wrote_turn a wrote)

came_to : {a z : Stand} {cs : List Call} → Ran a cs z → z ≡ led_by cs a
came_to none = refl
came_to (reads got bytes h e f m) = came_to m
came_to (turns wrote h e f m) = came_to m

-- What the system answered decides all: two runs of the same calls come to the same place, lists and all
pub same_end : {a z y : Stand} {cs : List Call} → Ran a cs z → Ran a cs y → z ≡ y
same_end m n = came_to m ∙ sym (came_to n)

-- ---- what the calls wrote

-- where the text has ended, nothing is left of the chunk
abbrev AllRead : Stand → Type 0
AllRead a = a.flow ≡ Ended → used_up a.rest ≡ true

abbrev ended : Flow → Bool
ended More = false
ended Ended = true
ended Unread = false
ended Unwritten = false

nothing_read : (got : Result ℕ Error) (bytes : List ℕ) → read_flow got ≡ Ended → used_up (take (result_unwrap_or got 0) bytes) ≡ true
nothing_read (Ok zero) bytes e = refl
nothing_read (Ok (suc k)) bytes e = absurd (subst T (sym (ap ended e)) tt)
nothing_read (Err x) bytes e = absurd (subst T (sym (ap ended e)) tt)

nothing_left : (wrote : Result ⊤ Error) (u o : Bool) → write_flow wrote (u && o) ≡ Ended → u ≡ true
nothing_left (Err x) u o e = absurd (subst T (sym (ap ended e)) tt)
nothing_left (Ok x) true o e = refl
nothing_left (Ok x) false o e = absurd (subst T (sym (ap ended e)) tt)

all_read : {a z : Stand} {cs : List Call} → Ran a cs z → AllRead a → AllRead z
all_read none h = h
all_read (reads got bytes g e f m) h = all_read m (nothing_read got bytes)
all_read {a} (turns wrote g e f m) h = all_read m (nothing_left wrote (used_up (turn_at a).left) (is_over (turn_at a).place.known.phase))

empty : (xs : List ℕ) → used_up xs ≡ true → xs ≡ []
empty [] e = refl
empty (x ∷ xs) e = absurd (subst T (sym e) tt)

-- they are turns of the machine over what was read
makes : {a z : Stand} {cs : List Call} → Ran a cs z → z.rest ≡ [] → Makes 40000 a.held.place (a.rest ∷ read_in cs) (written_in cs) z.held.place
unfolding read_in written_in
makes none e = rw e (next done)
makes {a} (reads {cs = cs} got bytes g h u m) e = rw (empty a.rest u) (next (makes m e))
makes (turns wrote g h u m) e = goes (makes m e)

-- Where the program ends with the text: what it was to write, and then what it writes last, is the output that document 01 gives what it read
pub whole_output : {calls : List Call} {z : Stand} → Ran start_stand calls z → z.flow ≡ Ended
    → written_in calls ++ closing z.held.place.known.phase z.held.place.have ≡ output_of (joined (read_in calls))
unfolding joined
whole_output {z = z} m e = program (makes m (empty z.rest (all_read m (λ _. refl) e)))
