-- Before the last line of the set no line is a query, and after it no line is anything else but malformed: so each query meets a loaded set, and the
-- phase `Ready` is left only at the end (`in_order`, `no_query_yet`, `only_queries`; of every text, from the beginning: `text_in_order`). Assumes nothing.
use Prim.Native.Nat.{ℕ, zero, suc, ◌-◌, ◌*◌, ◌≤◌, ◌<◌}
use mathlib.Core.Path.{◌≡◌, refl}
use mathlib.Core.Bool.{Bool, true, false, cond}
use mathlib.Core.List.{List, [], ◌∷◌}
use native.Mathlib.Omega.{arith}
use lib.Dec.{T, eqb, ltb}
use lib.ListN.{length, get_or, drop}
use borrow.Author.Tests.{ltb-true, ltb-false, le-ltb, eqb-true, eqb-false}
use Rattle.std.specs.Prelude.{Option, Some, None, Result, Ok, Err}
use Rattle.points.specs.declared.Point3.{Point3}
use Rattle.text.specs.Number.{begins, count_of, hex_of}
use Rattle.text.specs.Values.{value_of}
use Rattle.text.specs.Words.{bytes}
use Rattle.text.specs.Keys.{exactly_of, values_fit, num_behind, point_behind}
use Rattle.settext.specs.declared.State.{State}
use Rattle.settext.specs.declared.Step.{Step}
use Rattle.settext.specs.declared.Step.TheVariants.{Next, Complete, Query, Malformed}
use Rattle.settext.specs.State.{start_state, line_number, line_count, counted, went_of, bad_of, set_kind, set_m, set_r, set_n, set_delays, set_rate, set_astep, set_rstep}
use Rattle.settext.specs.Lines.{TextLists, gives, asked, when, after_as, pos_line, ir_line, delay_line, product, kind_of, keys, key_line, form_line, kind_line, m_line, r_line, n_line, rate_line, astep_line, rstep_line, delays_line, values_step, query_line, line_of}
use Rattle.text.specs.Machine.{reads}
use Rattle.lookup.specs.declared.Lookup.{Lookup}
use Rattle.refusals.specs.declared.Refusal.{Refusal}
use Rattle.loads.specs.Load.{Work}
use Rattle.answers.specs.Answers.{set_of}
use Rattle.queries.specs.declared.runs.Phase.{Phase}
use Rattle.queries.specs.declared.runs.Phase.TheVariants.{Reading, Ready, Over}
use Rattle.queries.specs.Program.{Session, Known, known_as, state_in, load_turn, step_turn, after_turn, line_turn, ended, on_line, begun}

-- ---- a line of the set

-- what a line can be before the set's last line was read
abbrev pub Placed : Step → Type 0
Placed (Next t) = t.lines < line_count t
Placed (Complete t) = (line_count t ≤ t.lines) × (t.lines ≤ 18446744073709551615)
Placed (Query t q) = ⊥
Placed (Malformed k) = T true

few_lines : (s : State) → line_number s ≤ 18446744073709551615
unfolding line_number
few_lines s = omega arith

apart : (a b : ℕ) → a ≤ b → (a ≡ b → ⊥) → a < b
apart a b h g = omega arith

went : (s : State) → line_number s ≤ line_count s → Placed (went_of s)
unfolding went_of line_count
went s h = by (eqb (line_number s) (line_count s)) refl
  where
    by : (b : Bool) → eqb (line_number s) (line_count s) ≡ b → Placed (cond b (Complete (counted s)) (Next (counted s)))
    by true e = let g : line_number s ≡ line_count s = eqb-true (line_number s) (line_count s) e in (omega arith, few_lines s)
    by false e = let g : line_number s ≡ line_count s → ⊥ = eqb-false (line_number s) (line_count s) e in apart (line_number s) (line_count s) h g

bad : (s : State) → Placed (bad_of s)
unfolding bad_of
bad s = tt

if_good : (b : Bool) (s t : State) → line_number t ≤ line_count t → Placed (when b s t)
if_good true s t h = went t h
if_good false s t h = bad s

if_given : (s : State) (put : ℕ → State) (x : Option ℕ) → ((v : ℕ) → line_number (put v) ≤ line_count (put v)) → Placed (gives s put x)
if_given s put (Some v) h = went (put v) (h v)
if_given s put None h = bad s

-- a key comes before the end of the set
small : (t : State) → t.lines < 9 → line_number t ≤ line_count t
unfolding line_number line_count
small t h = omega arith

-- the line is counted, and not past the end
within : (s : State) → s.lines < line_count s → line_number s ≤ line_count s
unfolding line_number
within s h = omega arith

-- past the last delay line the set is whole
past : (s : State) → 9 ≤ s.lines → s.m ≤ s.lines - 9 → s.m * s.r ≤ s.lines - 9 - s.m → s.delays ≤ s.lines - 9 - s.m - s.m * s.r → line_count s ≤ s.lines
unfolding line_count
past s p q r t = omega arith

none : (a b : ℕ) → a < b → b ≤ a → ⊥
none a b h g = omega arith

module _ (s : State) (l : List ℕ) where
  key : (i : ℕ) → s.lines ≡ i → s.lines < 9 → Placed (get_or keys i (λ s l. bad_of s) s l)
  unfolding form_line kind_line m_line r_line n_line rate_line astep_line rstep_line delays_line
  key zero o h = if_good (exactly_of (bytes "form=1") l) s s (small s h)
  key (suc zero) o h = if_good (begins (bytes "kind=") l) s (set_kind s (kind_of (drop 5 l))) (small (set_kind s (kind_of (drop 5 l))) h)
  key (suc (suc zero)) o h = if_given s (set_m s) (num_behind (bytes "m=") (count_of 256) l) (λ v. small (set_m s v) h)
  key (suc (suc (suc zero))) o h = if_given s (set_r s) (num_behind (bytes "r=") (count_of 4096) l) (λ v. small (set_r s v) h)
  key (suc (suc (suc (suc zero)))) o h = if_given s (set_n s) (product s (num_behind (bytes "n=") (count_of 4096) l)) (λ v. small (set_n s v) h)
  key (suc (suc (suc (suc (suc zero))))) o h = if_given s (λ v. set_rate s (value_of v)) (num_behind (bytes "rate=") hex_of l) (λ v. small (set_rate s (value_of v)) h)
  key (suc (suc (suc (suc (suc (suc zero)))))) o h = if_given s (λ v. set_astep s (value_of v)) (num_behind (bytes "astep=") hex_of l) (λ v. small (set_astep s (value_of v)) h)
  key (suc (suc (suc (suc (suc (suc (suc zero))))))) o h = if_given s (λ v. set_rstep s (value_of v)) (num_behind (bytes "rstep=") hex_of l) (λ v. small (set_rstep s (value_of v)) h)
  key (suc (suc (suc (suc (suc (suc (suc (suc zero)))))))) o h = if_given s (set_delays s) (num_behind (bytes "delays=") (count_of 4096) l) (λ v. small (set_delays s v) h)
  key (suc (suc (suc (suc (suc (suc (suc (suc (suc i))))))))) o h = bad s

  -- Before the last line of the set: no line is a query
  pub no_query_yet : (d : TextLists) → s.lines < line_count s → Placed (line_of s l d).step
  unfolding line_of key_line values_step
  no_query_yet d h = by (ltb s.lines 9) (ltb i s.m) (ltb j (s.m * s.r)) (ltb e s.delays) refl refl refl refl
    where
      i : ℕ
      i = s.lines - 9

      j : ℕ
      j = i - s.m

      e : ℕ
      e = j - s.m * s.r

      by : (a b c f : Bool) → ltb s.lines 9 ≡ a → ltb i s.m ≡ b → ltb j (s.m * s.r) ≡ c → ltb e s.delays ≡ f
          → Placed (cond a (after_as (key_line s l) d) (cond b (pos_line s l d i) (cond c (ir_line s l d j) (cond f (delay_line s l d e) (after_as (query_line s l) d))))).step
      by true b c f p q r t = key s.lines refl (ltb-true s.lines 9 p)
      by false true c f p q r t = if_good (values_fit (bytes "pos=") 3 (3 * i) l d.positions) s s (within s h)
      by false false true f p q r t = if_good (values_fit (bytes "ir=") s.n (j * s.n) l d.responses) s s (within s h)
      by false false false true p q r t = if_good (values_fit (bytes "delay=") 1 e l d.delays) s s (within s h)
      by false false false false p q r t =
          absurd (none s.lines (line_count s) h (past s (ltb-false s.lines 9 p) (ltb-false i s.m q) (ltb-false j (s.m * s.r) r) (ltb-false e s.delays t)))

  -- After it: only queries are read
  pub only_queries : (d : TextLists) → line_count s ≤ s.lines → line_of s l d ≡ after_as (query_line s l) d
  unfolding line_of line_count
  only_queries d h =
      let i = s.lines - 9 in
      let j = i - s.m in
      let e = j - s.m * s.r in
      let a : ltb s.lines 9 ≡ false = le-ltb s.lines 9 (omega arith) in
      let b : ltb i s.m ≡ false = le-ltb i s.m (omega arith) in
      let c : ltb j (s.m * s.r) ≡ false = le-ltb j (s.m * s.r) (omega arith) in
      let f : ltb e s.delays ≡ false = le-ltb e s.delays (omega arith) in
      rw (a, b, c, f)

-- ---- the phases

-- the set's lines are not all read; they are; nothing more is said
abbrev pub InOrder : Phase → Type 0
InOrder (Reading s) = s.lines < line_count s
InOrder (Ready s look) = (line_count s ≤ s.lines) × (s.lines ≤ 18446744073709551615)
InOrder Over = T true

-- one line more, after the set
one_more : (s : State) → line_count s ≤ s.lines → s.lines ≤ 18446744073709551615 → line_count s ≤ line_number s
unfolding line_number
one_more s h g = omega arith

by_load_lem : (s : State) (d : TextLists) (w : Work) (r : Result Lookup Refusal) → (line_count s ≤ s.lines) × (s.lines ≤ 18446744073709551615) → InOrder (load_turn s d w r).session.phase
by_load_lem s d w (Ok look) h = h
by_load_lem s d w (Err refusal) h = tt

from_set : (s : State) (t : Step) (d : TextLists) (w : Work) → Placed t → InOrder (step_turn (Reading s) t d w).session.phase
from_set s (Next t) d w h = h
from_set s (Complete t) d w h = let l = set_of t d.positions (length d.responses) w in by_load_lem t d l.work l.answer h
from_set s (Query t q) d w h = absurd h
from_set s (Malformed k) d w h = tt

from_end : (t : Step) (d : TextLists) (w : Work) → Placed t → InOrder (step_turn Over t d w).session.phase
from_end (Next t) d w h = tt
from_end (Complete t) d w h = let l = set_of t d.positions (length d.responses) w in by_load_lem t d l.work l.answer h
from_end (Query t q) d w h = tt
from_end (Malformed k) d w h = tt

from_query : (s : State) (look : Lookup) (p : Option Point3) (d : TextLists) (w : Work) → (line_count s ≤ s.lines) × (s.lines ≤ 18446744073709551615)
    → InOrder (step_turn (Ready s look) (asked s p) d w).session.phase
unfolding bad_of line_count
from_query s look (Some p) d w h = let g = one_more s h.0 h.1 in (unfold line_count in g, few_lines s)
from_query s look None d w h = tt

starts : start_state.lines < line_count start_state
unfolding line_count
starts = omega arith

by_phase : (f : Phase) (l : List ℕ) (d : TextLists) (w : Work) → InOrder f → InOrder (after_turn f (line_of (state_in f) l d) w).session.phase
by_phase (Reading s) l d w h = let a = line_of s l d in from_set s a.step a.lists w (no_query_yet s l d h)
by_phase (Ready s look) l d w h = rw (only_queries s l d h.0) (unfold query_line in from_query s look (point_behind (bytes "query=") l) d w h)
by_phase Over l d w h = let a = line_of start_state l d in from_end a.step a.lists w (no_query_yet start_state l d starts)

-- each line keeps the order
pub in_order : (k : Session) (l : List ℕ) → InOrder k.phase → InOrder (line_turn k l).session.phase
unfolding line_turn
in_order k l h = by_phase k.phase l k.lists k.work h

-- and so do all lines of a text
always : (k : Known) (ls : List (List ℕ)) → InOrder k.session.phase → InOrder (reads ended on_line k ls).session.phase
unfolding reads on_line
always k [] h = h
always k (l ∷ ls) h = by (ended k) (always (on_line k l) ls (in_order k.session l h))
  where
    by : (b : Bool) → InOrder (reads ended on_line (on_line k l) ls).session.phase → InOrder (cond b k (reads ended on_line (on_line k l) ls)).session.phase
    by true g = h
    by false g = g

-- from the beginning on
pub text_in_order : (d : TextLists) (w : Work) (ls : List (List ℕ)) → InOrder (reads ended on_line (known_as (begun d w) []) ls).session.phase
text_in_order d w ls = always (known_as (begun d w) []) ls starts
