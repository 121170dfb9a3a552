-- Form 1 of a set's text, from document 01's "The query program": the keys in their order with a rule for each, then the lines of the set,
-- then queries. Which line is wanted follows from how many were read. Definitions only.
use Rattle.std.specs.Prelude.{ℕ, ◌-◌, ◌*◌, Bool, cond, ◌||◌, not, List, [], ◌∷◌, eqb, leb, ltb, length, get_or, drop, Float, Option, Some, None, Result, Ok, Err}
use Rattle.points.specs.declared.Point3.{Point3}
use Rattle.text.specs.Number.{begins, count_of, hex_of}
use Rattle.text.specs.Values.{value_of, stored}
use Rattle.text.specs.Words.{bytes}
use Rattle.text.specs.Keys.{exactly_of, num_behind, values_fit, point_behind}
use Rattle.settext.specs.declared.State.{State}
use Rattle.settext.specs.declared.Step.{Step}
use Rattle.settext.specs.declared.Step.TheVariants.{Query}
use Rattle.settext.specs.State.{key_count, line_number, line_count, counted, went_of, bad_of, set_kind, set_m, set_r, set_n, set_delays, set_rate, set_astep, set_rstep}

-- ---- the keys

-- what a key's line says goes into the state, or it is malformed
abbrev pub gives : State → (ℕ → State) → Option ℕ → Step
gives s put (Some v) = went_of (put v)
gives s put None = bad_of s

abbrev pub when : Bool → State → State → Step
when good s t = cond good (went_of t) (bad_of s)

-- the two known words; any other, also an empty or odd one, is kind 255
unfoldable pub kind_of : List ℕ → ℕ
kind_of word = cond (exactly_of (bytes "cartesian") word) 0 (cond (exactly_of (bytes "spherical") word) 1 255)

-- m·r·n is at most 4096
unfoldable pub product : State → Option ℕ → Option ℕ
product s (Some n) = cond (leb (s.m * s.r * n) 4096) (Some n) None
product s None = None

unfoldable pub form_line : State → List ℕ → Step
form_line s l = when (exactly_of (bytes "form=1") l) s s

unfoldable pub kind_line : State → List ℕ → Step
kind_line s l = when (begins (bytes "kind=") l) s (set_kind s (kind_of (drop 5 l)))

unfoldable pub m_line : State → List ℕ → Step
m_line s l = gives s (set_m s) (num_behind (bytes "m=") (count_of 256) l)

unfoldable pub r_line : State → List ℕ → Step
r_line s l = gives s (set_r s) (num_behind (bytes "r=") (count_of 4096) l)

unfoldable pub n_line : State → List ℕ → Step
n_line s l = gives s (set_n s) (product s (num_behind (bytes "n=") (count_of 4096) l))

unfoldable pub rate_line : State → List ℕ → Step
rate_line s l = gives s (λ v. set_rate s (value_of v)) (num_behind (bytes "rate=") hex_of l)

unfoldable pub astep_line : State → List ℕ → Step
astep_line s l = gives s (λ v. set_astep s (value_of v)) (num_behind (bytes "astep=") hex_of l)

unfoldable pub rstep_line : State → List ℕ → Step
rstep_line s l = gives s (λ v. set_rstep s (value_of v)) (num_behind (bytes "rstep=") hex_of l)

unfoldable pub delays_line : State → List ℕ → Step
delays_line s l = gives s (set_delays s) (num_behind (bytes "delays=") (count_of 4096) l)

-- the keys in their order
abbrev pub keys : List (State → List ℕ → Step)
keys = form_line ∷ kind_line ∷ m_line ∷ r_line ∷ n_line ∷ rate_line ∷ astep_line ∷ rstep_line ∷ delays_line ∷ []

unfoldable pub key_line : State → List ℕ → Step
key_line s l = get_or keys s.lines (λ s l. bad_of s) s l

-- ---- the set and the queries

-- the numbers of the set
pub record TextLists : Type 0 where
  pub positions : List Float
  pub responses : List Float
  pub delays : List Float

abbrev pub text_lists : List Float → List Float → List Float → TextLists
text_lists p r d = record { positions = p; responses = r; delays = d }

pub record After : Type 0 where
  pub step : Step
  pub lists : TextLists

-- n values behind a key that go to place `at` of a list: the step, and the list afterwards. A malformed line writes nothing
unfoldable pub values_step : State → List ℕ → List ℕ → ℕ → ℕ → List Float → Step
values_step s key l n at d = when (values_fit key n at l d) s s

unfoldable pub values_list : List ℕ → List ℕ → ℕ → ℕ → List Float → List Float
values_list key l n at d = stored (values_fit key n at l d) (drop (length key) l) n at d

abbrev pub asked : State → Option Point3 → Step
asked s (Some p) = Query (counted s) p
asked s None = bad_of s

unfoldable pub query_line : State → List ℕ → Step
query_line s l = asked s (point_behind (bytes "query=") l)

abbrev pub pos_line : State → List ℕ → TextLists → ℕ → After
pos_line s l d i = record {
  step = values_step s (bytes "pos=") l 3 (3 * i) d.positions;
  lists = text_lists (values_list (bytes "pos=") l 3 (3 * i) d.positions) d.responses d.delays;
}

abbrev pub ir_line : State → List ℕ → TextLists → ℕ → After
ir_line s l d i = record {
  step = values_step s (bytes "ir=") l s.n (i * s.n) d.responses;
  lists = text_lists d.positions (values_list (bytes "ir=") l s.n (i * s.n) d.responses) d.delays;
}

abbrev pub delay_line : State → List ℕ → TextLists → ℕ → After
delay_line s l d i = record {
  step = values_step s (bytes "delay=") l 1 i d.delays;
  lists = text_lists d.positions d.responses (values_list (bytes "delay=") l 1 i d.delays);
}

abbrev pub after_as : Step → TextLists → After
after_as t d = record { step = t; lists = d }

-- One line: the nine keys, m `pos` lines, m·r `ir` lines of n values, `delays` delay lines, then queries
unfoldable pub line_of : State → List ℕ → TextLists → After
line_of s l d =
    cond (ltb s.lines key_count) (after_as (key_line s l) d)
    (cond (ltb (s.lines - key_count) s.m) (pos_line s l d (s.lines - key_count))
    (cond (ltb (s.lines - key_count - s.m) (s.m * s.r)) (ir_line s l d (s.lines - key_count - s.m))
    (cond (ltb (s.lines - key_count - s.m - s.m * s.r) s.delays) (delay_line s l d (s.lines - key_count - s.m - s.m * s.r))
    (after_as (query_line s l) d))))

-- ---- the end

-- the text may end after the set's last line or a query, with nothing after the last newline
unfoldable pub end_of : State → List ℕ → Result Unit ℕ
end_of s rest = cond (ltb s.lines (line_count s) || not (eqb (length rest) 0)) (Err (line_number s)) (Ok tt)
