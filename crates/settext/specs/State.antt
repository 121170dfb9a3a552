-- What is known of the text between two lines, and how a line that is well formed changes it. Definitions only.
use Rattle.std.specs.Prelude.{ℕ, ◌+◌, ◌*◌, min, cond, eqb, Float}
use Rattle.floats.specs.Floats.{zero32}
use Rattle.settext.specs.declared.State.{State}
use Rattle.settext.specs.declared.Step.{Step}
use Rattle.settext.specs.declared.Step.TheVariants.{Next, Complete, Malformed}

-- before the first line
abbrev pub start_state : State
start_state = record { lines = 0; kind = 255; m = 0; r = 0; n = 0; delays = 0; rate = zero32; astep = zero32; rstep = zero32 }

-- the number of the line that comes next, from 1. It stays at 2^64 - 1, more lines than can come
unfoldable pub line_number : State → ℕ
line_number s = min (s.lines + 1) 18446744073709551615

-- how many keys there are
abbrev pub key_count : ℕ
key_count = 9

-- how many lines the set takes: the keys, then the `pos`, `ir` and `delay` lines
unfoldable pub line_count : State → ℕ
line_count s = key_count + s.m + s.m * s.r + s.delays

abbrev pub set_lines : State → ℕ → State
set_lines s v = record { lines = v; kind = s.kind; m = s.m; r = s.r; n = s.n; delays = s.delays; rate = s.rate; astep = s.astep; rstep = s.rstep }

abbrev pub set_kind : State → ℕ → State
set_kind s v = record { lines = s.lines; kind = v; m = s.m; r = s.r; n = s.n; delays = s.delays; rate = s.rate; astep = s.astep; rstep = s.rstep }

abbrev pub set_m : State → ℕ → State
set_m s v = record { lines = s.lines; kind = s.kind; m = v; r = s.r; n = s.n; delays = s.delays; rate = s.rate; astep = s.astep; rstep = s.rstep }

abbrev pub set_r : State → ℕ → State
set_r s v = record { lines = s.lines; kind = s.kind; m = s.m; r = v; n = s.n; delays = s.delays; rate = s.rate; astep = s.astep; rstep = s.rstep }

abbrev pub set_n : State → ℕ → State
set_n s v = record { lines = s.lines; kind = s.kind; m = s.m; r = s.r; n = v; delays = s.delays; rate = s.rate; astep = s.astep; rstep = s.rstep }

abbrev pub set_delays : State → ℕ → State
set_delays s v = record { lines = s.lines; kind = s.kind; m = s.m; r = s.r; n = s.n; delays = v; rate = s.rate; astep = s.astep; rstep = s.rstep }

abbrev pub set_rate : State → Float → State
set_rate s v = record { lines = s.lines; kind = s.kind; m = s.m; r = s.r; n = s.n; delays = s.delays; rate = v; astep = s.astep; rstep = s.rstep }

abbrev pub set_astep : State → Float → State
set_astep s v = record { lines = s.lines; kind = s.kind; m = s.m; r = s.r; n = s.n; delays = s.delays; rate = s.rate; astep = v; rstep = s.rstep }

abbrev pub set_rstep : State → Float → State
set_rstep s v = record { lines = s.lines; kind = s.kind; m = s.m; r = s.r; n = s.n; delays = s.delays; rate = s.rate; astep = s.astep; rstep = v }

-- the line is counted
abbrev pub counted : State → State
counted s = set_lines s (line_number s)

-- a line of the set was well formed: it may be the set's last
unfoldable pub went_of : State → Step
went_of s = cond (eqb (line_number s) (line_count s)) (Complete (counted s)) (Next (counted s))

unfoldable pub bad_of : State → Step
bad_of s = Malformed (line_number s)
