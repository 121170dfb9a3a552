-- The limits that the counts of a text keep between two lines: document 01's, and that n is 0 until it is read. Definitions only.
use Rattle.std.specs.Prelude.{ℕ, ◌*◌, ◌≤◌, ◌<◌, ◌≡◌}
use Rattle.settext.specs.declared.State.{State}
use Rattle.settext.specs.declared.Step.{Step}
use Rattle.settext.specs.declared.Step.TheVariants.{Next, Complete, Query, Malformed}
use Rattle.settext.specs.State.{start_state}

-- the number of lines read, n, m, r and the count of delays
pub record Kept (k n m r d : ℕ) : Type 0 where
  pub taps : n ≤ 4096
  pub points : m ≤ 256
  pub product : m * r * n ≤ 4096
  -- n is not read before the fifth line
  pub unread : k < 5 → n ≡ 0
  pub delays : d ≤ 4096

abbrev pub Reached : State → Type 0
Reached s = Kept s.lines s.n s.m s.r s.delays

-- the state after a line; nothing is read after a malformed one
abbrev pub state_of : Step → State
state_of (Next s) = s
state_of (Complete s) = s
state_of (Query s p) = s
state_of (Malformed k) = start_state

abbrev pub Few : Step → Type 0
Few t = Reached (state_of t)
