-- What an entry of a loaded set's table may be. Definitions only; the theorems are in proofs/.
use Rattle.std.specs.Prelude.{◌≡◌, ◌⊎◌, ℕ, ◌<◌}
use Rattle.neighbors.specs.declared.Reached.{Reached}
use Rattle.neighbors.specs.declared.Reached.TheVariants.{At, Absent, Refused}
use Rattle.neighbors.specs.Neighbors.{absent_mark}

-- the number of a measurement other than its own, or absent; never refused
abbrev pub Settles : ℕ → ℕ → Reached → Type 0
Settles m own (At n) = (n < m) × (n ≡ own → ⊥)
Settles m own Absent = Unit
Settles m own (Refused refusal) = ⊥

-- the same of the number that the table holds
abbrev pub Entry : ℕ → ℕ → ℕ → Type 0
Entry m own n = (n ≡ absent_mark) ⊎ ((n < m) × (n ≡ own → ⊥))
