-- `sofaquery::main` is safe and ends: it begins with lists of zeros, and ends where `run` came to. Assumes nothing.
use mathlib.Core.Path.{refl}
use lib.Ieee.{of_bits}
use Rattle.sofaquery.proofs.main.Goals as goal

pub run-went-requires : goal.run-went-requires
unfolding of_bits
run-went-requires c = refl
