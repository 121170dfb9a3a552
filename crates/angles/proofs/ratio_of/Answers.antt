-- `angles::ratio_of` meets its contract. Assumes nothing.
use lib.Ieee.{of_bits}
use Rattle.angles.specs.Arc.{ratio_of}
use Rattle.angles.proofs.ratio_of.Goals as goal

pub truncating_f32_to_u64-requires : goal.truncating_f32_to_u64-requires
unfolding of_bits
truncating_f32_to_u64-requires c = record { lower_bound = c.requires.0; upper_bound = c.requires.1 }

pub returns : goal.returns
unfolding ratio_of of_bits
returns c = cc
