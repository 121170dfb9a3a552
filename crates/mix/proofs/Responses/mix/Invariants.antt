use Rattle.std.proofs.Common.{◌≡◌, take}
use Rattle.floats.specs.Floats.{zero32}
use Rattle.lists.specs.Over.{over, upto}
use Rattle.mix.specs.Mix.{receiver_of, sums, tap_of, sample_of}
use Rattle.mix.proofs.Responses.mix.Given as goal

abbrev pub invariant-loop-p : goal.invariant-loop-p
invariant-loop-p g l = l.sum ≡ sums (tap_of l.self.taps.now l.self.r l.self.n (receiver_of l.ear) l.i) zero32 (take l.p-index l.points)

abbrev pub invariant-loop-i : goal.invariant-loop-i
invariant-loop-i g l = l.out ≡ over (upto (sample_of l.self.taps.now l.self.r l.self.n (receiver_of l.ear) l.points) l.i) l.initial.out
