use Rattle.std.proofs.Common.{◌≡◌, ◌^◌, ◌<◌, length, drop}
use Rattle.text.specs.Number.{hex_of, num_from}
use Rattle.text.proofs.hex.Given as goal

abbrev pub invariant-loop-b : goal.invariant-loop-b
invariant-loop-b l = (length l.s ≡ 8) × (l.v < 16 ^ l.b-index) × (num_from 16 l.v (drop l.b-index l.s) ≡ hex_of l.s)
