use Rattle.std.proofs.Common.{◌≡◌, ◌*◌, ◌++◌, take, drop}
use Rattle.coords.specs.Arrays.{turned, by_triplets}
use Rattle.coords.proofs.convert_triplets.Given as goal

abbrev pub invariant-loop-place : goal.invariant-loop-place
invariant-loop-place l = take (3 * l.place) l.values ++ by_triplets (turned l.kind) (drop (3 * l.place) l.values) ≡ by_triplets (turned l.kind) l.initial.values
