use Rattle.std.proofs.Common.{◌≡◌, ◌-◌, length}
use Rattle.clearing.specs.Clearing.{nearest_listed}
use Rattle.clearing.proofs.nearest_in.Given as goal

-- what is left to look at, from here on
abbrev pub invariant-loop-n : goal.invariant-loop-n
invariant-loop-n l =
    nearest_listed l.xs l.m l.q l.n-items (length l.n-items - l.n-index) l.n-index l.s ≡ nearest_listed l.xs l.m l.q l.n-items (length l.n-items) 0 l.initial.s
