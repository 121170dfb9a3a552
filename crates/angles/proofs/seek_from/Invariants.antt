use Rattle.std.proofs.Common.{◌≡◌, ◌-◌, ◌≤◌}
use Rattle.sines.specs.Steps.{seek}
use Rattle.angles.proofs.seek_from.Given as goal

abbrev pub invariant-loop : goal.invariant-loop
invariant-loop l = (l.lo ≤ 13176795) × ((l.hi ≤ 13176795) × (seek 24 l.t 0 13176795 ≡ seek (24 - l.counter) l.t l.lo l.hi))
