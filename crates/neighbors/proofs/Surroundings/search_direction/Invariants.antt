use Rattle.std.proofs.Common.{◌≡◌, ◌-◌}
use Rattle.neighbors.specs.Neighbors.{tilted}
use Rattle.neighbors.proofs.Fixed.{Kept}
use Rattle.neighbors.proofs.Going.{go}
use Rattle.neighbors.proofs.Surroundings.search_direction.Given as goal

abbrev pub invariant-loop-i : goal.invariant-loop-i
invariant-loop-i l = record {
  rest : go l.self l.from l.step (l.cap - l.i) l.i ≡ go l.self l.from l.step l.cap 0;
  azimuth : Kept (λ x. x) l.from.azimuth l.step.azimuth l.i l.phi;
  elevation : Kept tilted l.from.elevation l.step.elevation l.i l.theta;
}
