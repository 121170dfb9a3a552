-- The number of a direction: where its entry stands among the six of a measurement. Definitions only.
use Rattle.std.specs.Prelude.{ℕ}
use Rattle.neighbors.specs.declared.Direction.{Direction}
use Rattle.neighbors.specs.declared.Direction.TheVariants.{AzimuthUp, AzimuthDown, ElevationUp, ElevationDown, RadiusUp, RadiusDown}

abbrev pub number_of : Direction → ℕ
number_of AzimuthUp = 0
number_of AzimuthDown = 1
number_of ElevationUp = 2
number_of ElevationDown = 3
number_of RadiusUp = 4
number_of RadiusDown = 5
