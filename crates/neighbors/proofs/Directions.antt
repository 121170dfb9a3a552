-- The directions stand in the order of their numbers. Assumes nothing.
use Rattle.std.proofs.Common.{◌≡◌, ℕ, zero, suc, ◌<◌, List, [], ◌∷◌, get_or, refl, arith}
use Rattle.neighbors.specs.declared.Direction.{Direction}
use Rattle.neighbors.specs.declared.Direction.TheVariants.{AzimuthUp, AzimuthDown, ElevationUp, ElevationDown, RadiusUp, RadiusDown}
use denote.Enum.Declared.{tag_of}
use Rattle.neighbors.specs.contracts.Direction.{the_type}
use Rattle.neighbors.specs.Directions.{number_of}

abbrev pub all : List Direction
all = AzimuthUp ∷ AzimuthDown ∷ ElevationUp ∷ ElevationDown ∷ RadiusUp ∷ RadiusDown ∷ []

pub number_at : (i : ℕ) → i < 6 → number_of (get_or all i AzimuthUp) ≡ i
number_at zero h = refl
number_at (suc zero) h = refl
number_at (suc (suc zero)) h = refl
number_at (suc (suc (suc zero))) h = refl
number_at (suc (suc (suc (suc zero)))) h = refl
number_at (suc (suc (suc (suc (suc zero))))) h = refl
number_at (suc (suc (suc (suc (suc (suc i)))))) h = absurd (omega arith)

-- as the code counts them
pub tag_at : (i : ℕ) → i < 6 → tag_of the_type (get_or all i AzimuthUp) ≡ i
tag_at zero h = refl
tag_at (suc zero) h = refl
tag_at (suc (suc zero)) h = refl
tag_at (suc (suc (suc zero))) h = refl
tag_at (suc (suc (suc (suc zero)))) h = refl
tag_at (suc (suc (suc (suc (suc zero))))) h = refl
tag_at (suc (suc (suc (suc (suc (suc i)))))) h = absurd (omega arith)
