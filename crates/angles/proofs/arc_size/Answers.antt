-- `angles::arc_size` meets its contract. Assumes nothing.
use Rattle.std.proofs.Common.{ℕ, ◌<◌, sym, subst}
use Rattle.angles.proofs.Seek.{sought}
use Rattle.angles.proofs.arc_size.Goals as goal

pub angle_of-requires : goal.angle_of-requires
angle_of-requires c = subst (λ (z : ℕ). z < 13176795) (sym c.seek_from.ensures) (sought c.args.t).few
