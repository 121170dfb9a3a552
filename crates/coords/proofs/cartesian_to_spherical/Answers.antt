-- `cartesian_to_spherical` meets its contract. Assumes nothing.
use Rattle.std.proofs.Common.{◌≡◌, true, subst, sym}
use lib.Ieee.{Float, binary32, add, mul, lt, of_bits}
use Rattle.floats.specs.Floats.{zero32}
use Rattle.coords.specs.Coords.{per_radian, full32, two_turns, spherical_of}
use Rattle.coords.proofs.Arcs.{raised_between}
use Rattle.coords.proofs.cartesian_to_spherical.Goals as goal

pub below_turn-requires : goal.below_turn-requires
unfolding of_bits
below_turn-requires c =
    subst (λ (a : Float). (lt zero32 (add binary32 (mul binary32 a per_radian) full32) ≡ true) × (lt (add binary32 (mul binary32 a per_radian) full32) two_turns ≡ true)) (sym c.atan2-phi.ensures) (raised_between c.args.p.y c.args.p.x)

pub returns : goal.returns
unfolding spherical_of
returns c = rw (c.below_turn.ensures, c.atan2-phi.ensures, c.atan2-theta.ensures, c.root.ensures, c.radius.ensures)
