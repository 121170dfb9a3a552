use native.Mathlib.Omega.{arith}
use borrow.Author.Tests.{eq-eqb, ne_eqb}
use lib.Ieee.{round, of_bits, neg}
use Rattle.limits.specs.Allowed.{position_ok, cartesian_ok, radius_ok, angle_ok, within}
use Rattle.limits.proofs.position_ok.Goals as goal

pub returns-in-0 : goal.returns-in-0
unfolding position_ok cartesian_ok within round of_bits neg
returns-in-0 c = simp c.in-0.is c.between.ensures

pub returns-then-i-eq2 : goal.returns-then-i-eq2
unfolding position_ok radius_ok round of_bits neg
returns-then-i-eq2 c = simp (c.in-1.is, eq-eqb _ 2 c.if-i-eq2.true) c.between-then-i-eq2.ensures

pub returns-else-i-eq2 : goal.returns-else-i-eq2
unfolding position_ok angle_ok within round of_bits neg
returns-else-i-eq2 c = simp (c.in-1.is, ne_eqb _ 2 c.if-i-eq2.false) c.between-else-i-eq2.ensures

pub returns-in_default : goal.returns-in_default
unfolding position_ok
returns-in_default c = simp (ne_eqb c.args.kind 0 (λ e. omega arith), ne_eqb c.args.kind 1 (λ e. omega arith))
