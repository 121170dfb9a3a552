use native.Mathlib.Omega.{arith}
use Rattle.lookup.proofs.Laws as laws
use Rattle.lookup.proofs.Lookup.measured.Goals as goal

pub loop-i-init : goal.loop-i-init
loop-i-init c =
    laws.measured_first c.args.positions.now c.point_at-first.result _ _ _ _ c.point_at-first.ensures c.new-bounds.ensures c.cartesian_to_spherical.ensures c.unmeasured.ensures
    c.widened-look.ensures

pub loop-i-preserved : goal.loop-i-preserved
loop-i-preserved c =
    let l = c.loop-i in
    laws.measured_more c.args.positions.now l.i c.point_at-p.result l.look _ _ _ (omega arith) l.invariant c.point_at-p.ensures c.extend.ensures
    c.cartesian_to_spherical-in-loop-i.ensures c.widened-look-in-loop-i.ensures
