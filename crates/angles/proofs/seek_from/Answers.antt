-- `angles::seek_from` meets its contract. Assumes nothing.
use Rattle.std.proofs.Common.{sym, ◌∙◌, arith}
use Rattle.sines.proofs.Bounds.{sin_got, cos_got}
use Rattle.angles.proofs.Seek.{turn_yes, turn_no, seek_end, fits_one, fits_two}
use Rattle.angles.proofs.seek_from.Goals.{then-s-t, else-s-t}
use Rattle.angles.proofs.seek_from.Goals as goal

pub overflow_mul-s : goal.overflow_mul-s
overflow_mul-s c = record { fits = fits_one c.sin_fix-s.result (sin_got _ c.sin_fix-s.result (omega arith) c.sin_fix-s.ensures) }

pub overflow_mul-t : goal.overflow_mul-t
overflow_mul-t c = record { fits = fits_two _ c.cos_fix-k.result c.requires (cos_got _ c.cos_fix-k.result c.cos_fix-k.ensures) }

pub loop-preserved : goal.loop-preserved
loop-preserved c =
    let held = c.loop.invariant.1.1 in
    elim c.if-s-t.branch [
      | then-s-t w ↦
          (omega arith, (omega arith, held ∙ turn_yes c.loop.counter c.args.t c.loop.lo c.loop.hi c.if-s-t.lo c.if-s-t.hi c.sin_fix-s.result c.cos_fix-k.result c.loop-test.true c.sin_fix-s.ensures c.cos_fix-k.ensures w.if-s-t.true w.lo-is w.hi-is))
      | else-s-t w ↦
          (omega arith, (omega arith, held ∙ turn_no c.loop.counter c.args.t c.loop.lo c.loop.hi c.if-s-t.lo c.if-s-t.hi c.sin_fix-s.result c.cos_fix-k.result c.loop-test.true c.sin_fix-s.ensures c.cos_fix-k.ensures w.if-s-t.false w.lo-is w.hi-is))
    ]

pub returns : goal.returns
returns c = sym (c.loop.invariant.1.1 ∙ seek_end c.loop.counter _ c.loop.lo c.loop.hi c.loop-test.false)
