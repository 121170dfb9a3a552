-- `angles::arc_best` meets its contract. Assumes nothing.
use Rattle.std.proofs.Common.{◌≡◌, ap, ap₂, ◌∙◌}
use lib.Ieee.{Float, of_bits, lt}
use Rattle.floats.specs.Floats.{abs_of}
use Rattle.sines.specs.Sines.{plus_zero}
use Rattle.angles.specs.Guess.{arc_guess}
use Rattle.angles.proofs.Cert.{size_not, best_yes, best_no}
use Rattle.angles.proofs.arc_best.Goals as goal

guessed : (c : goal.After-of) → c.abs-c.result ≡ abs_of (arc_guess (lt c.args.x plus_zero) (abs_of c.args.y) (abs_of c.args.x))
unfolding of_bits
guessed c = c.abs-c.ensures ∙ ap abs_of (c.arc_guess.ensures ∙ ap₂ (λ (u v : Float). arc_guess (lt c.args.x plus_zero) u v) c.abs.ensures c.abs-2.ensures)

pub certifies-requires : goal.certifies-requires
certifies-requires c = size_not c.arc_guess.result c.abs-c.result c.abs-c.ensures

pub returns-then-certifies : goal.returns-then-certifies
unfolding of_bits
returns-then-certifies c =
    let o = c.of in
    best_yes c.args.y c.args.x c.abs-c.result o.result.py o.result.px o.result.back c.certifies.result o.ensures.back o.ensures.py o.ensures.px (guessed c.before.before.before) c.certifies.ensures c.if-certifies.true c.signed.result c.signed.ensures

pub returns-else-certifies : goal.returns-else-certifies
unfolding of_bits
returns-else-certifies c =
    let o = c.of in
    best_no c.args.y c.args.x c.abs-c.result o.result.py o.result.px o.result.back c.certifies.result o.ensures.back o.ensures.py o.ensures.px (guessed c.before.before.before) c.certifies.ensures c.if-certifies.false c.arc.result c.arc.ensures
