-- `sines::wave` meets its contract. Assumes nothing.
use Rattle.std.proofs.Common.{ℕ, ◌≤◌, sym, subst, arith, lit≤}
use Rattle.sines.proofs.Range.{below_word}
use Rattle.sines.proofs.Scan.{scan_le}
use Rattle.sines.proofs.Waves.{wave_is}
use Rattle.sines.proofs.wave.Goals as goal

pub fixed-requires : goal.fixed-requires
fixed-requires c = (c.requires.0, lit≤ tt, below_word _ c.requires.1)

small : (c : goal.After-fixed) → c.fixed.result ≤ 17592186044416
small c = subst (λ (z : ℕ). z ≤ 17592186044416) (sym c.fixed.ensures) c.requires.1

few : (c : goal.After-eighth-q) → c.eighth-q.result ≤ 20
few c = scan_le c.fixed.result c.eighth-q.result (small c.before) c.eighth-q.ensures

pub eighth-q-requires : goal.eighth-q-requires
eighth-q-requires c = small c

pub overflow_add-k : goal.overflow_add-k
overflow_add-k c = let h = few c in omega arith

pub rest_64-requires : goal.rest_64-requires
rest_64-requires c = few c

pub returns : goal.returns
returns c = wave_is c.args.a c.fixed.result c.eighth-q.result c.rest_64.result c.fixed.ensures c.eighth-q.ensures c.rest_64.ensures c.args.quarters c.args.minus c.sin_minus.result c.differ.result c.sin_value-v.result c.rounded.result c.sin_value-v.ensures c.sin_minus.ensures c.differ.ensures c.rounded.ensures
