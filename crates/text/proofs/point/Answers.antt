-- `text::point` meets its contract. Assumes nothing.
use mathlib.Core.Path.{◌≡◌, sym}
use native.Mathlib.Omega.{arith}
use lib.Dec.{lit<}
use Prim.Native.Nat.{ℕ, ◌≤◌}
use mathlib.Core.List.{List}
use mathlib.Core.Bool.{true}
use lib.ListN.{length}
use Rattle.text.proofs.Reading.{measured}
use Rattle.text.specs.Values.{values_ok}
use Rattle.text.specs.Keys.{point_read}
use Rattle.text.proofs.Keys.{point_in_lem}
use Rattle.text.proofs.point.Goals as goal

-- three values and two commas
long : (s : List ℕ) → values_ok s 3 ≡ true → 26 ≤ length s
long s h = omega (arith, measured s 3 (lit< tt) h)

pub returns-then-not-values_ok : goal.returns-then-not-values_ok
unfolding point_read
returns-then-not-values_ok c = rw (sym c.if-not-values_ok.ensures)

pub value_at-requires : goal.value_at-requires
value_at-requires c = omega (arith, long c.args.s.now (sym c.if-not-values_ok.ensures))

pub value_at-requires-2 : goal.value_at-requires-2
value_at-requires-2 c = omega (arith, long c.args.s.now (sym c.if-not-values_ok.ensures))

pub value_at-requires-3 : goal.value_at-requires-3
value_at-requires-3 c = omega (arith, long c.args.s.now (sym c.if-not-values_ok.ensures))

pub returns : goal.returns
returns c =
    point_in_lem c.args.s.now _ _ _ (sym c.if-not-values_ok.ensures) c.value_at.ensures c.value_at-2.ensures c.value_at-3.ensures
