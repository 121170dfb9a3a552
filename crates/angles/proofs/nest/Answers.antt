-- `angles::nest` meets its contract. Assumes nothing.
use Rattle.std.proofs.Common.{ℕ, ◌≤◌}
use Rattle.std.proofs.lemmas.List.Elements.{All-get_or}
use Rattle.angles.proofs.Nested.{nest_begun, nest_more, nest_fits}
use Rattle.angles.proofs.nest.Goals as goal

pub loop-c-init : goal.loop-c-init
loop-c-init c = nest_begun 1073741824 c.args.t

pub level-h-requires : goal.level-h-requires
level-h-requires c = (c.requires.small, nest_fits 1073741824 c.args.t c.loop-c.h _ c.loop-c.invariant, All-get_or (λ (c : ℕ). 1 ≤ c) c.args.divisors.now c.loop-c.c-index 0 c.loop-c-test.true c.requires.divisors)

pub loop-c-preserved : goal.loop-c-preserved
loop-c-preserved c = nest_more 1073741824 c.args.t c.loop-c.c-index c.loop-c.h c.level-h.result c.args.divisors.now c.loop-c-test.true c.loop-c.invariant c.level-h.ensures
