-- Worked examples of the definitions, by computation.
use Rattle.std.specs.Prelude.{◌≡◌, refl, true, false, ◌*◌, ◌≤◌}
use Rattle.std.proofs.Common.{lit≤}
use Rattle.angle_laws.specs.Angle.{quarters, sine, cosine}
use Rattle.angle_laws.specs.Series.{sin_top, sin_bot, cos_top, cos_bot}

-- 2 · 0 / π is 0, 2 · 1 / π is 0.64 and nearest 1, 2 · 16 / π is 10.2 and nearest 10, of either sign
example_quarters : (quarters false 0 1 ≡ 0) × ((quarters false 1 1 ≡ 1) × ((quarters false 16 1 ≡ 10) × (quarters true 16 1 ≡ 10)))
unfolding quarters
example_quarters = (refl, (refl, (refl, refl)))

-- S(1) = 0.84147098.., S(-1) its negation; C(0) = 1
example_sine : (8414709848 * (sine false 1 1).bot ≤ 10000000000 * (sine false 1 1).top) × (10000000000 * (sine false 1 1).top ≤ 8414709849 * (sine false 1 1).bot)
unfolding sine quarters sin_top sin_bot cos_top cos_bot
example_sine = (lit≤ tt, lit≤ tt)

example_minus : (sine true 1 1).neg ≡ true
unfolding sine quarters
example_minus = refl

example_cosine : (cosine false 0 1).top ≡ (cosine false 0 1).bot
unfolding cosine quarters sin_top sin_bot cos_top cos_bot
example_cosine = refl
