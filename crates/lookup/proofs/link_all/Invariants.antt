use mathlib.Core.Path.{◌≡◌}
use lib.ListN.{length}
use Rattle.lookup.specs.Build.{links_of, linked, over_both}
use Rattle.lookup.proofs.link_all.Given as goal

abbrev pub invariant-loop-i : goal.invariant-loop-i
invariant-loop-i l = (length l.left ≡ length l.initial.left) × (length l.right ≡ length l.initial.right) × (links_of l.left l.right ≡ over_both (linked l.positions l.i) (links_of l.initial.left l.initial.right))
