-- The step cap of an allowed angle step is 1 to 450. Assumes nothing.
use mathlib.Core.Path.{◌≡◌}
use mathlib.Core.Bool.{true, false}
use Prim.Native.Nat.{ℕ, zero, suc, ◌≤◌}
use native.Mathlib.Omega.{arith}
use lib.Dec.{T}
use lib.IntN.{pos}
use lib.Ieee.{Float, fin, binary32, div, le, lt, of_bits, round}
use lib.Ieee.Bits.{is_true}
use lib.Ieee.Positive.{positive, positive-finite, between}
use Rattle.floats.specs.Floats.{ceil_of}
use Rattle.floats.proofs.Preorder.{le_trans_f, le_lt_trans}
use Rattle.floats.proofs.Ratio.{div_mono}
use Rattle.floats.proofs.Ceiling.{ceil_least, ceil_enough}
use Rattle.limits.specs.Allowed.{nearest32, angle_step_ok}
use Rattle.limits.proofs.Ends.{between_low, between_high}
use Rattle.neighbors.specs.Neighbors.{angle_cap}

-- 45, and the f32 nearest 0.1
abbrev pub turn45 : Float
turn45 = fin false 45 (pos 0)

module _ (angle : Float) (ok : angle_step_ok angle ≡ true) where
  low : T (le (nearest32 1 10) angle)
  unfolding angle_step_ok
  low = between_low (nearest32 1 10) (nearest32 45 1) angle ok

  pub high : T (le angle (nearest32 45 1))
  unfolding angle_step_ok
  high = between_high (nearest32 1 10) (nearest32 45 1) angle ok

  pub above : T (positive angle)
  unfolding round
  above = between (nearest32 1 10) angle (nearest32 45 1) tt tt low high

  at_most : T (le (div binary32 turn45 angle) (fin false 450 (pos 0)))
  unfolding round div le lt
  at_most = le_trans_f (div binary32 turn45 angle) (div binary32 turn45 (nearest32 1 10)) (fin false 450 (pos 0)) (div_mono binary32 turn45 turn45 angle (nearest32 1 10) tt tt above tt tt low) tt

  at_least : T (le (fin false 1 (pos 0)) (div binary32 turn45 angle))
  unfolding round div le lt
  at_least = le_trans_f (fin false 1 (pos 0)) (div binary32 turn45 (nearest32 45 1)) (div binary32 turn45 angle) tt (div_mono binary32 turn45 turn45 (nearest32 45 1) angle tt tt tt above tt high)

  pub cap_most : angle_cap angle ≤ 450
  unfolding angle_cap of_bits
  cap_most = ceil_least (div binary32 turn45 angle) 450 at_most

  pub cap_some : 1 ≤ angle_cap angle
  unfolding angle_cap of_bits
  cap_some =
      some (ceil_of v) (le_trans_f (fin false 1 (pos 0)) v (fin false (ceil_of v) (pos 0)) at_least
      (ceil_enough v (positive-finite v (between (fin false 1 (pos 0)) v (fin false 450 (pos 0)) tt tt at_least at_most)) (is_true (lt v top) (le_lt_trans v (fin false 450 (pos 0)) top at_most small))))
    where
      v : Float
      v = div binary32 turn45 angle

      top : Float
      top = fin false 2147483647 (pos 0)

      small : T (lt (fin false 450 (pos 0)) top)
      small = unfold lt in tt

      some : (n : ℕ) → T (le (fin false 1 (pos 0)) (fin false n (pos 0))) → 1 ≤ n
      some zero t = unfold le lt in absurd t
      some (suc n) t = omega arith
