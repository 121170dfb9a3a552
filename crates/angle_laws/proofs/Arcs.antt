-- The arctangent of every finite (y, x) with y not zero: the steps answer an `IsArc`. Assumes nothing.
use mathlib.Core.Path.{refl, sym, subst, ◌≡◌, ◌∙◌, subst₂}
use mathlib.Core.Bool.{Bool, true, false, cond, beq}
use Prim.Native.Nat.{ℕ, ◌*◌, ◌+◌, ◌≤◌, ◌<◌, max, zero-le, zero, suc}
use lib.IntN.{ℤ}
use lib.Ieee.{Float, fin, up, down, neg, le}
use native.Mathlib.Omega.{arith}
use native.Mathlib.Nat.{mul-pos, zero-mul, le_trans, le_of_eq, zero-lt-suc}
use lib.Ieee.Fits.{down_pos, up_pos}
use lib.Dec.{lit<}
use Rattle.floats.specs.Floats.{abs_of}
use Rattle.angles.proofs.Sides.{lt_zero, le_true, le_false, zero_lt, le_zero, ratio_near}
use Rattle.angles.proofs.Steps.{halved}
use Rattle.angle_laws.specs.Angle.{S, C, sine, cosine, Ratio}
use Rattle.angle_laws.specs.Asked.{IsArc, plus_positive}
use Rattle.angle_laws.proofs.Out.{Out, angle_out, place}
use Rattle.angle_laws.proofs.Line.{Line, flat, steep, eighth_lt}
use Rattle.sines.specs.Steps.{dist, xor, seek}
use Rattle.angles.specs.Arc.{minus_size, ratio_of, angle_of, eighth_of, arc_steps}
use Rattle.angles.proofs.Seek.{sought}

-- ---- from the line to the float
finish : (sy : Bool) (my : ℕ) (ey : ℤ) (sx : Bool) (mx : ℕ) (ex : ℤ) (a : Float) (N : ℕ) (w : Out a N)
    → Line sy (my * up ey) (down ey) sx (mx * up ex) (down ex) (sine sy (w.m * up w.e) (down w.e)) (cosine sy (w.m * up w.e) (down w.e))
    → IsArc (fin sy my ey) (fin sx mx ex) (cond sy (neg a) a)
unfolding IsArc S C neg
finish sy my ey sx mx ex a N w l = subst (λ (z : Float). IsArc (fin sy my ey) (fin sx mx ex) (cond sy (neg z) z)) (sym w.is) (go sy l)
  where
    go : (sy : Bool) → Line sy (my * up ey) (down ey) sx (mx * up ex) (down ex) (sine sy (w.m * up w.e) (down w.e)) (cosine sy (w.m * up w.e) (down w.e))
        → IsArc (fin sy my ey) (fin sx mx ex) (cond sy (neg (fin false w.m w.e)) (fin false w.m w.e))
    go true l = (l.0, (l.1, (w.top, refl)))
    go false l = (l.0, (l.1, (w.top, refl)))

pub zero_times : (a b : ℕ) → 0 * a * b ≡ 0
zero_times a b = omega arith

-- the sign of a zero x does not matter
turn_zero : (sy : Bool) (ny dy dx : ℕ) (s c : Ratio) → Line sy ny dy false 0 dx s c → Line sy ny dy true 0 dx s c
turn_zero sy ny dy dx s c l = (
  subst (λ (z : ℕ). z * 262144 ≤ max (0 * dy) (ny * dx) * (c.bot * s.bot)) (any (xor sy c.neg) (xor false s.neg) (xor true s.neg) (ny * dx * (c.top * s.bot)) (0 * dy * (s.top * c.bot)) (zero_times dy (s.top * c.bot))) l.0,
  fwd c.neg (xor sy s.neg) (0 * dy * (c.top * s.bot)) (ny * dx * (s.top * c.bot)) (zero_times dy (c.top * s.bot)) l.1,
)
  where
    eqs : (u v : ℕ) → v ≡ 0 → dist u v ≡ u + v
    eqs u v h = omega arith

    any : (a b b' : Bool) (u v : ℕ) → v ≡ 0 → minus_size a u b v ≡ minus_size a u b' v
    any a b b' u v h = one (beq a b) u v h ∙ sym (one (beq a b') u v h)
      where
        one : (b : Bool) (u v : ℕ) → v ≡ 0 → cond b (dist u v) (u + v) ≡ u + v
        one true u v h = eqs u v h
        one false u v h = refl

    fwd : (n q : Bool) (u v : ℕ) → u ≡ 0 → plus_positive (xor false n) u q v → plus_positive (xor true n) u q v
    fwd true true u v h p = absurd p
    fwd true false u v h p = g1 u v h p
      where
        g1 : (u v : ℕ) → u ≡ 0 → u < v → 0 < u + v
        g1 u v h p = omega arith
    fwd false true u v h p = absurd (g2 u v h p)
      where
        g2 : (u v : ℕ) → u ≡ 0 → v < u → ⊥
        g2 u v h p = omega arith
    fwd false false u v h p = g3 u v h p
      where
        g3 : (u v : ℕ) → u ≡ 0 → 0 < u + v → u < v
        g3 u v h p = omega arith

-- ---- x not zero
module _ (sy : Bool) (my : ℕ) (ey : ℤ) (sx : Bool) (mx : ℕ) (ex : ℤ) (yp : 0 < my) (xp : 0 < mx) where
  u_pos : 0 < my * up ey * down ex
  u_pos = mul-pos (mul-pos yp (up_pos ey)) (down_pos ex)

  w_pos : 0 < mx * up ex * down ey
  w_pos = mul-pos (mul-pos xp (up_pos ex)) (down_pos ey)

  when_flat : my * up ey * down ex ≤ mx * up ex * down ey → IsArc (fin sy my ey) (fin sx mx ex) (cond sy (neg (angle_of (eighth_of true sx) (seek 24 (ratio_of (fin false my ey) (fin false mx ex)) 0 13176795))) (angle_of (eighth_of true sx) (seek 24 (ratio_of (fin false my ey) (fin false mx ex)) 0 13176795)))
  unfolding ratio_of
  when_flat h =
      let r = ratio_near my ey mx ex xp h in
      let t = ratio_of (fin false my ey) (fin false mx ex) in
      let w = angle_out (eighth_of true sx) (seek 24 t 0 13176795) (eighth_lt true sx) (sought t).few in
      finish sy my ey sx mx ex _ _ w (flat sy sx (my * up ey) (down ey) (mx * up ex) (down ex) t (w.m * up w.e) (down w.e) (down_pos w.e) w_pos r.slope h r.top w.at)

  when_steep : mx * up ex * down ey ≤ my * up ey * down ex → IsArc (fin sy my ey) (fin sx mx ex) (cond sy (neg (angle_of (eighth_of false sx) (seek 24 (ratio_of (fin false mx ex) (fin false my ey)) 0 13176795))) (angle_of (eighth_of false sx) (seek 24 (ratio_of (fin false mx ex) (fin false my ey)) 0 13176795)))
  unfolding ratio_of
  when_steep h =
      let r = ratio_near mx ex my ey yp h in
      let t = ratio_of (fin false mx ex) (fin false my ey) in
      let w = angle_out (eighth_of false sx) (seek 24 t 0 13176795) (eighth_lt false sx) (sought t).few in
      finish sy my ey sx mx ex _ _ w (steep sy sx (my * up ey) (down ey) (mx * up ex) (down ex) t (w.m * up w.e) (down w.e) (down_pos w.e) u_pos r.slope h r.top w.at)

  pub arc_both : IsArc (fin sy my ey) (fin sx mx ex) (arc_steps (fin sy my ey) (fin sx mx ex))
  unfolding arc_steps abs_of
  arc_both =
      subst₂ (λ (p q : Bool). IsArc (fin sy my ey) (fin sx mx ex) (halved (le (fin false my ey) (fin false mx ex)) p q (fin false my ey) (fin false mx ex))) (sym (lt_zero sx mx ex xp)) (sym (lt_zero sy my ey yp))
      (go (le (fin false my ey) (fin false mx ex)) (le_true my ey mx ex) (le_false my ey mx ex))
    where
      go : (b : Bool) → (b ≡ true → my * up ey * down ex ≤ mx * up ex * down ey) → (b ≡ false → mx * up ex * down ey ≤ my * up ey * down ex) → IsArc (fin sy my ey) (fin sx mx ex) (halved b sx sy (fin false my ey) (fin false mx ex))
      go true y n = when_flat (y refl)
      go false y n = when_steep (n refl)

pub any_sign : (sy : Bool) (ny dy : ℕ) (sx : Bool) (u dx : ℕ) (s c : Ratio) → Line sy ny dy false (0 * u) dx s c → Line sy ny dy sx (0 * u) dx s c
any_sign sy ny dy false u dx s c l = l
any_sign sy ny dy true u dx s c l = subst (λ (z : ℕ). Line sy ny dy true z dx s c) (sym (zero-mul u)) (turn_zero sy ny dy dx s c (subst (λ (z : ℕ). Line sy ny dy false z dx s c) (zero-mul u) l))

-- x zero: its ratio to y
pub zero_over : (m : ℕ) (e d : ℤ) → 0 * up d * down e ≤ m * up e * down d
zero_over m e d = le_trans (le_of_eq (zero_times (up d) (down e))) zero-le

module _ (sy : Bool) (my : ℕ) (ey : ℤ) (sx : Bool) (ex : ℤ) (yp : 0 < my) where
  at_zero : IsArc (fin sy my ey) (fin sx 0 ex) (cond sy (neg (angle_of 1 (seek 24 (ratio_of (fin false 0 ex) (fin false my ey)) 0 13176795))) (angle_of 1 (seek 24 (ratio_of (fin false 0 ex) (fin false my ey)) 0 13176795)))
  unfolding ratio_of
  at_zero =
      let a = 0 * up ex * down ey in
      let c = my * up ey * down ex in
      let cp : 0 < c = mul-pos (mul-pos yp (up_pos ey)) (down_pos ex) in
      let h : a ≤ c = zero_over my ey ex in
      let r = ratio_near 0 ex my ey yp h in
      let t = ratio_of (fin false 0 ex) (fin false my ey) in
      let w = angle_out 1 (seek 24 t 0 13176795) (lit< tt) (sought t).few in
      finish sy my ey sx 0 ex (angle_of 1 (seek 24 t 0 13176795)) (place 1 (seek 24 t 0 13176795)) w
      (any_sign sy (my * up ey) (down ey) sx (up ex) (down ex) _ _ (steep sy false (my * up ey) (down ey) (0 * up ex) (down ex) t (w.m * up w.e) (down w.e) (down_pos w.e) cp r.slope h r.top w.at))

  pub arc_zero_x : IsArc (fin sy my ey) (fin sx 0 ex) (arc_steps (fin sy my ey) (fin sx 0 ex))
  unfolding arc_steps abs_of
  arc_zero_x =
      subst₂ (λ (p q : Bool). IsArc (fin sy my ey) (fin sx 0 ex) (halved (le (fin false my ey) (fin false 0 ex)) p q (fin false my ey) (fin false 0 ex))) (sym (zero_lt sx ex)) (sym (lt_zero sy my ey yp))
      (subst (λ (b : Bool). IsArc (fin sy my ey) (fin sx 0 ex) (halved b false sy (fin false my ey) (fin false 0 ex))) (sym (le_zero my ey ex yp)) at_zero)

pub arc_good : (sy : Bool) (my : ℕ) (ey : ℤ) (sx : Bool) (mx : ℕ) (ex : ℤ) → 0 < my → IsArc (fin sy my ey) (fin sx mx ex) (arc_steps (fin sy my ey) (fin sx mx ex))
arc_good sy my ey sx zero ex yp = arc_zero_x sy my ey sx ex yp
arc_good sy my ey sx (suc mx) ex yp = arc_both sy my ey sx (suc mx) ex yp (zero-lt-suc mx)
