-- The arctangent where y is zero, and all of it. Assumes nothing.
use mathlib.Core.Path.{◌≡◌, sym, ap, ◌∙◌, subst, refl, ap₂}
use mathlib.Core.Bool.{Bool, true, false, cond, beq, ◌&&◌}
use Prim.Native.Nat.{ℕ, ◌+◌, ◌*◌, ◌≤◌, max, ◌<◌, zero-le, zero, suc}
use native.Mathlib.Nat.{le_trans, zero-mul, mul-le-mul_left, mul-le-mul_right, mul-pos, le_of_eq, le_of_mul-le-mul_left, zero-lt-suc, le-max_left}
use native.Mathlib.Omega.{arith}
use lib.Dec.{lit≤, lit<, T}
use lib.Ieee.{neg, fin, up, down, binary32, div, lt, eq, Float, nan, inf}
use lib.IntN.{ℤ}
use lib.Ieee.Fits.{down_pos, up_pos}
use lib.Ieee.Scale.{finite}
use Rattle.sines.specs.Steps.{dist, xor}
use Rattle.angles.specs.Arc.{minus_size, signed_pi32, behind_of, best_steps, arctan_steps}
use Rattle.angle_laws.specs.Asked.{plus_positive, IsArc, Arctan}
use Rattle.angle_laws.specs.Series.{sin_top, sin_bot, cos_top, cos_bot}
use Rattle.angle_laws.specs.Angle.{sine, cosine, Ratio, S, C, pick_s, pick_c, pi_bot, turn}
use Rattle.angle_laws.proofs.Small.{sine_small, cosine_small, sine_is, cosine_is}
use Rattle.angle_laws.proofs.Line.{sin_bot_pos, cos_bot_pos}
use Rattle.sines.specs.Sines.{plus_zero, one}
use Rattle.angles.proofs.Sides.{lt_zero, zero_lt, is_zero, not_zero}
use Rattle.angle_laws.proofs.Best.{best_good}
use Rattle.angle_laws.proofs.Arcs.{zero_times, arc_good}

-- ---- y = 0 leaves only x S(a)

-- of two sizes the first is 0: their difference and their sum are the second
one_way : (x y : ℕ) → x ≡ 0 → (b : Bool) → cond b (dist x y) (x + y) ≡ y
one_way x y h true = omega arith
one_way x y h false = omega arith

zero_on : (a b : Bool) (U W st sb ct cb : ℕ) → U ≡ 0 → st * 262144 ≤ sb → minus_size a (U * (ct * sb)) b (W * (st * cb)) * 262144 ≤ max W U * (cb * sb)
zero_on a b U W st sb ct cb u h = go (beq a b)
  where
    z : U * (ct * sb) ≡ 0
    z = ap (λ (x : ℕ). x * (ct * sb)) u ∙ zero-mul (ct * sb)

    fac : W * cb * (st * 262144) ≤ W * cb * sb → W * (st * cb) * 262144 ≤ W * (cb * sb)
    fac f = omega arith

    base : W * (st * cb) * 262144 ≤ max W U * (cb * sb)
    base = le_trans (fac (mul-le-mul_left (W * cb) h)) (mul-le-mul_right (cb * sb) (le-max_left W U))

    go : (e : Bool) → cond e (dist (U * (ct * sb)) (W * (st * cb))) (U * (ct * sb) + W * (st * cb)) * 262144 ≤ max W U * (cb * sb)
    go e = subst (λ (x : ℕ). x * 262144 ≤ max W U * (cb * sb)) (sym (one_way (U * (ct * sb)) (W * (st * cb)) z e)) base

zero_fwd : (b : Bool) (U W st sb ct cb : ℕ) → U ≡ 0 → 0 < W → 0 < ct → 0 < sb → plus_positive false (W * (ct * sb)) b (U * (st * cb))
zero_fwd b U W st sb ct cb u w c s = go b (W * (ct * sb)) (U * (st * cb)) (mul-pos w (mul-pos c s)) (ap (λ (x : ℕ). x * (st * cb)) u ∙ zero-mul (st * cb))
  where
    go : (b : Bool) (p q : ℕ) → 0 < p → q ≡ 0 → plus_positive false p b q
    go true p q h k = g1 p q h k
      where
        g1 : (p q : ℕ) → 0 < p → q ≡ 0 → q < p
        g1 p q h k = omega arith
    go false p q h k = g2 p q h k
      where
        g2 : (p q : ℕ) → 0 < p → q ≡ 0 → 0 < p + q
        g2 p q h k = omega arith

-- ---- the angle π (as the nearest f32), by computation
pi_sin : (s : Bool) → (sine s 13176795 4194304).top * 262144 ≤ (sine s 13176795 4194304).bot
unfolding sine sin_top sin_bot cos_top cos_bot
pi_sin true = lit≤ tt
pi_sin false = lit≤ tt

pi_cos : (s : Bool) → 0 < (cosine s 13176795 4194304).top
unfolding cosine sin_top sin_bot cos_top cos_bot
pi_cos true = lit< tt
pi_cos false = lit< tt

pi_bot_lem : (s : Bool) → 0 < (sine s 13176795 4194304).bot
unfolding sine sin_top sin_bot cos_top cos_bot
pi_bot_lem true = lit< tt
pi_bot_lem false = lit< tt

pi_neg : (s : Bool) → (cosine s 13176795 4194304).neg ≡ true
unfolding cosine
pi_neg true = refl
pi_neg false = refl

back : (sy : Bool) (ey : ℤ) (mx : ℕ) (ex : ℤ) → 0 < mx → IsArc (fin sy 0 ey) (fin true mx ex) (signed_pi32 sy)
unfolding IsArc S C
back sy ey mx ex xp = (
  zero_on (xor sy c.neg) (xor true s.neg) (0 * up ey * down ex) (mx * up ex * down ey) s.top s.bot c.top c.bot (zero_times (up ey) (down ex)) (pi_sin sy),
  (
    subst (λ (b : Bool). plus_positive (xor true b) (mx * up ex * down ey * (c.top * s.bot)) (xor sy s.neg) (0 * up ey * down ex * (s.top * c.bot))) (sym (pi_neg sy))
        (zero_fwd (xor sy s.neg) (0 * up ey * down ex) (mx * up ex * down ey) s.top s.bot c.top c.bot (zero_times (up ey) (down ex)) (mul-pos (mul-pos xp (up_pos ex)) (down_pos ey)) (pi_cos sy) (pi_bot_lem sy)),
    (lit≤ tt, refl),
  ),
)
  where
    s : Ratio
    s = sine sy 13176795 4194304

    c : Ratio
    c = cosine sy 13176795 4194304

-- ---- the angle 0
module _ (sy : Bool) (ey : ℤ) where
  small0 : 4096 * (0 * up ey) < down ey
  small0 = go (up ey) (down ey) (down_pos ey)
    where
      go : (u d : ℕ) → 0 < d → 4096 * (0 * u) < d
      go u d h = omega arith

  s0 : Ratio
  s0 = sine sy (0 * up ey) (down ey)

  c0 : Ratio
  c0 = cosine sy (0 * up ey) (down ey)

  sin0 : (sine sy (0 * up ey) (down ey)).top * 262144 ≤ (sine sy (0 * up ey) (down ey)).bot
  sin0 = le_of_mul-le-mul_left (go (beq sy (sine sy (0 * up ey) (down ey)).neg) (sine sy (0 * up ey) (down ey)).top (sine sy (0 * up ey) (down ey)).bot (up ey) (down ey) (sine_small (0 * up ey) (down ey) (down_pos ey) small0 sy)) (down_pos ey)
    where
      go : (b : Bool) (t q u d : ℕ) → cond b (dist (0 * u * q) (t * d)) (0 * u * q + t * d) * 1048576 ≤ d * q → d * (t * 262144) ≤ d * q
      go b t q u d h = fin (subst (λ (z : ℕ). z * 1048576 ≤ d * q) (one_way (0 * u * q) (t * d) (zero_times u q) b) h)
        where
          fin : t * d * 1048576 ≤ d * q → d * (t * 262144) ≤ d * q
          fin f = omega arith

  bots : (0 < (sine sy (0 * up ey) (down ey)).bot) × (0 < (cosine sy (0 * up ey) (down ey)).bot)
  bots = (subst (λ (ρ : Ratio). 0 < ρ.bot) (sym (sine_is (0 * up ey) (down ey) (down_pos ey) small0 sy)) (gs sy), subst (λ (ρ : Ratio). 0 < ρ.bot) (sym (cosine_is (0 * up ey) (down ey) (down_pos ey) small0 sy)) (gc sy))
    where
      dp : 0 < 2 * pi_bot * down ey
      dp = mul-pos {m = 2 * pi_bot} (lit< tt) (down_pos ey)

      gs : (s : Bool) → 0 < (pick_s (turn s 0) (xor s false) (2 * pi_bot * (0 * up ey)) (2 * pi_bot * down ey)).bot
      gs true = sin_bot_pos (2 * pi_bot * down ey) dp
      gs false = sin_bot_pos (2 * pi_bot * down ey) dp

      gc : (s : Bool) → 0 < (pick_c (turn s 0) (xor s false) (2 * pi_bot * (0 * up ey)) (2 * pi_bot * down ey)).bot
      gc true = cos_bot_pos (2 * pi_bot * down ey) dp
      gc false = cos_bot_pos (2 * pi_bot * down ey) dp

  neg0 : (cosine sy (0 * up ey) (down ey)).neg ≡ false
  neg0 = ap (λ (ρ : Ratio). ρ.neg) (cosine_is (0 * up ey) (down ey) (down_pos ey) small0 sy) ∙ g sy
    where
      g : (s : Bool) → (pick_c (turn s 0) (xor s false) (2 * pi_bot * (0 * up ey)) (2 * pi_bot * down ey)).neg ≡ false
      g true = refl
      g false = refl

  cos0 : 0 < (cosine sy (0 * up ey) (down ey)).top
  cos0 = go (beq false (cosine sy (0 * up ey) (down ey)).neg) (cosine sy (0 * up ey) (down ey)).top (cosine sy (0 * up ey) (down ey)).bot (ap (λ (b : Bool). beq false b) neg0) (cosine_small (0 * up ey) (down ey) (down_pos ey) small0 sy) bots.1
    where
      go : (b : Bool) (t q : ℕ) → b ≡ true → cond b (dist (1 * q) (t * 1)) (1 * q + t * 1) * 1048576 ≤ 1 * q → 0 < q → 0 < t
      go b t q e h p = fin (subst (λ (z : Bool). cond z (dist (1 * q) (t * 1)) (1 * q + t * 1) * 1048576 ≤ 1 * q) e h)
        where
          fin : dist (1 * q) (t * 1) * 1048576 ≤ 1 * q → 0 < t
          fin f = omega arith

  front : (mx : ℕ) (ex : ℤ) → 0 < mx → IsArc (fin sy 0 ey) (fin false mx ex) (fin sy 0 ey)
  unfolding IsArc S C s0 c0
  front mx ex xp = (
    zero_on (xor sy c0.neg) (xor false s0.neg) (0 * up ey * down ex) (mx * up ex * down ey) s0.top s0.bot c0.top c0.bot (zero_times (up ey) (down ex)) sin0,
    (
      subst (λ (b : Bool). plus_positive (xor false b) (mx * up ex * down ey * (c0.top * s0.bot)) (xor sy s0.neg) (0 * up ey * down ex * (s0.top * c0.bot))) (sym neg0)
          (zero_fwd (xor sy s0.neg) (0 * up ey * down ex) (mx * up ex * down ey) s0.top s0.bot c0.top c0.bot (zero_times (up ey) (down ex)) (mul-pos (mul-pos xp (up_pos ex)) (down_pos ey)) cos0 bots.0),
      (le_trans (le_of_eq (zero_times (up ey) 4194304)) zero-le, refl),
    ),
  )

-- ---- the tests
below_one : (s : Bool) (e : ℤ) → lt (div binary32 one (fin s 0 e)) plus_zero ≡ s
unfolding lt div
below_one true e = refl
below_one false e = refl

behind_is : (s : Bool) (m : ℕ) (e : ℤ) → behind_of (fin s m e) ≡ s
unfolding behind_of
behind_is s zero e = ap₂ (λ (a b : Bool). cond a true (cond b (lt (div binary32 one (fin s 0 e)) plus_zero) false)) (zero_lt s e) (is_zero s e) ∙ below_one s e
behind_is true (suc m) e = ap (λ (a : Bool). cond a true (cond (eq (fin true (suc m) e) plus_zero) (lt (div binary32 one (fin true (suc m) e)) plus_zero) false)) (lt_zero true (suc m) e (zero-lt-suc m))
behind_is false (suc m) e = ap₂ (λ (a b : Bool). cond a true (cond b (lt (div binary32 one (fin false (suc m) e)) plus_zero) false)) (lt_zero false (suc m) e (zero-lt-suc m)) (not_zero false (suc m) e (zero-lt-suc m))

zero_steps : (sy : Bool) (ey : ℤ) (sx : Bool) (mx : ℕ) (ex : ℤ) → arctan_steps (fin sy 0 ey) (fin sx mx ex) ≡ cond sx (signed_pi32 sy) (fin sy 0 ey)
unfolding arctan_steps neg
zero_steps sy ey sx mx ex =
    ap₂ (λ (a b : Bool). cond a (cond b (cond (lt (div binary32 one (fin sy 0 ey)) plus_zero) (signed_pi32 true) (signed_pi32 false)) (fin sy 0 ey)) (best_steps (fin sy 0 ey) (fin sx mx ex))) (is_zero sy ey) (behind_is sx mx ex)
    ∙ ap (λ (c : Bool). cond sx (cond c (signed_pi32 true) (signed_pi32 false)) (fin sy 0 ey)) (below_one sy ey) ∙ go sy
  where
    go : (s : Bool) → cond sx (cond s (signed_pi32 true) (signed_pi32 false)) (fin sy 0 ey) ≡ cond sx (signed_pi32 s) (fin sy 0 ey)
    go true = refl
    go false = refl

other_steps : (sy : Bool) (my : ℕ) (ey : ℤ) (x : Float) → 0 < my → arctan_steps (fin sy my ey) x ≡ best_steps (fin sy my ey) x
unfolding arctan_steps
other_steps sy my ey x h = ap (λ (a : Bool). cond a (cond (behind_of x) (cond (lt (div binary32 one (fin sy my ey)) plus_zero) (neg (signed_pi32 false)) (signed_pi32 false)) (fin sy my ey)) (best_steps (fin sy my ey) x)) (not_zero sy my ey h)

-- ---- the whole
whole : (sy : Bool) (my : ℕ) (ey : ℤ) (sx : Bool) (mx : ℕ) (ex : ℤ) → Arctan (fin sy my ey) (fin sx mx ex) (arctan_steps (fin sy my ey) (fin sx mx ex))
unfolding Arctan
whole sy zero ey sx mx ex = (λ (z : ◌≡◌ {A = ℕ} 0 0). zero_steps sy ey sx mx ex, λ (n : 0 + mx ≡ 0 → ⊥). subst (λ (r : Float). IsArc (fin sy 0 ey) (fin sx mx ex) r) (sym (zero_steps sy ey sx mx ex)) (go sx (up_from mx n)))
  where
    up_from : (m : ℕ) → (0 + m ≡ 0 → ⊥) → 0 < m
    up_from m h = omega arith

    go : (s : Bool) → 0 < mx → IsArc (fin sy 0 ey) (fin s mx ex) (cond s (signed_pi32 sy) (fin sy 0 ey))
    go true h = back sy ey mx ex h
    go false h = front sy ey mx ex h
whole sy (suc my) ey sx mx ex = (λ (z : suc my ≡ 0). absurd (no my z), λ (n : suc my + mx ≡ 0 → ⊥). subst (λ (r : Float). IsArc (fin sy (suc my) ey) (fin sx mx ex) r) (sym (other_steps sy (suc my) ey (fin sx mx ex) (zero-lt-suc my))) (best_good sy (suc my) ey sx mx ex (zero-lt-suc my) (arc_good sy (suc my) ey sx mx ex (zero-lt-suc my))))
  where
    no : (m : ℕ) → suc m ≡ 0 → ⊥
    no m h = omega arith

pub arctan_good : (y x : Float) → T (finite y && finite x) → Arctan y x (arctan_steps y x)
arctan_good nan x t = absurd t
arctan_good (inf s) x t = absurd t
arctan_good (fin sy my ey) nan t = absurd t
arctan_good (fin sy my ey) (inf s) t = absurd t
arctan_good (fin sy my ey) (fin sx mx ex) t = whole sy my ey sx mx ex
