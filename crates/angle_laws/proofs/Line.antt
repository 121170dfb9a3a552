-- The found angle lies on the line through (x, y), on the right side: for each eighth and each sign. Assumes nothing.
use mathlib.Core.Path.{sym, subst, ◌≡◌, ap, ◌∙◌, subst₂}
use Prim.Native.Nat.{ℕ, zero, suc, ◌^◌, ◌<◌, ◌*◌, ◌≤◌, ◌+◌, max}
use native.Mathlib.Nat.{mul-pos, pow-zero, pow-suc, le_trans, mul_assoc, mul_comm, mul-le-mul_right, le-max_left, le-max_right}
use lib.Dec.{lit<}
use mathlib.Core.Bool.{Bool, true, false}
use native.Mathlib.Omega.{arith}
use Rattle.angle_laws.specs.Series.{sin_bot, fact, cos_bot, sin_top, cos_top}
use Rattle.sines.specs.Steps.{dist, xor, seek}
use Rattle.angle_laws.specs.Angle.{turn, rest_top, rest_bot, rest_neg, pick_s, sine, pick_c, cosine, pi_bot, Ratio}
use Rattle.sines.specs.Sines.{half, odd}
use Rattle.angle_laws.proofs.Reduce.{Reduced}
use Rattle.angle_laws.proofs.Out.{place}
use Rattle.angles.proofs.Seek.{sought}
use Rattle.angles.proofs.Ratio.{Slope}
use Rattle.angle_laws.proofs.Octant.{residual, cos_positive}
use Rattle.angle_laws.proofs.Place.{placed, angle_here, angle_next}
use Rattle.angle_laws.specs.Asked.{near_line, forward}
use Rattle.angles.specs.Arc.{eighth_of}

pos_pow : (D n : ℕ) → 0 < D → 0 < D ^ n
pos_pow D zero h = subst (λ (z : ℕ). 0 < z) (sym (pow-zero D)) (lit< tt)
pos_pow D (suc n) h = subst (λ (z : ℕ). 0 < z) (sym (pow-suc D n)) (mul-pos (pos_pow D n h) h)

pub sin_bot_pos : (D : ℕ) → 0 < D → 0 < sin_bot D
unfolding sin_bot
sin_bot_pos D h = mul-pos {m = fact 13} (lit< tt) (pos_pow D 13 h)

pub cos_bot_pos : (D : ℕ) → 0 < D → 0 < cos_bot D
unfolding cos_bot
cos_bot_pos D h = mul-pos {m = fact 14} (lit< tt) (pos_pow D 14 h)

-- what is known of s = sinTop / sinBot and g = cosTop / cosBot at the found angle, for the ratio a / c
pub record Exact (a c st sb gt gb : ℕ) : Type 0 where
  pub res : dist (a * gt * sb) (c * st * gb) * 262144 ≤ c * gb * sb
  pub g_pos : 0 < gt
  pub sb_pos : 0 < sb

-- S and C of ± n / d in the eighth o
pub sine_at : (f : Bool) (n d X o : ℕ) → Reduced f n d X o → sine f n d ≡ pick_s (turn f (half o)) (xor f (odd o)) (rest_top (half o) n d) (rest_bot d)
unfolding sine
sine_at f n d X o r =
    ap (λ (k : ℕ). pick_s (turn f k) (rest_neg f k n d) (rest_top k n d) (rest_bot d)) r.is
    ∙ ap (λ (b : Bool). pick_s (turn f (half o)) (xor f b) (rest_top (half o) n d) (rest_bot d)) r.sign

pub cosine_at : (f : Bool) (n d X o : ℕ) → Reduced f n d X o → cosine f n d ≡ pick_c (turn f (half o)) (xor f (odd o)) (rest_top (half o) n d) (rest_bot d)
unfolding cosine
cosine_at f n d X o r =
    ap (λ (k : ℕ). pick_c (turn f k) (rest_neg f k n d) (rest_top k n d) (rest_bot d)) r.is
    ∙ ap (λ (b : Bool). pick_c (turn f (half o)) (xor f b) (rest_top (half o) n d) (rest_bot d)) r.sign

-- ---- the two shapes: |y| ≤ |x| (a = ny dx, c = nx dy; S is a sine), and |y| > |x|
dist_comm : (a b : ℕ) → dist a b ≡ dist b a
dist_comm a b = omega arith

module _ (U W st sb gt gb : ℕ) where
  flat_line : U ≤ W → Exact U W st sb gt gb → dist (U * (gt * sb)) (W * (st * gb)) * 262144 ≤ max W U * (gb * sb)
  flat_line h x = go x.res (mul-le-mul_right (gb * sb) (le-max_left W U))
    where
      go : dist (U * gt * sb) (W * st * gb) * 262144 ≤ W * gb * sb → W * (gb * sb) ≤ max W U * (gb * sb) → dist (U * (gt * sb)) (W * (st * gb)) * 262144 ≤ max W U * (gb * sb)
      go f g = le_trans (subst₂ (λ (p q : ℕ). dist p q * 262144 ≤ W * (gb * sb)) (mul_assoc U gt sb) (mul_assoc W st gb) (subst (λ (z : ℕ). dist (U * gt * sb) (W * st * gb) * 262144 ≤ z) (mul_assoc W gb sb) f)) g

  flat_forward : 0 < W → Exact U W st sb gt gb → 0 < W * (gt * sb) + U * (st * gb)
  flat_forward h x = go (W * (gt * sb)) (U * (st * gb)) (mul-pos h (mul-pos x.g_pos x.sb_pos))
    where
      go : (p q : ℕ) → 0 < p → 0 < p + q
      go p q h = omega arith

  steep_line : W ≤ U → Exact W U st sb gt gb → dist (U * (st * gb)) (W * (gt * sb)) * 262144 ≤ max W U * (sb * gb)
  steep_line h x = le_trans (subst (λ (z : ℕ). z * 262144 ≤ U * (sb * gb)) (dist_comm (W * (gt * sb)) (U * (st * gb))) (subst₂ (λ (p q : ℕ). dist p q * 262144 ≤ U * (sb * gb)) (mul_assoc W gt sb) (mul_assoc U st gb) (subst (λ (z : ℕ). dist (W * gt * sb) (U * st * gb) * 262144 ≤ z) (mul_assoc U gb sb ∙ ap (λ (z : ℕ). U * z) (mul_comm gb sb)) x.res))) (mul-le-mul_right (sb * gb) (le-max_right W U))

  steep_forward : 0 < U → Exact W U st sb gt gb → 0 < W * (st * gb) + U * (gt * sb)
  steep_forward h x = go (W * (st * gb)) (U * (gt * sb)) (mul-pos h (mul-pos x.g_pos x.sb_pos))
    where
      go : (p q : ℕ) → 0 < q → 0 < p + q
      go p q h = omega arith

-- ---- the found angle n / d in the eighth o, for the ratio a / c
module _ (f : Bool) (o t a c n d : ℕ) (ho : o < 4) (dp : 0 < d) (sl : Slope t a c 520) (ac : a ≤ c) (tl : t ≤ 2147484168) (at : place o (seek 24 t 0 13176795) * d ≡ 16777216 * n) where
  red : Reduced f n d (place o (seek 24 t 0 13176795) * 65536) o
  red = placed f o (seek 24 t 0 13176795) n d ho (sought t).few dp at

  exact : Exact a c (sin_top (rest_top (half o) n d) (rest_bot d)) (sin_bot (rest_bot d)) (cos_top (rest_top (half o) n d) (rest_bot d)) (cos_bot (rest_bot d))
  exact =
      let j = seek 24 t 0 13176795 in
      let R = rest_top (half o) n d in
      let D = rest_bot d in
      let so = sought t in
      let here = angle_here f o j n d (half o) ho so.few red.angle in
      let next = angle_next f o j n d (half o) ho so.few red.angle in
      let dp' : 0 < D = mul-pos {m = 2 * pi_bot} (lit< tt) dp in
      record {
        res = residual t a c j R D so sl ac tl red.proper here next;
        g_pos = cos_positive t a c j R D so sl ac tl red.proper here next (cos_bot_pos D dp');
        sb_pos = sin_bot_pos D dp';
      }

  pub s_is : sine f n d ≡ pick_s (turn f (half o)) (xor f (odd o)) (rest_top (half o) n d) (rest_bot d)
  s_is = sine_at f n d (place o (seek 24 t 0 13176795) * 65536) o red

  pub c_is : cosine f n d ≡ pick_c (turn f (half o)) (xor f (odd o)) (rest_top (half o) n d) (rest_bot d)
  c_is = cosine_at f n d (place o (seek 24 t 0 13176795) * 65536) o red

abbrev pub Line : Bool → ℕ → ℕ → Bool → ℕ → ℕ → Ratio → Ratio → Type 0
Line sy ny dy sx nx dx s c = near_line sy ny dy sx nx dx s c × forward sy ny dy sx nx dx s c

pub eighth_lt : (b s : Bool) → eighth_of b s < 4
eighth_lt true true = lit< tt
eighth_lt true false = lit< tt
eighth_lt false true = lit< tt
eighth_lt false false = lit< tt

-- |y| ≤ |x|
pub flat : (sy sx : Bool) (ny dy nx dx t n d : ℕ) → 0 < d → 0 < nx * dy → Slope t (ny * dx) (nx * dy) 520 → ny * dx ≤ nx * dy → t ≤ 2147484168
    → place (eighth_of true sx) (seek 24 t 0 13176795) * d ≡ 16777216 * n → Line sy ny dy sx nx dx (sine sy n d) (cosine sy n d)
flat sy sx ny dy nx dx t n d dp cp sl ac tl at =
    let o = eighth_of true sx in
    let ho = eighth_lt true sx in
    subst₂ (λ (s c : Ratio). Line sy ny dy sx nx dx s c) (sym (s_is sy o t (ny * dx) (nx * dy) n d ho dp sl ac tl at)) (sym (c_is sy o t (ny * dx) (nx * dy) n d ho dp sl ac tl at))
    (go sy sx (rest_top (half o) n d) (rest_bot d) (exact sy o t (ny * dx) (nx * dy) n d ho dp sl ac tl at))
  where
    go : (sy sx : Bool) (R D : ℕ) → Exact (ny * dx) (nx * dy) (sin_top R D) (sin_bot D) (cos_top R D) (cos_bot D)
        → Line sy ny dy sx nx dx (pick_s (turn sy (half (eighth_of true sx))) (xor sy (odd (eighth_of true sx))) R D) (pick_c (turn sy (half (eighth_of true sx))) (xor sy (odd (eighth_of true sx))) R D)
    go true true R D x = (flat_line _ _ _ _ _ _ ac x, flat_forward _ _ _ _ _ _ cp x)
    go true false R D x = (flat_line _ _ _ _ _ _ ac x, flat_forward _ _ _ _ _ _ cp x)
    go false true R D x = (flat_line _ _ _ _ _ _ ac x, flat_forward _ _ _ _ _ _ cp x)
    go false false R D x = (flat_line _ _ _ _ _ _ ac x, flat_forward _ _ _ _ _ _ cp x)

-- |y| > |x|
pub steep : (sy sx : Bool) (ny dy nx dx t n d : ℕ) → 0 < d → 0 < ny * dx → Slope t (nx * dy) (ny * dx) 520 → nx * dy ≤ ny * dx → t ≤ 2147484168
    → place (eighth_of false sx) (seek 24 t 0 13176795) * d ≡ 16777216 * n → Line sy ny dy sx nx dx (sine sy n d) (cosine sy n d)
steep sy sx ny dy nx dx t n d dp cp sl ac tl at =
    let o = eighth_of false sx in
    let ho = eighth_lt false sx in
    subst₂ (λ (s c : Ratio). Line sy ny dy sx nx dx s c) (sym (s_is sy o t (nx * dy) (ny * dx) n d ho dp sl ac tl at)) (sym (c_is sy o t (nx * dy) (ny * dx) n d ho dp sl ac tl at))
    (go sy sx (rest_top (half o) n d) (rest_bot d) (exact sy o t (nx * dy) (ny * dx) n d ho dp sl ac tl at))
  where
    go : (sy sx : Bool) (R D : ℕ) → Exact (nx * dy) (ny * dx) (sin_top R D) (sin_bot D) (cos_top R D) (cos_bot D)
        → Line sy ny dy sx nx dx (pick_s (turn sy (half (eighth_of false sx))) (xor sy (odd (eighth_of false sx))) R D) (pick_c (turn sy (half (eighth_of false sx))) (xor sy (odd (eighth_of false sx))) R D)
    go true true R D x = (steep_line _ _ _ _ _ _ ac x, steep_forward _ _ _ _ _ _ cp x)
    go true false R D x = (steep_line _ _ _ _ _ _ ac x, steep_forward _ _ _ _ _ _ cp x)
    go false true R D x = (steep_line _ _ _ _ _ _ ac x, steep_forward _ _ _ _ _ _ cp x)
    go false false R D x = (steep_line _ _ _ _ _ _ ac x, steep_forward _ _ _ _ _ _ cp x)
