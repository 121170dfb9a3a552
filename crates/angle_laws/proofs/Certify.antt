-- What the certificate of a guessed angle gives: the angle lies on the line through (x, y), on the right side. Over whole numbers, then for each quarter turn. Assumes nothing.
use Prim.Native.Nat.{ℕ, ◌+◌, ◌*◌, ◌≤◌, ◌<◌, max, zero, suc, ◌-◌, ◌%◌}
use native.Mathlib.Nat.{mul-le-mul_right, mul_assoc, mul_comm, mul-pos, le_of_lt, le-max_left, le-max_right, mod-lt}
use native.Mathlib.Omega.{arith}
use mathlib.Core.Bool.{Bool, true, false, cond, beq}
use lib.Dec.{T, leb→le, leb, lit≤, lit<}
use mathlib.Core.Path.{◌≡◌, refl, sym, ap, ◌∙◌, subst, subst₂}
use Rattle.angle_laws.proofs.Parts.{prod_low, prod_high, Angle}
use Rattle.angle_laws.proofs.Fixed.{Near, near_sin, near_cos}
use Rattle.angle_laws.proofs.Single.{ratio}
use Rattle.angles.proofs.Ratio.{Slope}
use Rattle.sines.specs.Steps.{dist, xor, sin_fix, cos_fix, scan, rest}
use Rattle.angles.specs.Arc.{minus_size, plus_over, line_test, turn_test, grid_test}
use Rattle.angle_laws.specs.Asked.{plus_positive}
use Rattle.angle_laws.specs.Angle.{Ratio, pick_s, pick_c, pi_bot, rest_top, rest_bot, sine, cosine}
use Rattle.angle_laws.proofs.Line.{Line, sin_bot_pos, cos_bot_pos, sine_at, cosine_at}
use Rattle.angle_laws.specs.Series.{sin_top, sin_bot, cos_top, cos_bot}
use Rattle.sines.proofs.Bounds.{sin_fix_le, cos_fix_le}
use Rattle.sines.specs.Sines.{half, odd}
use Rattle.angle_laws.proofs.Reduce.{Reduced}

-- ---- a product of two fixed-point numbers u, over W, near a: in units of 2^-62
pub record Pair (u a W : ℕ) : Type 0 where
  pub low : u * W ≤ 4611686018427387904 * a + 1138166333440 * W
  pub high : 4611686018427387904 * a ≤ u * W + 1138166333440 * W

pair : (p Y M v t b : ℕ) → Y ≤ M → Slope p Y M 520 → v ≤ 2147483648 → Near v t b 10 → Pair (p * v) (Y * t) (M * b)
pair p Y M v t b ym sl vl n = record {
  low = lo (p * v * (M * b)) (Y * t) (M * b) (Y * b) (mul-le-mul_right b ym) (prod_low 2147483648 p M Y 520 2147483648 v b t 10 vl sl.low n.low);
  high = hi (p * v * (M * b)) (Y * t) (M * b) (Y * b) (mul-le-mul_right b ym) (prod_high 2147483648 p M Y 520 2147483648 v b t 10 vl sl.high n.high);
}
  where
    lo : (x y z w : ℕ) → w ≤ z → x ≤ 2147483648 * 2147483648 * y + (2147483648 * 10 * w + 520 * 2147483648 * z) → x ≤ 4611686018427387904 * y + 1138166333440 * z
    lo x y z w h k = omega arith

    hi : (x y z w : ℕ) → w ≤ z → 2147483648 * 2147483648 * y ≤ x + (2147483648 * 10 * w + 520 * 2147483648 * z) → 4611686018427387904 * y ≤ x + 1138166333440 * z
    hi x y z w h k = omega arith

pair_times : (u a W k : ℕ) → Pair u a W → Pair u (a * k) (W * k)
pair_times u a W k p = record { low = lo (mul-le-mul_right k p.low); high = hi (mul-le-mul_right k p.high) }
  where
    lo : u * W * k ≤ (4611686018427387904 * a + 1138166333440 * W) * k → u * (W * k) ≤ 4611686018427387904 * (a * k) + 1138166333440 * (W * k)
    lo f = omega arith

    hi : 4611686018427387904 * a * k ≤ (u * W + 1138166333440 * W) * k → 4611686018427387904 * (a * k) ≤ u * (W * k) + 1138166333440 * (W * k)
    hi f = omega arith

-- ---- the residual
module _ (u v a b W : ℕ) (p : Pair u a W) (q : Pair v b W) where
  near_same : dist u v ≤ 8796093022208 → dist a b * 262144 ≤ W
  near_same h = fin (u * W) (v * W) (mul (mul-le-mul_right W (l1 u v h))) (mul' (mul-le-mul_right W (l2 u v h))) p.low p.high q.low q.high
    where
      l1 : (u v : ℕ) → dist u v ≤ 8796093022208 → u ≤ v + 8796093022208
      l1 u v h = omega arith

      l2 : (u v : ℕ) → dist u v ≤ 8796093022208 → v ≤ u + 8796093022208
      l2 u v h = omega arith

      mul : u * W ≤ (v + 8796093022208) * W → u * W ≤ v * W + 8796093022208 * W
      mul f = omega arith

      mul' : v * W ≤ (u + 8796093022208) * W → v * W ≤ u * W + 8796093022208 * W
      mul' f = omega arith

      fin : (x y : ℕ) → x ≤ y + 8796093022208 * W → y ≤ x + 8796093022208 * W
          → x ≤ 4611686018427387904 * a + 1138166333440 * W → 4611686018427387904 * a ≤ x + 1138166333440 * W → y ≤ 4611686018427387904 * b + 1138166333440 * W → 4611686018427387904 * b ≤ y + 1138166333440 * W
          → dist a b * 262144 ≤ W
      fin x y e f g h i j = both (one x y e h i) (two x y f g j)
        where
          one : (x y : ℕ) → x ≤ y + 8796093022208 * W → 4611686018427387904 * a ≤ x + 1138166333440 * W → y ≤ 4611686018427387904 * b + 1138166333440 * W → 262144 * a ≤ 262144 * b + W
          one x y e h i = omega arith

          two : (x y : ℕ) → y ≤ x + 8796093022208 * W → x ≤ 4611686018427387904 * a + 1138166333440 * W → 4611686018427387904 * b ≤ y + 1138166333440 * W → 262144 * b ≤ 262144 * a + W
          two x y e h i = omega arith

          both : 262144 * a ≤ 262144 * b + W → 262144 * b ≤ 262144 * a + W → dist a b * 262144 ≤ W
          both x y = omega arith

  near_sum : u + v ≤ 8796093022208 → (a + b) * 262144 ≤ W
  near_sum h = fin (u * W) (v * W) (mul (mul-le-mul_right W h)) p.high q.high
    where
      mul : (u + v) * W ≤ 8796093022208 * W → u * W + v * W ≤ 8796093022208 * W
      mul f = omega arith

      fin : (x y : ℕ) → x + y ≤ 8796093022208 * W → 4611686018427387904 * a ≤ x + 1138166333440 * W → 4611686018427387904 * b ≤ y + 1138166333440 * W → (a + b) * 262144 ≤ W
      fin x y e f g = omega arith

  pub residual : (s t : Bool) → minus_size s u t v ≤ 8796093022208 → minus_size s a t b * 262144 ≤ W
  residual s t h = go (beq s t) h
    where
      go : (c : Bool) → cond c (dist u v) (u + v) ≤ 8796093022208 → cond c (dist a b) (a + b) * 262144 ≤ W
      go true h = near_same h
      go false h = near_sum h

  more : (x y : ℕ) → 0 < W → (x + 1152921504606846976) * W ≤ y * W → x * W + 1152921504606846976 * W ≤ y * W
  more x y wp f = omega arith

  -- ---- the side
  pub side : (s t : Bool) → 0 < W → T (plus_over s u t v) → plus_positive s a t b
  side false false wp h = fin (u * W) (v * W) (mul (mul-le-mul_right W (leb→le 1152921504606846976 (u + v) h))) p.low q.low wp
    where
      mul : 1152921504606846976 * W ≤ (u + v) * W → 1152921504606846976 * W ≤ u * W + v * W
      mul f = omega arith

      fin : (x y : ℕ) → 1152921504606846976 * W ≤ x + y → x ≤ 4611686018427387904 * a + 1138166333440 * W → y ≤ 4611686018427387904 * b + 1138166333440 * W → 0 < W → 0 < a + b
      fin x y e f g h = omega arith
  side false true wp h = fin (u * W) (v * W) (more v u wp (mul-le-mul_right W (leb→le (v + 1152921504606846976) u h))) p.low q.high wp
    where
      fin : (x y : ℕ) → y + 1152921504606846976 * W ≤ x → x ≤ 4611686018427387904 * a + 1138166333440 * W → 4611686018427387904 * b ≤ y + 1138166333440 * W → 0 < W → b < a
      fin x y e f g h = omega arith
  side true false wp h = fin (u * W) (v * W) (more u v wp (mul-le-mul_right W (leb→le (u + 1152921504606846976) v h))) p.high q.low wp
    where
      fin : (x y : ℕ) → x + 1152921504606846976 * W ≤ y → 4611686018427387904 * a ≤ x + 1138166333440 * W → y ≤ 4611686018427387904 * b + 1138166333440 * W → 0 < W → a < b
      fin x y e f g h = omega arith
  side true true wp h = absurd h

-- ---- the line, for fractions near ± vs and ± vc
pub record Sized (ρ : Ratio) (s : Bool) (v : ℕ) : Type 0 where
  pub sign : ρ.neg ≡ s
  pub near : Near v ρ.top ρ.bot 10
  pub small : v ≤ 2147483648
  pub some : 0 < ρ.bot

same_sign : (sy sx ns nc : Bool) (u v : ℕ) → minus_size (xor sy nc) u (xor sx (xor sy ns)) v ≡ minus_size nc u (xor sx ns) v
same_sign true true true true u v = refl
same_sign true true true false u v = refl
same_sign true true false true u v = refl
same_sign true true false false u v = refl
same_sign true false true true u v = refl
same_sign true false true false u v = refl
same_sign true false false true u v = refl
same_sign true false false false u v = refl
same_sign false true true true u v = refl
same_sign false true true false u v = refl
same_sign false true false true u v = refl
same_sign false true false false u v = refl
same_sign false false true true u v = refl
same_sign false false true false u v = refl
same_sign false false false true u v = refl
same_sign false false false false u v = refl

twice : (a b : Bool) → xor a (xor a b) ≡ b
twice true true = refl
twice true false = refl
twice false true = refl
twice false false = refl

cond_left : (a b : Bool) → T (cond a b false) → T a
cond_left true b t = tt
cond_left false b t = t

cond_right : (a b : Bool) → T (cond a b false) → T b
cond_right true b t = t
cond_right false b t = absurd t

module _ (sy sx : Bool) (ny dy nx dx py px : ℕ) (mp : 0 < max (nx * dy) (ny * dx)) (slY : Slope py (ny * dx) (max (nx * dy) (ny * dx)) 520) (slX : Slope px (nx * dy) (max (nx * dy) (ny * dx)) 520) where
  M : ℕ
  M = max (nx * dy) (ny * dx)

  le_y : ny * dx ≤ max (nx * dy) (ny * dx)
  le_y = le-max_right (nx * dy) (ny * dx)

  le_x : nx * dy ≤ max (nx * dy) (ny * dx)
  le_x = le-max_left (nx * dy) (ny * dx)

  by_line : (ns nc : Bool) (vs vc : ℕ) (ρs ρc : Ratio) → Sized ρs (xor sy ns) vs → Sized ρc nc vc → T (line_test sx py px ns vs nc vc) → Line sy ny dy sx nx dx ρs ρc
  unfolding line_test
  by_line ns nc vs vc ρs ρc s c t =
      let W = max (nx * dy) (ny * dx) * (ρc.bot * ρs.bot) in
      let wp : 0 < W = mul-pos mp (mul-pos c.some s.some) in
      let p_a : Pair (py * vc) (ny * dx * (ρc.top * ρs.bot)) W = subst₂ (λ (x y : ℕ). Pair (py * vc) x y) (mul_assoc (ny * dx) ρc.top ρs.bot) (mul_assoc (max (nx * dy) (ny * dx)) ρc.bot ρs.bot) (pair_times (py * vc) (ny * dx * ρc.top) (max (nx * dy) (ny * dx) * ρc.bot) ρs.bot (pair py (ny * dx) (max (nx * dy) (ny * dx)) vc ρc.top ρc.bot le_y slY c.small c.near)) in
      let p_f : Pair (px * vc) (nx * dy * (ρc.top * ρs.bot)) W = subst₂ (λ (x y : ℕ). Pair (px * vc) x y) (mul_assoc (nx * dy) ρc.top ρs.bot) (mul_assoc (max (nx * dy) (ny * dx)) ρc.bot ρs.bot) (pair_times (px * vc) (nx * dy * ρc.top) (max (nx * dy) (ny * dx) * ρc.bot) ρs.bot (pair px (nx * dy) (max (nx * dy) (ny * dx)) vc ρc.top ρc.bot le_x slX c.small c.near)) in
      let ww : max (nx * dy) (ny * dx) * ρs.bot * ρc.bot ≡ W = mul_assoc (max (nx * dy) (ny * dx)) ρs.bot ρc.bot ∙ ap (λ (z : ℕ). max (nx * dy) (ny * dx) * z) (mul_comm ρs.bot ρc.bot) in
      let p_b : Pair (px * vs) (nx * dy * (ρs.top * ρc.bot)) W = subst₂ (λ (x y : ℕ). Pair (px * vs) x y) (mul_assoc (nx * dy) ρs.top ρc.bot) ww (pair_times (px * vs) (nx * dy * ρs.top) (max (nx * dy) (ny * dx) * ρs.bot) ρc.bot (pair px (nx * dy) (max (nx * dy) (ny * dx)) vs ρs.top ρs.bot le_x slX s.small s.near)) in
      let p_g : Pair (py * vs) (ny * dx * (ρs.top * ρc.bot)) W = subst₂ (λ (x y : ℕ). Pair (py * vs) x y) (mul_assoc (ny * dx) ρs.top ρc.bot) ww (pair_times (py * vs) (ny * dx * ρs.top) (max (nx * dy) (ny * dx) * ρs.bot) ρc.bot (pair py (ny * dx) (max (nx * dy) (ny * dx)) vs ρs.top ρs.bot le_y slY s.small s.near)) in
      let small = leb→le (minus_size nc (py * vc) (xor sx ns) (px * vs)) 8796093022208 (cond_left (leb (minus_size nc (py * vc) (xor sx ns) (px * vs)) 8796093022208) (plus_over (xor sx nc) (px * vc) ns (py * vs)) t) in
      let fwd = cond_right (leb (minus_size nc (py * vc) (xor sx ns) (px * vs)) 8796093022208) (plus_over (xor sx nc) (px * vc) ns (py * vs)) t in
      let a = ny * dx * (ρc.top * ρs.bot) in
      let b = nx * dy * (ρs.top * ρc.bot) in
      let f = nx * dy * (ρc.top * ρs.bot) in
      let g = ny * dx * (ρs.top * ρc.bot) in (
        subst₂ (λ (x y : Bool). minus_size (xor sy x) a (xor sx y) b * 262144 ≤ W) (sym c.sign) (sym s.sign) (subst (λ (z : ℕ). z * 262144 ≤ W) (sym (same_sign sy sx ns nc a b)) (residual (py * vc) (px * vs) a b W p_a p_b nc (xor sx ns) small)),
        subst₂ (λ (x y : Bool). plus_positive (xor sx x) f (xor sy y) g) (sym c.sign) (sym s.sign) (subst (λ (y : Bool). plus_positive (xor sx nc) f y g) (sym (twice sy ns)) (side (px * vc) (py * vs) f g W p_f p_g (xor sx nc) ns wp fwd)),
      )

-- ---- by k
module _ (A R D : ℕ) (al : A < 17179869184) (dp : 0 < D) (rd : R ≤ D) (an : Angle 17179869184 A D R 2) where
  s_s : (s : Bool) → Sized (ratio s (sin_top R D) (sin_bot D)) s (sin_fix A)
  s_s s = record { sign = refl; near = near_sin A D R 2 2 1 (le_of_lt al) rd (lit≤ tt) (lit≤ tt) an 10 (lit≤ tt); small = sin_fix_le A al; some = sin_bot_pos D dp }

  s_c : (s : Bool) → Sized (ratio s (cos_top R D) (cos_bot D)) s (cos_fix A)
  s_c s = record { sign = refl; near = wide (cos_fix A) (cos_top R D) (cos_bot D) (near_cos A D R 2 2 1 (le_of_lt al) rd (lit≤ tt) (lit≤ tt) an); small = cos_fix_le A; some = cos_bot_pos D dp }
    where
      wide : (v t b : ℕ) → Near v t b 8 → Near v t b 10
      wide v t b n = record { low = lo n.low; high = hi n.high }
        where
          lo : v * b ≤ 2147483648 * t + 8 * b → v * b ≤ 2147483648 * t + 10 * b
          lo h = omega arith

          hi : 2147483648 * t ≤ v * b + 8 * b → 2147483648 * t ≤ v * b + 10 * b
          hi h = omega arith

  by_turn : (sx : Bool) (ny dy nx dx py px : ℕ) → 0 < max (nx * dy) (ny * dx) → Slope py (ny * dx) (max (nx * dy) (ny * dx)) 520 → Slope px (nx * dy) (max (nx * dy) (ny * dx)) 520
      → (f down : Bool) (k : ℕ) → k < 4 → T (turn_test k down sx py px (sin_fix A) (cos_fix A)) → Line f ny dy sx nx dx (pick_s (cond f ((4 - k) % 4) k) (xor f down) R D) (pick_c (cond f ((4 - k) % 4) k) (xor f down) R D)
  by_turn sx ny dy nx dx py px mp y x true true zero h t = by_line true sx ny dy nx dx py px mp y x true false (sin_fix A) (cos_fix A) _ _ (s_s false) (s_c false) t
  by_turn sx ny dy nx dx py px mp y x true false zero h t = by_line true sx ny dy nx dx py px mp y x false false (sin_fix A) (cos_fix A) _ _ (s_s true) (s_c false) t
  by_turn sx ny dy nx dx py px mp y x false true zero h t = by_line false sx ny dy nx dx py px mp y x true false (sin_fix A) (cos_fix A) _ _ (s_s true) (s_c false) t
  by_turn sx ny dy nx dx py px mp y x false false zero h t = by_line false sx ny dy nx dx py px mp y x false false (sin_fix A) (cos_fix A) _ _ (s_s false) (s_c false) t
  by_turn sx ny dy nx dx py px mp y x true true (suc zero) h t = by_line true sx ny dy nx dx py px mp y x false false (cos_fix A) (sin_fix A) _ _ (s_c true) (s_s false) t
  by_turn sx ny dy nx dx py px mp y x true false (suc zero) h t = by_line true sx ny dy nx dx py px mp y x false true (cos_fix A) (sin_fix A) _ _ (s_c true) (s_s true) t
  by_turn sx ny dy nx dx py px mp y x false true (suc zero) h t = by_line false sx ny dy nx dx py px mp y x false false (cos_fix A) (sin_fix A) _ _ (s_c false) (s_s false) t
  by_turn sx ny dy nx dx py px mp y x false false (suc zero) h t = by_line false sx ny dy nx dx py px mp y x false true (cos_fix A) (sin_fix A) _ _ (s_c false) (s_s true) t
  by_turn sx ny dy nx dx py px mp y x true true (suc (suc zero)) h t = by_line true sx ny dy nx dx py px mp y x false true (sin_fix A) (cos_fix A) _ _ (s_s true) (s_c true) t
  by_turn sx ny dy nx dx py px mp y x true false (suc (suc zero)) h t = by_line true sx ny dy nx dx py px mp y x true true (sin_fix A) (cos_fix A) _ _ (s_s false) (s_c true) t
  by_turn sx ny dy nx dx py px mp y x false true (suc (suc zero)) h t = by_line false sx ny dy nx dx py px mp y x false true (sin_fix A) (cos_fix A) _ _ (s_s false) (s_c true) t
  by_turn sx ny dy nx dx py px mp y x false false (suc (suc zero)) h t = by_line false sx ny dy nx dx py px mp y x true true (sin_fix A) (cos_fix A) _ _ (s_s true) (s_c true) t
  by_turn sx ny dy nx dx py px mp y x true true (suc (suc (suc zero))) h t = by_line true sx ny dy nx dx py px mp y x true true (cos_fix A) (sin_fix A) _ _ (s_c false) (s_s true) t
  by_turn sx ny dy nx dx py px mp y x true false (suc (suc (suc zero))) h t = by_line true sx ny dy nx dx py px mp y x true false (cos_fix A) (sin_fix A) _ _ (s_c false) (s_s false) t
  by_turn sx ny dy nx dx py px mp y x false true (suc (suc (suc zero))) h t = by_line false sx ny dy nx dx py px mp y x true true (cos_fix A) (sin_fix A) _ _ (s_c true) (s_s true) t
  by_turn sx ny dy nx dx py px mp y x false false (suc (suc (suc zero))) h t = by_line false sx ny dy nx dx py px mp y x true false (cos_fix A) (sin_fix A) _ _ (s_c true) (s_s false) t
  by_turn sx ny dy nx dx py px mp y x f down (suc (suc (suc (suc k)))) h t = absurd (omega arith)

pub by_grid : (f sx : Bool) (ny dy nx dx py px n d X : ℕ) → 0 < d → 0 < max (nx * dy) (ny * dx) → Slope py (ny * dx) (max (nx * dy) (ny * dx)) 520 → Slope px (nx * dy) (max (nx * dy) (ny * dx)) 520
    → Reduced f n d X (scan 20 0 X) → T (grid_test sx py px X) → Line f ny dy sx nx dx (sine f n d) (cosine f n d)
unfolding grid_test
by_grid f sx ny dy nx dx py px n d X dp mp y x r t =
    let q = scan 20 0 X in
    subst₂ (λ (s c : Ratio). Line f ny dy sx nx dx s c) (sym (sine_at f n d X q r)) (sym (cosine_at f n d X q r))
    (by_turn (rest q X) (rest_top (half q) n d) (rest_bot d) r.small (mul-pos {m = 2 * pi_bot} (lit< tt) dp) r.proper r.angle sx ny dy nx dx py px mp y x f (odd q) (half q % 4) (mod-lt (half q) (lit< tt)) t)
