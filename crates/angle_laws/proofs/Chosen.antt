-- The sine and the cosine of a float from 2^-12 to 16: within 2^-20 of S and C, by the choice that k mod 4 makes. Assumes nothing.
use mathlib.Core.Path.{sym, subst}
use mathlib.Core.Bool.{Bool, true, false, cond}
use Prim.Native.Nat.{ℕ, zero, suc, ◌-◌, ◌*◌, ◌%◌, ◌≤◌, ◌<◌}
use native.Mathlib.Nat.{le_refl, le_trans, le_of_eq, mul-le-mul, mul-pos, mod-lt}
use native.Mathlib.Omega.{arith}
use lib.Dec.{T, lit≤, lit<}
use lib.IntN.{ℤ}
use lib.Ieee.{Float, fin, binary32, up, down, fits}
use lib.Ieee.Fits.{down_pos}
use Rattle.bits.specs.Parts.{places}
use Rattle.sines.specs.Steps.{xor, scan}
use Rattle.sines.specs.Sines.{half, odd, rest_of, sin_poly, cos_poly, sin_value, sin_minus, cos_value, cos_minus, single, sin_from, cos_from}
use Rattle.sines.proofs.Scan.{found}
use Rattle.angle_laws.specs.Series.{sin_top, sin_bot, cos_top, cos_bot}
use Rattle.angle_laws.specs.Angle.{turn, rest_top, rest_bot, rest_neg, pick_s, pick_c, sine, cosine, close_to}
use Rattle.angle_laws.proofs.Nested.{sin_nested, cos_nested, sin_bot_lem, cos_bot_lem, top_le}
use Rattle.angle_laws.proofs.Line.{sin_bot_pos, cos_bot_pos}
use Rattle.angle_laws.proofs.Polys.{sin_about, cos_about}
use Rattle.angle_laws.proofs.Single.{ratio, near_single}
use Rattle.angle_laws.proofs.Rest.{Rested, rested}
use Rattle.angle_laws.proofs.Reduce.{Reduced}
use Rattle.angle_laws.proofs.Placed.{placed}

pub sin_le : (R D : ℕ) → R ≤ D → sin_top R D ≤ sin_bot D
sin_le R D h = le_trans (le_of_eq (sin_nested R D h)) (le_trans (mul-le-mul h (top_le (R * R) (D * D) _ tt (mul-le-mul h h))) (le_of_eq (sym (sin_bot_lem D))))

pub cos_le : (R D : ℕ) → R ≤ D → cos_top R D ≤ cos_bot D
cos_le R D h = le_trans (le_of_eq (cos_nested R D h)) (le_trans (top_le (R * R) (D * D) _ tt (mul-le-mul h h)) (le_of_eq (sym (cos_bot_lem D))))

abbrev turned : Bool → ℕ → ℕ
turned f j = cond f ((4 - j) % 4) j

module _ (w : Float) (R D : ℕ) (dp : 0 < D) (rd : R ≤ D) (un : R * 1000 ≤ 786 * D) (r : Rested w R D) where
  near_s : (s : Bool) → close_to 1048576 (single s (sin_poly w)) (ratio s (sin_top R D) (sin_bot D))
  near_s s = subst (λ (z : Float). close_to 1048576 (single s z) (ratio s (sin_top R D) (sin_bot D))) (sym r.sin_same) (near_single (sin_poly r.v) (sin_top R D) (sin_bot D) 2983 (sin_bot_pos D dp) (sin_le R D rd) (le_refl 2983) (sin_about r.v R D dp un r.about r.fit) s)

  near_c : (s : Bool) → close_to 1048576 (single s (cos_poly w)) (ratio s (cos_top R D) (cos_bot D))
  near_c s = subst (λ (z : Float). close_to 1048576 (single s z) (ratio s (cos_top R D) (cos_bot D))) (sym r.cos_same) (near_single (cos_poly r.v) (cos_top R D) (cos_bot D) 444 (cos_bot_pos D dp) (cos_le R D rd) (lit≤ tt) (cos_about r.v R D dp un r.about) s)

  choose_s : (f s : Bool) (j : ℕ) → j < 4 → close_to 1048576 (single (xor f (sin_minus j s)) (sin_value j w)) (pick_s (turned f j) (xor f s) R D)
  choose_s true true zero h = near_s false
  choose_s true true (suc zero) h = near_c true
  choose_s true true (suc (suc zero)) h = near_s true
  choose_s true true (suc (suc (suc zero))) h = near_c false
  choose_s true false zero h = near_s true
  choose_s true false (suc zero) h = near_c true
  choose_s true false (suc (suc zero)) h = near_s false
  choose_s true false (suc (suc (suc zero))) h = near_c false
  choose_s false true zero h = near_s true
  choose_s false true (suc zero) h = near_c false
  choose_s false true (suc (suc zero)) h = near_s false
  choose_s false true (suc (suc (suc zero))) h = near_c true
  choose_s false false zero h = near_s false
  choose_s false false (suc zero) h = near_c false
  choose_s false false (suc (suc zero)) h = near_s true
  choose_s false false (suc (suc (suc zero))) h = near_c true
  choose_s f s (suc (suc (suc (suc j)))) h = absurd (omega arith)

  choose_c : (f s : Bool) (j : ℕ) → j < 4 → close_to 1048576 (single (cos_minus j s) (cos_value j w)) (pick_c (turned f j) (xor f s) R D)
  choose_c true true zero h = near_c false
  choose_c true true (suc zero) h = near_s false
  choose_c true true (suc (suc zero)) h = near_c true
  choose_c true true (suc (suc (suc zero))) h = near_s true
  choose_c true false zero h = near_c false
  choose_c true false (suc zero) h = near_s true
  choose_c true false (suc (suc zero)) h = near_c true
  choose_c true false (suc (suc (suc zero))) h = near_s false
  choose_c false true zero h = near_c false
  choose_c false true (suc zero) h = near_s false
  choose_c false true (suc (suc zero)) h = near_c true
  choose_c false true (suc (suc (suc zero))) h = near_s true
  choose_c false false zero h = near_c false
  choose_c false false (suc zero) h = near_s true
  choose_c false false (suc (suc zero)) h = near_c true
  choose_c false false (suc (suc (suc zero))) h = near_s false
  choose_c f s (suc (suc (suc (suc j)))) h = absurd (omega arith)

-- ---- the whole way from a = m 2^e
module _ (m : ℕ) (e : ℤ) (fit : T (fits binary32 (fin false m e))) (hi : m * up e ≤ 16 * down e) (f : Bool) where
  at : ℕ
  at = scan 20 0 (places 40 (fin false m e))

  few : at ≤ 20
  few = unfold at in go (scan 20 0 (places 40 (fin false m e))) (found (places 40 (fin false m e)) (placed m e fit hi).small).few
    where
      go : (q : ℕ) → q < 21 → q ≤ 20
      go q h = omega arith

  got : Reduced f (m * up e) (down e) (places 40 (fin false m e)) at
  got = unfold at in (placed m e fit hi).reduced_at f

  pos_bot : 0 < rest_bot (down e)
  pos_bot = mul-pos {m = 200000000000000000000} (lit< tt) (down_pos e)

  pub sin_from_lem : close_to 1048576 (sin_from f (fin false m e)) (sine f (m * up e) (down e))
  unfolding sin_from sine at
  sin_from_lem =
      let q = scan 20 0 (places 40 (fin false m e)) in
      let n = m * up e in
      let d = down e in
      let w = rest_of q (fin false m e) in
      let r = got in
      subst (λ (k : ℕ). close_to 1048576 (single (xor f (sin_minus (half q % 4) (odd q))) (sin_value (half q % 4) w)) (pick_s (turn f k) (rest_neg f k n d) (rest_top k n d) (rest_bot d))) (sym r.is)
      (subst (λ (b : Bool). close_to 1048576 (single (xor f (sin_minus (half q % 4) (odd q))) (sin_value (half q % 4) w)) (pick_s (turn f (half q)) (xor f b) (rest_top (half q) n d) (rest_bot d))) (sym r.sign)
      (choose_s w (rest_top (half q) n d) (rest_bot d) pos_bot r.proper r.under (rested m e hi q few) f (odd q) (half q % 4) (mod-lt (half q) (lit< tt))))

  pub cos_from_lem : close_to 1048576 (cos_from (fin false m e)) (cosine f (m * up e) (down e))
  unfolding cos_from cosine at
  cos_from_lem =
      let q = scan 20 0 (places 40 (fin false m e)) in
      let n = m * up e in
      let d = down e in
      let w = rest_of q (fin false m e) in
      let r = got in
      subst (λ (k : ℕ). close_to 1048576 (single (cos_minus (half q % 4) (odd q)) (cos_value (half q % 4) w)) (pick_c (turn f k) (rest_neg f k n d) (rest_top k n d) (rest_bot d))) (sym r.is)
      (subst (λ (b : Bool). close_to 1048576 (single (cos_minus (half q % 4) (odd q)) (cos_value (half q % 4) w)) (pick_c (turn f (half q)) (xor f b) (rest_top (half q) n d) (rest_bot d))) (sym r.sign)
      (choose_c w (rest_top (half q) n d) (rest_bot d) pos_bot r.proper r.under (rested m e hi q few) f (odd q) (half q % 4) (mod-lt (half q) (lit< tt))))
