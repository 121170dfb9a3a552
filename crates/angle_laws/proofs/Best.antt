-- The certified guess answers an `IsArc`, and so do the steps of the arctangent: the guess, or the halving. Assumes nothing.
use mathlib.Core.Path.{◌≡◌, sym, subst, refl, subst₂}
use mathlib.Core.Bool.{Bool, false, true, cond, true≢false}
use Prim.Native.Nat.{ℕ, ◌+◌, ◌*◌, ◌≤◌, ◌<◌, max, zero, suc}
use native.Mathlib.Nat.{mul-pos, zero-lt-suc}
use native.Mathlib.Omega.{arith}
use lib.IntN.{ℤ}
use lib.Ieee.{Float, nan, inf, fin, up, down, binary32, fits, lt, le, neg}
use lib.Dec.{T}
use lib.Ieee.Fits.{down_pos, up_pos, cond-fits, neg-fits, sub-fits, div-fits}
use lib.Ieee.Bits.{of_bits-fits}
use Rattle.floats.specs.Floats.{abs_of}
use Rattle.bits.specs.Parts.{places}
use Rattle.angles.proofs.Cert.{top_of, body}
use Rattle.angle_laws.specs.Angle.{C, Ratio, S, sine, cosine}
use Rattle.angle_laws.proofs.Placed.{placed}
use Rattle.angles.specs.Arc.{signed_pi32, cert_of, grid_test, ratio_of, arc_steps, best_steps}
use Rattle.angle_laws.specs.Asked.{IsArc}
use Rattle.angles.proofs.Ratio.{Slope}
use Rattle.angle_laws.proofs.Line.{Line}
use Rattle.angle_laws.proofs.Certify.{by_grid}
use Rattle.angles.specs.Guess.{num32, plus32, less32, times32, over32, tail_of, raised_of, lowered_of, atan_low, atan_high, atan_guess, arc_guess}
use Rattle.angles.proofs.Sides.{lt_zero, le_true, le_false, zero_lt, le_zero, ratio_near}
use Rattle.angle_laws.proofs.Arcs.{any_sign, zero_over}

cond_1 : (a b : Bool) → T (cond a b false) → (a ≡ true) × T b
cond_1 true b t = (refl, t)
cond_1 false b t = absurd t

cert_open : (back : Bool) (py px : ℕ) (c : Float) → T (cert_of back py px c) → (le c (signed_pi32 false) ≡ true) × T (grid_test back py px (places 40 c))
unfolding cert_of
cert_open back py px c t = cond_1 (le c (signed_pi32 false)) (grid_test back py px (places 40 c)) t

-- an angle from +0 to the f32 nearest π
record Good (c : Float) : Type 0 where
  pub m : ℕ
  pub e : ℤ
  pub is : c ≡ fin false m e
  pub top : m * up e * 4194304 ≤ 13176795 * down e

good : (g : Float) → le (abs_of g) (signed_pi32 false) ≡ true → Good (abs_of g)
unfolding le abs_of
good nan h = absurd (true≢false (sym h))
good (inf s) h = absurd (true≢false (sym h))
good (fin s m d) h = record { m = m; e = d; is = refl; top = top_of m d h }

narrower : (n d : ℕ) → n * 4194304 ≤ 13176795 * d → n ≤ 16 * d
narrower n d h = omega arith

-- ---- the certified guess
pub by_guess : (sy : Bool) (my : ℕ) (ey : ℤ) (sx back : Bool) (mx : ℕ) (ex : ℤ) (py px : ℕ) (g : Float) → T (fits binary32 (abs_of g))
    → ((s k : Ratio) → Line sy (my * up ey) (down ey) back (mx * up ex) (down ex) s k → Line sy (my * up ey) (down ey) sx (mx * up ex) (down ex) s k)
    → 0 < max (mx * up ex * down ey) (my * up ey * down ex) → Slope py (my * up ey * down ex) (max (mx * up ex * down ey) (my * up ey * down ex)) 520 → Slope px (mx * up ex * down ey) (max (mx * up ex * down ey) (my * up ey * down ex)) 520
    → T (cert_of back py px (abs_of g)) → IsArc (fin sy my ey) (fin sx mx ex) (cond sy (neg (abs_of g)) (abs_of g))
unfolding IsArc S C neg
by_guess sy my ey sx back mx ex py px c ft tr mp slY slX t =
    let o = cert_open back py px (abs_of c) t in
    let g = good c o.0 in
    subst (λ (z : Float). IsArc (fin sy my ey) (fin sx mx ex) (cond sy (neg z) z)) (sym g.is)
    (fin_arc g.m g.e g.top (subst (λ (z : Float). T (fits binary32 z)) g.is ft) (subst (λ (z : Float). T (grid_test back py px (places 40 z))) g.is o.1))
  where
    ends : (s : Bool) (m : ℕ) (e : ℤ) → m * up e * 4194304 ≤ 13176795 * down e → Line s (my * up ey) (down ey) sx (mx * up ex) (down ex) (sine s (m * up e) (down e)) (cosine s (m * up e) (down e)) → IsArc (fin s my ey) (fin sx mx ex) (cond s (neg (fin false m e)) (fin false m e))
    ends true m e top l = (l.0, (l.1, (top, refl)))
    ends false m e top l = (l.0, (l.1, (top, refl)))

    fin_arc : (m : ℕ) (e : ℤ) → m * up e * 4194304 ≤ 13176795 * down e → T (fits binary32 (fin false m e)) → T (grid_test back py px (places 40 (fin false m e))) → IsArc (fin sy my ey) (fin sx mx ex) (cond sy (neg (fin false m e)) (fin false m e))
    fin_arc m e top f t =
        ends sy m e top (tr (sine sy (m * up e) (down e)) (cosine sy (m * up e) (down e))
        (by_grid sy back (my * up ey) (down ey) (mx * up ex) (down ex) py px (m * up e) (down e) (places 40 (fin false m e)) (down_pos e) mp slY slX ((placed m e f (narrower (m * up e) (down e) top)).reduced_at sy) t))

-- ---- the guess is a float of the format
size_fits : (x : Float) → T (fits binary32 x) → T (fits binary32 (abs_of x))
unfolding abs_of
size_fits nan f = f
size_fits (inf s) f = unfold fits in tt
size_fits (fin false m e) f = f
size_fits (fin true m e) f = unfold neg in neg-fits binary32 (fin true m e) f

low_fits : (x : Float) → T (fits binary32 x) → T (fits binary32 (atan_low x))
unfolding atan_low
low_fits x f = cond-fits binary32 (lt x (num32 822083584)) x (less32 x (times32 x (tail_of x))) f (sub-fits binary32 x (times32 x (tail_of x)))

raised_fits : (h l u : Float) → T (fits binary32 (raised_of h l u))
unfolding raised_of
raised_fits h l u = sub-fits binary32 h (less32 (less32 (times32 u (tail_of u)) l) u)

lowered_fits : (t : Float) → T (fits binary32 (lowered_of t))
unfolding lowered_of
lowered_fits t = sub-fits binary32 (num32 1070141402) (less32 t (plus32 (times32 t (tail_of t)) (num32 866263400)))

high_fits : (x : Float) → T (fits binary32 (atan_high x))
unfolding atan_high
high_fits x =
    let u1 = over32 (less32 (times32 (num32 1073741824) x) (num32 1065353216)) (plus32 (num32 1073741824) x) in
    let u2 = over32 (less32 x (num32 1065353216)) (plus32 x (num32 1065353216)) in
    let u3 = over32 (less32 x (num32 1069547520)) (plus32 (num32 1065353216) (times32 (num32 1069547520) x)) in
    let r1 = raised_of (num32 1055744824) (num32 833369961) u1 in
    let r2 = raised_of (num32 1061752794) (num32 857874792) u2 in
    let r3 = raised_of (num32 1065064542) (num32 856952756) u3 in
    let r4 = lowered_of (over32 (num32 1065353216) x) in
    let c4 = cond (lt x (num32 1275068416)) r4 (num32 1070141403) in
    let c3 = cond (lt x (num32 1075576832)) r3 c4 in
    let c2 = cond (lt x (num32 1066926080)) r2 c3 in
    cond-fits binary32 (lt x (num32 1060110336)) r1 c2 (raised_fits (num32 1055744824) (num32 833369961) u1)
    (cond-fits binary32 (lt x (num32 1066926080)) r2 c3 (raised_fits (num32 1061752794) (num32 857874792) u2)
    (cond-fits binary32 (lt x (num32 1075576832)) r3 c4 (raised_fits (num32 1065064542) (num32 856952756) u3)
    (cond-fits binary32 (lt x (num32 1275068416)) r4 (num32 1070141403) (lowered_fits (over32 (num32 1065353216) x)) (of_bits-fits binary32 1070141403))))

atan_fits : (x : Float) → T (fits binary32 x) → T (fits binary32 (atan_guess x))
unfolding atan_guess
atan_fits x f = cond-fits binary32 (lt x (num32 1054867456)) (atan_low x) (atan_high x) (low_fits x f) (high_fits x)

guess_fits : (back : Bool) (p s : Float) → T (fits binary32 (abs_of (arc_guess back p s)))
unfolding arc_guess
guess_fits back p s =
    let z = atan_guess (over32 p s) in
    size_fits (arc_guess back p s) (cond-fits binary32 back (less32 (num32 1078530011) (plus32 z (num32 867941678))) z (sub-fits binary32 (num32 1078530011) (plus32 z (num32 867941678))) (atan_fits (over32 p s) (div-fits binary32 p s)))

same_slope : (a c : ℕ) → a ≡ c → Slope 2147483648 a c 520
same_slope a c e = record { low = lo; high = hi }
  where
    lo : 2147483648 * c ≤ 2147483648 * a + 520 * c
    lo = omega arith

    hi : 2147483648 * a ≤ 2147483648 * c + 520 * c
    hi = omega arith

max_l : (a b : ℕ) → b ≤ a → max a b ≡ a
max_l a b h = omega arith

max_r : (a b : ℕ) → a ≤ b → max a b ≡ b
max_r a b h = omega arith

-- |y| ≤ |x|: Y = ny dx ≤ X = nx dy
flat_sides : (X Y t : ℕ) → 0 < X → Y ≤ X → Slope t Y X 520 → (0 < max X Y) × (Slope t Y (max X Y) 520 × Slope 2147483648 X (max X Y) 520)
flat_sides X Y t xp h s = (subst (λ (z : ℕ). 0 < z) (sym (max_l X Y h)) xp, (subst (λ (z : ℕ). Slope t Y z 520) (sym (max_l X Y h)) s, same_slope X (max X Y) (sym (max_l X Y h))))

steep_sides : (X Y t : ℕ) → 0 < Y → X ≤ Y → Slope t X Y 520 → (0 < max X Y) × (Slope 2147483648 Y (max X Y) 520 × Slope t X (max X Y) 520)
steep_sides X Y t yp h s = (subst (λ (z : ℕ). 0 < z) (sym (max_r X Y h)) yp, (same_slope Y (max X Y) (sym (max_r X Y h)), subst (λ (z : ℕ). Slope t X z 520) (sym (max_r X Y h)) s))

pick : (y x r a : Float) (b : Bool) → (T b → IsArc y x r) → IsArc y x a → IsArc y x (cond b r a)
pick y x r a true f g = f tt
pick y x r a false f g = g

module _ (sy : Bool) (my : ℕ) (ey : ℤ) (sx : Bool) (mx : ℕ) (ex : ℤ) (yp : 0 < my) (xp : 0 < mx) (old : IsArc (fin sy my ey) (fin sx mx ex) (arc_steps (fin sy my ey) (fin sx mx ex))) where
  w_pos : 0 < mx * up ex * down ey
  w_pos = mul-pos (mul-pos xp (up_pos ex)) (down_pos ey)

  u_pos : 0 < my * up ey * down ex
  u_pos = mul-pos (mul-pos yp (up_pos ey)) (down_pos ex)

  best_flat : my * up ey * down ex ≤ mx * up ex * down ey → IsArc (fin sy my ey) (fin sx mx ex) (body (fin sy my ey) (fin sx mx ex) true sx sy (fin false my ey) (fin false mx ex))
  unfolding ratio_of
  best_flat h =
      let r = ratio_near my ey mx ex xp h in
      let t = ratio_of (fin false my ey) (fin false mx ex) in
      let c = arc_guess sx (fin false my ey) (fin false mx ex) in
      let s = flat_sides (mx * up ex * down ey) (my * up ey * down ex) t w_pos h r.slope in
      pick (fin sy my ey) (fin sx mx ex) (cond sy (neg (abs_of c)) (abs_of c)) (arc_steps (fin sy my ey) (fin sx mx ex)) (cert_of sx t 2147483648 (abs_of c))
      (by_guess sy my ey sx sx mx ex t 2147483648 c (guess_fits sx (fin false my ey) (fin false mx ex)) (λ (a b : Ratio) (l : Line sy (my * up ey) (down ey) sx (mx * up ex) (down ex) a b). l) s.0 s.1.0 s.1.1) old

  best_steep : mx * up ex * down ey ≤ my * up ey * down ex → IsArc (fin sy my ey) (fin sx mx ex) (body (fin sy my ey) (fin sx mx ex) false sx sy (fin false my ey) (fin false mx ex))
  unfolding ratio_of
  best_steep h =
      let r = ratio_near mx ex my ey yp h in
      let t = ratio_of (fin false mx ex) (fin false my ey) in
      let c = arc_guess sx (fin false my ey) (fin false mx ex) in
      let s = steep_sides (mx * up ex * down ey) (my * up ey * down ex) t u_pos h r.slope in
      pick (fin sy my ey) (fin sx mx ex) (cond sy (neg (abs_of c)) (abs_of c)) (arc_steps (fin sy my ey) (fin sx mx ex)) (cert_of sx 2147483648 t (abs_of c))
      (by_guess sy my ey sx sx mx ex 2147483648 t c (guess_fits sx (fin false my ey) (fin false mx ex)) (λ (a b : Ratio) (l : Line sy (my * up ey) (down ey) sx (mx * up ex) (down ex) a b). l) s.0 s.1.0 s.1.1) old

  best_both : IsArc (fin sy my ey) (fin sx mx ex) (best_steps (fin sy my ey) (fin sx mx ex))
  unfolding best_steps abs_of
  best_both =
      subst₂ (λ (p q : Bool). IsArc (fin sy my ey) (fin sx mx ex) (body (fin sy my ey) (fin sx mx ex) (le (fin false my ey) (fin false mx ex)) p q (fin false my ey) (fin false mx ex))) (sym (lt_zero sx mx ex xp)) (sym (lt_zero sy my ey yp))
      (go (le (fin false my ey) (fin false mx ex)) (le_true my ey mx ex) (le_false my ey mx ex))
    where
      go : (b : Bool) → (b ≡ true → my * up ey * down ex ≤ mx * up ex * down ey) → (b ≡ false → mx * up ex * down ey ≤ my * up ey * down ex) → IsArc (fin sy my ey) (fin sx mx ex) (body (fin sy my ey) (fin sx mx ex) b sx sy (fin false my ey) (fin false mx ex))
      go true y n = best_flat (y refl)
      go false y n = best_steep (n refl)

-- ---- x zero, of either sign
module _ (sy : Bool) (my : ℕ) (ey : ℤ) (sx : Bool) (ex : ℤ) (yp : 0 < my) (old : IsArc (fin sy my ey) (fin sx 0 ex) (arc_steps (fin sy my ey) (fin sx 0 ex))) where
  at_zero : IsArc (fin sy my ey) (fin sx 0 ex) (body (fin sy my ey) (fin sx 0 ex) false false sy (fin false my ey) (fin false 0 ex))
  unfolding ratio_of
  at_zero =
      let a = 0 * up ex * down ey in
      let c = my * up ey * down ex in
      let cp : 0 < c = mul-pos (mul-pos yp (up_pos ey)) (down_pos ex) in
      let h : a ≤ c = zero_over my ey ex in
      let r = ratio_near 0 ex my ey yp h in
      let t = ratio_of (fin false 0 ex) (fin false my ey) in
      let g = arc_guess false (fin false my ey) (fin false 0 ex) in
      let s = steep_sides a c t cp h r.slope in
      pick (fin sy my ey) (fin sx 0 ex) (cond sy (neg (abs_of g)) (abs_of g)) (arc_steps (fin sy my ey) (fin sx 0 ex)) (cert_of false 2147483648 t (abs_of g))
      (by_guess sy my ey sx false 0 ex 2147483648 t g (guess_fits false (fin false my ey) (fin false 0 ex)) (λ (u v : Ratio). any_sign sy (my * up ey) (down ey) sx (up ex) (down ex) u v) s.0 s.1.0 s.1.1) old

  best_zero_x : IsArc (fin sy my ey) (fin sx 0 ex) (best_steps (fin sy my ey) (fin sx 0 ex))
  unfolding best_steps abs_of
  best_zero_x =
      subst₂ (λ (p q : Bool). IsArc (fin sy my ey) (fin sx 0 ex) (body (fin sy my ey) (fin sx 0 ex) (le (fin false my ey) (fin false 0 ex)) p q (fin false my ey) (fin false 0 ex))) (sym (zero_lt sx ex)) (sym (lt_zero sy my ey yp))
      (subst (λ (b : Bool). IsArc (fin sy my ey) (fin sx 0 ex) (body (fin sy my ey) (fin sx 0 ex) b false sy (fin false my ey) (fin false 0 ex))) (sym (le_zero my ey ex yp)) at_zero)

pub best_good : (sy : Bool) (my : ℕ) (ey : ℤ) (sx : Bool) (mx : ℕ) (ex : ℤ) → 0 < my → IsArc (fin sy my ey) (fin sx mx ex) (arc_steps (fin sy my ey) (fin sx mx ex)) → IsArc (fin sy my ey) (fin sx mx ex) (best_steps (fin sy my ey) (fin sx mx ex))
best_good sy my ey sx zero ex yp old = best_zero_x sy my ey sx ex yp old
best_good sy my ey sx (suc mx) ex yp old = best_both sy my ey sx (suc mx) ex yp (zero-lt-suc mx) old
