-- `ceil` by the whole part: where the code's tests lead, and what the ceiling means. Assumes nothing.
use Rattle.std.proofs.Common.{◌≡◌, ℕ, zero, suc, ◌+◌, ◌*◌, ◌/◌, ◌%◌, ◌^◌, ◌<◌, ◌≤◌, min, Bool, true, false, cond, not, ◌&&◌, T, eqb, ltb, leb, ℤ, pos, negsuc, sym, refl, ap, ◌∙◌, subst, le_of_eq, lt_of_lt_of_le, mod-lt, mul_comm, div-lt_iff_lt-mul, lt_of_mul-lt-mul_right, mul-lt-mul_of_pos_right, one-mul, div-add-mod', le-div_iff_mul-le, zero-mul, mul-one, mul_right_comm, div-one, arith, eqb→eq, ltb→lt, lt→ltb, nltb→le, pow_pos}
use native.Mathlib.Nat.{zero-div, div-le_of_le-mul}
use lib.Ieee.{Float, nan, inf, fin, binary32, up, down, lt, le, fits, of_int, round, to_unsigned}
use lib.Ieee.Exact.{HasValue}
use lib.Ieee.Bits.{is_true}
use lib.Ieee.Scale.{finite}
use lib.Ieee.Back.{round_whole}
use lib.Ieee.Fits.{down_pos, eq→eqb, and_l, and_r}
use Rattle.floats.specs.Floats.{zero32, ceil_of}
use Rattle.floats.proofs.Cross.{of_taken, of_left, is_false, iff→eq, le→cross, cross→le}
use Rattle.floats.proofs.Preorder.{nan_le}

-- 2^31 and 2^24
abbrev pub top : Float
top = fin false 1 (pos 31)

abbrev pub gapless : Float
gapless = fin false 1 (pos 24)

-- ---- the ceiling of n / d, on whole numbers
abbrev upward : ℕ → ℕ → ℕ
upward n d = min (n / d + cond (eqb (n % d) 0) 0 1) 2147483647

-- nothing is left
flat : (n d w : ℕ) → 0 < d → n / d ≡ w → n ≤ w * d → w < 2147483648 → w ≡ upward n d
flat n d w D e h k =
    let left : n % d ≡ 0 = omega (arith, div-add-mod' n d, ap (λ (z : ℕ). z * d) e) in
    let none : eqb (n % d) 0 ≡ true = is_true (eqb (n % d) 0) (eq→eqb left) in
    rw none (rw e (omega arith))

-- something is left
more : (n d w : ℕ) → 0 < d → n / d ≡ w → w * d < n → w < 2147483647 → w + 1 ≡ upward n d
more n d w D e h k =
    let some : eqb (n % d) 0 ≡ false = is_false (eqb (n % d) 0) (λ (t : T (eqb (n % d) 0)). omega (arith, eqb→eq (n % d) 0 t, div-add-mod' n d, ap (λ (z : ℕ). z * d) e)) in
    rw some (rw e (omega arith))

over : (n d : ℕ) → 0 < d → 2147483648 * d ≤ n → 2147483647 ≡ upward n d
over n d D h = let k : 2147483648 ≤ n / d = (le-div_iff_mul-le D).1 h in omega arith

-- ---- values
-- r has the value w, a whole number: it is below n / d where w * d is below n
pub lt_whole : (r : Float) (w m : ℕ) (e : ℤ) → HasValue r false w 1 → lt r (fin false m e) ≡ ltb (w * down e) (m * up e)
unfolding lt
lt_whole nan w m e v = absurd v
lt_whole (inf s) w m e v = absurd v
lt_whole (fin true q k) w m e v = absurd (differ v.0)
  where
    differ : true ≡ false → ⊥
    differ h = subst T h tt
lt_whole (fin false q k) w m e v =
    iff→eq (ltb (q * up k * down e) (m * up e * down k)) (ltb (w * down e) (m * up e))
    (λ (t : T (ltb (q * up k * down e) (m * up e * down k))). lt→ltb (w * down e) (m * up e) (lt_of_mul-lt-mul_right (down k) (subst (λ (z : ℕ). z < m * up e * down k) same (ltb→lt (q * up k * down e) (m * up e * down k) t))))
    (λ (t : T (ltb (w * down e) (m * up e))). lt→ltb (q * up k * down e) (m * up e * down k) (subst (λ (z : ℕ). z < m * up e * down k) (sym same) (mul-lt-mul_of_pos_right (ltb→lt (w * down e) (m * up e) t) (down_pos k))))
  where
    same : q * up k * down e ≡ w * down e * down k
    same = ap (λ (z : ℕ). z * down e) (sym (mul-one (q * up k)) ∙ v.1) ∙ mul_right_comm w (down k) (down e)

whole_is : (m : ℕ) (e : ℤ) → m * up e < 2147483648 * down e → to_unsigned 64 (fin false m e) ≡ m * up e / down e
unfolding to_unsigned
whole_is m e h = let k : m * up e / down e < 2147483648 = (div-lt_iff_lt-mul (down_pos e)).1 h in omega arith

below : (m : ℕ) (e : ℤ) (k : ℕ) → T (ltb (m * up e * 1) (1 * k * down e)) → m * up e < k * down e
below m e k t = linear (m * up e) k (down e) (ltb→lt (m * up e * 1) (1 * k * down e) t)
  where
    linear : (n k d : ℕ) → n * 1 < 1 * k * d → n < k * d
    linear n k d h = subst (λ (z : ℕ). z < k * d) (mul-one n) (subst (λ (z : ℕ). n * 1 < z * d) (one-mul k) h)

not_below : (m : ℕ) (e : ℤ) (k : ℕ) → T (not (ltb (m * up e * 1) (1 * k * down e))) → k * down e ≤ m * up e
not_below m e k t = linear (m * up e) k (down e) (nltb→le (m * up e * 1) (1 * k * down e) t)
  where
    linear : (n k d : ℕ) → 1 * k * d ≤ n * 1 → k * d ≤ n
    linear n k d h = subst (λ (z : ℕ). k * d ≤ z) (mul-one n) (subst (λ (z : ℕ). z * d ≤ n * 1) (one-mul k) h)

-- ---- the ways out of `ceil`
pub ceil_none : (v : Float) → lt zero32 v ≡ false → 0 ≡ ceil_of v
unfolding lt ceil_of
ceil_none nan h = refl
ceil_none (inf true) h = refl
ceil_none (inf false) h = absurd (of_left h)
ceil_none (fin true m e) h = refl
ceil_none (fin false m e) h = flat (m * up e) (down e) 0 (down_pos e) (ap (λ (z : ℕ). z / down e) nought ∙ zero-div (down e)) (le_of_eq (nought ∙ sym (zero-mul (down e)))) (omega arith)
  where
    nought : m * up e ≡ 0
    nought = linear (m * up e) (down e) (nltb→le (0 * 1 * down e) (m * up e * 1) (of_left h))
      where
        linear : (n d : ℕ) → n * 1 ≤ 0 * 1 * d → n ≡ 0
        linear n d h = omega arith

pub ceil_top : (v : Float) → lt zero32 v ≡ true → lt v top ≡ false → 2147483647 ≡ ceil_of v
unfolding lt ceil_of
ceil_top nan h k = absurd (of_taken h)
ceil_top (inf true) h k = absurd (of_taken h)
ceil_top (inf false) h k = refl
ceil_top (fin true m e) h k = absurd (of_taken h)
ceil_top (fin false m e) h k = over (m * up e) (down e) (down_pos e) (not_below m e 2147483648 (of_left k))

-- what is left below 2^31: v is ± m * up e / down e, with the sign +
module _ (m : ℕ) (e : ℤ) (w : ℕ) (h : w ≡ to_unsigned 64 (fin false m e)) (k : m * up e < 2147483648 * down e) where
  part : m * up e / down e ≡ w
  part = sym (whole_is m e k) ∙ sym h

  part_small : w < 2147483648
  part_small = subst (λ (z : ℕ). z < 2147483648) part ((div-lt_iff_lt-mul (down_pos e)).1 k)

  -- below 2^24 the f32 nearest w is w
  below_24 : m * up e < 16777216 * down e → lt (of_int binary32 (pos w)) (fin false m e) ≡ ltb (w * down e) (m * up e)
  unfolding of_int
  below_24 l =
      let s : w < 16777216 = subst (λ (z : ℕ). z < 16777216) part ((div-lt_iff_lt-mul (down_pos e)).1 l) in
      lt_whole (round binary32 false w 1) w m e (round_whole binary32 false w (omega arith))

pub ceil_small : (v : Float) (w : ℕ) → w ≡ to_unsigned 64 v → lt zero32 v ≡ true → lt v top ≡ true → w < 2147483648
unfolding lt
ceil_small nan w e h k = absurd (of_taken h)
ceil_small (inf true) w e h k = absurd (of_taken h)
ceil_small (inf false) w e h k = absurd (of_taken k)
ceil_small (fin true m d) w e h k = absurd (of_taken h)
ceil_small (fin false m d) w e h k = part_small m d w e (below m d 2147483648 (of_taken k))

pub ceil_flat : (v : Float) (w : ℕ) → w ≡ to_unsigned 64 v → lt zero32 v ≡ true → lt v gapless ≡ true → lt (of_int binary32 (pos w)) v ≡ false → w ≡ ceil_of v
unfolding lt ceil_of
ceil_flat nan w e h l t = absurd (of_taken h)
ceil_flat (inf true) w e h l t = absurd (of_taken h)
ceil_flat (inf false) w e h l t = absurd (of_taken l)
ceil_flat (fin true m d) w e h l t = absurd (of_taken h)
ceil_flat (fin false m d) w e h l t =
    let g = below m d 16777216 (of_taken l) in
    let k : m * up d < 2147483648 * down d = omega arith in
    flat (m * up d) (down d) w (down_pos d) (part m d w e k) (nltb→le (w * down d) (m * up d) (of_left (sym (below_24 m d w e k g) ∙ t))) (part_small m d w e k)

pub ceil_more : (v : Float) (w : ℕ) → w ≡ to_unsigned 64 v → lt zero32 v ≡ true → lt v gapless ≡ true → lt (of_int binary32 (pos w)) v ≡ true → w + 1 ≡ ceil_of v
unfolding lt ceil_of
ceil_more nan w e h l t = absurd (of_taken h)
ceil_more (inf true) w e h l t = absurd (of_taken h)
ceil_more (inf false) w e h l t = absurd (of_taken l)
ceil_more (fin true m d) w e h l t = absurd (of_taken h)
ceil_more (fin false m d) w e h l t =
    let g = below m d 16777216 (of_taken l) in
    let k : m * up d < 2147483648 * down d = omega arith in
    let s : w < 16777216 = subst (λ (z : ℕ). z < 16777216) (part m d w e k) ((div-lt_iff_lt-mul (down_pos d)).1 g) in
    more (m * up d) (down d) w (down_pos d) (part m d w e k) (ltb→lt (w * down d) (m * up d) (of_taken (sym (below_24 m d w e k g) ∙ t))) (omega arith)

-- from 2^24 on a value that fits is whole: with less than 24 digits behind the point its significand would have more than 24
whole_from : (m : ℕ) (e : ℤ) → T (fits binary32 (fin false m e)) → 16777216 * down e ≤ m * up e → down e ≡ 1
unfolding fits
whole_from m (pos k) f h = refl
whole_from zero (negsuc k) f h = absurd (none (2 ^ suc k) (pow_pos (suc k)) h)
  where
    none : (d : ℕ) → 0 < d → 16777216 * d ≤ 0 * 1 → ⊥
    none d D h = omega arith
whole_from (suc m) (negsuc k) f h =
    let A = eqb (suc m % 2) 1 in
    let B = ltb (suc m) (2 ^ 24) in
    let C = leb (2 ^ suc k) (2 ^ 149) in
    let D = ltb (suc m * 1) (2 ^ 128 * 2 ^ suc k) in
    absurd (none (2 ^ suc k) (suc m) (pow_pos (suc k)) (ltb→lt (suc m) (2 ^ 24) (and_r A B (and_l (A && B) C (and_l (A && B && C) D f)))) h)
  where
    none : (d n : ℕ) → 0 < d → n < 16777216 → 16777216 * d ≤ n * 1 → ⊥
    none d n D l h = omega arith

pub ceil_large : (v : Float) (w : ℕ) → w ≡ to_unsigned 64 v → T (fits binary32 v) → lt zero32 v ≡ true → lt v top ≡ true → lt v gapless ≡ false → w ≡ ceil_of v
unfolding lt ceil_of
ceil_large nan w e f h k l = absurd (of_taken h)
ceil_large (inf true) w e f h k l = absurd (of_taken h)
ceil_large (inf false) w e f h k l = absurd (of_taken k)
ceil_large (fin true m d) w e f h k l = absurd (of_taken h)
ceil_large (fin false m d) w e f h k l =
    let b = below m d 2147483648 (of_taken k) in
    let one : down d ≡ 1 = whole_from m d f (not_below m d 16777216 (of_left l)) in
    let p = part m d w e b in
    let q : m * up d ≡ w = sym (div-one (m * up d)) ∙ ap (λ (z : ℕ). m * up d / z) (sym one) ∙ p in
    flat (m * up d) (down d) w (down_pos d) p (le_of_eq (q ∙ sym (mul-one w) ∙ ap (λ (z : ℕ). w * z) (sym one))) (part_small m d w e b)

-- ---- what it means: it is not below v, and no whole number less than it would do
least : (n d k : ℕ) → 0 < d → n ≤ k * d → upward n d ≤ k
least n d k D h = go (eqb (n % d) 0) (eqb→eq (n % d) 0) (λ (e : n % d ≡ 0). eq→eqb e)
  where
    no : (b : Bool) → (n % d ≡ 0 → T b) → b ≡ false → 0 < n % d
    no b g e = let none : (n % d ≡ 0 → ⊥) = λ (z : n % d ≡ 0). subst T e (g z) in omega arith

    go : (b : Bool) → (T b → n % d ≡ 0) → (n % d ≡ 0 → T b) → min (n / d + cond b 0 1) 2147483647 ≤ k
    go true f g = let q : n / d ≤ k = div-le_of_le-mul d (subst (λ (z : ℕ). n ≤ z) (mul_comm k d) h) in omega arith
    go false f g =
        let r = no false g refl in
        let q : n / d < k = (lt_of_mul-lt-mul_right d (lt_of_lt_of_le (omega (arith, div-add-mod' n d)) h)) in
        omega arith

pub ceil_least : (v : Float) (n : ℕ) → T (le v (fin false n (pos 0))) → ceil_of v ≤ n
unfolding ceil_of
ceil_least nan n h = absurd (nan_le (fin false n (pos 0)) h)
ceil_least (inf true) n h = omega arith
ceil_least (inf false) n h = absurd (unfold le in h)
ceil_least (fin true m e) n h = omega arith
ceil_least (fin false m e) n h = least (m * up e) (down e) n (down_pos e) (linear (m * up e) (down e) n (le→cross (fin false m e) (fin false n (pos 0)) tt tt h))
  where
    linear : (a d n : ℕ) → a * 1 + 0 * d ≤ n * 1 * d + 0 * 1 → a ≤ n * d
    linear a d n h = omega arith

enough : (n d : ℕ) → 0 < d → n < 2147483647 * d → n ≤ upward n d * d
enough n d D h = go (eqb (n % d) 0) (eqb→eq (n % d) 0)
  where
    q : n / d < 2147483647
    q = (div-lt_iff_lt-mul D).1 h

    go : (b : Bool) → (T b → n % d ≡ 0) → n ≤ min (n / d + cond b 0 1) 2147483647 * d
    go true f = let z = f tt in let m : min (n / d + 0) 2147483647 ≡ n / d = omega (arith, q) in rw m (omega (arith, div-add-mod' n d))
    go false f = let m : min (n / d + 1) 2147483647 ≡ n / d + 1 = omega (arith, q) in rw m (omega (arith, div-add-mod' n d, mod-lt n D))

pub ceil_enough : (v : Float) → T (finite v) → lt v (fin false 2147483647 (pos 0)) ≡ true → T (le v (fin false (ceil_of v) (pos 0)))
unfolding ceil_of
ceil_enough nan f h = absurd f
ceil_enough (inf s) f h = absurd f
ceil_enough (fin true m e) f h = cross→le (fin true m e) (fin false 0 (pos 0)) tt tt (omega arith)
ceil_enough (fin false m e) f h = cross→le (fin false m e) (fin false (upward (m * up e) (down e)) (pos 0)) tt tt (back (m * up e) (down e) (upward (m * up e) (down e)) (enough (m * up e) (down e) (down_pos e) (below m e 2147483647 (unfold lt in of_taken h))))
  where
    back : (a d u : ℕ) → a ≤ u * d → a * 1 + 0 * d ≤ u * 1 * d + 0 * 1
    back a d u h = omega arith
