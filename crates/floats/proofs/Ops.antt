-- The rounded operations keep the order. A difference x - y with y < x is not negative, grows with x and falls with y; a square grows with the magnitude;
-- a sum of values that are not negative grows with each, and is no less than either. Overflow to an infinity and underflow to 0 are included. Assumes nothing.
use Rattle.std.proofs.Common.{◌≡◌, ℕ, ◌+◌, ◌-◌, ◌*◌, ◌<◌, Bool, true, false, cond, not, ◌&&◌, T, ltb, ℤ, pos, sym, refl, ap, ◌∙◌, subst, add-zero, le_of_lt, mul_comm, add_comm, mul-pos, one-mul, zero-mul, mul-one, not-le_of_lt, arith, ltb→lt, lt→ltb}
use lib.Ieee.{Float, nan, inf, fin, Format, up, down, round, neg, sum, add, sub, mul, lt, le, fits, is_nan}
use lib.Ieee.Fits.{down_pos}
use lib.Ieee.Order.{round_mono}
use lib.Ieee.Positive.{den, den_pos}
use lib.Ieee.Scale.{finite}
use Rattle.floats.proofs.Cross.{plus, less, cross, lt_is, le→cross, cross→le, nonneg_cross, shift, shift_below, sums, squares}
use Rattle.floats.proofs.Preorder.{number, le_nan, nan_le, le_refl_f, lt_le_trans, le_lt_trans}
use Rattle.floats.proofs.Sign.{nonneg, round_neg, round_nonneg}
use Rattle.floats.proofs.Values.{round_back}

pub nonneg_number : (x : Float) → T (nonneg x) → T (number x)
unfolding is_nan
nonneg_number nan t = absurd t
nonneg_number (inf s) t = tt
nonneg_number (fin s m e) t = tt

pub finite_number : (x : Float) → T (finite x) → T (number x)
unfolding is_nan
finite_number nan t = absurd t
finite_number (inf s) t = absurd t
finite_number (fin s m e) t = tt

pub neg_finite : (x : Float) → T (finite x) → T (finite (neg x))
unfolding neg
neg_finite nan t = absurd t
neg_finite (inf s) t = absurd t
neg_finite (fin s m e) t = tt

pub nonneg_le_inf : (x : Float) → T (nonneg x) → T (le x (inf false))
unfolding le
nonneg_le_inf nan t = absurd t
nonneg_le_inf (inf true) t = absurd t
nonneg_le_inf (inf false) t = tt
nonneg_le_inf (fin s m e) t = tt

-- +0 is no more than any of them
pub zero_le_nonneg : (x : Float) → T (nonneg x) → T (le (fin false 0 (pos 0)) x)
zero_le_nonneg nan t = absurd t
zero_le_nonneg (inf true) t = absurd t
zero_le_nonneg (inf false) t = nonneg_le_inf (fin false 0 (pos 0)) tt
zero_le_nonneg (fin true m e) t = absurd t
zero_le_nonneg (fin false m e) t = cross→le (fin false 0 (pos 0)) (fin false m e) tt tt (simp (zero-mul, add-zero) (omega arith))

-- ---- negation turns the order round
neg_le_fin : (s : Bool) (m : ℕ) (e : ℤ) (t : Bool) (n : ℕ) (d : ℤ) → T (le (fin s m e) (fin t n d)) → T (le (fin (not t) n d) (fin (not s) m e))
neg_le_fin true m e true n d h = cross→le (fin false n d) (fin false m e) tt tt (omega (arith, le→cross (fin true m e) (fin true n d) tt tt h))
neg_le_fin true m e false n d h = cross→le (fin true n d) (fin false m e) tt tt (omega (arith, le→cross (fin true m e) (fin false n d) tt tt h))
neg_le_fin false m e true n d h = cross→le (fin false n d) (fin true m e) tt tt (omega (arith, le→cross (fin false m e) (fin true n d) tt tt h))
neg_le_fin false m e false n d h = cross→le (fin true n d) (fin true m e) tt tt (omega (arith, le→cross (fin false m e) (fin false n d) tt tt h))

pub neg_le : (x y : Float) → T (le x y) → T (le (neg y) (neg x))
unfolding neg
neg_le nan y h = absurd (nan_le y h)
neg_le (inf s) nan h = absurd (le_nan (inf s) h)
neg_le (inf true) (inf true) h = unfold le in tt
neg_le (inf true) (inf false) h = unfold le in tt
neg_le (inf false) (inf true) h = unfold le in h
neg_le (inf false) (inf false) h = unfold le in tt
neg_le (inf true) (fin t n d) h = unfold le in tt
neg_le (inf false) (fin t n d) h = unfold le in absurd h
neg_le (fin s m e) nan h = absurd (le_nan (fin s m e) h)
neg_le (fin s m e) (inf true) h = unfold le in absurd h
neg_le (fin s m e) (inf false) h = unfold le in tt
neg_le (fin s m e) (fin t n d) h = neg_le_fin s m e t n d h

-- ---- the difference
lt→cross : (x y : Float) → T (finite x) → T (finite y) → T (lt x y) → cross x y < cross y x
lt→cross x y p q t = ltb→lt (cross x y) (cross y x) (subst T (lt_is x y p q) t)

pick_lt : (f : Format) (s : Bool) (a b c : ℕ) → a < b → sum f s a (not s) b c ≡ round f (not s) (b - a) c
unfolding sum
pick_lt f true a b c h = go (ltb a b) (lt→ltb a b h)
  where
    go : (t : Bool) → T t → cond t (round f false (b - a) c) (round f (true && ltb b a) (a - b) c) ≡ round f false (b - a) c
    go true u = refl
    go false u = absurd u
pick_lt f false a b c h = go (ltb a b) (lt→ltb a b h)
  where
    go : (t : Bool) → T t → cond t (round f true (b - a) c) (round f false (a - b) c) ≡ round f true (b - a) c
    go true u = refl
    go false u = absurd u

pick_gt : (f : Format) (s : Bool) (a b c : ℕ) → b < a → sum f s a (not s) b c ≡ round f s (a - b) c
unfolding sum
pick_gt f true a b c h = go (ltb a b) (ltb→lt a b) (ltb b a) (lt→ltb b a h)
  where
    go : (t : Bool) → (T t → a < b) → (u : Bool) → T u → cond t (round f false (b - a) c) (round f (true && u) (a - b) c) ≡ round f true (a - b) c
    go true k u v = absurd (not-le_of_lt (k tt) (le_of_lt h))
    go false k true v = refl
    go false k false v = absurd v
pick_gt f false a b c h = go (ltb a b) (ltb→lt a b)
  where
    go : (t : Bool) → (T t → a < b) → cond t (round f true (b - a) c) (round f false (a - b) c) ≡ round f false (a - b) c
    go true k = absurd (not-le_of_lt (k tt) (le_of_lt h))
    go false k = refl

like : (f : Format) (s : Bool) (a b c : ℕ) → sum f s a s b c ≡ round f s (a + b) c
unfolding sum
like f true a b c = refl
like f false a b c = refl

opened : (f : Format) (s : Bool) (m : ℕ) (e : ℤ) (t : Bool) (n : ℕ) (d : ℤ) → sub f (fin s m e) (fin t n d) ≡ sum f s (m * up e * down d) (not t) (n * up d * down e) (down e * down d)
unfolding sub
opened f s m e t n d = refl

-- x - y for y < x
pub sub_is : (f : Format) (x y : Float) → T (finite x) → T (finite y) → T (lt y x) → sub f x y ≡ round f false (cross x y - cross y x) (den x * den y)
sub_is f nan y p q h = absurd p
sub_is f (inf s) y p q h = absurd p
sub_is f (fin s m e) nan p q h = absurd q
sub_is f (fin s m e) (inf t) p q h = absurd q
sub_is f (fin false m e) (fin false n d) p q h =
    let k = lt→cross (fin false n d) (fin false m e) q p h in
    let a = m * up e * down d in
    let b = n * up d * down e in
    let g : b < a = omega arith in
    let r : a - b ≡ (a + 0 * down e) - (b + 0 * down d) = omega arith in
    opened f false m e false n d ∙ pick_gt f false a b (down e * down d) g ∙ ap (λ (z : ℕ). round f false z (down e * down d)) r
sub_is f (fin false m e) (fin true n d) p q h =
    let a = m * up e * down d in
    let b = n * up d * down e in
    let r : a + b ≡ (a + b) - (0 * down e + 0 * down d) = omega arith in
    opened f false m e true n d ∙ like f false a b (down e * down d) ∙ ap (λ (z : ℕ). round f false z (down e * down d)) r
sub_is f (fin true m e) (fin false n d) p q h =
    let k = lt→cross (fin false n d) (fin true m e) q p h in
    let z : ⊥ = omega arith in
    absurd z
sub_is f (fin true m e) (fin true n d) p q h =
    let k = lt→cross (fin true n d) (fin true m e) q p h in
    let a = m * up e * down d in
    let b = n * up d * down e in
    let g : a < b = omega arith in
    let r : b - a ≡ (0 * down d + b) - (0 * down e + a) = omega arith in
    opened f true m e true n d ∙ pick_lt f true a b (down e * down d) g ∙ ap (λ (z : ℕ). round f false z (down e * down d)) r

-- x - y for x < y is what y - x is, negated
pub sub_flip : (f : Format) (x y : Float) → T (finite x) → T (finite y) → T (lt x y) → sub f x y ≡ neg (sub f y x)
sub_flip f nan y p q h = absurd p
sub_flip f (inf s) y p q h = absurd p
sub_flip f (fin s m e) nan p q h = absurd q
sub_flip f (fin s m e) (inf t) p q h = absurd q
sub_flip f (fin false m e) (fin false n d) p q h =
    let k = lt→cross (fin false m e) (fin false n d) p q h in
    let a = m * up e * down d in
    let b = n * up d * down e in
    let g : a < b = omega arith in
    opened f false m e false n d ∙ pick_lt f false a b (down e * down d) g ∙ round_neg f (b - a) (down e * down d) ∙ ap (λ (z : ℕ). neg (round f false (b - a) z)) (mul_comm (down e) (down d)) ∙ ap neg (sym (opened f false n d false m e ∙ pick_gt f false b a (down d * down e) g))
sub_flip f (fin false m e) (fin true n d) p q h =
    let k = lt→cross (fin false m e) (fin true n d) p q h in
    let z : ⊥ = omega arith in
    absurd z
sub_flip f (fin true m e) (fin false n d) p q h =
    let a = m * up e * down d in
    let b = n * up d * down e in
    opened f true m e false n d ∙ like f true a b (down e * down d) ∙ round_neg f (a + b) (down e * down d) ∙ ap (λ (z : ℕ). neg (round f false (a + b) z)) (mul_comm (down e) (down d)) ∙ ap (λ (z : ℕ). neg (round f false z (down d * down e))) (add_comm a b) ∙ ap neg (sym (opened f false n d true m e ∙ like f false b a (down d * down e)))
sub_flip f (fin true m e) (fin true n d) p q h =
    let k = lt→cross (fin true m e) (fin true n d) p q h in
    let a = m * up e * down d in
    let b = n * up d * down e in
    let g : b < a = omega arith in
    opened f true m e true n d ∙ pick_gt f true a b (down e * down d) g ∙ round_neg f (a - b) (down e * down d) ∙ ap (λ (z : ℕ). neg (round f false (a - b) z)) (mul_comm (down e) (down d)) ∙ ap neg (sym (opened f true n d true m e ∙ pick_lt f true b a (down d * down e) g))

pub sub_nonneg : (f : Format) (x y : Float) → T (finite x) → T (finite y) → T (lt y x) → T (nonneg (sub f x y))
sub_nonneg f x y p q h = subst (λ (z : Float). T (nonneg z)) (sym (sub_is f x y p q h)) (round_nonneg f (cross x y - cross y x) (den x * den y))

-- p < l ≤ x: l - p ≤ x - p
pub sub_mono : (f : Format) (p l x : Float) → T (finite p) → T (finite l) → T (finite x) → T (lt p l) → T (le l x) → T (le (sub f l p) (sub f x p))
sub_mono f p l x P L X h k =
    let P' = den_pos p in
    subst (λ (z : Float). T (le z (sub f x p))) (sym (sub_is f l p L P h))
    (subst (λ (z : Float). T (le (round f false (cross l p - cross p l) (den l * den p)) z)) (sym (sub_is f x p X P (lt_le_trans p l x h k)))
    (round_mono f (cross l p - cross p l) (den l * den p) (cross x p - cross p x) (den x * den p) (mul-pos (den_pos l) P') (mul-pos (den_pos x) P')
    (shift (plus l) (less l) (den l) (plus x) (less x) (den x) (plus p) (less p) (den p) (le→cross l x L X k))))

-- x ≤ h < p: p - h ≤ p - x
pub sub_anti : (f : Format) (p u x : Float) → T (finite p) → T (finite u) → T (finite x) → T (lt u p) → T (le x u) → T (le (sub f p u) (sub f p x))
sub_anti f p u x P L X h k =
    let P' = den_pos p in
    subst (λ (z : Float). T (le z (sub f p x))) (sym (sub_is f p u P L h))
    (subst (λ (z : Float). T (le (round f false (cross p u - cross u p) (den p * den u)) z)) (sym (sub_is f p x P X (le_lt_trans x u p k h)))
    (round_mono f (cross p u - cross u p) (den p * den u) (cross p x - cross x p) (den p * den x) (mul-pos P' (den_pos u)) (mul-pos P' (den_pos x))
    (shift_below (plus u) (less u) (den u) (plus x) (less x) (den x) (plus p) (less p) (den p) (le→cross x u X L k))))

-- ---- the square
unlike_self : (f : Format) (s : Bool) (m : ℕ) (e : ℤ) → mul f (fin s m e) (fin s m e) ≡ round f false (m * up e * (m * up e)) (down e * down e)
unfolding mul
unlike_self f true m e = refl
unlike_self f false m e = refl

pub sq_nonneg : (f : Format) (x : Float) → T (number x) → T (nonneg (mul f x x))
sq_nonneg f nan t = unfold is_nan in absurd t
sq_nonneg f (inf true) t = unfold mul in tt
sq_nonneg f (inf false) t = unfold mul in tt
sq_nonneg f (fin s m e) t = subst (λ (z : Float). T (nonneg z)) (sym (unlike_self f s m e)) (round_nonneg f (m * up e * (m * up e)) (down e * down e))

pub sq_mono : (f : Format) (x y : Float) → T (nonneg x) → T (nonneg y) → T (le x y) → T (le (mul f x x) (mul f y y))
sq_mono f nan y p q h = absurd p
sq_mono f (inf true) y p q h = absurd p
sq_mono f (inf false) nan p q h = absurd q
sq_mono f (inf false) (inf true) p q h = absurd q
sq_mono f (inf false) (inf false) p q h = unfold mul le in tt
sq_mono f (inf false) (fin t n d) p q h = unfold le in absurd h
sq_mono f (fin true m e) y p q h = absurd p
sq_mono f (fin false m e) nan p q h = absurd q
sq_mono f (fin false m e) (inf true) p q h = absurd q
sq_mono f (fin false m e) (inf false) p q h = subst (λ (z : Float). T (le (mul f (fin false m e) (fin false m e)) z)) (inf_sq f) (nonneg_le_inf (mul f (fin false m e) (fin false m e)) (sq_nonneg f (fin false m e) (nonneg_number (fin false m e) tt)))
  where
    inf_sq : (f : Format) → inf false ≡ mul f (inf false) (inf false)
    inf_sq f = unfold mul in refl
sq_mono f (fin false m e) (fin true n d) p q h = absurd q
sq_mono f (fin false m e) (fin false n d) p q h =
    subst (λ (z : Float). T (le z (mul f (fin false n d) (fin false n d)))) (sym (unlike_self f false m e))
    (subst (λ (z : Float). T (le (round f false (m * up e * (m * up e)) (down e * down e)) z)) (sym (unlike_self f false n d))
    (round_mono f (m * up e * (m * up e)) (down e * down e) (n * up d * (n * up d)) (down d * down d) (mul-pos (down_pos e) (down_pos e)) (mul-pos (down_pos d) (down_pos d))
    (squares (m * up e) (down e) (n * up d) (down d) (nonneg_cross m e n d h))))

-- ---- the sum of two that are not negative
add_is : (f : Format) (m : ℕ) (e : ℤ) (n : ℕ) (d : ℤ) → add f (fin false m e) (fin false n d) ≡ round f false (m * up e * down d + n * up d * down e) (down e * down d)
unfolding add
add_is f m e n d = like f false (m * up e * down d) (n * up d * down e) (down e * down d)

pub add_nonneg : (f : Format) (x y : Float) → T (nonneg x) → T (nonneg y) → T (nonneg (add f x y))
add_nonneg f nan y p q = absurd p
add_nonneg f (inf true) y p q = absurd p
add_nonneg f (inf false) nan p q = absurd q
add_nonneg f (inf false) (inf true) p q = absurd q
add_nonneg f (inf false) (inf false) p q = unfold add in tt
add_nonneg f (inf false) (fin t n d) p q = unfold add in tt
add_nonneg f (fin true m e) y p q = absurd p
add_nonneg f (fin false m e) nan p q = absurd q
add_nonneg f (fin false m e) (inf true) p q = absurd q
add_nonneg f (fin false m e) (inf false) p q = unfold add in tt
add_nonneg f (fin false m e) (fin true n d) p q = absurd q
add_nonneg f (fin false m e) (fin false n d) p q = subst (λ (z : Float). T (nonneg z)) (sym (add_is f m e n d)) (round_nonneg f (m * up e * down d + n * up d * down e) (down e * down d))

-- an infinity on either side gives it
add_inf_l : (f : Format) (y : Float) → T (nonneg y) → add f (inf false) y ≡ inf false
unfolding add
add_inf_l f nan q = absurd q
add_inf_l f (inf true) q = absurd q
add_inf_l f (inf false) q = refl
add_inf_l f (fin t n d) q = refl

add_inf_r : (f : Format) (x : Float) → T (nonneg x) → add f x (inf false) ≡ inf false
unfolding add
add_inf_r f nan q = absurd q
add_inf_r f (inf true) q = absurd q
add_inf_r f (inf false) q = refl
add_inf_r f (fin t n d) q = refl

inf_le : (x : Float) → T (le (inf false) x) → x ≡ inf false
unfolding le
inf_le nan h = absurd h
inf_le (inf true) h = absurd h
inf_le (inf false) h = refl
inf_le (fin s m e) h = absurd h

pub add_mono : (f : Format) (x x' y y' : Float) → T (nonneg x) → T (nonneg x') → T (nonneg y) → T (nonneg y') → T (le x x') → T (le y y') → T (le (add f x y) (add f x' y'))
add_mono f nan x' y y' p p' q q' h k = absurd p
add_mono f (inf true) x' y y' p p' q q' h k = absurd p
add_mono f (inf false) x' y y' p p' q q' h k =
    subst (λ (z : Float). T (le (add f (inf false) y) z)) (sym (ap (λ (z : Float). add f z y') (inf_le x' h) ∙ add_inf_l f y' q')) (nonneg_le_inf (add f (inf false) y) (add_nonneg f (inf false) y tt q))
add_mono f (fin true m e) x' y y' p p' q q' h k = absurd p
add_mono f (fin false m e) nan y y' p p' q q' h k = absurd p'
add_mono f (fin false m e) (inf true) y y' p p' q q' h k = absurd p'
add_mono f (fin false m e) (inf false) y y' p p' q q' h k = subst (λ (z : Float). T (le (add f (fin false m e) y) z)) (sym (add_inf_l f y' q')) (nonneg_le_inf (add f (fin false m e) y) (add_nonneg f (fin false m e) y tt q))
add_mono f (fin false m e) (fin true n d) y y' p p' q q' h k = absurd p'
add_mono f (fin false m e) (fin false n d) nan y' p p' q q' h k = absurd q
add_mono f (fin false m e) (fin false n d) (inf true) y' p p' q q' h k = absurd q
add_mono f (fin false m e) (fin false n d) (inf false) y' p p' q q' h k =
    subst (λ (z : Float). T (le (add f (fin false m e) (inf false)) z)) (sym (ap (λ (z : Float). add f (fin false n d) z) (inf_le y' k) ∙ add_inf_r f (fin false n d) tt)) (nonneg_le_inf (add f (fin false m e) (inf false)) (add_nonneg f (fin false m e) (inf false) tt tt))
add_mono f (fin false m e) (fin false n d) (fin true o g) y' p p' q q' h k = absurd q
add_mono f (fin false m e) (fin false n d) (fin false o g) nan p p' q q' h k = absurd q'
add_mono f (fin false m e) (fin false n d) (fin false o g) (inf true) p p' q q' h k = absurd q'
add_mono f (fin false m e) (fin false n d) (fin false o g) (inf false) p p' q q' h k =
    subst (λ (z : Float). T (le (add f (fin false m e) (fin false o g)) z)) (sym (add_inf_r f (fin false n d) tt)) (nonneg_le_inf (add f (fin false m e) (fin false o g)) (add_nonneg f (fin false m e) (fin false o g) tt tt))
add_mono f (fin false m e) (fin false n d) (fin false o g) (fin true r w) p p' q q' h k = absurd q'
add_mono f (fin false m e) (fin false n d) (fin false o g) (fin false r w) p p' q q' h k =
    subst (λ (z : Float). T (le z (add f (fin false n d) (fin false r w)))) (sym (add_is f m e o g))
    (subst (λ (z : Float). T (le (round f false (m * up e * down g + o * up g * down e) (down e * down g)) z)) (sym (add_is f n d r w))
    (round_mono f (m * up e * down g + o * up g * down e) (down e * down g) (n * up d * down w + r * up w * down d) (down d * down w) (mul-pos (down_pos e) (down_pos g)) (mul-pos (down_pos d) (down_pos w))
    (sums (m * up e) (down e) (o * up g) (down g) (n * up d) (down d) (r * up w) (down w) (nonneg_cross m e n d h) (nonneg_cross o g r w k))))

-- ---- +0 changes nothing that fits, on either side
zero_num : (x y : ℕ) → 0 * 1 * y + x * 1 ≡ x
zero_num x y = omega arith

zero_num_r : (x y : ℕ) → x * 1 + 0 * 1 * y ≡ x
zero_num_r x y = omega arith

pub zero_plus : (f : Format) (x : Float) → T (nonneg x) → T (fits f x) → add f (fin false 0 (pos 0)) x ≡ x
zero_plus f nan p h = absurd p
zero_plus f (inf true) p h = absurd p
zero_plus f (inf false) p h = unfold add in refl
zero_plus f (fin true m e) p h = absurd p
zero_plus f (fin false m e) p h =
    add_is f 0 (pos 0) m e ∙ ap (λ (z : ℕ). round f false z (1 * down e)) (zero_num (m * up e) (down e)) ∙ ap (λ (z : ℕ). round f false (m * up e) z) (one-mul (down e)) ∙ round_back f false m e h

pub plus_zero_lem : (f : Format) (x : Float) → T (nonneg x) → T (fits f x) → add f x (fin false 0 (pos 0)) ≡ x
plus_zero_lem f nan p h = absurd p
plus_zero_lem f (inf true) p h = absurd p
plus_zero_lem f (inf false) p h = unfold add in refl
plus_zero_lem f (fin true m e) p h = absurd p
plus_zero_lem f (fin false m e) p h =
    add_is f m e 0 (pos 0) ∙ ap (λ (z : ℕ). round f false z (down e * 1)) (zero_num_r (m * up e) (down e)) ∙ ap (λ (z : ℕ). round f false (m * up e) z) (mul-one (down e)) ∙ round_back f false m e h

-- so a sum is no less than what it adds to
pub add_grows : (f : Format) (x y : Float) → T (nonneg x) → T (nonneg y) → T (fits f x) → T (le x (add f x y))
add_grows f x y p q h =
    subst (λ (z : Float). T (le z (add f x y))) (plus_zero_lem f x p h)
    (add_mono f x x (fin false 0 (pos 0)) y p p tt q (le_refl_f x (nonneg_number x p)) (zero_le_nonneg y q))

pub add_grows_r : (f : Format) (x y : Float) → T (nonneg x) → T (nonneg y) → T (fits f y) → T (le y (add f x y))
add_grows_r f x y p q h =
    subst (λ (z : Float). T (le z (add f x y))) (zero_plus f y q h)
    (add_mono f (fin false 0 (pos 0)) x y y tt p q q (zero_le_nonneg x p) (le_refl_f y (nonneg_number y q)))
