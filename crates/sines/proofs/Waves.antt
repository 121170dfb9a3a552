-- The steps of the sine and the cosine, branch by branch: what the code's proofs cite. Assumes nothing.
use Rattle.std.proofs.Common.{◌≡◌, ℕ, zero, suc, ◌+◌, ◌*◌, ◌%◌, ◌<◌, Bool, true, false, cond, T, ltb, ◌⊎◌, inl, inr, pos, negsuc, sym, refl, ap, ◌∙◌, ap₂, subst, arith, ltb→lt}
use lib.Dec.{lt→ltb}
use lib.Ieee.{Float, nan, inf, fin, up, down, le, lt, neg}
use lib.Ieee.Fits.{down_pos}
use Rattle.floats.specs.Floats.{abs_of}
use Rattle.floats.proofs.Cross.{iff→eq, is_false}
use Rattle.bits.specs.Parts.{places, narrowed}
use Rattle.sines.specs.Steps.{xor, scan}
use Rattle.sines.specs.Sines.{plus_zero, one, small, absf, half, odd, rest_of, sin_value, sin_minus, cos_value, cos_minus, single, sin_from, cos_from, wave_from, sine_steps, cosine_steps}

-- ---- rounding to binary32
abbrev tests : Bool → Float → Bool → Bool → Float
tests s v a b = cond a (cond b (narrowed s v) plus_zero) plus_zero

pub single_yes : (s : Bool) (v r : Float) → le (fin false 1 (negsuc 59)) v ≡ true → lt v (fin false 1 (pos 1)) ≡ true → r ≡ narrowed s v → r ≡ single s v
unfolding single
single_yes s v r h k e = e ∙ sym (ap₂ (λ (a b : Bool). tests s v a b) h k)

pub single_over : (s : Bool) (v : Float) → le (fin false 1 (negsuc 59)) v ≡ true → lt v (fin false 1 (pos 1)) ≡ false → plus_zero ≡ single s v
unfolding single
single_over s v h k = sym (ap₂ (λ (a b : Bool). tests s v a b) h k)

pub single_under : (s : Bool) (v : Float) → le (fin false 1 (negsuc 59)) v ≡ false → plus_zero ≡ single s v
unfolding single
single_under s v h = sym (ap (λ (a : Bool). tests s v a (lt v (fin false 1 (pos 1)))) h)

-- ---- the cosine is the sine a quarter on
pub wave_sine : (minus : Bool) (a : Float) → wave_from 0 minus a ≡ sin_from minus a
unfolding wave_from sin_from
wave_sine minus a = let q = scan 20 0 (places 40 a) in ap (λ (h : ℕ). single (xor minus (sin_minus (h % 4) (odd q))) (sin_value (h % 4) (rest_of q a))) (none (half q))
  where
    none : (h : ℕ) → h + 0 ≡ h
    none h = omega arith

at_quarter : (k : ℕ) (d : Bool) (r : Float) → k < 4 → (sin_minus ((k + 1) % 4) d ≡ cos_minus k d) × (sin_value ((k + 1) % 4) r ≡ cos_value k r)
at_quarter zero d r h = (refl, refl)
at_quarter (suc zero) d r h = (refl, refl)
at_quarter (suc (suc zero)) d r h = (refl, refl)
at_quarter (suc (suc (suc zero))) d r h = (refl, refl)
at_quarter (suc (suc (suc (suc k)))) d r h = absurd (none k h)
  where
    none : (k : ℕ) → suc (suc (suc (suc k))) < 4 → ⊥
    none k h = omega arith

pub wave_cosine : (a : Float) → wave_from 1 false a ≡ cos_from a
unfolding wave_from cos_from
wave_cosine a =
    let q = scan 20 0 (places 40 a) in
    let k = half q % 4 in
    let t = at_quarter k (odd q) (rest_of q a) (few (half q)) in
    ap (λ (n : ℕ). single (xor false (sin_minus n (odd q))) (sin_value n (rest_of q a))) (on (half q))
    ∙ ap₂ (λ (s : Bool) (v : Float). single s v) (plain (sin_minus ((k + 1) % 4) (odd q)) ∙ t.0) t.1
  where
    few : (n : ℕ) → n % 4 < 4
    few n = omega arith

    on : (n : ℕ) → (n + 1) % 4 ≡ (n % 4 + 1) % 4
    on n = omega arith

    plain : (b : Bool) → xor false b ≡ b
    plain true = refl
    plain false = refl

-- ---- the size by `floats::abs`: another zero than `absf` gives, and below 2^-12 where that is
size_either : (x : Float) → (abs_of x ≡ absf x) ⊎ (T (lt (abs_of x) small) × T (lt (absf x) small))
unfolding abs_of absf lt neg
size_either nan = inl refl
size_either (inf true) = inl refl
size_either (inf false) = inl refl
size_either (fin false m e) = inl (ap (λ (b : Bool). cond b (fin true m e) (fin false m e)) (sym (is_false (ltb (m * up e * 1) (0 * down e)) (λ t. none (m * up e) (down e) (ltb→lt (m * up e * 1) (0 * down e) t)))))
  where
    none : (n d : ℕ) → n * 1 < 0 * d → ⊥
    none n d k = omega arith
size_either (fin true m e) = go (ltb 0 (m * up e * 1 + 0 * down e)) refl
  where
    nought : (n d : ℕ) → (T (ltb 0 (n * 1 + 0 * d)) → ⊥) → n ≡ 0
    nought n d k = let h : (0 < n * 1 + 0 * d → ⊥) = λ u. k (lt→ltb 0 (n * 1 + 0 * d) u) in omega arith

    below : (n d : ℕ) → n ≡ 0 → 0 < d → n * 4096 < 1 * d
    below n d h p = omega arith

    above : (n d : ℕ) → 0 < d → 0 < n * 4096 + 1 * d
    above n d p = omega arith

    go : (b : Bool) → ltb 0 (m * up e * 1 + 0 * down e) ≡ b → (fin false m e ≡ cond b (fin false m e) (fin true m e)) ⊎ (T (lt (fin false m e) small) × T (lt (cond b (fin false m e) (fin true m e)) small))
    go true q = inl refl
    go false q = inr (lt→ltb (m * up e * 4096) (1 * down e) (below (m * up e) (down e) (nought (m * up e) (down e) (λ t. subst (λ (b : Bool). T b) q t)) (down_pos e)), lt→ltb 0 (m * up e * 4096 + 1 * down e) (above (m * up e) (down e) (down_pos e)))

small_same : (x : Float) → lt (abs_of x) small ≡ lt (absf x) small
small_same x = elim (size_either x) [ inl e ↦ ap (λ (z : Float). lt z small) e | inr b ↦ iff→eq (lt (abs_of x) small) (lt (absf x) small) (λ _. b.1) (λ _. b.0) ]

pub large_same : (x : Float) → lt (abs_of x) small ≡ false → abs_of x ≡ absf x
large_same x h = elim (size_either x) [ inl e ↦ e | inr b ↦ absurd (subst T h b.0) ]

-- ---- by the size a of x
module _ (x a : Float) (e : a ≡ abs_of x) where
  tested : (b : Bool) → lt a small ≡ b → lt (absf x) small ≡ b
  tested b h = sym (small_same x) ∙ ap (λ (z : Float). lt z small) (sym e) ∙ h

  pub sized : lt a small ≡ false → a ≡ absf x
  sized h = e ∙ large_same x (ap (λ (z : Float). lt z small) (sym e) ∙ h)

  pub sine_little : lt a small ≡ true → x ≡ sine_steps x
  unfolding sine_steps
  sine_little h = sym (ap (λ (b : Bool). cond b x (sin_from (lt x plus_zero) (absf x))) (tested true h))

  pub sine_large : (r : Float) → lt a small ≡ false → r ≡ wave_from 0 (lt x plus_zero) a → r ≡ sine_steps x
  unfolding sine_steps
  sine_large r h k =
      k ∙ wave_sine (lt x plus_zero) a ∙ ap (λ (z : Float). sin_from (lt x plus_zero) z) (sized h)
      ∙ sym (ap (λ (b : Bool). cond b x (sin_from (lt x plus_zero) (absf x))) (tested false h))

  pub cosine_little : lt a small ≡ true → one ≡ cosine_steps x
  unfolding cosine_steps
  cosine_little h = sym (ap (λ (b : Bool). cond b one (cos_from (absf x))) (tested true h))

  pub cosine_large : (r : Float) → lt a small ≡ false → r ≡ wave_from 1 false a → r ≡ cosine_steps x
  unfolding cosine_steps
  cosine_large r h k = k ∙ wave_cosine a ∙ ap (λ (z : Float). cos_from z) (sized h) ∙ sym (ap (λ (b : Bool). cond b one (cos_from (absf x))) (tested false h))

-- ---- the whole way from a
pub wave_is : (a : Float) (X q : ℕ) (w : Float) → X ≡ places 40 a → q ≡ scan 20 0 X → w ≡ rest_of q a
    → (quarters : ℕ) (minus m d : Bool) (v r : Float) → v ≡ sin_value ((half q + quarters) % 4) w → m ≡ sin_minus ((half q + quarters) % 4) (odd q)
    → d ≡ xor minus m → r ≡ single d v → r ≡ wave_from quarters minus a
unfolding wave_from
wave_is a X q w eX eq' ew t minus m d v r ev em ed er =
    er ∙ ap₂ (λ (s : Bool) (z : Float). single s z) (ed ∙ ap (λ (s : Bool). xor minus s) em) (ev ∙ ap (λ (z : Float). sin_value ((half q + t) % 4) z) ew)
    ∙ ap (λ (z : ℕ). single (xor minus (sin_minus ((half z + t) % 4) (odd z))) (sin_value ((half z + t) % 4) (rest_of z a))) (eq' ∙ ap (λ (z : ℕ). scan 20 0 z) eX)
