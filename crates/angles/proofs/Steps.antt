-- The steps, branch by branch: what the code's proofs cite. Assumes nothing.
use Rattle.std.proofs.Common.{◌≡◌, ℕ, zero, suc, ◌+◌, ◌-◌, ◌*◌, ◌/◌, ◌^◌, ◌<◌, ◌≤◌, min, Bool, false, cond, pos, sym, refl, ap, ◌∙◌, subst, ap₂, le_trans, lt_of_le_of_lt, mul-le-mul, lit<, lit≤, le-leb}
use lib.Ieee.{Float, neg, lt, binary32, mul, of_int, le}
use borrow.Author.Tests.{lt-leb}
use Rattle.floats.specs.Floats.{abs_of}
use Rattle.sines.specs.Sines.{plus_zero}
use Rattle.angles.specs.Arc.{angle_of, unit22, eighth_of, ratio_of, slope_of, arc_steps, minus_size, plus_over, line_test}
use Rattle.sines.specs.Steps.{seek, xor}

-- ---- the arctangent's steps, case by case
pub angle_last : (o j m : ℕ) → (o ≡ 0 → ⊥) → (o ≡ 1 → ⊥) → (o ≡ 2 → ⊥) → m ≡ min j 13176788 → mul binary32 (of_int binary32 (pos (13176794 - (m + 3) / 4))) unit22 ≡ angle_of o j
unfolding angle_of
angle_last zero j m x y z e = absurd (x refl)
angle_last (suc zero) j m x y z e = absurd (y refl)
angle_last (suc (suc zero)) j m x y z e = absurd (z refl)
angle_last (suc (suc (suc o))) j m x y z e = ap (λ (w : ℕ). mul binary32 (of_int binary32 (pos (13176794 - (w + 3) / 4))) unit22) e

pub slope_is : (y x p q : Float) (b : Bool) (t : ℕ) → p ≡ abs_of y → q ≡ abs_of x → le p q ≡ b → t ≡ cond b (ratio_of p q) (ratio_of q p) → t ≡ slope_of y x
unfolding slope_of
slope_is y x p q b t ep eq' eb et =
    et ∙ ap (λ (z : Bool). cond z (ratio_of p q) (ratio_of q p)) (sym eb) ∙ ap₂ (λ (u v : Float). cond (le u v) (ratio_of u v) (ratio_of v u)) ep eq'

-- the steps, over what they read of y and x: whether |y| ≤ |x|, x and y below zero, |y| and |x|
abbrev pub halved : Bool → Bool → Bool → Float → Float → Float
halved b back s p q = let a = angle_of (eighth_of b back) (seek 24 (cond b (ratio_of p q) (ratio_of q p)) 0 13176795) in cond s (neg a) a

pub arc_is : (y x : Float) (b : Bool) (t : ℕ) (a r : Float) → b ≡ le (abs_of y) (abs_of x) → t ≡ slope_of y x → a ≡ angle_of (eighth_of b (lt x plus_zero)) (seek 24 t 0 13176795)
    → r ≡ cond (lt y plus_zero) (neg a) a → r ≡ arc_steps y x
unfolding arc_steps slope_of
arc_is y x b t a r eb et ea er =
    er ∙ ap (λ (z : Float). cond (lt y plus_zero) (neg z) z) (ea ∙ ap₂ (λ (u : Bool) (v : ℕ). angle_of (eighth_of u (lt x plus_zero)) (seek 24 v 0 13176795)) eb et)

-- ---- the certificate, branch by branch
pub line_yes : (back : Bool) (py px : ℕ) (ns : Bool) (vs : ℕ) (nc : Bool) (vc : ℕ) (d d' r : Bool) (g : ℕ) → d ≡ xor back ns → g ≡ minus_size nc (py * vc) d (px * vs) → g ≤ 8796093022208 → d' ≡ xor back nc → r ≡ plus_over d' (px * vc) ns (py * vs) → r ≡ line_test back py px ns vs nc vc
unfolding line_test
line_yes back py px ns vs nc vc d d' r g e f h e' k =
    k ∙ ap (λ (z : Bool). plus_over z (px * vc) ns (py * vs)) e'
    ∙ sym (ap (λ (z : Bool). cond z (plus_over (xor back nc) (px * vc) ns (py * vs)) false) (le-leb (minus_size nc (py * vc) (xor back ns) (px * vs)) 8796093022208 (subst (λ (z : ℕ). z ≤ 8796093022208) (f ∙ ap (λ (z : Bool). minus_size nc (py * vc) z (px * vs)) e) h)))

pub line_no : (back : Bool) (py px : ℕ) (ns : Bool) (vs : ℕ) (nc : Bool) (vc : ℕ) (d : Bool) (g : ℕ) → d ≡ xor back ns → g ≡ minus_size nc (py * vc) d (px * vs) → 8796093022208 < g → false ≡ line_test back py px ns vs nc vc
unfolding line_test
line_no back py px ns vs nc vc d g e f h =
    sym (ap (λ (z : Bool). cond z (plus_over (xor back nc) (px * vc) ns (py * vs)) false) (lt-leb (minus_size nc (py * vc) (xor back ns) (px * vs)) 8796093022208 (subst (λ (z : ℕ). 8796093022208 < z) (f ∙ ap (λ (z : Bool). minus_size nc (py * vc) z (px * vs)) e) h)))

pub mul_small : (a b : ℕ) → a ≤ 2147484168 → b ≤ 2147483648 → a * b ≤ 6917529027641081856
mul_small a b x y = le_trans (mul-le-mul x y) (lit≤ tt)

pub mul_fits : (a b : ℕ) → a ≤ 2147484168 → b ≤ 2147483648 → a * b < 2 ^ 64
mul_fits a b x y = lt_of_le_of_lt (mul_small a b x y) (lit< tt)
