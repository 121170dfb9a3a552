-- An angle whose step is 0 is the same at every step, bit for bit, so its sine and cosine may be taken once: 0 times any step number is the same
-- zero. (An angle of -0 becomes +0 at the first step already: what is kept is the angle after a step, never the one before.) Assumes nothing.
use Rattle.std.proofs.Common.{◌≡◌, ℕ, zero, suc, ◌+◌, ◌*◌, ◌<◌, ◌≤◌, Bool, true, false, cond, ◌&&◌, ◌||◌, T, eqb, ltb, ℤ, pos, sym, refl, ap, ◌∙◌, subst, mul-pos, arith, eqb→eq, ltb→lt}
use mathlib.Core.Bool.{beq}
use lib.Ieee.{Float, nan, inf, fin, binary32, up, down, add, mul, round, eq, le, fits, of_int}
use lib.Ieee.Fits.{and_l, up_pos, down_pos}
use lib.Ieee.Scale.{round_same}
use Rattle.floats.specs.Floats.{zero32}
use Rattle.floats.proofs.Sign.{nonneg, round_nonneg}
use Rattle.floats.proofs.Ratio.{round_le}
use Rattle.coords.specs.declared.Turn.{Turn}
use Rattle.coords.specs.Coords.{turn_of}
use Rattle.neighbors.specs.Neighbors.{after}

-- ---- a step that equals 0 is a zero, and a step number is finite

record Zero (x : Float) : Type 0 where
  negative : Bool
  exponent : ℤ
  is : x ≡ fin negative 0 exponent

no_factor : (m u : ℕ) → 0 < u → m * u * 1 ≡ 0 → m ≡ 0
no_factor zero u h e = refl
no_factor (suc m) u h e = let p : 0 < suc m = omega arith in let z : 0 < suc m * u = mul-pos p h in absurd (omega arith)

zero_of : (x : Float) → eq x zero32 ≡ true → Zero x
unfolding eq
zero_of nan e = absurd (subst T (sym e) tt)
zero_of (inf s) e = absurd (subst T (sym e) tt)
zero_of (fin s m e) h =
    let z = eqb→eq (m * up e * 1) (0 * 1 * down e) (and_l (eqb (m * up e * 1) (0 * 1 * down e)) (beq s false || eqb (m * up e * 1) 0) (subst T (sym h) tt)) in
    record { negative = s; exponent = e; is = ap (λ (k : ℕ). fin s k e) (no_factor m (up e) (up_pos e) (omega (arith, z))) }

-- finite and without a sign
record Counted (x : Float) : Type 0 where
  size : ℕ
  exponent : ℤ
  is : x ≡ fin false size exponent

below_top : (x : Float) → T (nonneg x) → T (le x (fin false 1 (pos 32))) → Counted x
unfolding le
below_top nan p h = absurd p
below_top (inf true) p h = absurd p
below_top (inf false) p h = absurd h
below_top (fin true m e) p h = absurd p
below_top (fin false m e) p h = record { size = m; exponent = e; is = refl }

counted : (n : ℕ) → n ≤ 4294967296 → Counted (of_int binary32 (pos n))
unfolding of_int fits
counted n h = below_top (round binary32 false n 1) (round_nonneg binary32 n 1) (round_le binary32 n 1 1 (pos 32) (omega arith) tt (omega arith))

-- ---- so the product is the same zero

zero_times : (s : Bool) (e : ℤ) (n : ℕ) (d : ℤ) → mul binary32 (fin s 0 e) (fin false n d) ≡ round binary32 (lib.Ieee.unlike s false) 0 1
unfolding mul
zero_times s e n d = round_same binary32 (lib.Ieee.unlike s false) (0 * up e * (n * up d)) (down e * down d) 0 1 (mul-pos (down_pos e) (down_pos d)) (omega arith) (omega arith)

times : (step : Float) → Zero step → (x : Float) → Counted x → mul binary32 step x ≡ mul binary32 step (fin false 1 (pos 0))
times step z x k =
    ap (λ (y : Float). mul binary32 y x) z.is ∙ ap (mul binary32 (fin z.negative 0 z.exponent)) k.is ∙ zero_times z.negative z.exponent k.size k.exponent
    ∙ sym (ap (λ (y : Float). mul binary32 y (fin false 1 (pos 0))) z.is ∙ zero_times z.negative z.exponent 1 (pos 0))

pub after_still : (v step : Float) (a b : ℕ) → eq step zero32 ≡ true → a ≤ 4294967296 → b ≤ 4294967296 → after v step a ≡ after v step b
unfolding after
after_still v step a b e ha hb = ap (add binary32 v) (times step (zero_of step e) (of_int binary32 (pos a)) (counted a ha) ∙ sym (times step (zero_of step e) (of_int binary32 (pos b)) (counted b hb)))

-- ---- what a search keeps

module _ (g : Float → Float) (v step : Float) where
  -- after i steps: of an angle that stays fixed, its sine and cosine
  abbrev pub Kept : ℕ → Turn → Type 0
  Kept i t = 0 < i → eq step zero32 ≡ true → t ≡ turn_of (g (after v step i))

  pub kept_none : (t : Turn) → Kept 0 t
  kept_none t h e = absurd (omega arith)

  module _ (i : ℕ) (h : i + 1 ≤ 4294967296) (before : Turn) (k : Kept i before) (r : Turn) (degrees : Float) (ed : degrees ≡ g (after v step (i + 1)))
      (er : r ≡ cond (ltb 0 i && eq step zero32) before (turn_of degrees)) where
    -- THE SAME as the sine and cosine of the angle itself
    pub turned_is : r ≡ turn_of degrees
    turned_is = er ∙ go (ltb 0 i) (eq step zero32) (λ t. ltb→lt 0 i t) refl
      where
        go : (a b : Bool) → (T a → 0 < i) → eq step zero32 ≡ b → cond (a && b) before (turn_of degrees) ≡ turn_of degrees
        go true true f e = k (f tt) e ∙ ap (λ (x : Float). turn_of (g x)) (after_still v step i (i + 1) e (omega arith) h) ∙ ap turn_of (sym ed)
        go true false f e = refl
        go false b f e = refl

    pub kept_on : Kept (i + 1) r
    kept_on l e = turned_is ∙ ap turn_of ed
