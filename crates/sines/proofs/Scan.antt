-- The eighth of a turn: what the walk finds, and that the rest of the angle is small. Assumes nothing.
use Rattle.std.proofs.Common.{◌≡◌, ℕ, zero, suc, ◌+◌, ◌-◌, ◌*◌, ◌/◌, ◌%◌, ◌<◌, ◌≤◌, Bool, true, false, not, T, eqb, leb, ◌⊎◌, sym, refl, ap, ◌∙◌, subst, inl, inr, true≢false, le_trans, lt_of_le_of_lt, add-zero, lt_irrefl, eq-or-lt_of_le, add-one, arith, lit≤, eqb→eq, leb→le, le-leb}
use lib.Dec.{nleb→lt}
use lib.Ieee.Fits.{eq→eqb}
use lib.Ieee.Bits.{is_true}
use Rattle.sines.specs.Steps.{bound, rest, scan}
use Rattle.sines.proofs.Bounds.{rest_even, rest_odd}

stop_suc : (f q x : ℕ) → x ≤ bound (q + 1) → scan (suc f) q x ≡ q
unfolding scan
stop_suc f q x h = ap (λ (b : Bool). elim b [ true ↦ q | false ↦ scan f (q + 1) x ]) (le-leb x (bound (q + 1)) h)

left : (q : ℕ) → q < 20 → 20 - q ≡ suc (20 - (q + 1))
left q h = omega arith

pub scan_stop : (q x : ℕ) → q < 20 → x ≤ bound (q + 1) → scan (20 - q) q x ≡ q
scan_stop q x h k = ap (λ (f : ℕ). scan f q x) (left q h) ∙ stop_suc (20 - (q + 1)) q x k

-- ---- what it finds
pub record Found (x q : ℕ) : Type 0 where
  pub few : q < 21
  pub low : (q ≡ 0) ⊎ (bound q < x)
  pub high : x ≤ bound (suc q)

walk : (f q x : ℕ) → q + f ≡ 20 → (q ≡ 0) ⊎ (bound q < x) → x ≤ bound 21 → Found x (scan f q x)
unfolding scan
walk zero q x e lo hi =
    let q20 : q ≡ 20 = sym (add-zero q) ∙ e in
    record { few = lt q q20; low = lo; high = subst (λ (z : ℕ). x ≤ bound z) (sym (ap suc q20)) hi }
  where
    lt : (q : ℕ) → q ≡ 20 → q < 21
    lt q h = omega arith
walk (suc f) q x e lo hi = go (leb x (bound (q + 1))) (leb→le x (bound (q + 1))) (nleb→lt x (bound (q + 1))) (λ (l : bound (q + 1) < x). walk f (q + 1) x (one q f e) (inr l) hi)
  where
    few : (q f : ℕ) → q + suc f ≡ 20 → q < 21
    few q f h = omega arith

    go : (b : Bool) → (T b → x ≤ bound (q + 1)) → (T (not b) → bound (q + 1) < x) → (bound (q + 1) < x → Found x (scan f (q + 1) x)) → Found x (elim b [ true ↦ q | false ↦ scan f (q + 1) x ])
    go true y n w = record { few = few q f e; low = lo; high = subst (λ (z : ℕ). x ≤ bound z) (add-one q) (y tt) }
    go false y n w = w (n tt)

    one : (q f : ℕ) → q + suc f ≡ 20 → q + 1 + f ≡ 20
    one q f h = omega arith

pub found : (x : ℕ) → x ≤ 17592186044416 → Found x (scan 20 0 x)
found x h = walk 20 0 x refl (inl refl) (le_trans h (lit≤ tt))

-- ---- the rest of the angle is below 1, in units of 2^-34
rest_lt_at : (q X : ℕ) → Found X q → rest q X < 17179869184
rest_lt_at q X w = go (eqb (q % 2) 0) refl
  where
    up_even : (q X : ℕ) → q % 2 ≡ 0 → X ≤ (q + 1) * 226375608064910088 / 262144 → (X * 256 - (q + q % 2) * 226375608064910088 / 1024) / 16384 < 17179869184
    up_even q X e h = omega arith

    up_odd : (q X : ℕ) → (q % 2 ≡ 0 → ⊥) → q * 226375608064910088 / 262144 < X → ((q + q % 2) * 226375608064910088 / 1024 - X * 256) / 16384 < 17179869184
    up_odd q X e h = omega arith

    first : (q : ℕ) → (q % 2 ≡ 0 → ⊥) → q ≡ 0 → ⊥
    first q e h = omega arith

    low : (q % 2 ≡ 0 → ⊥) → (q ≡ 0) ⊎ (bound q < X) → bound q < X
    low e (inl h) = absurd (first q e h)
    low e (inr h) = h

    go : (b : Bool) → eqb (q % 2) 0 ≡ b → rest q X < 17179869184
    go true k =
        let e = eqb→eq (q % 2) 0 (subst T (sym k) tt) in
        subst (λ (z : ℕ). z < 17179869184) (sym (rest_even q X e)) (up_even q X e (subst (λ (z : ℕ). X ≤ bound z) (sym (add-one q)) w.high))
    go false k =
        let e : q % 2 ≡ 0 → ⊥ = λ (z : q % 2 ≡ 0). true≢false (sym (is_true (eqb (q % 2) 0) (eq→eqb z)) ∙ k) in
        subst (λ (z : ℕ). z < 17179869184) (sym (rest_odd q X e)) (up_odd q X e (low e w.low))

pub rest_lt : (X : ℕ) → X ≤ 17592186044416 → rest (scan 20 0 X) X < 17179869184
rest_lt X h = rest_lt_at (scan 20 0 X) X (found X h)

pub scan_le : (x q : ℕ) → x ≤ 17592186044416 → q ≡ scan 20 0 x → q ≤ 20
scan_le x q h e = subst (λ (z : ℕ). z ≤ 20) (sym e) (few (scan 20 0 x) (found x h).few)
  where
    few : (q : ℕ) → q < 21 → q ≤ 20
    few q h = omega arith

-- ---- the eighth by a product: it is the one sought, or the one before
abbrev guessed : ℕ → ℕ
guessed x = x / 16777216 * 83443 / 4294967296

pub guess_le : (x q : ℕ) → x ≤ 17592186044416 → q ≡ x / 16777216 * 83443 / 4294967296 → q ≤ 20
guess_le x q h e = omega arith

not_above : (x w : ℕ) → x ≤ (w + 1) * 226375608064910088 / 262144 → guessed x ≤ w
not_above x w h = go (coarse w h)
  where
    coarse : (w : ℕ) → x ≤ (w + 1) * 226375608064910088 / 262144 → x ≤ (w + 1) * 863554413090
    coarse w h = omega arith

    go : x ≤ (w + 1) * 863554413090 → x / 16777216 * 83443 / 4294967296 ≤ w
    go h = omega arith

not_below : (x w : ℕ) → x ≤ 17592186044416 → w * 226375608064910088 / 262144 < x → w ≤ guessed x + 1
not_below x w k h = go (x / 16777216) w (part x w (coarse w h)) (few x w k (coarse w h))
  where
    coarse : (w : ℕ) → w * 226375608064910088 / 262144 < x → w * 863554413089 ≤ x
    coarse w h = omega arith

    part : (x w : ℕ) → w * 863554413089 ≤ x → w * 51471 ≤ x / 16777216
    part x w h = omega arith

    few : (x w : ℕ) → x ≤ 17592186044416 → w * 863554413089 ≤ x → w ≤ 21
    few x w k h = omega arith

    go : (u w : ℕ) → w * 51471 ≤ u → w ≤ 21 → w ≤ u * 83443 / 4294967296 + 1
    go u w h k = omega arith

either : (q w : ℕ) → q ≤ w → w ≤ q + 1 → (w ≡ q) ⊎ (w ≡ q + 1)
either q w a b = elim (eq-or-lt_of_le a) [ inl e ↦ inl (sym e) | inr l ↦ inr (up q w l b) ]
  where
    up : (q w : ℕ) → q < w → w ≤ q + 1 → w ≡ q + 1
    up q w a b = omega arith

module _ (x : ℕ) (h : x ≤ 17592186044416) (q : ℕ) (e : q ≡ x / 16777216 * 83443 / 4294967296) where
  near : (w : ℕ) → Found x w → (w ≡ q) ⊎ (w ≡ q + 1)
  near w f = either q w (subst (λ (z : ℕ). z ≤ w) (sym e) (not_above x w (subst (λ (z : ℕ). x ≤ bound z) (sym (add-one w)) f.high))) (subst (λ (z : ℕ). w ≤ z + 1) (sym e) (up f.low))
    where
      up : (w ≡ 0) ⊎ (bound w < x) → w ≤ guessed x + 1
      up (inl z) = omega arith
      up (inr l) = not_below x w h l

  pub quick_yes : x ≤ bound (q + 1) → q ≡ scan 20 0 x
  quick_yes k = go (scan 20 0 x) (found x h).low (near (scan 20 0 x) (found x h))
    where
      none : (w : ℕ) → w ≡ 0 → w ≡ q + 1 → ⊥
      none w a b = omega arith

      go : (w : ℕ) → (w ≡ 0) ⊎ (bound w < x) → (w ≡ q) ⊎ (w ≡ q + 1) → q ≡ w
      go w l (inl d) = sym d
      go w (inl z) (inr d) = absurd (none w z d)
      go w (inr l) (inr d) = absurd (lt_irrefl x (lt_of_le_of_lt k (subst (λ (z : ℕ). bound z < x) d l)))

  pub quick_no : bound (q + 1) < x → q + 1 ≡ scan 20 0 x
  quick_no k = go (scan 20 0 x) (found x h).high (near (scan 20 0 x) (found x h))
    where
      go : (w : ℕ) → x ≤ bound (suc w) → (w ≡ q) ⊎ (w ≡ q + 1) → q + 1 ≡ w
      go w l (inr d) = sym d
      go w l (inl d) = absurd (lt_irrefl x (lt_of_le_of_lt (subst (λ (z : ℕ). x ≤ bound z) (sym (add-one w) ∙ ap (λ (z : ℕ). z + 1) d) l) k))
