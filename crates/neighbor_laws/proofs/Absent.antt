-- A direction is absent exactly if each step before the end gives its own number: of any lists, whether they were built or not. Assumes nothing.
use mathlib.Core.Path.{◌≡◌, refl, sym, ap, ◌∙◌}
use mathlib.Core.Bool.{Bool, true, false, cond}
use mathlib.Core.List.{List}
use Prim.Native.Nat.{ℕ, zero, suc, ◌+◌, ◌<◌, ◌≤◌}
use native.Mathlib.Omega.{arith}
use lib.Dec.{T, eqb, eqb→eq, ltb, ltb→lt, lt→ltb}
use lib.Ieee.Fits.{eq→eqb}
use lib.Ieee.{Float}
use Rattle.coords.specs.declared.Spherical.{Spherical}
use Rattle.coords.specs.Coords.{cartesian_of}
use Rattle.lookup.specs.declared.Lookup.{Lookup}
use Rattle.lookup.specs.declared.Located.{Located}
use Rattle.lookup.specs.declared.Located.TheVariants as located
use Rattle.lookup.specs.Lookup.{locate_of}
use Rattle.neighbors.specs.declared.Reached.{Reached}
use Rattle.neighbors.specs.declared.Reached.TheVariants.{At, Absent}
use Rattle.neighbors.specs.Neighbors.{moved, leaves, unless_own, going, direction_of}

module _ (look : Lookup) (m : ℕ) (xs : List Float) (left right : List ℕ) (own : ℕ) (from step : Spherical) where
  -- what the step s gives, and whether the search ends there
  abbrev gives : ℕ → Located
  gives s = locate_of look m xs left right (cartesian_of (moved from step s))

  abbrev ends : ℕ → Bool
  ends s = leaves look step.radius (moved from step s).radius

  abbrev go : ℕ → ℕ → Reached
  go k i = going look m xs left right own from step k i

  -- after i steps, the step s is met before the end
  abbrev Met : ℕ → ℕ → Type 0
  Met i s = (r : ℕ) → i < r → r ≤ s → ends r ≡ false

  abbrev OnlyOwn : ℕ → ℕ → Type 0
  OnlyOwn k i = (s : ℕ) → i < s → s ≤ i + k → Met i s → gives s ≡ located.At own

  abbrev turn : ℕ → ℕ → Bool → Reached
  turn k i b = elim b [ true ↦ Absent | false ↦ unless_own own (gives (i + 1)) (go k (i + 1)) ]

  turn_is : (k i : ℕ) (b : Bool) → ends (i + 1) ≡ b → go (suc k) i ≡ turn k i b
  unfolding going
  turn_is k i b e = ap (turn k i) e

  own_again : (g : Reached) → unless_own own (located.At own) g ≡ g
  unfolding unless_own
  own_again g = by (eqb own own) (eq→eqb {a = own} {b = own} refl)
    where
      by : (b : Bool) → T b → cond b g (At own) ≡ g
      by true t = refl
      by false t = absurd t

  -- ---- if

  absent_from : (k i : ℕ) → OnlyOwn k i → go k i ≡ Absent
  absent_from zero i h = unfold going in refl
  absent_from (suc k) i h = by (ends (i + 1)) refl (λ (o : OnlyOwn k (i + 1)). absent_from k (i + 1) o)
    where
      by : (b : Bool) → ends (i + 1) ≡ b → (OnlyOwn k (i + 1) → go k (i + 1) ≡ Absent) → go (suc k) i ≡ Absent
      by true e f = turn_is k i true e
      by false e f =
          let here : Met i (i + 1) = λ r l u. let er : r ≡ i + 1 = omega arith in ap ends er ∙ e in
          turn_is k i false e ∙ ap (λ (x : Located). unless_own own x (go k (i + 1))) (h (i + 1) (omega arith) (omega arith) here) ∙ own_again (go k (i + 1))
          ∙ f (λ s l u met. h s (omega arith) (omega arith) (λ r a b. met_from r a (ltb (i + 1) r) (ltb→lt (i + 1) r) (lt→ltb (i + 1) r) (λ c. met r c b)))
        where
          met_from : (r : ℕ) → i < r → (b : Bool) → (T b → i + 1 < r) → (i + 1 < r → T b) → (i + 1 < r → ends r ≡ false) → ends r ≡ false
          met_from r a true f g k = k (f tt)
          met_from r a false f g k = let z : (i + 1 < r → ⊥) = g in let er : r ≡ i + 1 = omega (arith, a) in ap ends er ∙ e

  -- ---- only if

  gave_own : (f : Located) (g : Reached) → unless_own own f g ≡ Absent → (f ≡ located.At own) × (g ≡ Absent)
  unfolding unless_own
  gave_own (located.Refused refusal) g e = absurd cc
  gave_own (located.At n) g e = by (eqb n own) (eqb→eq n own) e
    where
      by : (b : Bool) → (T b → n ≡ own) → cond b g (At n) ≡ Absent → (located.At n ≡ located.At own) × (g ≡ Absent)
      by true f e = (ap located.At (f tt), e)
      by false f e = absurd cc

  absent_only : (k i : ℕ) → go k i ≡ Absent → OnlyOwn k i
  absent_only zero i e s l u met = absurd (omega arith)
  absent_only (suc k) i e s l u met =
      let z = gave_own (gives (i + 1)) (go k (i + 1)) (sym (turn_is k i false (met (i + 1) (omega arith) (omega arith))) ∙ e) in
      pick (ltb (i + 1) s) (ltb→lt (i + 1) s) (lt→ltb (i + 1) s) z.0 (λ (c : i + 1 < s). absent_only k (i + 1) z.1 s c (omega arith) (λ r a b. met r (omega arith) b))
    where
      pick : (b : Bool) → (T b → i + 1 < s) → (i + 1 < s → T b) → gives (i + 1) ≡ located.At own → (i + 1 < s → gives s ≡ located.At own) → gives s ≡ located.At own
      pick true f g h k = k (f tt)
      pick false f g h k = let z : (i + 1 < s → ⊥) = g in let es : s ≡ i + 1 = omega (arith, l) in ap gives es ∙ h

  -- ABSENT IF AND ONLY IF each step from 1 to the cap, before the end, gives its own number
  pub absent_if : (cap : ℕ) → ((s : ℕ) → 0 < s → s ≤ cap → ((r : ℕ) → 0 < r → r ≤ s → ends r ≡ false) → gives s ≡ located.At own) → direction_of look m xs left right own from step cap ≡ Absent
  unfolding direction_of
  absent_if cap h = absent_from cap 0 (λ s l u met. h s l (omega arith) met)

  pub absent_only_if : (cap : ℕ) → direction_of look m xs left right own from step cap ≡ Absent → (s : ℕ) → 0 < s → s ≤ cap → ((r : ℕ) → 0 < r → r ≤ s → ends r ≡ false) → gives s ≡ located.At own
  unfolding direction_of
  absent_only_if cap e s l u met = absent_only cap 0 e s l (omega arith) met
