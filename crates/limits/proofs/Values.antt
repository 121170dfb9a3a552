-- The search for the first position value that is not allowed: its steps, and what it finds. Assumes nothing.
use Prim.Native.Nat.{ℕ, zero, suc, ◌+◌, ◌≤◌, ◌<◌}
use mathlib.Core.Path.{◌≡◌, refl, sym, ap, ◌∙◌}
use mathlib.Core.Bool.{Bool, true, false}
use mathlib.Core.List.{List, [], ◌∷◌}
use native.Mathlib.Omega.{arith}
use borrow.Author.Tests.{lt-ltb, le-ltb}
use lib.ListN.{length, take, drop, get_or, drop_of_length-le}
use lib.Seq.{length-take-le, get_or-take, take-length}
use native.Mathlib.Nat.{le_refl}
use Rattle.std.specs.Prelude.{Ok, Err}
use Rattle.std.proofs.lemmas.List.{drop_more}
use Rattle.refusals.specs.declared.Refusal.TheVariants.{BadPosition}
use lib.Ieee.{Float, nan}
use Rattle.limits.specs.Allowed.{bad_from, first_bad, kind_ok, position_ok}
use Rattle.limits.specs.Refusals.{verdict_of, bad_value}
use Rattle.limits.proofs.Lines.{stops, goes_on, none}

pub known : (kind : ℕ) → kind < 2 → kind_ok kind ≡ true
unfolding kind_ok
known zero h = refl
known (suc zero) h = refl
known (suc (suc k)) h = absurd (omega arith)

module _ (ok : ℕ → Float → Bool) (xs : List Float) where
  -- the search stands at i: it goes on, stops, or is at the end
  pub bad_on : (i : ℕ) → i < length xs → ok i (get_or xs i nan) ≡ true → bad_from ok i (drop i xs) ≡ bad_from ok (i + 1) (drop (i + 1) xs)
  unfolding bad_from
  bad_on i h e = rw (drop_more xs i nan h, e)

  pub bad_here : (i : ℕ) → i < length xs → ok i (get_or xs i nan) ≡ false → bad_from ok i (drop i xs) ≡ i
  unfolding bad_from
  bad_here i h e = rw (drop_more xs i nan h, e)

  pub bad_end : bad_from ok (length xs) (drop (length xs) xs) ≡ length xs
  unfolding bad_from
  bad_end = rw (drop_of_length-le xs (le_refl (length xs)))

  -- the search of a whole list
  pub of_whole : first_bad ok xs (length xs) ≡ bad_from ok 0 xs
  unfolding first_bad
  of_whole = ap (bad_from ok 0) (take-length xs)

  -- and of a front of it, which may be lent by itself
  pub of_front : (n : ℕ) → n ≤ length xs → first_bad ok (take n xs) (length (take n xs)) ≡ first_bad ok xs n
  unfolding first_bad
  of_front n h = ap (bad_from ok 0) (take-length (take n xs))

-- the line of the table, from where the search of a whole list ends
module _ (kind : ℕ) (xs : List Float) (i : ℕ) (searched : bad_from (position_ok kind) i (drop i xs) ≡ bad_from (position_ok kind) 0 xs) where
  at_end : (j : ℕ) → bad_from (position_ok kind) i (drop i xs) ≡ j → first_bad (position_ok kind) xs (length xs) ≡ j
  at_end j e = of_whole (position_ok kind) xs ∙ sym searched ∙ e

  pub value_bad : i < length xs → position_ok kind i (get_or xs i nan) ≡ false → verdict_of (bad_value kind xs (length xs) ∷ []) ≡ Err (BadPosition i)
  value_bad h bad =
      let e = at_end i (bad_here (position_ok kind) xs i h bad) in
      stops (bad_value kind xs (length xs)) [] (rw e (lt-ltb i (length xs) h)) ∙ ap (λ (j : ℕ). Err (BadPosition j)) e

  pub value_fine : length xs ≤ i → i ≤ length xs → verdict_of (bad_value kind xs (length xs) ∷ []) ≡ Ok tt
  value_fine l h =
      let n : i ≡ length xs = omega arith in
      let e = at_end (length xs) (rw n (bad_end (position_ok kind) xs)) in
      goes_on (bad_value kind xs (length xs)) [] (rw e (le-ltb (length xs) (length xs) (le_refl (length xs)))) ∙ none

-- the line over a front of a list, from the line over the front lent by itself
pub value_front : (kind : ℕ) (xs : List Float) (n : ℕ) → n ≤ length xs → bad_value kind (take n xs) (length (take n xs)) ≡ bad_value kind xs n
value_front kind xs n h = rw (of_front (position_ok kind) xs n h, length-take-le n xs h)

-- ---- what the search finds: every value before it is allowed, and the one there is not

module _ (ok : ℕ → Float → Bool) where
  stop : (i : ℕ) (x : Float) (xs : List Float) → ok i x ≡ false → bad_from ok i (x ∷ xs) ≡ i
  unfolding bad_from
  stop i x xs e = rw e

  step : (i : ℕ) (x : Float) (xs : List Float) → ok i x ≡ true → bad_from ok i (x ∷ xs) ≡ bad_from ok (i + 1) xs
  unfolding bad_from
  step i x xs e = rw e

  nothing : (i : ℕ) → bad_from ok i [] ≡ i
  unfolding bad_from
  nothing i = refl

  -- either way, by the test at i
  by_test : {X : Type 0} (i : ℕ) (x : Float) → (ok i x ≡ true → X) → (ok i x ≡ false → X) → X
  by_test {X} i x good bad = at (ok i x) refl
    where
      at : (b : Bool) → ok i x ≡ b → X
      at true e = good e
      at false e = bad e

  from_before : (i : ℕ) (xs : List Float) (j : ℕ) → i + j < bad_from ok i xs → ok (i + j) (get_or xs j nan) ≡ true
  from_before i [] j h = absurd (omega (arith, nothing i))
  from_before i (x ∷ xs) zero h = let z : i + 0 ≡ i = omega arith in by_test i x (λ e. rw z e) (λ e. absurd (omega (arith, stop i x xs e)))
  from_before i (x ∷ xs) (suc j) h =
      by_test i x
      (λ e.
      let shift : i + suc j ≡ i + 1 + j = omega arith in
      rw shift (from_before (i + 1) xs j (omega (arith, step i x xs e))))
      (λ e. absurd (omega (arith, stop i x xs e)))

  from_least : (i : ℕ) (xs : List Float) → i ≤ bad_from ok i xs
  from_least i [] = omega (arith, nothing i)
  from_least i (x ∷ xs) = by_test i x (λ e. omega (arith, step i x xs e, from_least (i + 1) xs)) (λ e. omega (arith, stop i x xs e))

  from_there : (i : ℕ) (xs : List Float) (j : ℕ) → bad_from ok i xs ≡ i + j → j < length xs → ok (i + j) (get_or xs j nan) ≡ false
  from_there i [] j h l = absurd (omega arith)
  from_there i (x ∷ xs) zero h l =
      let z : i + 0 ≡ i = omega arith in
      by_test i x (λ e. absurd (omega (arith, step i x xs e, from_least (i + 1) xs))) (λ e. rw z e)
  from_there i (x ∷ xs) (suc j) h l =
      by_test i x
      (λ e.
      let shift : i + suc j ≡ i + 1 + j = omega arith in
      rw shift (from_there (i + 1) xs j (sym (step i x xs e) ∙ h ∙ shift) (omega arith)))
      (λ e. absurd (omega (arith, stop i x xs e)))

module _ (ok : ℕ → Float → Bool) (xs : List Float) (n : ℕ) where
  pub allowed_before : (i : ℕ) → i < n → i < first_bad ok xs n → ok i (get_or xs i nan) ≡ true
  unfolding first_bad
  allowed_before i l h =
      let z : 0 + i ≡ i = omega arith in
      rw z at rw (get_or-take n xs i nan l) at (from_before ok 0 (take n xs) i (omega arith))

  pub bad_there : n ≤ length xs → first_bad ok xs n < n → ok (first_bad ok xs n) (get_or xs (first_bad ok xs n) nan) ≡ false
  unfolding first_bad
  bad_there room h =
      let b = first_bad ok xs n in
      let z : 0 + b ≡ b = omega arith in
      rw z at rw (get_or-take n xs b nan h) at (from_there ok 0 (take n xs) b (omega arith) (omega (arith, length-take-le n xs room)))
