-- What loops and callers cite of `over` and `upto`, and what holds of each of two lists put together. Assumes nothing.
use mathlib.Core.Path.{◌≡◌, refl, sym, ap, subst, ◌∙◌}
use mathlib.Core.Bool.{Bool, true, false}
use mathlib.Core.List.{List, [], ◌∷◌, ◌++◌, append-nil}
use Prim.Native.Nat.{ℕ, zero, suc, ◌+◌, ◌≤◌, ◌<◌}
use native.Mathlib.Nat.{le_of_lt}
use native.Mathlib.Numerals.{add-one}
use native.Mathlib.Omega.{arith}
use lib.ListN.{drop_of_length-le, length, take, drop, get_or, set, replicate, length-append, length-drop, length-replicate, take-append-drop, get_or-append}
use lib.Dec.{ltb}
use Rattle.std.proofs.lemmas.List.{replicate-append-replicate}
use lib.Seq.{get_or_at, take-suc, drop-cons, take_at, drop_at, set_at, length-take-le, append_snoc}
use borrow.Author.Tests.{ltb-true, ltb-false}
use Rattle.lists.specs.Each.{Each}
use Rattle.lists.specs.Over.{over, into, upto}

module _ {A : Type 0} where
  pub over_nil : (d : List A) → over [] d ≡ d
  unfolding over
  over_nil d = refl

  pub into_nil : (at : ℕ) (d : List A) → into at [] d ≡ d
  unfolding into over
  into_nil at d = take-append-drop at d

  pub length_over : (xs d : List A) → length xs ≤ length d → length (over xs d) ≡ length d
  unfolding over
  length_over xs d h = simp (length-append, length-drop) (omega arith)

  pub take_over : (xs d : List A) → take (length xs) (over xs d) ≡ xs
  unfolding over
  take_over xs d = take_at xs (drop (length xs) d) (length xs) refl

  pub drop_over : (xs d : List A) → drop (length xs) (over xs d) ≡ drop (length xs) d
  unfolding over
  drop_over xs d = drop_at xs (drop (length xs) d) (length xs) refl

  -- a list's own front
  pub over_own : (n : ℕ) (d : List A) → n ≤ length d → d ≡ over (take n d) d
  unfolding over
  over_own n d h = sym (take-append-drop n d) ∙ ap (λ (k : ℕ). take n d ++ drop k d) (sym (length-take-le n d h))

  -- one store past the replaced part makes it one longer
  pub over_more : (xs d : List A) (a : A) → length xs < length d → set (over xs d) (length xs) a ≡ over (xs ++ (a ∷ [])) d
  unfolding over
  over_more xs d a h =
      rw (drop-cons d (length xs) a)
      (set_at xs (get_or d (length xs) a) (drop (suc (length xs)) d) a (length xs) refl
      ∙ sym (append_snoc xs a (drop (suc (length xs)) d))
      ∙ ap (λ (k : ℕ). (xs ++ (a ∷ [])) ++ drop k d) (sym (length-append xs (a ∷ []) ∙ add-one (length xs))))

  -- the same where the replaced part is known to be n long
  pub over_at : (xs d : List A) (n : ℕ) (a : A) → length xs ≡ n → n < length d → set (over xs d) n a ≡ over (xs ++ (a ∷ [])) d
  over_at xs d n a e h = rw (← e) (over_more xs d a (omega arith))

  -- a turn of a copy
  pub copy_more : (s d : List A) (i : ℕ) (z : A) → i < length s → i < length d → set (over (take i s) d) i (get_or s i z) ≡ over (take (i + 1) s) d
  copy_more s d i z hs hd =
      over_at (take i s) d i (get_or s i z) (length-take-le i s (le_of_lt hs)) hd
      ∙ ap (λ (l : List A). over l d) (sym (ap (λ (k : ℕ). take k s) (add-one i) ∙ take-suc s i z hs))

  -- a turn of a loop that writes one value
  pub fill_more : (n : ℕ) (v : A) (d : List A) → n < length d → set (over (replicate n v) d) n v ≡ over (replicate (n + 1) v) d
  fill_more n v d h =
      over_at (replicate n v) d n v (length-replicate n v) h
      ∙ ap (λ (l : List A). over l d) (replicate-append-replicate n 1 v)

  -- a front of its own that a loop has filled, i of n turns, all of them done
  pub over_front : (n i : ℕ) (v : A) (d front : List A) → front ≡ over (replicate i v) (take n d) → n ≤ length d → length (take n d) ≤ i → i ≤ length (take n d) → front ++ drop n d ≡ over (replicate n v) d
  unfolding over
  over_front n i v d front e h a b =
      let t : length (take n d) ≡ n = length-take-le n d h in
      let q : i ≡ n = omega arith in
      let none : drop (length (replicate n v)) (take n d) ≡ [] = drop_of_length-le (take n d) (let w = length-replicate n v in omega arith) in
      rw (e, q, none, append-nil (replicate n v), length-replicate n v) refl

  pub length_upto : (f : ℕ → A) (n : ℕ) → length (upto f n) ≡ n
  unfolding upto
  length_upto f zero = refl
  length_upto f (suc n) = length-append (upto f n) (f n ∷ []) ∙ add-one (length (upto f n)) ∙ ap suc (length_upto f n)

  -- value j of a list of values, and of a lent list whose front they replace
  pub get_or_upto : (f : ℕ → A) (n j : ℕ) (z : A) → j < n → get_or (upto f n) j z ≡ f j
  unfolding upto
  get_or_upto f zero j z h = absurd (omega arith)
  get_or_upto f (suc n) j z h = go (ltb j n) refl (get_or_upto f n j z)
    where
      go : (b : Bool) → ltb j n ≡ b → (j < n → get_or (upto f n) j z ≡ f j) → get_or (upto f n ++ (f n ∷ [])) j z ≡ f j
      go true e ih = let l = ltb-true j n e in get_or-append (upto f n) (f n ∷ []) z j (let w = length_upto f n in omega arith) ∙ ih l
      go false e ih =
          let l = ltb-false j n e in
          let q : n ≡ j = omega arith in
          subst (λ (i : ℕ). get_or (upto f n ++ (f n ∷ [])) i z ≡ f i) q (get_or_at (upto f n) (f n) [] z n (length_upto f n))

  pub get_or_over_upto : (f : ℕ → A) (n j : ℕ) (d : List A) (z : A) → j < n → get_or (over (upto f n) d) j z ≡ f j
  unfolding over
  get_or_over_upto f n j d z h = get_or-append (upto f n) (drop (length (upto f n)) d) z j (let w = length_upto f n in omega arith) ∙ get_or_upto f n j z h

  -- a turn of any loop that stores f i at i
  pub upto_more : (f : ℕ → A) (n : ℕ) (d : List A) → n < length d → set (over (upto f n) d) n (f n) ≡ over (upto f (n + 1)) d
  unfolding upto
  upto_more f n d h =
      over_at (upto f n) d n (f n) (length_upto f n) h
      ∙ ap (λ (l : List A). over l d) (ap (λ (k : ℕ). upto f k) (sym (add-one n)))

  pub each_append : (P : A → Type 0) (k l : List A) → Each P k → Each P l → Each P (k ++ l)
  each_append P [] l a b = b
  each_append P (x ∷ k) l a b = (a.0, each_append P k l a.1 b)
