-- The loop that changes a list three values at a time, for any change of a triplet: what is changed so far, followed by what is left to change,
-- is the whole; and what a checked conversion says. Assumes nothing.
use Rattle.std.proofs.Common.{◌≡◌, ℕ, ◌+◌, ◌*◌, ◌/◌, ◌≤◌, ◌<◌, List, [], ◌∷◌, ◌++◌, length, take, drop, get_or, Ok, Err, refl, arith, append_assoc, length-drop, take-append-drop}
use Rattle.std.proofs.lemmas.List.{drop_more}
use Rattle.std.proofs.lemmas.Slice.{take-put_mid, drop-put_mid}
use borrow.Rule.Slice.PartMut.{put_mid}
use lib.Ieee.{Float, nan}
use Rattle.points.specs.declared.Point3.{Point3}
use Rattle.points.specs.Points.{point_at, listed}
use Rattle.refusals.specs.declared.Refusal.{Refusal}
use Rattle.limits.specs.Refusals.{verdict_of, value_lines}
use Rattle.coords.specs.Arrays.{turned, by_triplets, converted_as, kept_or, convert_of}

-- the values of the triplet at i, and the list from there on
abbrev pub triplet_at : List Float → ℕ → List Float
triplet_at xs i = get_or xs i nan ∷ get_or xs (i + 1) nan ∷ get_or xs (i + 2) nan ∷ []

three : (xs : List Float) (i : ℕ) → i + 2 < length xs → drop i xs ≡ triplet_at xs i ++ drop (i + 3) xs
three xs i h =
    let e2 : i + 1 + 1 ≡ i + 2 = omega arith in
    let e3 : i + 2 + 1 ≡ i + 3 = omega arith in
    rw (drop_more xs i nan (omega arith), drop_more xs (i + 1) nan (omega arith), e2, drop_more xs (i + 2) nan h, e3)

module _ (f : Point3 → Point3) where
  by_three : (a b c : Float) (rest ys : List Float) → ys ≡ listed (f (point_at (a ∷ b ∷ c ∷ []) 0)) → by_triplets f (a ∷ b ∷ c ∷ rest) ≡ ys ++ by_triplets f rest
  unfolding by_triplets point_at
  by_three a b c rest ys e = rw e

  -- one turn of the loop: the part at i, of n values, now holds ys
  pub turn : (xs : List Float) (place : ℕ) → 3 * place + 2 < length xs → (n : ℕ) → n ≡ 3 → (ys : List Float) → ys ≡ listed (f (point_at (triplet_at xs (3 * place)) 0))
      → take (3 * (place + 1)) (put_mid (3 * place) n xs ys) ++ by_triplets f (drop (3 * (place + 1)) (put_mid (3 * place) n xs ys)) ≡ take (3 * place) xs ++ by_triplets f (drop (3 * place) xs)
  turn xs place h n n3 ys e =
      let i = 3 * place in
      let next : 3 * (place + 1) ≡ i + 3 = omega arith in
      let len : length ys ≡ 3 = rw e in
      rw (next, take-put_mid i n xs ys (i + 3) (omega arith) (omega arith), drop-put_mid i n xs ys (i + 3) (omega arith) (omega arith) (omega arith), three xs i h, by_three _ _ _ (drop (i + 3) xs) ys e)
      (append_assoc (take i xs) ys (by_triplets f (drop (i + 3) xs)))

  short : (xs : List Float) → length xs < 3 → by_triplets f xs ≡ xs
  unfolding by_triplets
  short [] h = refl
  short (a ∷ []) h = refl
  short (a ∷ b ∷ []) h = refl
  short (a ∷ b ∷ c ∷ rest) h = absurd (omega arith)

  -- at the end one or two values are left over, or none
  pub done : (xs : List Float) (place : ℕ) → length xs / 3 ≤ place → take (3 * place) xs ++ by_triplets f (drop (3 * place) xs) ≡ xs
  done xs place h =
      let i = 3 * place in
      let left : length (drop i xs) < 3 = simp length-drop (omega arith) in
      rw (short (drop i xs) left) (take-append-drop i xs)

-- ---- what a checked conversion says

module _ (kind : ℕ) (xs : List Float) where
  pub stays : (r : Refusal) → verdict_of (value_lines kind xs) ≡ Err r → converted_as (Err r) xs ≡ convert_of kind xs
  unfolding convert_of kept_or
  stays r e = rw e

  pub changes : verdict_of (value_lines kind xs) ≡ Ok tt → converted_as (Ok tt) (by_triplets (turned kind) xs) ≡ convert_of kind xs
  unfolding convert_of kept_or
  changes e = rw e
