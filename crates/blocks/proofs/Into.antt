-- What is written into a list, one part after the other. Assumes nothing.
use Prim.Native.Nat.{ℕ, suc, ◌+◌, ◌-◌, ◌<◌}
use mathlib.Core.Path.{◌≡◌, refl, sym, ap, ◌∙◌}
use mathlib.Core.List.{List, [], ◌∷◌, ◌++◌, append_assoc, append-nil}
use native.Mathlib.Numerals.{add-one}
use native.Mathlib.Omega.{arith}
use lib.ListN.{length, take, drop, set, get_or, length-append, length-drop, take-append-drop}
use lib.Seq.{take_at, drop_at, drop-drop, length-take-le, set_at, drop-cons, drop-length, take_all}
use Rattle.lists.specs.Over.{over, into}
use Rattle.lists.proofs.Laws.{into_nil}
use Rattle.blocks.specs.Put.{FitsAt, Wrote}

-- at the front it is `over`
pub into_front : (xs d : List ℕ) → into 0 xs d ≡ over xs d
unfolding into
into_front xs d = refl

-- the list, taken apart around what is written
pub parts : (at : ℕ) (xs d : List ℕ) → into at xs d ≡ (take at d ++ xs) ++ drop (at + length xs) d
unfolding into over
parts at xs d = ap (λ (t : List ℕ). take at d ++ (xs ++ t)) (drop-drop (length xs) at d) ∙ sym (append_assoc (take at d) xs (drop (at + length xs) d))

front_length : (at : ℕ) (xs d : List ℕ) → FitsAt at xs d → length (take at d ++ xs) ≡ at + length xs
front_length at xs d h =
    let e : length (take at d) ≡ at = length-take-le at d (omega arith) in
    simp length-append (omega arith)

pub length_into : (at : ℕ) (xs d : List ℕ) → FitsAt at xs d → length (into at xs d) ≡ length d
length_into at xs d h =
    let e = front_length at xs d h in
    ap length (parts at xs d) ∙ length-append (take at d ++ xs) (drop (at + length xs) d) ∙ (let g = length-drop (at + length xs) d in omega (arith, e, g))

-- what is written behind xs
pub onto : (at : ℕ) (xs ys d : List ℕ) → FitsAt at (xs ++ ys) d → into (at + length xs) ys (into at xs d) ≡ into at (xs ++ ys) d
onto at xs ys d h =
    let n = at + length xs in
    let l = length-append xs ys in
    let room : FitsAt at xs d = omega (arith, h, l) in
    let p = front_length at xs d room in
    let t : take n (into at xs d) ≡ take at d ++ xs = ap (take n) (parts at xs d) ∙ take_at (take at d ++ xs) (drop n d) n p in
    let m : n + length ys ≡ at + length (xs ++ ys) = omega (arith, l) in
    let u : drop (n + length ys) (into at xs d) ≡ drop (at + length (xs ++ ys)) d =
    sym (drop-drop (length ys) n (into at xs d)) ∙ ap (λ (w : List ℕ). drop (length ys) (drop n w)) (parts at xs d)
    ∙ ap (drop (length ys)) (drop_at (take at d ++ xs) (drop n d) n p) ∙ drop-drop (length ys) n d
    ∙ ap (λ (k : ℕ). drop k d) m in
    parts n ys (into at xs d)
    ∙ ap (λ (w : List ℕ). (w ++ ys) ++ drop (n + length ys) (into at xs d)) t
    ∙ ap (λ (w : List ℕ). ((take at d ++ xs) ++ ys) ++ w) u
    ∙ ap (λ (w : List ℕ). w ++ drop (at + length (xs ++ ys)) d) (append_assoc (take at d) xs ys)
    ∙ sym (parts at (xs ++ ys) d)

-- one byte
pub one : (at : ℕ) (b : ℕ) (d : List ℕ) → at < length d → set d at b ≡ into at (b ∷ []) d
one at b d h =
    ap (λ (w : List ℕ). set w at b) (sym (take-append-drop at d) ∙ ap (λ (w : List ℕ). take at d ++ w) (drop-cons d at b h))
    ∙ set_at (take at d) (get_or d at b) (drop (suc at) d) b at (length-take-le at d (omega arith))
    ∙ rest
    ∙ sym (parts at (b ∷ []) d)
  where
    rest : take at d ++ b ∷ drop (suc at) d ≡ (take at d ++ (b ∷ [])) ++ drop (at + 1) d
    rest = sym (append_assoc (take at d) (b ∷ []) (drop (suc at) d)) ∙ ap (λ (k : ℕ). (take at d ++ (b ∷ [])) ++ drop k d) (sym (add-one at))

-- ---- steps of a function that writes

-- nothing yet
pub begin : (at : ℕ) (d : List ℕ) → Wrote at [] d at d
begin at d = (omega arith, sym (into_nil at d))

-- a part, and one behind it
pub then : (at a b : ℕ) (xs ys d e f : List ℕ) → FitsAt at (xs ++ ys) d → Wrote at xs d a e → Wrote a ys e b f → Wrote at (xs ++ ys) d b f
then at a b xs ys d e f h (n, w) (m, v) =
    (m ∙ (let l = length-append xs ys in omega (arith, n, l)), v ∙ ap (λ (k : ℕ). into k ys e) n ∙ ap (into (at + length xs) ys) w ∙ onto at xs ys d h)

-- the room of a part is room for its beginning
pub room_left : (at : ℕ) (xs ys d : List ℕ) → FitsAt at (xs ++ ys) d → FitsAt at xs d
room_left at xs ys d h = let l = length-append xs ys in omega (arith, h, l)

-- and what is left is room for the rest
pub room_right : (at a : ℕ) (xs ys d e : List ℕ) → FitsAt at (xs ++ ys) d → Wrote at xs d a e → FitsAt a ys e
room_right at a xs ys d e h (n, w) =
    let l = length-append xs ys in
    let k : length e ≡ length d = ap length w ∙ length_into at xs d (room_left at xs ys d h) in
    omega (arith, h, l, k, n)

-- what came back of the list from a place on
pub tail : (at : ℕ) (xs d e : List ℕ) → FitsAt at xs d → e ≡ over xs (take (length d - at) (drop at d)) → take at d ++ (e ++ drop (length d - at) (drop at d)) ≡ into at xs d
unfolding into
tail at xs d e h w =
    let l = length-drop at d in
    let n : drop (length d - at) (drop at d) ≡ [] = ap (λ (k : ℕ). drop k (drop at d)) (sym l) ∙ drop-length (drop at d) in
    let f : take (length d - at) (drop at d) ≡ drop at d = take_all (length d - at) (drop at d) (omega (arith, l)) in
    ap (λ (v : List ℕ). take at d ++ (e ++ v)) n ∙ ap (λ (v : List ℕ). take at d ++ v) (append-nil e ∙ w ∙ ap (over xs) f)

-- at the front
pub front : (xs d : List ℕ) (r : ℕ) (e : List ℕ) → Wrote 0 xs d r e → (r ≡ length xs) × (e ≡ over xs d)
front xs d r e (n, w) = (omega (arith, n), w ∙ into_front xs d)
