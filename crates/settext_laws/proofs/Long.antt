-- A line of 40000 bytes or more is malformed, but for the word of `kind=`, which is then unknown. So the first 40000 bytes of a line say as much
-- as the whole line (`long_lines`), and at the end of a text the first byte says whether anything is left (`end_of_lem`). Assumes nothing.
use Prim.Native.Nat.{ℕ, zero, suc, ◌-◌, ◌*◌, ◌≤◌, ◌<◌}
use mathlib.Core.Path.{◌≡◌, refl, sym, ap, ◌∙◌}
use mathlib.Core.Bool.{Bool, true, false, cond, ◌&&◌, and-false}
use mathlib.Core.List.{List, [], ◌∷◌}
use native.Mathlib.Omega.{arith}
use lib.Dec.{eqb, ltb, lit<, lit≤}
use lib.ListN.{length, take, drop, get_or, length-drop}
use lib.Seq.{take_all, length-take-le}
use lib.Ieee.{Float}
use borrow.Author.Tests.{ne_eqb, ltb-true, ltb-false}
use Rattle.std.specs.Prelude.{Option, None}
use Rattle.text.specs.Number.{begins, count_of, hex_of}
use Rattle.text.specs.Values.{values_ok, stored}
use Rattle.text.proofs.Reading.{long_count, other_length}
use Rattle.text.specs.Words.{bytes}
use Rattle.text.specs.Keys.{exactly_of, num_behind, values_fit, point_read, point_behind}
use Rattle.settext.specs.declared.State.{State}
use Rattle.settext.specs.State.{bad_of}
use Rattle.settext.specs.Lines.{TextLists, product, kind_of, keys, key_line, form_line, kind_line, m_line, r_line, n_line, rate_line, astep_line, rstep_line, delays_line, values_step, values_list, query_line, line_of, end_of}

no_word : (w s : List ℕ) → length w < length s → exactly_of w s ≡ false
unfolding exactly_of
no_word w s h = rw (ne_eqb (length s) (length w) (λ e. omega arith)) (and-false (begins w s))

no_hex : (s : List ℕ) → 39990 < length s → hex_of s ≡ None
unfolding hex_of
no_hex s h = rw (ne_eqb (length s) 8 (λ e. omega arith))

no_values : (s : List ℕ) (n : ℕ) → 39990 < length s → n ≤ 4096 → values_ok s n ≡ false
unfolding values_ok
no_values s zero h g = ne_eqb (length s) 0 (λ e. omega arith)
no_values s (suc n) h g = other_length s (suc n) (omega arith) (λ e. omega arith)

no_kind : (s : List ℕ) → 39990 < length s → kind_of s ≡ 255
unfolding kind_of bytes
no_kind s h = rw (no_word (bytes "cartesian") s (omega arith), no_word (bytes "spherical") s (omega arith))

begins_take : (k l : List ℕ) (room : ℕ) → length k ≤ room → begins k (take room l) ≡ begins k l
unfolding begins
begins_take [] l room h = refl
begins_take (x ∷ k) l zero h = absurd (omega arith)
begins_take (x ∷ k) [] (suc room) h = refl
begins_take (x ∷ k) (y ∷ l) (suc room) h = ap (λ (b : Bool). eqb y x && b) (begins_take k l room (omega arith))

-- what a long line says
module _ (l : List ℕ) (long : 40000 ≤ length l) where
  -- behind a key of less than ten bytes it is still long
  rest_long : (k : ℕ) → k < 10 → 39990 < length (drop k l)
  rest_long k h = simp length-drop (omega arith)

  behind_bad : (key : List ℕ) (read : List ℕ → Option ℕ) → read (drop (length key) l) ≡ None → num_behind key read l ≡ None
  unfolding num_behind
  behind_bad key read e = by (begins key l)
    where
      by : (b : Bool) → cond b (read (drop (length key) l)) None ≡ None
      by true = e
      by false = refl

  count_bad : (key : List ℕ) (k : ℕ) → length key < 10 → k < 10000 → num_behind key (count_of k) l ≡ None
  count_bad key k h g = let r = rest_long (length key) h in behind_bad key (count_of k) (long_count k 3 (drop (length key) l) g (omega arith))

  hex_bad : (key : List ℕ) → length key < 10 → num_behind key hex_of l ≡ None
  hex_bad key h = behind_bad key hex_of (no_hex (drop (length key) l) (rest_long (length key) h))

  fit_bad : (key : List ℕ) (n at : ℕ) (d : List Float) → length key < 10 → n ≤ 4096 → values_fit key n at l d ≡ false
  unfolding values_fit
  fit_bad key n at d h g = rw (no_values (drop (length key) l) n (rest_long (length key) h) g) (and-false (begins key l))

  point_bad : (key : List ℕ) → length key < 10 → point_behind key l ≡ None
  unfolding point_behind point_read
  point_bad key h = by (begins key l) (no_values (drop (length key) l) 3 (rest_long (length key) h) (lit≤ tt))
    where
      by : (b : Bool) → values_ok (drop (length key) l) 3 ≡ false → cond b (point_read (drop (length key) l)) None ≡ None
      by true e = rw e
      by false e = refl

  module _ (s : State) where
    form_bad : form_line s l ≡ bad_of s
    unfolding form_line bytes
    form_bad = rw (no_word (bytes "form=1") l (omega arith))

    m_bad : m_line s l ≡ bad_of s
    unfolding m_line bytes
    m_bad = rw (count_bad (bytes "m=") 256 (lit< tt) (lit< tt))

    r_bad : r_line s l ≡ bad_of s
    unfolding r_line bytes
    r_bad = rw (count_bad (bytes "r=") 4096 (lit< tt) (lit< tt))

    n_bad : n_line s l ≡ bad_of s
    unfolding n_line product bytes
    n_bad = rw (count_bad (bytes "n=") 4096 (lit< tt) (lit< tt))

    rate_bad : rate_line s l ≡ bad_of s
    unfolding rate_line bytes
    rate_bad = rw (hex_bad (bytes "rate=") (lit< tt))

    astep_bad : astep_line s l ≡ bad_of s
    unfolding astep_line bytes
    astep_bad = rw (hex_bad (bytes "astep=") (lit< tt))

    rstep_bad : rstep_line s l ≡ bad_of s
    unfolding rstep_line bytes
    rstep_bad = rw (hex_bad (bytes "rstep=") (lit< tt))

    delays_bad : delays_line s l ≡ bad_of s
    unfolding delays_line bytes
    delays_bad = rw (count_bad (bytes "delays=") 4096 (lit< tt) (lit< tt))

    values_bad : (key : List ℕ) (n at : ℕ) (d : List Float) → length key < 10 → n ≤ 4096 → values_step s key l n at d ≡ bad_of s
    unfolding values_step
    values_bad key n at d h g = rw (fit_bad key n at d h g)

    query_bad : query_line s l ≡ bad_of s
    unfolding query_line bytes
    query_bad = rw (point_bad (bytes "query=") (lit< tt))

  list_kept : (key : List ℕ) (n at : ℕ) (d : List Float) → length key < 10 → n ≤ 4096 → values_list key l n at d ≡ d
  unfolding values_list stored
  list_kept key n at d h g = rw (fit_bad key n at d h g)

kind_same : (s : State) (l : List ℕ) (room : ℕ) → 40000 ≤ length l → 40000 ≤ room → 40000 ≤ length (take room l) → kind_line s (take room l) ≡ kind_line s l
unfolding kind_line bytes
kind_same s l room h g k =
    rw (begins_take (bytes "kind=") l room (omega arith), no_kind (drop 5 (take room l)) (rest_long (take room l) k 5 (lit< tt)), no_kind (drop 5 l) (rest_long l h 5 (lit< tt)))

-- two long lines that begin alike: each rule answers the same
module _ (s : State) (l : List ℕ) (room : ℕ) (h : 40000 ≤ length l) (g : 40000 ≤ room) (k : 40000 ≤ length (take room l)) where
  key_same : (i : ℕ) → get_or keys i (λ s l. bad_of s) s (take room l) ≡ get_or keys i (λ s l. bad_of s) s l
  key_same zero = form_bad (take room l) k s ∙ sym (form_bad l h s)
  key_same (suc zero) = kind_same s l room h g k
  key_same (suc (suc zero)) = m_bad (take room l) k s ∙ sym (m_bad l h s)
  key_same (suc (suc (suc zero))) = r_bad (take room l) k s ∙ sym (r_bad l h s)
  key_same (suc (suc (suc (suc zero)))) = n_bad (take room l) k s ∙ sym (n_bad l h s)
  key_same (suc (suc (suc (suc (suc zero))))) = rate_bad (take room l) k s ∙ sym (rate_bad l h s)
  key_same (suc (suc (suc (suc (suc (suc zero)))))) = astep_bad (take room l) k s ∙ sym (astep_bad l h s)
  key_same (suc (suc (suc (suc (suc (suc (suc zero))))))) = rstep_bad (take room l) k s ∙ sym (rstep_bad l h s)
  key_same (suc (suc (suc (suc (suc (suc (suc (suc zero)))))))) = delays_bad (take room l) k s ∙ sym (delays_bad l h s)
  key_same (suc (suc (suc (suc (suc (suc (suc (suc (suc i))))))))) = refl

  values_same : (key : List ℕ) (n at : ℕ) (d : List Float) → length key < 10 → n ≤ 4096 → values_step s key (take room l) n at d ≡ values_step s key l n at d
  values_same key n at d a b = values_bad (take room l) k s key n at d a b ∙ sym (values_bad l h s key n at d a b)

  list_same : (key : List ℕ) (n at : ℕ) (d : List Float) → length key < 10 → n ≤ 4096 → values_list key (take room l) n at d ≡ values_list key l n at d
  list_same key n at d a b = list_kept (take room l) k key n at d a b ∙ sym (list_kept l h key n at d a b)

  query_same : query_line s (take room l) ≡ query_line s l
  query_same = query_bad (take room l) k s ∙ sym (query_bad l h s)

  line_same : s.n ≤ 4096 → (d : TextLists) → line_of s (take room l) d ≡ line_of s l d
  unfolding line_of key_line bytes
  line_same n d =
      let i = s.lines - 9 in
      let j = i - s.m in
      let e = j - s.m * s.r in
      rw (
        key_same s.lines,
        values_same (bytes "pos=") 3 (3 * i) d.positions (lit< tt) (lit≤ tt),
        list_same (bytes "pos=") 3 (3 * i) d.positions (lit< tt) (lit≤ tt),
        values_same (bytes "ir=") s.n (j * s.n) d.responses (lit< tt) n,
        list_same (bytes "ir=") s.n (j * s.n) d.responses (lit< tt) n,
        values_same (bytes "delay=") 1 e d.delays (lit< tt) (lit≤ tt),
        list_same (bytes "delay=") 1 e d.delays (lit< tt) (lit≤ tt),
        query_same,
      )

-- The first bytes of a line, 40000 or more of them, say as much as the whole line
pub long_lines : (room : ℕ) → 40000 ≤ room → (s : State) (l : List ℕ) (d : TextLists) → s.n ≤ 4096 → line_of s (take room l) d ≡ line_of s l d
long_lines room g s l d n = by (ltb room (length l)) refl
  where
    by : (b : Bool) → ltb room (length l) ≡ b → line_of s (take room l) d ≡ line_of s l d
    by true e =
        let m : room < length l = ltb-true room (length l) e in
        let k : 40000 ≤ length (take room l) = rw (length-take-le room l (omega arith)) g in
        line_same s l room (omega arith) g k n d
    by false e = ap (λ (l : List ℕ). line_of s l d) (take_all room l (ltb-false room (length l) e))

-- ---- the end of a text

-- whether bytes are left shows in the first of them
left_over : (room : ℕ) (r : List ℕ) → eqb (length (take (suc room) r)) 0 ≡ eqb (length r) 0
left_over room [] = refl
left_over room (x ∷ r) = ne_eqb (suc (length (take room r))) 0 (λ e. omega arith) ∙ sym (ne_eqb (suc (length r)) 0 (λ e. omega arith))

pub end_of_lem : (room : ℕ) (s : State) (h rest : List ℕ) → h ≡ rest → end_of s (take (suc room) h) ≡ end_of s rest
unfolding end_of
end_of_lem room s h rest e = rw (left_over room h, e)
