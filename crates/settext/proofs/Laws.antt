-- Products of counts, and what the line of a key says of its number. Assumes nothing.
use Prim.Native.Nat.{ℕ, ◌+◌, ◌-◌, ◌*◌, ◌≤◌, ◌<◌}
use mathlib.Core.Path.{◌≡◌, sym, ap, ◌∙◌}
use mathlib.Core.Bool.{Bool, true, false, cond}
use mathlib.Core.List.{List}
use native.Mathlib.Nat.{mul-le-mul}
use native.Mathlib.Omega.{arith}
use borrow.Author.Tests.{lt-ltb, le-ltb}
use lib.Dec.{eqb, leb}
use lib.Pointwise.{pointwise}
use lib.ListN.{length, get_or, take, drop, get_or-eq_default}
use lib.Ieee.{Float}
use mir.Syntax.{w16, w64}
use mir.Val.{Fits}
use denote.Bor.{Bor}
use Rattle.std.specs.Prelude.{Option, Some, None, MatchOption, option_map}
use Rattle.text.specs.Number.{begins, count_of}
use Rattle.text.proofs.Reading.{count_within}
use Rattle.text.specs.Values.{value_of}
use Rattle.text.specs.Words.{bytes}
use Rattle.text.specs.Keys.{num_behind}
use Rattle.text.proofs.Keys.{begins_is}
use Rattle.settext.specs.declared.State.{State}
use Rattle.settext.specs.declared.Step.{Step}
use Rattle.settext.specs.State.{went_of, bad_of, set_kind}
use Rattle.settext.specs.Lines.{kind_of, kind_line, gives, product, keys, key_line, query_line, TextLists, text_lists, After, pos_line, ir_line, delay_line, after_as, line_of}

pub product16 : (a b : ℕ) → a < 65536 → b < 65536 → a * b ≤ 4294836225
product16 a b ha hb = mul-le-mul {n₁ = a} {m₁ = b} {n₂ = 65535} {m₂ = 65535} (omega arith) (omega arith)

pub product48 : (a b : ℕ) → a ≤ 4294836225 → b < 4294967296 → a * b < 18446744073709551616
product48 a b ha hb = let h : a * b ≤ 4294836225 * 4294967295 = mul-le-mul {n₁ = a} {m₁ = b} {n₂ = 4294836225} {m₂ = 4294967295} ha (omega arith) in omega arith

-- the place of a `pos` line, how many `ir` lines there are, and the place of one
pub pos_fits : (i m : ℕ) → i < m → Fits w16 m → Fits w64 (3 * i)
pos_fits i m h a = omega arith

pub product_fits : (m r : ℕ) → Fits w16 m → Fits w16 r → Fits w64 (m * r)
product_fits m r a b = omega (arith, product16 m r (omega arith) (omega arith))

pub ir_fits : (j n m r : ℕ) → j < m * r → Fits w16 m → Fits w16 r → Fits w16 n → Fits w64 (j * n)
ir_fits j n m r h a b d = let p = product16 m r (omega arith) (omega arith) in omega (arith, product48 j n (omega arith) (omega arith))

-- a decimal behind a key is at most its limit
pub behind_within : (key l : List ℕ) (k v : ℕ) → num_behind key (count_of k) l ≡ Some v → v ≤ k
unfolding num_behind
behind_within key l k v e = by (begins key l) e
  where
    by : (b : Bool) → cond b (count_of k (drop (length key) l)) None ≡ Some v → v ≤ k
    by true e = count_within k v (drop (length key) l) e
    by false e = let z : ◌≡◌ {A = ℕ} 0 1 = cc in omega arith

-- what passes the product is the count itself
pub product_is : (s : State) (x : Option ℕ) (v : ℕ) → product s x ≡ Some v → x ≡ Some v
unfolding product
product_is s None v e = e
product_is s (Some n) v e = by (leb (s.m * s.r * n) 4096) e
  where
    by : (b : Bool) → cond b (Some n) None ≡ Some v → Some n ≡ Some v
    by true e = e
    by false e = let z : ◌≡◌ {A = ℕ} 0 1 = cc in absurd (omega arith)

-- what the line of a key says of the state, where the call `put` can only give what P says
pub given : (s : State) (put : ℕ → State) {P : ℕ → State → Type 0} (o : Option ℕ) (t : Step) → MatchOption o (t ≡ bad_of s) (λ n. (next : State) × P n next × (t ≡ went_of next))
    → ((n : ℕ) (next : State) → P n next → next ≡ put n) → t ≡ gives s put o
given s put (Some v) t (next, p, f) e = f ∙ ap went_of (e v next p)
given s put None t g e = g

pub given_value : (s : State) (put : Float → State) {P : Float → State → Type 0} (x : Option ℕ) (o : Option Float) (t : Step)
    → MatchOption o (t ≡ bad_of s) (λ v. (next : State) × P v next × (t ≡ went_of next)) → ((v : Float) (next : State) → P v next → next ≡ put v) → o ≡ option_map value_of x
    → t ≡ gives s (λ n. put (value_of n)) x
given_value s put (Some v) o t g e f = let h = rw f at g in h.2 ∙ ap went_of (e (value_of v) h.0 h.1)
given_value s put None o t g e f = rw f at g

pub given_word : (s : State) {P : Bor (List ℕ) → State → Type 0} (o : Option (Bor (List ℕ))) (l : List ℕ) (t : Step)
    → MatchOption o (t ≡ bad_of s) (λ w. (next : State) × P w next × (t ≡ went_of next))
    → MatchOption o (pointwise eqb (take 5 l) (bytes "kind=") ≡ false) (λ w. (pointwise eqb (take 5 l) (bytes "kind=") ≡ true) × (w.now ≡ drop 5 l) × (length w.now + 5 ≡ length l))
    → ((w : Bor (List ℕ)) (next : State) → P w next → next ≡ set_kind s (kind_of w.now)) → t ≡ kind_line s l
unfolding kind_line bytes
given_word s (Some w) l t (next, p, f) (b, d, n) e =
    rw (sym (begins_is (bytes "kind=") l) ∙ b) (f ∙ ap went_of (e w next p) ∙ ap (λ (k : List ℕ). went_of (set_kind s (kind_of k))) d)
given_word s None l t g b e = rw (sym (begins_is (bytes "kind=") l) ∙ b) g

-- past the keys no key is wanted
pub past_keys : (s : State) (l : List ℕ) → 9 ≤ s.lines → key_line s l ≡ bad_of s
unfolding key_line
past_keys s l h = ap (λ (f : State → List ℕ → Step). f s l) (get_or-eq_default keys (λ s l. bad_of s) h)

abbrev pub made : Step → List Float → List Float → List Float → After
made t p r d = after_as t (text_lists p r d)

pub same : {t t' : Step} {p p' r r' d d' : List Float} → t ≡ t' → p ≡ p' → r ≡ r' → d ≡ d' → made t p r d ≡ made t' p' r' d'
same {t} {t'} {p} {p'} {r} {r'} {d} {d'} a b c e =
    ap (λ (x : Step). made x p r d) a ∙ ap (λ (x : List Float). made t' x r d) b ∙ ap (λ (x : List Float). made t' p' x d) c ∙ ap (λ (x : List Float). made t' p' r' x) e

-- the key that is wanted
pub wanted : (s : State) (l : List ℕ) (k : ℕ) → s.lines ≡ k → key_line s l ≡ get_or keys k (λ s l. bad_of s) s l
unfolding key_line
wanted s l k e = ap (λ (k : ℕ). get_or keys k (λ s l. bad_of s) s l) e

pub up : {k : ℕ} (n : ℕ) → n ≤ k → (k ≡ n → ⊥) → n + 1 ≤ k
up n h e = omega arith

-- which line is wanted, by how many were read
module _ (s : State) (l : List ℕ) (d : TextLists) where
  pub a_key : s.lines < 9 → line_of s l d ≡ after_as (key_line s l) d
  unfolding line_of
  a_key h = rw (lt-ltb _ _ h)

  pub a_pos : 9 ≤ s.lines → s.lines - 9 < s.m → line_of s l d ≡ pos_line s l d (s.lines - 9)
  unfolding line_of
  a_pos h i = rw (le-ltb _ _ h, lt-ltb _ _ i)

  pub an_ir : 9 ≤ s.lines → s.m ≤ s.lines - 9 → s.lines - 9 - s.m < s.m * s.r → line_of s l d ≡ ir_line s l d (s.lines - 9 - s.m)
  unfolding line_of
  an_ir h i j = rw (le-ltb _ _ h, le-ltb _ _ i, lt-ltb _ _ j)

  pub a_delay : 9 ≤ s.lines → s.m ≤ s.lines - 9 → s.m * s.r ≤ s.lines - 9 - s.m → s.lines - 9 - s.m - s.m * s.r < s.delays
      → line_of s l d ≡ delay_line s l d (s.lines - 9 - s.m - s.m * s.r)
  unfolding line_of
  a_delay h i j k = rw (le-ltb _ _ h, le-ltb _ _ i, le-ltb _ _ j, lt-ltb _ _ k)

  pub a_query : 9 ≤ s.lines → s.m ≤ s.lines - 9 → s.m * s.r ≤ s.lines - 9 - s.m → s.delays ≤ s.lines - 9 - s.m - s.m * s.r
      → line_of s l d ≡ after_as (query_line s l) d
  unfolding line_of
  a_query h i j k = rw (le-ltb _ _ h, le-ltb _ _ i, le-ltb _ _ j, le-ltb _ _ k)
