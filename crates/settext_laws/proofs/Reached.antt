-- What holds of every state that a text leads to: its counts are within the limits (`line`), so that lists of 768, 4096 and 4096 values have
-- room for each of its lines (`has_room`). Assumes nothing.
use Prim.Native.Nat.{ℕ, zero, suc, ◌+◌, ◌-◌, ◌*◌, ◌≤◌, ◌<◌}
use mathlib.Core.Path.{◌≡◌, refl}
use mathlib.Core.Bool.{Bool, true, false, cond}
use mathlib.Core.List.{List}
use native.Mathlib.Nat.{mul-zero, suc-mul, mul-le-mul_right}
use native.Mathlib.Omega.{arith}
use borrow.Author.Tests.{leb-true}
use lib.Dec.{eqb, leb, ltb, lit≤}
use lib.ListN.{get_or, drop}
use Rattle.std.specs.Prelude.{Option, Some, None}
use Rattle.points.specs.declared.Point3.{Point3}
use Rattle.text.specs.Number.{begins, count_of, hex_of}
use Rattle.text.specs.Values.{value_of}
use Rattle.text.specs.Words.{bytes}
use Rattle.text.specs.Keys.{exactly_of, values_fit, num_behind, point_behind}
use Rattle.settext.specs.declared.State.{State}
use Rattle.settext.specs.declared.Step.TheVariants.{Next, Complete}
use Rattle.settext.specs.State.{start_state, line_number, line_count, counted, went_of, bad_of, set_kind, set_m, set_r, set_n, set_delays, set_rate, set_astep, set_rstep}
use Rattle.settext.specs.Lines.{TextLists, gives, asked, when, after_as, pos_line, ir_line, delay_line, product, kind_of, keys, key_line, form_line, kind_line, m_line, r_line, n_line, rate_line, astep_line, rstep_line, delays_line, values_step, query_line, line_of}
use Rattle.settext.proofs.Laws.{behind_within, product_is}
use Rattle.settext_laws.specs.Kept.{Reached, Few}

pub begins_so : Reached start_state
begins_so = record { taps = lit≤ tt; points = lit≤ tt; product = lit≤ tt; unread = λ h. refl; delays = lit≤ tt }

bad : (s : State) → Few (bad_of s)
unfolding bad_of
bad s = begins_so

went : (s : State) → Reached (counted s) → Few (went_of s)
unfolding went_of
went s h = by (eqb (line_number s) (line_count s))
  where
    by : (b : Bool) → Few (cond b (Complete (counted s)) (Next (counted s)))
    by true = h
    by false = h

if_good : (b : Bool) (s t : State) → Reached (counted t) → Few (when b s t)
if_good true s t h = went t h
if_good false s t h = bad s

if_given : (s : State) (put : ℕ → State) (x : Option ℕ) → ((v : ℕ) → x ≡ Some v → Reached (counted (put v))) → Few (gives s put x)
if_given s put (Some v) h = went (put v) (h v refl)
if_given s put None h = bad s

nothing : (a b n : ℕ) → n ≡ 0 → a * b * n ≤ 4096
nothing a b n e = rw (e, mul-zero (a * b)) (lit≤ tt)

product_fits : (s : State) (x : Option ℕ) (v : ℕ) → product s x ≡ Some v → s.m * s.r * v ≤ 4096
unfolding product
product_fits s None v e = let z : ◌≡◌ {A = ℕ} 0 1 = cc in omega arith
product_fits s (Some n) v e = by (leb (s.m * s.r * n) 4096) refl e
  where
    by : (b : Bool) → leb (s.m * s.r * n) 4096 ≡ b → cond b (Some n) None ≡ Some v → s.m * s.r * v ≤ 4096
    by true f e = let g : n ≡ v = cc in rw (← g) (leb-true (s.m * s.r * n) 4096 f)
    by false f e = let z : ◌≡◌ {A = ℕ} 0 1 = cc in omega arith

module _ (s : State) (few : Reached s) (l : List ℕ) where
  next : Reached (counted s)
  unfolding line_number
  next = record { taps = few.taps; points = few.points; product = few.product; unread = λ h. few.unread (omega arith); delays = few.delays }

  key : (i : ℕ) → s.lines ≡ i → Few (get_or keys i (λ s l. bad_of s) s l)
  unfolding line_number form_line kind_line m_line r_line n_line rate_line astep_line rstep_line delays_line
  key zero o = if_good (exactly_of (bytes "form=1") l) s s next
  key (suc zero) o = if_good (begins (bytes "kind=") l) s (set_kind s (kind_of (drop 5 l))) next
  key (suc (suc zero)) o =
      let z : s.n ≡ 0 = few.unread (omega arith) in
      if_given s (set_m s) (num_behind (bytes "m=") (count_of 256) l)
      (λ v e. record { taps = few.taps; points = behind_within (bytes "m=") l 256 v e; product = nothing v s.r s.n z; unread = λ h. z; delays = few.delays })
  key (suc (suc (suc zero))) o =
      let z : s.n ≡ 0 = few.unread (omega arith) in
      if_given s (set_r s) (num_behind (bytes "r=") (count_of 4096) l)
      (λ v e. record { taps = few.taps; points = few.points; product = nothing s.m v s.n z; unread = λ h. z; delays = few.delays })
  key (suc (suc (suc (suc zero)))) o =
      let x = num_behind (bytes "n=") (count_of 4096) l in
      if_given s (set_n s) (product s x)
      (λ v e. record {
        taps = behind_within (bytes "n=") l 4096 v (product_is s x v e);
        points = few.points;
        product = product_fits s x v e;
        unread = λ h. absurd (omega arith);
        delays = few.delays;
      })
  key (suc (suc (suc (suc (suc zero))))) o = if_given s (λ v. set_rate s (value_of v)) (num_behind (bytes "rate=") hex_of l) (λ v e. next)
  key (suc (suc (suc (suc (suc (suc zero)))))) o = if_given s (λ v. set_astep s (value_of v)) (num_behind (bytes "astep=") hex_of l) (λ v e. next)
  key (suc (suc (suc (suc (suc (suc (suc zero))))))) o = if_given s (λ v. set_rstep s (value_of v)) (num_behind (bytes "rstep=") hex_of l) (λ v e. next)
  key (suc (suc (suc (suc (suc (suc (suc (suc zero)))))))) o =
      if_given s (set_delays s) (num_behind (bytes "delays=") (count_of 4096) l)
      (λ v e. record { taps = few.taps; points = few.points; product = few.product; unread = next.unread; delays = behind_within (bytes "delays=") l 4096 v e })
  key (suc (suc (suc (suc (suc (suc (suc (suc (suc i))))))))) o = bad s

  query : Few (query_line s l)
  unfolding query_line
  query = by (point_behind (bytes "query=") l)
    where
      by : (p : Option Point3) → Few (asked s p)
      by (Some p) = next
      by None = bad s

  -- the next line keeps the limits
  pub line : (d : TextLists) → Few (line_of s l d).step
  unfolding line_of key_line values_step
  line d = by (ltb s.lines 9) (ltb i s.m) (ltb j (s.m * s.r)) (ltb e s.delays)
    where
      i : ℕ
      i = s.lines - 9

      j : ℕ
      j = i - s.m

      e : ℕ
      e = j - s.m * s.r

      by : (a b c f : Bool) → Few (cond a (after_as (key_line s l) d) (cond b (pos_line s l d i) (cond c (ir_line s l d j) (cond f (delay_line s l d e) (after_as (query_line s l) d))))).step
      by true b c f = key s.lines refl
      by false true c f = if_good (values_fit (bytes "pos=") 3 (3 * i) l d.positions) s s next
      by false false true f = if_good (values_fit (bytes "ir=") s.n (j * s.n) l d.responses) s s next
      by false false false true = if_good (values_fit (bytes "delay=") 1 e l d.delays) s s next
      by false false false false = query

pub record Room (i j e m r n d : ℕ) : Type 0 where
  pub positions : i < m → 3 * i + 3 ≤ 768
  pub responses : j < m * r → j * n + n ≤ 4096
  pub delays : e < d → e + 1 ≤ 4096

-- whatever line is wanted, its values find room
pub has_room : (s : State) → Reached s → (i j e : ℕ) → Room i j e s.m s.r s.n s.delays
has_room s k i j e = record { positions = λ h. omega (arith, k.points); responses = λ h. fits h; delays = λ h. omega (arith, k.delays) }
  where
    fits : j < s.m * s.r → j * s.n + s.n ≤ 4096
    fits h =
        let p : suc j * s.n ≤ s.m * s.r * s.n = mul-le-mul_right s.n h in
        let q : suc j * s.n ≡ j * s.n + s.n = suc-mul j s.n in
        omega (arith, k.product)
