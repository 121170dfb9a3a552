-- Delays by their count: the source's three cases and the port's stride. Assumes nothing.
use mathlib.Core.Path.{◌≡◌, refl, sym, ap, ◌∙◌}
use mathlib.Core.Bool.{Bool, true, false, cond}
use mathlib.Core.List.{List, [], ◌∷◌}
use Prim.Native.Nat.{ℕ, zero, suc, ◌+◌, ◌*◌, ◌<◌, ◌≤◌}
use native.Mathlib.Nat.{mul-le-mul_right, suc-mul}
use native.Mathlib.Omega.{arith}
use lib.Dec.{eqb, leb, ltb}
use lib.ListN.{length, get_or}
use lib.Ieee.{Float, nan, binary32, add, mul}
use borrow.Author.Tests.{eqb-true, leb-true, lt-ltb}
use Rattle.std.specs.Option.{option_map_or}
use Rattle.std.specs.declared.option.Option as maybe
use Rattle.std.specs.declared.option.Option.TheVariants as port
use Rattle.floats.specs.Floats.{zero32}
use Rattle.mix.specs.Mix.{plus_product}
use Rattle.interpolate.specs.declared.Stride.{Stride}
use Rattle.interpolate.specs.Blend as blend
use Rattle.interpolate.specs.Blend.{stride_of, delay_at, plain_delay}
use Rattle.source.specs.Rust.{index}
use Rattle.source.specs.Interpolate as source
use Rattle.source.specs.Interpolate.{value_or, extract_delays, add_delays}

-- inside a list the value given for outside is never met
inside : {A : Type 0} (l : List A) (i : ℕ) (a b : A) → i < length l → get_or l i a ≡ get_or l i b
inside [] i a b h = absurd (omega arith)
inside (x ∷ l) zero a b h = refl
inside (x ∷ l) (suc i) a b h = inside l i a b (omega arith)

module _ (delays : List Float) (m r k : ℕ) (hk : k < m) (hr : 2 ≤ r) where
  abbrev len : ℕ
  len = length delays

  -- the port's stride by its three tests
  abbrev strided : ℕ → Bool → Bool → Bool → maybe.Option Stride
  strided e a b c = cond a (blend.stride_at 1 0) (cond b (blend.stride_at r e) (cond c (blend.stride_at 0 e) port.None))

  each : m * r ≤ len → k * r + 1 < len
  each g = omega (arith, suc-mul k r, mul-le-mul_right r hk)

  by_one : (d : Float) → get_or delays (k * 1 + 0) d ≡ get_or delays k d
  by_one d = let e : k * 1 + 0 ≡ k = omega arith in ap (λ (i : ℕ). get_or delays i d) e

  by_each : (d : Float) → get_or delays (k * r + 0) d ≡ get_or delays (k * r) d
  by_each d = let e : k * r + 0 ≡ k * r = omega arith in ap (λ (i : ℕ). get_or delays i d) e

  by_first : (d : Float) → get_or delays (k * 0 + 0) d ≡ get_or delays 0 d
  by_first d = let e : k * 0 + 0 ≡ 0 = omega arith in ap (λ (i : ℕ). get_or delays i d) e

  by_second : (d : Float) → get_or delays (k * 0 + 1) d ≡ get_or delays 1 d
  by_second d = let e : k * 0 + 1 ≡ 1 = omega arith in ap (λ (i : ℕ). get_or delays i d) e

  -- ---- a measurement's own

  pub extract_same : extract_delays delays m r k ≡ record { delay_left = (plain_delay delays m r 0 k).0; delay_right = (plain_delay delays m r 1 k).0 }
  unfolding extract_delays plain_delay stride_of
  extract_same = go (eqb len m) (leb (m * r) len) (leb r len) refl refl refl
    where
      go : (a b c : Bool) → eqb len m ≡ a → leb (m * r) len ≡ b → leb r len ≡ c
          → ◌≡◌ {A = source.Delays}
          (cond a (record { delay_left = value_or delays k zero32; delay_right = value_or delays k zero32 })
          (cond b (record { delay_left = value_or delays (k * r) zero32; delay_right = value_or delays (k * r + 1) zero32 })
          (cond c (record { delay_left = value_or delays 0 zero32; delay_right = value_or delays 1 (value_or delays 0 zero32) })
          (record { delay_left = zero32; delay_right = zero32 }))))
          (record {
            delay_left = option_map_or (λ s. delay_at delays s k) (strided 0 a b c) zero32;
            delay_right = option_map_or (λ s. delay_at delays s k) (strided 1 a b c) zero32;
          })
      go true b c ea eb ec =
          let z = eqb-true len m ea in
          let u : get_or delays k zero32 ≡ get_or delays (k * 1 + 0) nan = inside delays k zero32 nan (omega arith) ∙ sym (by_one nan) in
          λ i. record { delay_left = u i; delay_right = u i }
      go false true c ea eb ec =
          let z = each (leb-true (m * r) len eb) in
          let u : get_or delays (k * r) zero32 ≡ get_or delays (k * r + 0) nan = inside delays (k * r) zero32 nan (omega arith) ∙ sym (by_each nan) in
          let v : get_or delays (k * r + 1) zero32 ≡ get_or delays (k * r + 1) nan = inside delays (k * r + 1) zero32 nan z in
          λ i. record { delay_left = u i; delay_right = v i }
      go false false true ea eb ec =
          let z = leb-true r len ec in
          let u : get_or delays 0 zero32 ≡ get_or delays (k * 0 + 0) nan = inside delays 0 zero32 nan (omega arith) ∙ sym (by_first nan) in
          let v : get_or delays 1 (get_or delays 0 zero32) ≡ get_or delays (k * 0 + 1) nan = inside delays 1 (get_or delays 0 zero32) nan (omega arith) ∙ sym (by_second nan) in
          λ i. record { delay_left = u i; delay_right = v i }
      go false false false ea eb ec = refl

  -- ---- one weighed point more

  abbrev pub plus_delay : ℕ → Float → Float → Float
  plus_delay e w a = option_map_or (λ s. plus_product a w (delay_at delays s k)) (stride_of len m r e) a

  pub add_same : (w l t : Float) → add_delays delays m r k w l t ≡ record { delay_left = plus_delay 0 w l; delay_right = plus_delay 1 w t }
  unfolding add_delays stride_of
  add_same w l t = go (eqb len m) (leb (m * r) len) (leb r len) refl refl refl
    where
      both : Float → Float → source.Delays
      both a b = record { delay_left = add binary32 l (mul binary32 a w); delay_right = add binary32 t (mul binary32 b w) }

      kept : source.Delays
      kept = record { delay_left = l; delay_right = t }

      go : (a b c : Bool) → eqb len m ≡ a → leb (m * r) len ≡ b → leb r len ≡ c
          → ◌≡◌ {A = source.Delays}
          (cond a (both (index delays k) (index delays k))
          (cond b (cond (ltb (k * r + 1) len) (both (index delays (k * r)) (index delays (k * r + 1))) kept)
          (cond c (both (index delays 0) (value_or delays 1 (index delays 0))) kept)))
          (record {
            delay_left = option_map_or (λ s. plus_product l w (delay_at delays s k)) (strided 0 a b c) l;
            delay_right = option_map_or (λ s. plus_product t w (delay_at delays s k)) (strided 1 a b c) t;
          })
      go true b c ea eb ec = let u = sym (by_one nan) in λ i. record { delay_left = plus_product l w (u i); delay_right = plus_product t w (u i) }
      go false true c ea eb ec =
          let u = sym (by_each nan) in
          ap (λ (g : Bool). cond g (both (index delays (k * r)) (index delays (k * r + 1))) kept) (lt-ltb (k * r + 1) len (each (leb-true (m * r) len eb)))
          ∙ (λ i. record { delay_left = plus_product l w (u i); delay_right = plus_product t w (get_or delays (k * r + 1) nan) })
      go false false true ea eb ec =
          let z = leb-true r len ec in
          let u = sym (by_first nan) in
          let v : get_or delays 1 (get_or delays 0 nan) ≡ get_or delays (k * 0 + 1) nan = inside delays 1 (get_or delays 0 nan) nan (omega arith) ∙ sym (by_second nan) in
          λ i. record { delay_left = plus_product l w (u i); delay_right = plus_product t w (v i) }
      go false false false ea eb ec = refl
