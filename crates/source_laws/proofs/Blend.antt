-- The plain filter and the blend: the port's outputs and delays are those that the source's fill_filter leaves. Assumes nothing.
use mathlib.Core.Path.{◌≡◌, refl, ap, ◌∙◌}
use mathlib.Core.Bool.{Bool, true, cond}
use mathlib.Core.List.{List, [], ◌∷◌, map}
use Prim.Native.Nat.{ℕ, ◌+◌, ◌*◌, ◌<◌, ◌≤◌}
use native.Mathlib.Omega.{arith}
use lib.Dec.{leb}
use lib.ListN.{length, get_or, take, drop, replicate, length-drop, length-replicate, get_or-replicate}
use lib.Seq.{get_or-take, get_or-drop, length-take-le}
use lib.Ieee.{Float, nan, binary32, div}
use borrow.Author.Tests.{le-ltb, le-leb}
use Rattle.std.specs.Option.{option_map_or}
use Rattle.std.specs.declared.option.Option as maybe
use Rattle.std.specs.declared.option.Option.TheVariants as port
use Rattle.floats.specs.Floats.{zero32}
use Rattle.mix.specs.declared.Share.{Share}
use Rattle.mix.specs.Mix.{plus_product, sums, start_of, tap_of, sample_of, out_of}
use Rattle.mix.proofs.Laws as mix
use Rattle.interpolate.specs.declared.Stride.{Stride}
use Rattle.interpolate.specs.Blend.{part, stride_of, delay_at, plain_delay, blend_delay, FilterAnswer, extract_of, blend_of}
use Rattle.source.specs.Rust.{None, Some}
use Rattle.source.specs.Lookup.{Hrtf}
use Rattle.source.specs.Interpolate as source
use Rattle.source.specs.Interpolate.{InterpolatedFilter, Weighted, extract_delays, extract_filter, adding, add_delays, add_point, add_points, silent}
use Rattle.source.specs.Reader as reader
use Rattle.source.specs.Reader.{Sofar, fill_filter, filled_or}
use Rattle.source_laws.specs.Drawn.{hrtf_of, heard}
use Rattle.source_laws.proofs.Ears.{ear_same, adding_long, adding_at}
use Rattle.source_laws.proofs.Delays as delay
use Rattle.source_laws.proofs.Points.{shared, listed, AllIn}

module _ (m r n : ℕ) (xs resp delays : List Float) (rate : Float) (small : m ≤ 16384) (long : 3 * m ≤ length xs) (two : 2 ≤ r) (taps : m * r * n ≤ length resp) where
  abbrev set : Hrtf
  set = hrtf_of m r n xs resp delays rate

  -- ---- where the taps of a measurement stand

  module _ (k : ℕ) (hk : k < m) where
    pub start_left : k * r * n ≡ start_of r n 0 k
    unfolding start_of
    start_left = omega arith

    pub start_right : k * r * n + n ≡ start_of r n 1 k
    unfolding start_of
    start_right = omega arith

    ends : k * r * n + n + n ≤ length resp
    ends = let z = mix.inside m r n k 1 hk two (omega arith) in let e = start_right in omega arith

  -- ---- the filter of one measurement

  part_long : (a : ℕ) → a + n ≤ length resp → length (take n (drop a resp)) ≡ n
  part_long a h = length-take-le n (drop a resp) (simp length-drop (omega arith))

  part_at : (a b i : ℕ) → a ≡ b → i < n → get_or (take n (drop a resp)) i nan ≡ get_or resp (b + i) nan
  part_at a b i e h = get_or-take n (drop a resp) i nan h ∙ get_or-drop a resp i nan ∙ ap (λ (c : ℕ). get_or resp (c + i) nan) e

  -- what the source extracts of a measurement
  abbrev pub own : ℕ → InterpolatedFilter
  own k = record {
    left = take n (drop (k * r * n) resp);
    right = take n (drop (k * r * n + n) resp);
    delay_left = (extract_delays delays m r k).delay_left;
    delay_right = (extract_delays delays m r k).delay_right;
  }

  pub extracted : (k : ℕ) → k < m → extract_filter set k n r ≡ Some (own k)
  unfolding extract_filter
  extracted k hk = ap (λ (b : Bool). cond b None (Some (own k))) (le-ltb (length resp) (k * r * n + n + n) (ends k hk))

  module _ (sofar : Sofar) (is : sofar.hrtf ≡ set) (out : reader.Filter) where
    -- what is filled in, where the two ears and the two delays are known
    filled : (f : InterpolatedFilter) (u v : ℕ → Float) (a b : Float) → length f.left ≡ n → length f.right ≡ n
        → ((i : ℕ) → i < n → get_or f.left i nan ≡ u i) → ((i : ℕ) → i < n → get_or f.right i nan ≡ v i) → f.delay_left ≡ a → f.delay_right ≡ b
        → filled_or sofar out (Some f) ≡ record { left = out_of u n (length out.left); right = out_of v n (length out.right); ldelay = div binary32 a rate; rdelay = div binary32 b rate }
    unfolding filled_or fill_filter
    filled f u v a b ll lr hu hv ha hb =
        let e = ear_same out.left f.left u n ll hu in
        let g = ear_same out.right f.right v n lr hv in
        let s : sofar.hrtf.sample_rate ≡ rate = ap (λ (h : Hrtf). h.sample_rate) is in
        λ i. record { left = e i; right = g i; ldelay = div binary32 (ha i) (s i); rdelay = div binary32 (hb i) (s i) }

    abbrev Extracted : ℕ → FilterAnswer
    Extracted = extract_of m r n resp delays rate (length out.left) (length out.right)

    -- THE PLAIN FILTER
    pub extract_same : (k : ℕ) → k < m → filled_or sofar out (extract_filter set k n r) ≡ heard (Extracted k)
    extract_same k hk = ap (filled_or sofar out) (extracted k hk) ∙ (unfold extract_of in
        filled (own k) (λ i. tap_of resp r n 0 i k) (λ i. tap_of resp r n 1 i k) (plain_delay delays m r 0 k).0 (plain_delay delays m r 1 k).0
        (part_long (k * r * n) (let z = ends k hk in omega arith)) (part_long (k * r * n + n) (ends k hk))
        (λ i h. part_at (k * r * n) (start_of r n 0 k) i (start_left k hk) h) (λ i h. part_at (k * r * n + n) (start_of r n 1 k) i (start_right k hk) h)
        (ap (λ (d : source.Delays). d.delay_left) (delay.extract_same delays m r k hk two)) (ap (λ (d : source.Delays). d.delay_right) (delay.extract_same delays m r k hk two)))

  -- ---- points added up

  abbrev delayed : ℕ → Float → List Share → Float
  delayed e a ps = option_map_or (λ z. sums (delay_at delays z) a ps) (stride_of (length delays) m r e) a

  -- what passes over the points ps leave of f
  record Passed (f g : InterpolatedFilter) (ps : List Share) : Type 0 where
    left_long : length g.left ≡ n
    right_long : length g.right ≡ n
    left : (i : ℕ) → i < n → get_or g.left i nan ≡ sums (tap_of resp r n 0 i) (get_or f.left i nan) ps
    right : (i : ℕ) → i < n → get_or g.right i nan ≡ sums (tap_of resp r n 1 i) (get_or f.right i nan) ps
    delay_left_lem : g.delay_left ≡ delayed 0 f.delay_left ps
    delay_right_lem : g.delay_right ≡ delayed 1 f.delay_right ps

  module _ (total : Float) where
    abbrev weight : Weighted → Float
    weight p = div binary32 p.weight total

    -- one point
    module _ (f : InterpolatedFilter) (p : Weighted) (hp : p.idx < m) (fl : length f.left ≡ n) (fr : length f.right ≡ n) where
      abbrev k : ℕ
      k = p.idx

      fits : leb (k * r * n + n + n) (length resp) ≡ true
      fits = le-leb (k * r * n + n + n) (length resp) (ends k hp)

      abbrev next : InterpolatedFilter
      next = add_point set total f p

      next_left : next.left ≡ adding resp (k * r * n) (weight p) n 0 f.left
      unfolding add_point
      next_left = ap (λ (b : Bool). cond b (adding resp (k * r * n) (weight p) n 0 f.left) f.left) fits

      next_right : next.right ≡ adding resp (k * r * n + n) (weight p) n 0 f.right
      unfolding add_point
      next_right = ap (λ (b : Bool). cond b (adding resp (k * r * n + n) (weight p) n 0 f.right) f.right) fits

      next_left_long : length next.left ≡ n
      next_left_long = ap length next_left ∙ adding_long resp (k * r * n) (weight p) n 0 f.left ∙ fl

      next_right_long : length next.right ≡ n
      next_right_long = ap length next_right ∙ adding_long resp (k * r * n + n) (weight p) n 0 f.right ∙ fr

      left_at : (i : ℕ) → i < n → get_or next.left i nan ≡ plus_product (get_or f.left i nan) (weight p) (tap_of resp r n 0 i k)
      left_at i h =
          ap (λ (l : List Float). get_or l i nan) next_left ∙ adding_at resp (k * r * n) (weight p) n 0 f.left i (omega arith) (omega arith) (omega arith)
          ∙ ap (λ (a : ℕ). plus_product (get_or f.left i nan) (weight p) (get_or resp (a + i) nan)) (start_left k hp)

      right_at : (i : ℕ) → i < n → get_or next.right i nan ≡ plus_product (get_or f.right i nan) (weight p) (tap_of resp r n 1 i k)
      right_at i h =
          ap (λ (l : List Float). get_or l i nan) next_right ∙ adding_at resp (k * r * n + n) (weight p) n 0 f.right i (omega arith) (omega arith) (omega arith)
          ∙ ap (λ (a : ℕ). plus_product (get_or f.right i nan) (weight p) (get_or resp (a + i) nan)) (start_right k hp)

      next_delays : add_delays delays m r k (weight p) f.delay_left f.delay_right
          ≡ record { delay_left = delay.plus_delay delays m r k hp two 0 (weight p) f.delay_left; delay_right = delay.plus_delay delays m r k hp two 1 (weight p) f.delay_right }
      next_delays = delay.add_same delays m r k hp two (weight p) f.delay_left f.delay_right

      delay_left_is : next.delay_left ≡ delay.plus_delay delays m r k hp two 0 (weight p) f.delay_left
      unfolding add_point
      delay_left_is = ap (λ (d : source.Delays). d.delay_left) next_delays

      delay_right_is : next.delay_right ≡ delay.plus_delay delays m r k hp two 1 (weight p) f.delay_right
      unfolding add_point
      delay_right_is = ap (λ (d : source.Delays). d.delay_right) next_delays

    delayed_more : (e : ℕ) (a b : Float) (s : Share) (ps : List Share) → (k : s.number < m) → b ≡ delay.plus_delay delays m r s.number k two e s.weight a
        → delayed e b ps ≡ delayed e a (s ∷ ps)
    unfolding sums
    delayed_more e a b s ps k h = ap (λ (x : Float). delayed e x ps) h ∙ go (stride_of (length delays) m r e)
      where
        more : maybe.Option Stride → Float
        more z = option_map_or (λ z. plus_product a s.weight (delay_at delays z s.number)) z a

        go : (z : maybe.Option Stride) → option_map_or (λ y. sums (delay_at delays y) (more z) ps) z (more z) ≡ option_map_or (λ z. sums (delay_at delays z) a (s ∷ ps)) z a
        go port.None = refl
        go (port.Some z) = refl

    delayed_none : (e : ℕ) (a : Float) → a ≡ delayed e a []
    unfolding sums
    delayed_none e a = go (stride_of (length delays) m r e)
      where
        go : (z : maybe.Option Stride) → a ≡ option_map_or (λ z. sums (delay_at delays z) a []) z a
        go port.None = refl
        go (port.Some z) = refl

    passes : (l : List Weighted) (f : InterpolatedFilter) → AllIn m l → length f.left ≡ n → length f.right ≡ n → Passed f (add_points set total f l) (map (part total) (listed l))
    unfolding add_points sums
    passes [] f h fl fr = record {
      left_long = fl;
      right_long = fr;
      left = λ i q. refl;
      right = λ i q. refl;
      delay_left_lem = delayed_none 0 f.delay_left;
      delay_right_lem = delayed_none 1 f.delay_right;
    }
    passes (p ∷ l) f h fl fr =
        let g = add_point set total f p in
        let ps = map (part total) (listed l) in
        let P = passes l g h.1 (next_left_long f p h.0 fl fr) (next_right_long f p h.0 fl fr) in
        record {
          left_long = P.left_long;
          right_long = P.right_long;
          left = λ i q. P.left i q ∙ ap (λ (a : Float). sums (tap_of resp r n 0 i) a ps) (left_at f p h.0 fl fr i q);
          right = λ i q. P.right i q ∙ ap (λ (a : Float). sums (tap_of resp r n 1 i) a ps) (right_at f p h.0 fl fr i q);
          delay_left_lem = P.delay_left_lem ∙ delayed_more 0 f.delay_left g.delay_left (part total (shared p)) ps h.0 (delay_left_is f p h.0 fl fr);
          delay_right_lem = P.delay_right_lem ∙ delayed_more 1 f.delay_right g.delay_right (part total (shared p)) ps h.0 (delay_right_is f p h.0 fl fr);
        }

  -- ---- the blend of a list of points

  module _ (sofar : Sofar) (is : sofar.hrtf ≡ set) (out : reader.Filter) where
    -- THE BLEND OF WEIGHED POINTS
    pub blend_same : (total : Float) (l : List Weighted) → AllIn m l
        → filled_or sofar out (Some (add_points set total (silent n) l)) ≡ heard (blend_of m r n resp delays rate (length out.left) (length out.right) (map (part total) (listed l)))
    unfolding blend_of blend_delay
    blend_same total l h =
        let ps = map (part total) (listed l) in
        let P = passes total l (silent n) h (length-replicate n zero32) (length-replicate n zero32) in
        filled sofar is out (add_points set total (silent n) l) (sample_of resp r n 0 ps) (sample_of resp r n 1 ps) (delayed 0 zero32 ps) (delayed 1 zero32 ps)
        P.left_long P.right_long (λ i q. P.left i q ∙ from_zero 0 i ps q) (λ i q. P.right i q ∙ from_zero 1 i ps q) P.delay_left_lem P.delay_right_lem
      where
        from_zero : (e i : ℕ) (ps : List Share) → i < n → sums (tap_of resp r n e i) (get_or (replicate n zero32) i nan) ps ≡ sample_of resp r n e ps i
        from_zero e i ps q = unfold sample_of in ap (λ (a : Float). sums (tap_of resp r n e i) a ps) (get_or-replicate n i zero32 nan q)
