-- THE THEOREM: what a load leaves and what each later call answers is the source's (specs/Load.antt). Assumes nothing.
use mathlib.Core.Path.{◌≡◌, refl, sym, ap, ◌∙◌, subst}
use mathlib.Core.List.{List}
use Prim.Native.Nat.{ℕ, ◌+◌, ◌*◌, ◌<◌}
use native.Mathlib.Omega.{arith}
use lib.ListN.{length, take, drop}
use lib.Ieee.{Float}
use Rattle.std.specs.Prelude.{⊤, Result, Ok}
use Rattle.std.specs.Result.{result_and}
use Rattle.refusals.specs.declared.Refusal.{Refusal}
use Rattle.lists.specs.Over.{over, upto}
use Rattle.lists.proofs.Laws.{take_over, drop_over, length_upto}
use Rattle.points.specs.declared.Point3.{Point3}
use Rattle.points.specs.Points.{Finite}
use Rattle.lookup.specs.declared.Lookup.{Lookup}
use Rattle.lookup.specs.declared.Located.{Located}
use Rattle.lookup.specs.declared.Located.TheVariants.{At}
use Rattle.lookup.specs.Build.{linked}
use Rattle.lookup.proofs.Links.{linked_left_lem, linked_right_lem}
use Rattle.lookup.specs.Lookup.{clamped_by, locate_of, unless, find_of, moved_as, moved_if_found, find_mut_of, point_in, put_point}
use Rattle.mix.specs.Mix.{start_of}
use Rattle.interpolate.specs.Blend.{FilterAnswer, extract_of}
use Rattle.delays.specs.Delays.{seconds_of}
use Rattle.interpolate.specs.Blend as port
use Rattle.stored.specs.declared.Entries.{Entries}
use Rattle.stored.specs.Longest.{longest_of, max_delay_of}
use Rattle.reader.specs.Queries.{allowed, nearest_or, filter_says, plain_says, number_says}
use Rattle.stored.specs.Numbers.{part_of, taps_in, response_of, around_of, entries_of}
use Rattle.loads.specs.Load.{Work, Load, cartesian_from, indexed, load_of}
use Rattle.loads.proofs.Ways.{as_long, fine_by}
use Rattle.source.specs.Rust.{Some}
use Rattle.source.specs.Lookup.{Hrtf}
use Rattle.source.specs.Hrtf.{convert_to_cartesian}
use Rattle.source.specs.Interpolate.{InterpolatedFilter, extract_filter, get_filter_nointerp}
use Rattle.source.specs.Reader as source
use Rattle.source.specs.Reader.{opened, open_data, filter, filter_nointerp, filled_or, max_delay}
use Rattle.source_laws.specs.Drawn.{ported, heard}
use Rattle.source_laws.specs.Way.{exactly, way_in, told}
use Rattle.source_laws.specs.Same as set
use Rattle.source_laws.specs.Same.{SameAsSource}
use Rattle.source_laws.proofs.Same as theorem
use Rattle.source_laws.proofs.Blend as blend
use Rattle.load_laws.specs.Load.{Given, judged, loaded, set_in, file, type_of, port_find, port_find_mut, port_filter, port_plain, port_number, listed_six, LoadsAsSource}
use Rattle.load_laws.proofs.Positions.{positions_same}
use Rattle.load_laws.proofs.Loaded as after
use Rattle.load_laws.proofs.Loaded.{says, went, is_loaded}
use Rattle.load_laws.proofs.Checks.{find_fine, filter_fine, plain_fine, number_fine, response_fine, around_fine, rate_fine}

-- past the checks, at the number found
past : (v : Result ⊤ Refusal) (r : Located) (a b : ℕ) (f : ℕ → FilterAnswer) (k : ℕ) → v ≡ Ok tt → r ≡ At k → allowed v a b (nearest_or r a b f) ≡ f k
unfolding allowed nearest_or
past v r a b f k e h = ap (λ (w : Result ⊤ Refusal). allowed w a b (nearest_or r a b f)) e ∙ ap (λ (z : Located). nearest_or z a b f) h

module _ (g : Given) (fine : judged g ≡ Ok tt) where
  abbrev w : Work
  w = (after.done g).work

  abbrev s : set.Set
  s = set_in g w

  abbrev L : set.Loaded s
  L = is_loaded g fine

  same : SameAsSource s
  same = theorem.same s L

  -- ---- opening

  front : take (3 * g.sizes.m) w.cartesian ≡ cartesian_from g.kind g.positions
  unfolding indexed
  front =
      let l : 3 * g.sizes.m ≡ length (cartesian_from g.kind g.positions) = sym (as_long g.kind g.positions ∙ (went g fine).room.exact) in
      ap (λ (k : ℕ). take k (after.cart g)) l ∙ take_over (cartesian_from g.kind g.positions) g.work.cartesian

  -- the source's set after its conversion
  pub converts : convert_to_cartesian ported (type_of g.kind) (file g) ≡ set.hrtf s
  unfolding convert_to_cartesian
  converts =
      let p = sym (positions_same g.kind g.positions) ∙ sym front in
      let c = (went g fine).sizes.three in
      λ i. record {
        m = g.sizes.m;
        c = c i;
        r = g.sizes.r;
        n = g.sizes.n;
        source_position = p i;
        data_ir = g.responses;
        data_delay = g.delays;
        sample_rate = g.rate;
      }

  opens : open_data ported (type_of g.kind) (file g) g.angle g.radius ≡ Some same.sofar
  unfolding open_data
  opens = ap (λ (h : Hrtf). opened ported h g.angle g.radius) converts ∙ same.opens

  -- ---- the queries

  abbrev look : Lookup
  look = set.look s

  abbrev found : Point3 → Located
  found q = locate_of look g.sizes.m w.cartesian w.left w.right q

  finds : (q : Point3) → Finite q → port_find g w look q ≡ At (same.number q)
  unfolding find_of unless
  finds q f = ap (λ (v : Result ⊤ Refusal). unless v (found q)) (find_fine g fine q f) ∙ same.port_finds q

  moves : (l : List Float) → Finite (point_in l) → port_find_mut g w look l ≡ moved_as (At (same.number (point_in l))) (put_point l (clamped_by look (point_in l)))
  unfolding find_mut_of moved_if_found
  moves l f = ap (λ (r : Located). moved_if_found r look l) (finds (point_in l) f)

  filters : (q : Point3) → Finite q → (out : source.Filter) → port_filter g w look q out ≡ told (way_in same.sofar (same.number q) q) (filter same.sofar q.x q.y q.z out)
  unfolding filter_says
  filters q f out =
      past _ (found q) (length out.left) (length out.right) (set.blend s out q) (same.number q) (filter_fine g fine q f) (same.port_finds q)
      ∙ same.filters q f out

  plain_told : (out : source.Filter) (k : ℕ) → set.plain s out k ≡ told exactly (heard (set.plain s out k))
  unfolding extract_of
  plain_told out k = refl

  filters_plain : (q : Point3) → Finite q → (out : source.Filter) → port_plain g w look q out ≡ told exactly (filter_nointerp same.sofar q.x q.y q.z out)
  unfolding plain_says
  filters_plain q f out =
      past _ (found q) (length out.left) (length out.right) (set.plain s out) (same.number q) (plain_fine g fine q f) (same.port_finds q)
      ∙ plain_told out (same.number q) ∙ ap (told exactly) (sym (same.filters_plain q out))

  by_number : (k : ℕ) → k < g.sizes.m → (out : source.Filter) → port_number g k out ≡ told exactly (filled_or same.sofar out (get_filter_nointerp same.sofar.hrtf k))
  unfolding number_says allowed
  by_number k h out =
      ap (λ (v : Result ⊤ Refusal). allowed v (length out.left) (length out.right) (set.plain s out k)) (number_fine g fine k h)
      ∙ plain_told out k ∙ ap (told exactly) (sym (same.by_number k h out))

  longest : max_delay_of g.delays g.rate ≡ Ok (record { 0 = max_delay same.sofar })
  unfolding max_delay_of max_delay
  longest =
      ap (λ (v : Result ⊤ Refusal). result_and v (Ok (seconds_of (longest_of g.delays) g.rate))) (rate_fine g fine)
      ∙ ap (λ (h : Hrtf). Ok (seconds_of (longest_of h.data_delay) h.sample_rate)) (sym same.of_set)

  -- ---- responses and neighbours

  abbrev own : ℕ → InterpolatedFilter
  own = blend.own g.sizes.m g.sizes.r g.sizes.n w.cartesian g.responses g.delays g.rate L.most L.positions L.ears L.taps

  source_own : (k : ℕ) → k < g.sizes.m → get_filter_nointerp same.sofar.hrtf k ≡ Some (own k)
  unfolding get_filter_nointerp
  source_own k h =
      ap (λ (t : Hrtf). extract_filter t k t.n t.r) same.of_set
      ∙ blend.extracted g.sizes.m g.sizes.r g.sizes.n w.cartesian g.responses g.delays g.rate L.most L.positions L.ears L.taps k h

  -- the part of an ear, where it starts at a
  response : (k e a : ℕ) → k < g.sizes.m → a ≡ start_of g.sizes.r g.sizes.n e k → response_of g.sizes g.responses k e ≡ take g.sizes.n (drop a g.responses)
  unfolding part_of taps_in
  response k e a h ea =
      ap (λ (v : Result ⊤ Refusal). taps_in (result_and v (Ok (record { start = start_of g.sizes.r g.sizes.n e k; count = g.sizes.n }))) g.responses) (response_fine g fine k h)
      ∙ ap (λ (b : ℕ). take g.sizes.n (drop b g.responses)) (sym ea)

  abbrev listed_as : Entries → Result Entries Refusal
  listed_as e = Ok e

  around : (k : ℕ) → k < g.sizes.m → around_of g.sizes w.neighbours k ≡ Ok (listed_six (same.row k))
  unfolding around_of
  around k h =
      ap (λ (v : Result ⊤ Refusal). result_and v (Ok (entries_of w.neighbours k))) (around_fine g fine k h)
      ∙ ap (λ (e : port.Neighbors). listed_as (record { phi_plus = e.phi_plus; phi_minus = e.phi_minus; theta_plus = e.theta_plus; theta_minus = e.theta_minus; radius_plus = e.radius_plus; radius_minus = e.radius_minus }))
      (same.entries k h)

  -- ---- past the front of a list

  beyond : {A : Type 0} (n : ℕ) (xs d : List A) → length xs ≡ n → drop n (over xs d) ≡ drop n d
  beyond n xs d e = subst (λ (k : ℕ). drop k (over xs d) ≡ drop k d) e (drop_over xs d)

  past_left : drop g.sizes.m w.left ≡ drop g.sizes.m g.work.left
  unfolding indexed
  past_left = beyond g.sizes.m (linked (after.cart g) g.sizes.m).left g.work.left (linked_left_lem (after.cart g) g.sizes.m)

  past_right : drop g.sizes.m w.right ≡ drop g.sizes.m g.work.right
  unfolding indexed
  past_right = beyond g.sizes.m (linked (after.cart g) g.sizes.m).right g.work.right (linked_right_lem (after.cart g) g.sizes.m)

  past_neighbours : drop (6 * g.sizes.m) w.neighbours ≡ drop (6 * g.sizes.m) g.work.neighbours
  unfolding indexed
  past_neighbours = beyond (6 * g.sizes.m) (upto _ (6 * g.sizes.m)) g.work.neighbours (length_upto _ (6 * g.sizes.m))

  past_cartesian : drop (3 * g.sizes.m) w.cartesian ≡ drop (3 * g.sizes.m) g.work.cartesian
  unfolding indexed
  past_cartesian = beyond (3 * g.sizes.m) (cartesian_from g.kind g.positions) g.work.cartesian (as_long g.kind g.positions ∙ (went g fine).room.exact)

  as_source : LoadsAsSource g w look
  as_source = record {
    same = same;
    looks = refl;
    opens = opens;
    positions = ap (λ (h : Hrtf). h.source_position) same.of_set;
    number = same.number;
    source_finds = same.source_finds;
    port_finds = finds;
    moved = clamped_by look;
    source_moves = same.source_moves;
    port_moves = moves;
    filters = filters;
    filters_plain = filters_plain;
    by_number = by_number;
    longest = longest;
    own = own;
    source_own = source_own;
    left_response = λ k h. response k 0 (k * g.sizes.r * g.sizes.n) h (unfold start_of in omega arith);
    right_response = λ k h. response k 1 (k * g.sizes.r * g.sizes.n + g.sizes.n) h (unfold start_of in omega arith);
    row = same.row;
    source_row = same.has_row;
    port_row = around;
    past_left = past_left;
    past_right = past_right;
    past_neighbours = past_neighbours;
    past_cartesian = past_cartesian;
  }

-- ---- the two premises

-- where `load` answers Ok no line of the table is met
pub ready_fine : (g : Given) (look : Lookup) → (loaded g).answer ≡ Ok look → judged g ≡ Ok tt
unfolding load_of
ready_fine g look e = fine_by (judged g) (after.done g) g.work look e

-- LOAD ACCEPTS every input of which no line of the table is met
pub accepted : (g : Given) → judged g ≡ Ok tt → (loaded g).answer ≡ Ok (set.look (set_in g (loaded g).work))
accepted g fine = subst (λ (l : Load). l.answer ≡ Ok (set.look (set_in g l.work))) (sym (says g fine)) here
  where
    here : (after.done g).answer ≡ Ok (set.look (set_in g (after.done g).work))
    here = unfold indexed in refl

-- DEMAND 2: whatever `load` accepts, what it left and what later calls answer is the source's
pub from_load : (g : Given) (look : Lookup) → (loaded g).answer ≡ Ok look → LoadsAsSource g (loaded g).work look
from_load g look e =
    let fine = ready_fine g look e in
    let el : set.look (set_in g (loaded g).work) ≡ look = ready (accepted g fine) in
    subst (LoadsAsSource g (loaded g).work) el (subst (λ (l : Load). LoadsAsSource g l.work (set.look (set_in g l.work))) (sym (says g fine)) (as_source g fine))
  where
    ready : {l : Lookup} → (loaded g).answer ≡ Ok l → l ≡ look
    ready h = cc
