-- DEMAND 2 FROM `load` ON, on one page: what a load leaves and what each later call over it answers is what the source builds and answers. Definitions only;
-- the theorem `from_load` is in proofs/Load.antt.
-- The source's side is the crate source's, with the port's sine, cosine and arctangent; the port's side is the definitions that the contracts of `load` and of
-- the calls cite. All is bit for bit; NaN is one value. Where `min` and `max` meet +0 and -0, Rust leaves the sign open: the transcription keeps the earlier.
use Rattle.std.specs.Prelude.{◌≡◌, List, ℕ, zero, suc, ◌*◌, ◌<◌, length, take, drop, Float, ⊤, Result, Ok}
use Rattle.refusals.specs.declared.Refusal.{Refusal}
use Rattle.points.specs.declared.Point3.{Point3}
use Rattle.points.specs.Points.{Finite}
use Rattle.limits.specs.declared.Sizes.{Sizes}
use Rattle.limits.specs.Refusals.{verdict_of, load_lines}
use Rattle.lookup.specs.declared.Lookup.{Lookup}
use Rattle.lookup.specs.declared.Located.{Located}
use Rattle.lookup.specs.declared.Located.TheVariants.{At}
use Rattle.lookup.specs.Lookup.{Moved, moved_as, point_in, put_point, find_of, find_mut_of}
use Rattle.interpolate.specs.Blend.{FilterAnswer}
use Rattle.stored.specs.declared.Entries.{Entries}
use Rattle.reader.specs.Queries.{filter_says, plain_says, number_says}
use Rattle.stored.specs.Numbers.{response_of, around_of}
use Rattle.stored.specs.Longest.{max_delay_of}
use Rattle.loads.specs.Load.{Work, Load, lengths_in, load_of}
use Rattle.source.specs.Rust.{Option, Some}
use Rattle.source.specs.Lookup.{Hrtf, find, find_mut}
use Rattle.source.specs.Hrtf.{CoordType, cartesian, spherical}
use Rattle.source.specs.Neighbors.{Neighbors, get}
use Rattle.source.specs.Interpolate.{InterpolatedFilter, get_filter_nointerp}
use Rattle.source.specs.Reader as source
use Rattle.source.specs.Reader.{open_data, filled_or, filter, filter_nointerp, max_delay}
use Rattle.source_laws.specs.Drawn.{ported, entered}
use Rattle.source_laws.specs.Way.{exactly, way_in, told}
use Rattle.source_laws.specs.Same as set
use Rattle.source_laws.specs.Same.{Set, SameAsSource}

-- what `load` is given, and the delays, which only later calls read
pub record Given : Type 0 where
  pub kind : ℕ
  pub sizes : Sizes
  pub positions : List Float
  pub responses : List Float
  pub delays : List Float
  pub angle : Float
  pub radius : Float
  pub rate : Float
  pub work : Work

-- what it says of document 01's table, what it answers and leaves, and its four work lists then
abbrev pub judged : Given → Result ⊤ Refusal
judged g = verdict_of (load_lines g.kind g.sizes (lengths_in (length g.responses) g.work) g.positions g.angle g.radius g.rate)

abbrev pub loaded : Given → Load
loaded g = load_of g.kind g.sizes g.positions (length g.responses) g.angle g.radius g.rate g.work

-- the set of these lists
abbrev pub set_in : Given → Work → Set
set_in g w = record {
  m = g.sizes.m;
  r = g.sizes.r;
  n = g.sizes.n;
  cartesian = w.cartesian;
  left = w.left;
  right = w.right;
  neighbours = w.neighbours;
  responses = g.responses;
  delays = g.delays;
  angle = g.angle;
  radius = g.radius;
  rate = g.rate;
}

-- the file that the source opens: the positions as they were given, and their attribute "Type"
abbrev pub file : Given → Hrtf
file g = record {
  m = g.sizes.m;
  c = g.sizes.c;
  r = g.sizes.r;
  n = g.sizes.n;
  source_position = g.positions;
  data_ir = g.responses;
  data_delay = g.delays;
  sample_rate = g.rate;
}

-- kind 0 is cartesian, 1 spherical
abbrev pub type_of : ℕ → Option CoordType
type_of zero = Some cartesian
type_of (suc k) = Some spherical

-- the port's calls over the lists w, by the lookup that `load` answered
module _ (g : Given) (w : Work) (look : Lookup) where
  abbrev pub port_find : Point3 → Located
  port_find q = find_of look g.sizes w.cartesian w.left w.right q

  abbrev pub port_find_mut : List Float → Moved
  port_find_mut l = find_mut_of look g.sizes w.cartesian w.left w.right l

  abbrev pub port_filter : Point3 → source.Filter → FilterAnswer
  port_filter q out =
      filter_says g.sizes look w.cartesian w.left w.right w.neighbours g.responses g.delays g.rate q (length out.left) (length out.right)

  abbrev pub port_plain : Point3 → source.Filter → FilterAnswer
  port_plain q out = plain_says g.sizes look w.cartesian w.left w.right g.responses g.delays g.rate q (length out.left) (length out.right)

abbrev pub port_number : Given → ℕ → source.Filter → FilterAnswer
port_number g k out = number_says g.sizes g.responses g.delays g.rate k (length out.left) (length out.right)

-- the source's six as the port answers them
abbrev pub listed_six : Neighbors → Entries
listed_six s = record {
  phi_plus = entered s.phi_plus;
  phi_minus = entered s.phi_minus;
  theta_plus = entered s.theta_plus;
  theta_minus = entered s.theta_minus;
  radius_plus = entered s.radius_plus;
  radius_minus = entered s.radius_minus;
}

-- `load` answered `look` and left the lists w
pub record LoadsAsSource (g : Given) (w : Work) (look : Lookup) : Type 0 where
  -- tree, box, six bounds, neighbour table, clamp: specs/Same.antt of source_laws, for the set of these lists
  pub same : SameAsSource (set_in g w)
  pub looks : look ≡ set.look (set_in g w)
  -- the source opens the file as that set; it goes by the positions that `load` copied or converted
  pub opens : open_data ported (type_of g.kind) (file g) g.angle g.radius ≡ Some same.sofar
  pub positions : same.sofar.hrtf.source_position ≡ take (3 * g.sizes.m) w.cartesian
  -- find and find_mut
  pub number : Point3 → ℕ
  pub source_finds : (q : Point3) → find same.sofar.lookup q ≡ Some (number q)
  pub port_finds : (q : Point3) → Finite q → port_find g w look q ≡ At (number q)
  pub moved : Point3 → Point3
  pub source_moves : (q : Point3) → find_mut same.sofar.lookup q ≡ record { answer = Some (number q); coordinate = moved q }
  pub port_moves : (l : List Float) → Finite (point_in l) → port_find_mut g w look l ≡ moved_as (At (number (point_in l))) (put_point l (moved (point_in l)))
  -- filter, filter_nointerp, and the filter of a measurement: both outputs, both delays in seconds, exact or blended of how many points, as the source goes
  pub filters : (q : Point3) → Finite q → (out : source.Filter) → port_filter g w look q out ≡ told (way_in same.sofar (number q) q) (filter same.sofar q.x q.y q.z out)
  pub filters_plain : (q : Point3) → Finite q → (out : source.Filter) → port_plain g w look q out ≡ told exactly (filter_nointerp same.sofar q.x q.y q.z out)
  pub by_number : (k : ℕ) → k < g.sizes.m → (out : source.Filter)
      → port_number g k out ≡ told exactly (filled_or same.sofar out (get_filter_nointerp same.sofar.hrtf k))
  pub longest : max_delay_of g.delays g.rate ≡ Ok (record { 0 = max_delay same.sofar })
  -- a measurement's responses as parts of the list, and its neighbours, 65535 for None
  pub own : ℕ → InterpolatedFilter
  pub source_own : (k : ℕ) → k < g.sizes.m → get_filter_nointerp same.sofar.hrtf k ≡ Some (own k)
  pub left_response : (k : ℕ) → k < g.sizes.m → response_of g.sizes g.responses k 0 ≡ (own k).left
  pub right_response : (k : ℕ) → k < g.sizes.m → response_of g.sizes g.responses k 1 ≡ (own k).right
  pub row : ℕ → Neighbors
  pub source_row : (k : ℕ) → k < g.sizes.m → get same.sofar.neighborhood k ≡ Some (row k)
  pub port_row : (k : ℕ) → k < g.sizes.m → around_of g.sizes w.neighbours k ≡ Ok (listed_six (row k))
  -- each list is written up to the length that document 01 asks, and nothing past it
  pub past_left : drop g.sizes.m w.left ≡ drop g.sizes.m g.work.left
  pub past_right : drop g.sizes.m w.right ≡ drop g.sizes.m g.work.right
  pub past_neighbours : drop (6 * g.sizes.m) w.neighbours ≡ drop (6 * g.sizes.m) g.work.neighbours
  pub past_cartesian : drop (3 * g.sizes.m) w.cartesian ≡ drop (3 * g.sizes.m) g.work.cartesian
