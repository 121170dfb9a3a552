-- DEMAND 2 on one page: what a loaded set answers is what the source answers. Definitions only; the theorem `same` is in proofs/Same.antt.
-- The source's side is the crate source's, the port's side the definitions that the contracts cite. All is bit for bit; NaN is one value. Where `min` and
-- `max` meet +0 and -0, Rust leaves the sign open: the transcription keeps the earlier, as document 01 has it, so the statement is about a Rust that does so.
-- That a load leaves such a set, and what the reader's calls, whose checks come first, answer over it, is the crate load_laws's theorem.
use Rattle.std.specs.Prelude.{◌≡◌, List, ℕ, ◌*◌, ◌≤◌, ◌<◌, true, length, Float}
use Rattle.points.specs.declared.Point3.{Point3}
use Rattle.points.specs.Points.{point_at, Finite}
use Rattle.kdtree.specs.Tree.{subtree}
use Rattle.limits.specs.Allowed.{angle_step_ok}
use Rattle.lookup.specs.declared.Lookup.{Lookup}
use Rattle.lookup.specs.declared.Located.TheVariants.{At}
use Rattle.lookup.specs.Build.{Links, lookup_of, build_of}
use Rattle.lookup.specs.Lookup.{clamped_by, locate_of}
use Rattle.neighbors.specs.Neighbors.{table_of}
use Rattle.interpolate.specs.Blend.{neighbors_of, FilterAnswer, extract_of, interpolate_of}
use Rattle.source.specs.Rust.{Some}
use Rattle.source.specs.Kdtree as source
use Rattle.source.specs.Lookup.{Hrtf, normalize_radius, find, find_mut}
use Rattle.source.specs.Neighbors.{Neighbors, get}
use Rattle.source.specs.Interpolate.{interpolate, get_filter_nointerp}
use Rattle.source.specs.Reader as reader
use Rattle.source.specs.Reader.{Sofar, opened, filled_or, filter, filter_nointerp}
use Rattle.source_laws.specs.Drawn.{boxed, flat, ported, hrtf_of, entered_all, heard}
use Rattle.source_laws.specs.Way.{way_in, made_by, told}

-- a set's numbers and lists
pub record Set : Type 0 where
  pub m : ℕ
  pub r : ℕ
  pub n : ℕ
  pub cartesian : List Float
  pub left : List ℕ
  pub right : List ℕ
  pub neighbours : List ℕ
  pub responses : List Float
  pub delays : List Float
  pub angle : Float
  pub radius : Float
  pub rate : Float

-- what a load that is not refused has checked, and what it has written over the lists that it was lent
pub record Loaded (s : Set) : Type 0 where
  pub some : 1 ≤ s.m
  pub most : s.m ≤ 16384
  pub ears : 2 ≤ s.r
  pub positions : 3 * s.m ≤ length s.cartesian
  pub taps : s.m * s.r * s.n ≤ length s.responses
  pub finite : (k : ℕ) → k < s.m → Finite (point_at s.cartesian k)
  pub angle_step : angle_step_ok s.angle ≡ true
  pub links_before : Links
  pub left_room : s.m ≤ length links_before.left
  pub right_room : s.m ≤ length links_before.right
  pub left_links : s.left ≡ (build_of s.cartesian s.m links_before).links.left
  pub right_links : s.right ≡ (build_of s.cartesian s.m links_before).links.right
  pub table_before : List ℕ
  pub table_room : 6 * s.m ≤ length table_before
  pub table : s.neighbours ≡ (table_of (lookup_of s.cartesian s.m) s.m s.cartesian s.left s.right s.angle s.radius table_before).table

-- the source's set, with the port's sine, cosine and arctangent for the platform's
abbrev pub hrtf : Set → Hrtf
hrtf s = hrtf_of s.m s.r s.n s.cartesian s.responses s.delays s.rate

-- what the port looks up by
abbrev pub look : Set → Lookup
look s = lookup_of s.cartesian s.m

abbrev pub blend : Set → reader.Filter → Point3 → ℕ → FilterAnswer
blend s out q k = interpolate_of s.m s.r s.n s.responses s.delays s.rate (length out.left) (length out.right) s.cartesian s.neighbours q k

abbrev pub plain : Set → reader.Filter → ℕ → FilterAnswer
plain s out k = extract_of s.m s.r s.n s.responses s.delays s.rate (length out.left) (length out.right) k

pub record SameAsSource (s : Set) : Type 0 where
  -- the source opens the set
  pub sofar : Sofar
  pub of_set : sofar.hrtf ≡ hrtf s
  pub opens : opened ported (hrtf s) s.angle s.radius ≡ Some sofar
  -- its tree, node by node: the links draw it, each measurement's number being its place
  pub tree : sofar.lookup.kdtree.root ≡ boxed (λ i. i) (subtree s.left s.right s.cartesian s.m s.m 0) 0
  -- its box, and its six bounds
  pub box : source.BoundingBox
  pub has_box : sofar.lookup.kdtree.bounds ≡ Some box
  pub corners : flat box ≡ (look s).bounds
  pub same_phi_min : sofar.lookup.phi_min ≡ (look s).phi_min
  pub same_phi_max : sofar.lookup.phi_max ≡ (look s).phi_max
  pub same_theta_min : sofar.lookup.theta_min ≡ (look s).theta_min
  pub same_theta_max : sofar.lookup.theta_max ≡ (look s).theta_max
  pub same_radius_min : sofar.lookup.radius_min ≡ (look s).radius_min
  pub same_radius_max : sofar.lookup.radius_max ≡ (look s).radius_max
  -- its neighbours of each measurement, 65535 for None
  pub row : ℕ → Neighbors
  pub has_row : (k : ℕ) → k < s.m → get sofar.neighborhood k ≡ Some (row k)
  pub entries : (k : ℕ) → k < s.m → neighbors_of s.neighbours k ≡ entered_all (row k)
  -- the radius clamp and the number found, for any query: the port never refuses 9
  pub clamp : (q : Point3) → normalize_radius sofar.lookup q ≡ clamped_by (look s) q
  pub number : Point3 → ℕ
  pub below : (q : Point3) → number q < s.m
  pub port_finds : (q : Point3) → locate_of (look s) s.m s.cartesian s.left s.right q ≡ At (number q)
  pub source_finds : (q : Point3) → find sofar.lookup q ≡ Some (number q)
  pub source_moves : (q : Point3) → find_mut sofar.lookup q ≡ record { answer = Some (number q); coordinate = clamped_by (look s) q }
  -- the filters: samples of both outputs, both delays in seconds, and exact or blended of how many points, as the source's interpolate goes
  pub goes : (q : Point3) → Finite q → interpolate sofar.hrtf sofar.neighborhood (number q) q ≡ made_by sofar.hrtf (number q) (way_in sofar (number q) q)
  pub filters : (q : Point3) → Finite q → (out : reader.Filter) → blend s out q (number q) ≡ told (way_in sofar (number q) q) (filter sofar q.x q.y q.z out)
  pub filters_plain : (q : Point3) (out : reader.Filter) → filter_nointerp sofar q.x q.y q.z out ≡ heard (plain s out (number q))
  pub by_number : (k : ℕ) → k < s.m → (out : reader.Filter) → filled_or sofar out (get_filter_nointerp sofar.hrtf k) ≡ heard (plain s out k)
