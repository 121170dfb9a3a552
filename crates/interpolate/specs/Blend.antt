-- Document 01's "Blend": which points are blended with which weights, which delays are meant, and what a filter query then answers and writes.
-- Definitions only.
use Rattle.std.specs.Prelude.{◌≡◌, ℕ, ◌+◌, ◌*◌, ◌<◌, ◌≤◌, Bool, true, false, cond, ◌&&◌, List, [], ◌∷◌, ◌++◌, map, eqb, leb, ltb, length, get_or, replicate, Float, Option, None, Some, Result, Ok, Err}
use Rattle.std.specs.Option.{option_map_or}
use Rattle.std.specs.Float.{nan, binary32}
use Rattle.std.specs.Float.Ieee.{of_bits, add, div, lt}
use Rattle.floats.specs.Floats.{zero32, one32}
use Rattle.points.specs.declared.Point3.{Point3}
use Rattle.points.specs.Points.{point_at, dist_sq_of}
use Rattle.root.specs.Root.{root_of}
use Rattle.delays.specs.declared.Samples.{Samples}
use Rattle.delays.specs.declared.Outcome.{Outcome}
use Rattle.delays.specs.declared.Outcome.TheVariants.{Exact, Blended, Refused}
use Rattle.delays.specs.Delays.{seconds_of}
use Rattle.mix.specs.declared.Share.{Share}
use Rattle.mix.specs.declared.Points.{Points}
use Rattle.mix.specs.Mix.{sums, tap_of, sample_of, out_of, list_of, Placed}
use Rattle.interpolate.specs.declared.Entry.{Entry}
use Rattle.interpolate.specs.declared.Entry.TheVariants.{Absent, Measured, Bad}
use Rattle.interpolate.specs.declared.BadEntry.{BadEntry}
use Rattle.interpolate.specs.declared.Near.{Near}
use Rattle.interpolate.specs.declared.Stride.{Stride}

-- the f32 nearest to 1e-6 and to 1e-10, and the largest f32
abbrev pub close32 : Float
close32 = of_bits binary32 0x358637bd

abbrev pub tiny32 : Float
tiny32 = of_bits binary32 0x2edbe6ff

abbrev pub largest32 : Float
largest32 = of_bits binary32 0x7f7fffff

-- the Cartesian positions and the six neighbours of m measurements are there
abbrev pub TableHolds : ℕ → List Float → List ℕ → Type 0
TableHolds m cartesian neighbours = (3 * m ≤ length cartesian) × (6 * m ≤ length neighbours)

-- how far measurement k is from the query
unfoldable pub distance_of : List Float → Point3 → ℕ → Float
distance_of cart q k = root_of (dist_sq_of (point_at cart k) q)

-- ---- an entry of the neighbour table
-- as the lent list has it: 65535 for absent
unfoldable pub entry_of : ℕ → Entry
entry_of k = cond (eqb k 65535) Absent (Measured k)

-- as the blend meets it: bad is one that "is neither absent nor below M"
abbrev pub bad_beyond : ℕ → Entry → Entry
bad_beyond m Absent = Absent
bad_beyond m (Measured k) = cond (ltb k m) (Measured k) Bad
bad_beyond m Bad = Bad

abbrev pub entry_in : ℕ → ℕ → Entry
entry_in m k = bad_beyond m (entry_of k)

abbrev pub good : Entry → Bool
good Absent = true
good (Measured k) = true
good Bad = false

unfoldable pub known : ℕ → ℕ → Bool
known m k = good (entry_in m k)

-- ---- a pair of neighbours, where d k is how far measurement k is
-- what the next one must be below
abbrev pub least : Option Near → Float
least None = largest32
least (Some near) = near.distance

abbrev pub near_at : ℕ → Float → Near
near_at k e = record { number = k; distance = e }

-- measurement k beside the closest so far: it wins where it is strictly closer, so that the first listed keeps a tie
unfoldable pub closer_of : (ℕ → Float) → Option Near → ℕ → Option Near
closer_of d best k = cond (lt (d k) (least best)) (Some (near_at k (d k))) best

-- an entry beside the closest so far
abbrev pub beside : (ℕ → Float) → Option Near → Entry → Option Near
beside d best Absent = best
beside d best (Measured k) = closer_of d best k
beside d best Bad = best

-- the closest of a pair as it stands
unfoldable pub closest_of : (ℕ → Float) → ℕ → ℕ → Option Near
closest_of d a b = beside d (beside d None (entry_of a)) (entry_of b)

-- what the code answers of a closest: itself where all entries are good
abbrev pub met_if : Bool → Option Near → Result (Option Near) BadEntry
met_if true best = Ok best
met_if false best = Err (record {})

-- a closest is one of m measurements
abbrev pub Held : ℕ → Option Near → Type 0
Held m None = Unit
Held m (Some near) = near.number < m

-- the weight is 1 / distance
abbrev pub share_of : ℕ → Float → Share
share_of k d = record { number = k; weight = div binary32 one32 d }

-- "taken only if above 1e-10 and below the largest f32", which the closest of a pair is
abbrev pub taken : Option Near → List Share
taken None = []
taken (Some near) = cond (lt tiny32 near.distance) (share_of near.number near.distance ∷ []) []

abbrev pub pair_of : (ℕ → Float) → ℕ → ℕ → List Share
pair_of d a b = taken (closest_of d a b)

-- ---- the points, in order: the nearest k, then the closer of each pair
abbrev pub entry : List ℕ → ℕ → ℕ → ℕ
entry near k j = get_or near (6 * k + j) 0

-- the six entries of a measurement, as they stand
pub record Neighbors : Type 0 where
  pub phi_plus : ℕ
  pub phi_minus : ℕ
  pub theta_plus : ℕ
  pub theta_minus : ℕ
  pub radius_plus : ℕ
  pub radius_minus : ℕ

abbrev pub neighbors_of : List ℕ → ℕ → Neighbors
neighbors_of near k = record { phi_plus = entry near k 0; phi_minus = entry near k 1; theta_plus = entry near k 2; theta_minus = entry near k 3; radius_plus = entry near k 4; radius_minus = entry near k 5 }

-- all six are met, the second of a pair too
unfoldable pub all_known : ℕ → Neighbors → Bool
all_known m s = known m s.phi_plus && known m s.phi_minus && known m s.theta_plus && known m s.theta_minus && known m s.radius_plus && known m s.radius_minus

unfoldable pub points_of : (ℕ → Float) → Neighbors → ℕ → List Share
points_of d s k = (((share_of k (d k) ∷ []) ++ pair_of d s.phi_plus s.phi_minus) ++ pair_of d s.theta_plus s.theta_minus) ++ pair_of d s.radius_plus s.radius_minus

-- what the code answers of them: where all entries are good the points ps, in places that all hold measurements
abbrev pub Gathers : ℕ → Bool → List Share → Result Points BadEntry → Type 0
Gathers m fine ps (Ok p) = (fine ≡ true) × (list_of p ≡ ps) × Placed m p
Gathers m fine ps (Err bad) = fine ≡ false

-- the weights, added up from +0 in order
unfoldable pub total_from : Float → List Share → Float
total_from s [] = s
total_from s (p ∷ ps) = total_from (add binary32 s p.weight) ps

abbrev pub total_of : List Share → Float
total_of ps = total_from zero32 ps

-- a weight divided by the sum
abbrev pub part : Float → Share → Share
part s p = record { number = p.number; weight = div binary32 p.weight s }

-- ---- delays, in samples, for receiver e
-- where measurement k's stands: at k * times + plus, or nowhere
abbrev pub stride_at : ℕ → ℕ → Option Stride
stride_at times plus = Some (record { times = times; plus = plus })

-- "by their count L: L = M, one per measurement for both ears; else L ≥ M·R, per measurement and receiver; else L ≥ R, first two for all; else 0"
unfoldable pub stride_of : ℕ → ℕ → ℕ → ℕ → Option Stride
stride_of len m r e = cond (eqb len m) (stride_at 1 0) (cond (leb (m * r) len) (stride_at r e) (cond (leb r len) (stride_at 0 e) None))

-- where it leads, for measurement k and for each of four places, into a list of so many delays
abbrev pub Leads : Stride → ℕ → ℕ → Type 0
Leads s len k = k * s.times + s.plus < len

abbrev pub AllLead : Stride → ℕ → Points → Type 0
AllLead s len p = Leads s len p.a.number × Leads s len p.b.number × Leads s len p.c.number × Leads s len p.d.number

abbrev pub delay_at : List Float → Stride → ℕ → Float
delay_at delays s k = get_or delays (k * s.times + s.plus) nan

-- measurement k's, and that of weighed points: +0 where there are none
unfoldable pub plain_delay : List Float → ℕ → ℕ → ℕ → ℕ → Samples
plain_delay delays m r e k = record { 0 = option_map_or (λ s. delay_at delays s k) (stride_of (length delays) m r e) zero32 }

unfoldable pub blend_delay : List Float → ℕ → ℕ → ℕ → List Share → Samples
blend_delay delays m r e ps = record { 0 = option_map_or (λ s. sums (delay_at delays s) zero32 ps) (stride_of (length delays) m r e) zero32 }

-- ---- what a filter query answers and what its two outputs then hold
pub record FilterAnswer : Type 0 where
  pub answer : Outcome
  pub left : List Float
  pub right : List Float

abbrev pub filter_of : Outcome → List Float → List Float → FilterAnswer
filter_of o l r = record { answer = o; left = l; right = r }

-- refused: every sample of outputs of these two lengths is +0
abbrev pub refused_of : ℕ → ℕ → ℕ → ℕ → FilterAnswer
refused_of number place ll rl = record { answer = Refused number place; left = replicate ll zero32; right = replicate rl zero32 }

module _ (m r n : ℕ) (resp delays : List Float) (rate : Float) (ll rl : ℕ) where
  -- measurement k as it is
  unfoldable pub extract_of : ℕ → FilterAnswer
  extract_of k = record {
    answer = Exact (seconds_of (plain_delay delays m r 0 k) rate) (seconds_of (plain_delay delays m r 1 k) rate);
    left = out_of (λ i. tap_of resp r n 0 i k) n ll;
    right = out_of (λ i. tap_of resp r n 1 i k) n rl;
  }

  -- the points ps, their weights divided by the sum
  unfoldable pub blend_of : List Share → FilterAnswer
  blend_of ps = record {
    answer = Blended (seconds_of (blend_delay delays m r 0 ps) rate) (seconds_of (blend_delay delays m r 1 ps) rate) (length ps);
    left = out_of (sample_of resp r n 0 ps) n ll;
    right = out_of (sample_of resp r n 1 ps) n rl;
  }

  -- the points ps before the division; the nearest is k
  unfoldable pub weighed_of : ℕ → List Share → FilterAnswer
  weighed_of k ps = cond (lt (total_of ps) tiny32) (extract_of k) (blend_of (map (part (total_of ps)) ps))

  -- the query q, whose nearest measurement is k: the exact filter where k is close, a refusal where an entry is bad, else the blend
  unfoldable pub interpolate_of : List Float → List ℕ → Point3 → ℕ → FilterAnswer
  interpolate_of cart near q k =
      cond (lt (distance_of cart q k) close32) (extract_of k)
      (cond (all_known m (neighbors_of near k)) (weighed_of k (points_of (distance_of cart q) (neighbors_of near k) k)) (refused_of 9 0 ll rl))
