-- One ear of a filter: which taps are added up in which order, and what an output then holds. Definitions only.
use Rattle.std.specs.Prelude.{ℕ, ◌+◌, ◌-◌, ◌*◌, ◌≤◌, ◌<◌, cond, List, [], ◌∷◌, ◌++◌, ltb, get_or, length, take, replicate, Float}
use Rattle.std.specs.Float.{nan, binary32}
use Rattle.std.specs.Float.Ieee.{add, mul}
use Rattle.floats.specs.Floats.{zero32}
use Rattle.lists.specs.Over.{upto}
use Rattle.mix.specs.declared.Ear.{Ear}
use Rattle.mix.specs.declared.Ear.TheVariants.{Left, Right}
use Rattle.mix.specs.declared.Share.{Share}
use Rattle.mix.specs.declared.Points.{Points}

-- the number of an ear among the receivers of a measurement
abbrev pub receiver_of : Ear → ℕ
receiver_of Left = 0
receiver_of Right = 1

-- one more product, rounded, added to the sum so far, rounded
abbrev pub plus_product : Float → Float → Float → Float
plus_product s w x = add binary32 s (mul binary32 x w)

-- what f says of each point's measurement, times its weight, added up in order
unfoldable pub sums : (ℕ → Float) → Float → List Share → Float
sums f s [] = s
sums f s (p ∷ ps) = sums f (plus_product s p.weight (f p.number)) ps

-- where the taps of measurement k for receiver e start
unfoldable pub start_of : ℕ → ℕ → ℕ → ℕ → ℕ
start_of r n e k = (k * r + e) * n

-- tap i of measurement k for receiver e
abbrev pub tap_of : List Float → ℕ → ℕ → ℕ → ℕ → ℕ → Float
tap_of src r n e i k = get_or src (start_of r n e k + i) nan

-- sample i of the blend: from +0, in the points' order
unfoldable pub sample_of : List Float → ℕ → ℕ → ℕ → List Share → ℕ → Float
sample_of src r n e ps i = sums (tap_of src r n e i) zero32 ps

-- an output of `len` samples: f i below n, and +0 from there on
abbrev pub below : (ℕ → Float) → ℕ → ℕ → Float
below f n i = cond (ltb i n) (f i) zero32

unfoldable pub out_of : (ℕ → Float) → ℕ → ℕ → List Float
out_of f n len = upto (below f n) len

-- an output whose samples from k on are +0
unfoldable pub tailed : ℕ → List Float → List Float
tailed k d = take k d ++ replicate (length d - k) zero32

-- the points that four places and a count stand for
unfoldable pub list_of : Points → List Share
list_of p = take p.count (p.a ∷ p.b ∷ p.c ∷ p.d ∷ [])

-- sizes that document 01 allows
pub record Sized (m r n : ℕ) : Type 0 where
  pub high : m ≤ 16384
  pub two : 2 ≤ r
  pub receivers : r ≤ 8
  pub taps : n ≤ 8192

-- one to four points, each place a measurement
pub record Placed (m : ℕ) (p : Points) : Type 0 where
  pub one : 1 ≤ p.count
  pub four : p.count ≤ 4
  pub a_in : p.a.number < m
  pub b_in : p.b.number < m
  pub c_in : p.c.number < m
  pub d_in : p.d.number < m
