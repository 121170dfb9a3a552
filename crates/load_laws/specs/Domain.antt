-- Document 01's "Numbers allowed", of what a load is given: the domain of demand 2, in plain orders. Definitions only; that `load` accepts all of it is
-- `accepts` in proofs/Domain.antt.
use Rattle.std.specs.Prelude.{◌≡◌, ℕ, ◌*◌, ◌%◌, ◌≤◌, ◌<◌, T, length, get_or, Float}
use Rattle.std.specs.Float.{nan}
use Rattle.std.specs.Float.Ieee.{neg, le}
use Rattle.limits.specs.Allowed.{nearest32}
use Rattle.load_laws.specs.Load.{Given}

-- lo ≤ x ≤ hi, as f32: never for a NaN
pub record Between (lo hi x : Float) : Type 0 where
  pub low : T (le lo x)
  pub high : T (le x hi)

-- of magnitude at most a
abbrev pub Within : ℕ → Float → Type 0
Within a x = Between (neg (nearest32 a 1)) (nearest32 a 1) x

-- the value x at the index i of the positions: Cartesian coordinates at most 10000; angles at most 720, radius 0..10000
pub record Position (kind i : ℕ) (x : Float) : Type 0 where
  pub cartesian : kind ≡ 0 → Within 10000 x
  pub angle : kind ≡ 1 → (i % 3 ≡ 2 → ⊥) → Within 720 x
  pub radius : kind ≡ 1 → i % 3 ≡ 2 → Between (nearest32 0 1) (nearest32 10000 1) x

pub record Domain (g : Given) : Type 0 where
  pub kind : g.kind < 2
  pub some : 1 ≤ g.sizes.m
  pub most : g.sizes.m ≤ 16384
  pub three : g.sizes.c ≡ 3
  pub ears : 2 ≤ g.sizes.r
  pub receivers : g.sizes.r ≤ 8
  pub taps : g.sizes.n ≤ 8192
  pub positions : length g.positions ≡ 3 * g.sizes.m
  pub responses : g.sizes.m * g.sizes.r * g.sizes.n ≤ length g.responses
  pub left : g.sizes.m ≤ length g.work.left
  pub right : g.sizes.m ≤ length g.work.right
  pub neighbours : 6 * g.sizes.m ≤ length g.work.neighbours
  pub cartesian : 3 * g.sizes.m ≤ length g.work.cartesian
  pub values : (i : ℕ) → i < length g.positions → Position g.kind i (get_or g.positions i nan)
  pub angle_step : Between (nearest32 1 10) (nearest32 45 1) g.angle
  pub radius_step : Between (nearest32 1 1000) (nearest32 1 1) g.radius
  pub rate : Between (nearest32 1000 1) (nearest32 384000 1) g.rate
