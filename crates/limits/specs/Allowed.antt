-- Document 01's "Numbers allowed": sizes, the lengths of lent lists, values, steps, rate. Definitions only.
use Rattle.std.specs.Prelude.{ℕ, ◌+◌, ◌*◌, ◌%◌, Bool, false, cond, ◌&&◌, ◌||◌, List, [], ◌∷◌, eqb, leb, length, take, Float}
use Rattle.std.specs.Float.{binary32}
use Rattle.std.specs.Float.Ieee.{round, neg, le}
use Rattle.limits.specs.declared.Sizes.{Sizes}
use Rattle.limits.specs.declared.TreeLengths.{TreeLengths}
use Rattle.limits.specs.declared.Lengths.{Lengths}

-- the f32 nearest a / b
abbrev pub nearest32 : ℕ → ℕ → Float
nearest32 a b = round binary32 false a b

-- lo ≤ x ≤ hi: never for a NaN
unfoldable pub between : Float → Float → Float → Bool
between lo hi x = le lo x && le x hi

-- of magnitude at most the f32 nearest a / b
unfoldable pub within : ℕ → ℕ → Float → Bool
within a b x = between (neg (nearest32 a b)) (nearest32 a b) x

-- ---- sizes and lent lists

-- M 1..16384, C exactly 3, R 2..8, N 0..8192
unfoldable pub sizes_ok : Sizes → Bool
sizes_ok s = leb 1 s.m && leb s.m 16384 && eqb s.c 3 && leb 2 s.r && leb s.r 8 && leb s.n 8192

-- the lengths of the lists that a search goes by
abbrev pub tree_lengths : List Float → List ℕ → List ℕ → TreeLengths
tree_lengths xs left right = record { cartesian = length xs; left = length left; right = length right }

-- Cartesian positions at least 3M, left and right links M each
unfoldable pub tree_fits : Sizes → TreeLengths → Bool
tree_fits s t = leb (3 * s.m) t.cartesian && leb s.m t.left && leb s.m t.right

-- responses at least M·R·N
unfoldable pub responses_fit : Sizes → ℕ → Bool
responses_fit s len = leb (s.m * s.r * s.n) len

-- neighbours at least 6M
unfoldable pub neighbours_fit : Sizes → ℕ → Bool
neighbours_fit s len = leb (6 * s.m) len

-- what the plain filter reads
unfoldable pub plain_fits : Sizes → TreeLengths → ℕ → Bool
plain_fits s t responses = tree_fits s t && responses_fit s responses

-- what the blended filter reads
unfoldable pub blend_fits : Sizes → Lengths → Bool
blend_fits s l = plain_fits s l.tree l.responses && neighbours_fit s l.neighbours

-- what a load reads and writes: the same, and positions exactly 3M
unfoldable pub load_fits : Sizes → Lengths → ℕ → Bool
load_fits s l positions = eqb positions (3 * s.m) && blend_fits s l

-- ---- position values

-- the kinds: 0 cartesian, 1 spherical
unfoldable pub kind_ok : ℕ → Bool
kind_ok kind = eqb kind 0 || eqb kind 1

unfoldable pub cartesian_ok : Float → Bool
cartesian_ok x = within 10000 1 x

unfoldable pub angle_ok : Float → Bool
angle_ok x = within 720 1 x

-- from 0 on, and -0 is no less than 0
unfoldable pub radius_ok : Float → Bool
radius_ok x = between (nearest32 0 1) (nearest32 10000 1) x

-- the value x at the index i of a list of positions
unfoldable pub position_ok : ℕ → ℕ → Float → Bool
position_ok kind i x = cond (eqb kind 0) (cartesian_ok x) (cond (eqb kind 1) (cond (eqb (i % 3) 2) (radius_ok x) (angle_ok x)) false)

-- the first index, counted from i, whose value is not allowed; past the end if there is none
unfoldable pub bad_from : (ℕ → Float → Bool) → ℕ → List Float → ℕ
bad_from ok i [] = i
bad_from ok i (x ∷ xs) = cond (ok i x) (bad_from ok (i + 1) xs) i

-- the first index below n whose value is not allowed, else n (of a list that has n)
unfoldable pub first_bad : (ℕ → Float → Bool) → List Float → ℕ → ℕ
first_bad ok xs n = bad_from ok 0 (take n xs)

-- ---- steps and rate

unfoldable pub angle_step_ok : Float → Bool
angle_step_ok x = between (nearest32 1 10) (nearest32 45 1) x

unfoldable pub radius_step_ok : Float → Bool
radius_step_ok x = between (nearest32 1 1000) (nearest32 1 1) x

unfoldable pub rate_ok : Float → Bool
rate_ok x = between (nearest32 1000 1) (nearest32 384000 1) x
