-- `interpolate::Measurements::gather` meets its contract: the nearest, then the closer of each pair. Assumes nothing.
use Prim.Native.Nat.{ℕ, ◌<◌}
use mathlib.Core.Path.{◌≡◌, sym, ap, subst, ◌∙◌}
use mathlib.Core.Bool.{true, false, ◌&&◌}
use mathlib.Core.List.{[], List, ◌∷◌, ◌++◌}
use native.Mathlib.Nat.{le_refl, le_trans}
use native.Mathlib.Omega.{arith}
use lib.Dec.{lit≤}
use lib.Ieee.{Float, of_bits}
use Rattle.mix.specs.declared.Share.{Share}
use Rattle.mix.specs.declared.Points.{Points}
use Rattle.mix.specs.Mix.{list_of, Placed}
use Rattle.std.proofs.Common.{Option, Result, Ok, Err}
use Rattle.interpolate.specs.declared.BadEntry.{BadEntry}
use Rattle.interpolate.specs.declared.Near.{Near}
use Rattle.std.proofs.lemmas.Result.{err_from_is_err_and}
use Rattle.interpolate.specs.Blend.{known, closest_of, met_if, Held, taken, neighbors_of, points_of, share_of}
use Rattle.interpolate.proofs.Laws.{met_best, met_bad, closest_held, first_bad_lem, second_bad, third_is}
use Rattle.interpolate.proofs.Measurements.gather.Goals as goal

-- entries x and y are good, and this is the closest of them
record Pair (m : ℕ) (d : ℕ → Float) (x y : ℕ) (best : Option Near) : Type 0 where
  fine : (known m x && known m y) ≡ true
  is : closest_of d x y ≡ best
  held : Held m best

pair : (m : ℕ) (d : ℕ → Float) (x y : ℕ) (one : Result (Option Near) BadEntry) (best : Option Near) → one ≡ met_if (known m x && known m y) (closest_of d x y) → one ≡ Ok best → Pair m d x y best
pair m d x y one best e h =
    let b = met_best _ _ _ (sym e ∙ h) in
    record { fine = b.0; is = b.1; held = subst (Held m) b.1 (closest_held m d x y b.0) }

bad : (m : ℕ) (d : ℕ → Float) (x y : ℕ) (one : Result (Option Near) BadEntry) → one ≡ met_if (known m x && known m y) (closest_of d x y) → (b : BadEntry) → one ≡ Err b → (known m x && known m y) ≡ false
bad m d x y one e b h = met_bad _ _ b (sym e ∙ h)

-- what stands in the places: the nearest
abbrev begun : ℕ → Float → Points
begun k d = let s = share_of k d in record { count = 1; a = s; b = s; c = s; d = s }

placed : (m k : ℕ) (d : Float) → k < m → Placed m (begun k d)
placed m k d h = record { one = le_refl 1; four = lit≤ tt; a_in = h; b_in = h; c_in = h; d_in = h }

more : (r p ps : List Share) (b c : Option Near) → r ≡ p ++ taken b → c ≡ b → p ≡ ps → r ≡ ps ++ taken c
more r p ps b c e q h = rw (q, ← h) e

pub returns-in_err-azimuth : goal.returns-in_err-azimuth
returns-in_err-azimuth c =
    let a = c.args in
    rw (err_from_is_err_and c.from_residual.result c.from_residual.ensures.1).1 (first_bad_lem a.self.now.filters.responses.m (neighbors_of a.self.now.neighbours.now a.nearest) (bad _ _ _ _ _ c.closer_neighbor.ensures _ c.in_err-azimuth.was))

pub returns-in_err-elevation : goal.returns-in_err-elevation
returns-in_err-elevation c =
    let a = c.args in
    let one = pair _ _ _ _ _ _ c.closer_neighbor.ensures c.in_ok-azimuth.was in
    rw (err_from_is_err_and c.from_residual-in_err-elevation.result c.from_residual-in_err-elevation.ensures.1).1 (second_bad a.self.now.filters.responses.m (neighbors_of a.self.now.neighbours.now a.nearest) one.fine (bad _ _ _ _ _ c.closer_neighbor-2.ensures _ c.in_err-elevation.was))

pub returns-in_err-radius : goal.returns-in_err-radius
returns-in_err-radius c =
    let a = c.args in
    let one = pair _ _ _ _ _ _ c.closer_neighbor.ensures c.in_ok-azimuth.was in
    let two = pair _ _ _ _ _ _ c.closer_neighbor-2.ensures c.in_ok-elevation.was in
    rw (err_from_is_err_and c.from_residual-in_err-radius.result c.from_residual-in_err-radius.ensures.1).1 (third_is a.self.now.filters.responses.m (neighbors_of a.self.now.neighbours.now a.nearest) one.fine two.fine false (bad _ _ _ _ _ c.closer_neighbor-3.ensures _ c.in_err-radius.was))

pub add_closer_neighbor-p2-requires : goal.add_closer_neighbor-p2-requires
unfolding of_bits
add_closer_neighbor-p2-requires c =
    let one = pair _ _ _ _ _ _ c.closer_neighbor.ensures c.in_ok-azimuth.was in
    let placed1 = c.add_closer_neighbor-p1.ensures.2 c.args.self.now.filters.responses.m (placed _ _ _ c.requires.0) one.held in
    (placed1.one, le_trans c.add_closer_neighbor-p1.ensures.1 (lit≤ tt))

pub add_closer_neighbor-requires : goal.add_closer_neighbor-requires
unfolding of_bits
add_closer_neighbor-requires c =
    let one = pair _ _ _ _ _ _ c.closer_neighbor.ensures c.in_ok-azimuth.was in
    let two = pair _ _ _ _ _ _ c.closer_neighbor-2.ensures c.in_ok-elevation.was in
    let placed1 = c.add_closer_neighbor-p1.ensures.2 c.args.self.now.filters.responses.m (placed _ _ _ c.requires.0) one.held in
    let placed2 = c.add_closer_neighbor-p2.ensures.2 c.args.self.now.filters.responses.m placed1 two.held in
    (placed2.one, omega (arith, c.add_closer_neighbor-p2.ensures.1, c.add_closer_neighbor-p1.ensures.1))

pub returns : goal.returns
unfolding points_of list_of of_bits
returns c =
    let a = c.args in
    let one = pair _ _ _ _ _ _ c.closer_neighbor.ensures c.in_ok-azimuth.was in
    let two = pair _ _ _ _ _ _ c.closer_neighbor-2.ensures c.in_ok-elevation.was in
    let three = pair _ _ _ _ _ _ c.closer_neighbor-3.ensures c.in_ok-radius.was in
    let placed1 = c.add_closer_neighbor-p1.ensures.2 a.self.now.filters.responses.m (placed _ _ _ c.requires.0) one.held in
    let placed2 = c.add_closer_neighbor-p2.ensures.2 a.self.now.filters.responses.m placed1 two.held in (
      third_is a.self.now.filters.responses.m (neighbors_of a.self.now.neighbours.now a.nearest) one.fine two.fine true three.fine,
      more _ _ _ _ _ c.add_closer_neighbor.ensures.0 three.is (more _ _ _ _ _ c.add_closer_neighbor-p2.ensures.0 two.is
          (more _ _ _ _ _ c.add_closer_neighbor-p1.ensures.0 one.is (ap (λ (x : Float). share_of a.nearest x ∷ []) c.requires.1))),
      c.add_closer_neighbor.ensures.2 a.self.now.filters.responses.m placed2 three.held,
    )
