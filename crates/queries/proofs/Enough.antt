-- The program's lists are long enough: no load over them is refused because a list is too short. Assumes nothing.
use Prim.Native.Nat.{ℕ, ◌*◌, ◌≤◌}
use mathlib.Core.Path.{◌≡◌}
use mathlib.Core.Bool.{true}
use mathlib.Core.List.{List}
use native.Mathlib.Omega.{arith}
use lib.Dec.{eqb, leb}
use lib.ListN.{length, take}
use lib.Seq.{length-take-le}
use lib.Ieee.{Float}
use borrow.Author.Tests.{eq-eqb, le-leb}
use Rattle.limits.specs.Allowed.{tree_fits, responses_fit, neighbours_fit, plain_fits, blend_fits, load_fits}
use Rattle.settext.specs.declared.State.{State}
use Rattle.settext_laws.specs.Kept.{Reached}
use Rattle.loads.specs.Load.{Work, lengths_in}
use Rattle.answers.specs.Answers.{sizes_in}

-- as long as the program's lists are
pub record Long (positions : List Float) (responses : ℕ) (w : Work) : Type 0 where
  pub given : 768 ≤ length positions
  pub taps : 4096 ≤ responses
  pub left : 256 ≤ length w.left
  pub right : 256 ≤ length w.right
  pub neighbours : 1536 ≤ length w.neighbours
  pub cartesian : 768 ≤ length w.cartesian

-- line 3 of document 01's table is never met
pub never_short : (s : State) (positions : List Float) (responses : ℕ) (w : Work) → Reached s → Long positions responses w
    → load_fits (sizes_in s) (lengths_in responses w) (length (take (3 * s.m) positions)) ≡ true
unfolding load_fits blend_fits plain_fits tree_fits responses_fit neighbours_fit
never_short s positions responses w k g =
    let m = s.m in
    let p : length (take (3 * m) positions) ≡ 3 * m = length-take-le (3 * m) positions (omega (arith, k.points, g.given)) in
    let a : eqb (length (take (3 * m) positions)) (3 * m) ≡ true = eq-eqb (length (take (3 * m) positions)) (3 * m) p in
    let b : leb (3 * m) (length w.cartesian) ≡ true = le-leb (3 * m) (length w.cartesian) (omega (arith, k.points, g.cartesian)) in
    let c : leb m (length w.left) ≡ true = le-leb m (length w.left) (omega (arith, k.points, g.left)) in
    let d : leb m (length w.right) ≡ true = le-leb m (length w.right) (omega (arith, k.points, g.right)) in
    let e : leb (m * s.r * s.n) responses ≡ true = le-leb (m * s.r * s.n) responses (omega (arith, k.product, g.taps)) in
    let f : leb (6 * m) (length w.neighbours) ≡ true = le-leb (6 * m) (length w.neighbours) (omega (arith, k.points, g.neighbours)) in
    rw (a, b, c, d, e, f)
