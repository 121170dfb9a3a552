-- `root::root` meets its contract. Assumes nothing.
use native.Mathlib.Omega.{arith}
use mathlib.Core.Path.{◌≡◌, sym, ap, ◌∙◌, subst}
use mathlib.Core.Bool.{Bool}
use Prim.Native.Nat.{ℕ, ◌+◌, ◌*◌, ◌%◌, ◌^◌, ◌≤◌, ◌<◌}
use lib.Dec.{T}
use denote.Floats.{passes}
use lib.Ieee.{binary32, fits}
use Rattle.bits.specs.Parts.{PartsOf}
use Rattle.root.specs.Near.{Near}
use Rattle.root.proofs.Square.{near_least, near_below}
use Rattle.root.proofs.Whole.{shift, root_is}
use Rattle.root.proofs.Cases.{numeric_of, sign_of, at_top, below_zero, at_zero}
use Rattle.root.proofs.root.Goals.{then-e-eq0, else-e-eq0}
use Rattle.root.proofs.root.Goals as goal

pub split-p-requires : goal.split-p-requires
split-p-requires c = numeric_of c.args.x c.if-x.true c.if-x-2.true

-- where the two arms meet: n is the significand, with 23 or 24 zeros after it
n-is : (c : goal.After-near-r) → c.if-e-eq0.n ≡ c.split-p.result.significand * 2 ^ shift c.split-p.result.exponent
n-is c =
    let p = c.split-p.result in
    elim c.if-e-eq0.branch [
      | then-e-eq0 w ↦ w.n-is ∙ ap (λ (z : ℕ). p.significand * 2 ^ (23 + z)) (sym w.if-e-eq0.true)
      | else-e-eq0 w ↦ w.n-is ∙ ap (λ (z : ℕ). p.significand * 2 ^ (23 + z)) (sym (one (p.exponent + 103) w.if-e-eq0.false))
    ]
  where
    one : (e : ℕ) → (e % 2 ≡ 0 → ⊥) → e % 2 ≡ 1
    one e h = omega arith

n_bounds : (c : goal.Joined-e-eq0) → (2 ^ 46 ≤ c.if-e-eq0.n) × (c.if-e-eq0.n < 2 ^ 48) × (c.if-e-eq0.n ≤ 16777215 * 16777216)
n_bounds c = elim c.if-e-eq0.branch [ then-e-eq0 w ↦ omega arith | else-e-eq0 w ↦ omega arith ]

pub near-r-requires : goal.near-r-requires
near-r-requires c = ((n_bounds c).0, (n_bounds c).1, omega arith, omega arith)

r-bounds : (c : goal.After-near-r) → (2 ^ 23 ≤ c.near-r.result) × (c.near-r.result < 2 ^ 24)
r-bounds c = let b = n_bounds c.before in (near_least c.if-e-eq0.n c.near-r.result b.0 c.near-r.ensures, near_below c.if-e-eq0.n c.near-r.result b.2 c.near-r.ensures)

pub overflow_cast-r : goal.overflow_cast-r
overflow_cast-r c = omega (arith, r-bounds c)

pub join-requires : goal.join-requires
join-requires c = omega (arith, r-bounds c)

-- `holds` is what owning an `f32` tells: the format holds it
pub returns-then-x-2 : goal.returns-then-x-2
returns-then-x-2 c =
    let x = c.args.x in
    let parts = c.split-p.result in
    let b = n_bounds c.before.before in
    let is = n-is c.before in
    let zero = c.if-x.true in
    let holds : T (fits binary32 x) = subst T (sym c.well_formed.0.1) tt in
    root_is x c.join.result parts.significand parts.exponent c.near-r.result holds (numeric_of x zero c.if-x-2.true)
    (subst (λ (s : Bool). PartsOf x s parts.significand parts.exponent) (sign_of x parts.negative (parts.significand * 2 ^ parts.exponent) (2 ^ 172) zero c.split-p.ensures.value) c.split-p.ensures)
    (subst (λ (n : ℕ). 2 ^ 46 ≤ n) is b.0)
    (subst (λ (n : ℕ). n < 2 ^ 48) is b.1)
    (subst (λ (n : ℕ). Near n c.near-r.result) is c.near-r.ensures)
    (r-bounds c.before).1
    (passes _ c.join.type_inv)
    c.join.ensures

pub returns-then-x : goal.returns-then-x
returns-then-x c = at_top c.args.x c.if-x.true c.if-x-2.false

pub returns-then-x-3 : goal.returns-then-x-3
returns-then-x-3 c = below_zero c.args.x c.if-x-3.true

pub returns : goal.returns
returns c = at_zero c.args.x c.if-x.false c.if-x-3.false
