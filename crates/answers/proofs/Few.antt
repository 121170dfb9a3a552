-- A set that was loaded has a measurement and two ears; so its n is at most 2048, where m·r·n is at most 4096.
-- Assumes nothing.
use Prim.Native.Nat.{ℕ, ◌*◌, ◌≤◌}
use mathlib.Core.Path.{◌≡◌}
use mathlib.Core.List.{List}
use native.Mathlib.Nat.{mul-le-mul}
use native.Mathlib.Omega.{arith}
use lib.ListN.{take}
use lib.Ieee.{Float}
use Rattle.limits.specs.Refusals.{verdict_of, load_lines}
use Rattle.limits.proofs.Passed.{Sized, load_passed}
use Rattle.lookup.specs.declared.Lookup.{Lookup}
use Rattle.std.specs.Prelude.{Ok}
use Rattle.loads.specs.Load.{Work, load_of, lengths_in}
use Rattle.loads.proofs.Ways.{fine_by}
use Rattle.settext.specs.declared.State.{State}
use Rattle.answers.specs.Answers.{sizes_in, set_of}

-- the sizes of a set that was loaded are allowed
pub ready_sized : (s : State) (positions : List Float) (responses : ℕ) (d : Work) (look : Lookup) → (set_of s positions responses d).answer ≡ Ok look → Sized (sizes_in s)
unfolding set_of load_of
ready_sized s positions responses d look e =
    let xs = take (3 * s.m) positions in
    (load_passed s.kind (sizes_in s) (lengths_in responses d) xs s.astep s.rstep s.rate (fine_by (verdict_of (load_lines s.kind (sizes_in s) (lengths_in responses d) xs s.astep s.rstep s.rate)) _ d look e)).sizes

-- with m·r·n at most 4096, as the text form has it
pub few_taps : (m r n : ℕ) → 1 ≤ m → 2 ≤ r → m * r * n ≤ 4096 → n ≤ 2048
few_taps m r n hm hr h =
    let a : 2 ≤ m * r = mul-le-mul {n₁ = 1} {m₁ = 2} {n₂ = m} {m₂ = r} hm hr in
    let b : 2 * n ≤ m * r * n = mul-le-mul {n₁ = 2} {m₁ = n} {n₂ = m * r} {m₂ = n} a (omega arith) in
    omega arith

pub ready_few : (s : State) (positions : List Float) (responses : ℕ) (d : Work) (look : Lookup) → s.m * s.r * s.n ≤ 4096
    → (set_of s positions responses d).answer ≡ Ok look → s.n ≤ 2048
ready_few s positions responses d look h e =
    let z = ready_sized s positions responses d look e in
    few_taps s.m s.r s.n z.some z.ears h
