-- The front of the Cartesian list after a load: what the source copies or converts, each coordinate of magnitude at most 10001, and so finite. Assumes nothing.
use mathlib.Core.Path.{◌≡◌, refl, ◌∙◌, subst}
use mathlib.Core.Bool.{true}
use mathlib.Core.List.{List}
use Prim.Native.Nat.{ℕ, zero, suc, ◌+◌, ◌*◌, ◌<◌}
use native.Mathlib.Omega.{arith}
use lib.Dec.{T}
use lib.ListN.{length, drop, get_or-append}
use lib.Ieee.{Float, nan, neg, round}
use lib.Ieee.Scale.{finite}
use borrow.Author.Tests.{eqb-true, ne_eqb}
use Rattle.lists.specs.Over.{over}
use Rattle.points.specs.Points.{point_at, Finite}
use Rattle.limits.specs.Allowed.{nearest32, within, kind_ok}
use Rattle.limits.proofs.Passed.{Allowed}
use Rattle.limits.proofs.Ends.{between_finite}
use Rattle.coords.specs.Arrays.{turned, by_triplets}
use Rattle.coords.specs.Moderate.{Moderate}
use Rattle.coords.proofs.Places.{changed_length}
use Rattle.coord_laws.proofs.Inside.{list_inside, list_copied}
use Rattle.loads.specs.Load.{cartesian_from}
use Rattle.source.specs.Hrtf.{convert_array_to_cartesian_if_spherical}
use Rattle.source_laws.specs.Drawn.{ported}
use Rattle.source_laws.proofs.Turns.{to_cartesian}
use Rattle.load_laws.specs.Load.{type_of}

-- ---- copied or converted

copied : (xs : List Float) → cartesian_from 0 xs ≡ xs
unfolding cartesian_from
copied xs = refl

converted : (k : ℕ) (xs : List Float) → cartesian_from (suc k) xs ≡ by_triplets (turned 1) xs
unfolding cartesian_from
converted k xs = rw (ne_eqb (suc k) 0 (λ e. omega arith))

-- THE POSITIONS ARE THE SOURCE'S
pub positions_same : (kind : ℕ) (xs : List Float) → cartesian_from kind xs ≡ convert_array_to_cartesian_if_spherical ported (type_of kind) xs
unfolding convert_array_to_cartesian_if_spherical
positions_same zero xs = copied xs
positions_same (suc k) xs = converted k xs ∙ to_cartesian xs

-- ---- finite

-- a value that is written to the front of a list stands there
front_point : (xs d : List Float) (place : ℕ) → 3 * place + 2 < length xs → point_at (over xs d) place ≡ point_at xs place
unfolding over point_at
front_point xs d place h =
    let rest = drop (length xs) d in
    let a = get_or-append xs rest nan (3 * place) (omega arith) in
    let b = get_or-append xs rest nan (3 * place + 1) (omega arith) in
    let c = get_or-append xs rest nan (3 * place + 2) (omega arith) in
    λ i. record { x = a i; y = b i; z = c i }

within_finite : (x : Float) → within 10001 1 x ≡ true → T (finite x)
unfolding within round neg
within_finite x e = between_finite (neg (nearest32 10001 1)) (nearest32 10001 1) x tt tt e

pub one_of : (k : ℕ) → kind_ok (suc k) ≡ true → k ≡ 0
unfolding kind_ok
one_of k e = let z = eqb-true (suc k) 1 (rw (ne_eqb (suc k) 0 (λ z. omega arith)) at e) in omega arith

-- EACH POINT'S COORDINATES ARE OF MAGNITUDE AT MOST 10001, copied or converted
pub positions_inside : (kind : ℕ) (xs d : List Float) → kind_ok kind ≡ true → Allowed kind xs (length xs) → (place : ℕ) → 3 * place + 2 < length xs
    → Moderate (point_at (over (cartesian_from kind xs) d) place)
positions_inside zero xs d known ok place h = rw (copied xs) (rw (front_point xs d place h) (list_copied xs (length xs) ok place h))
positions_inside (suc k) xs d known ok place h =
    let l = changed_length (turned 1) xs in
    rw (converted k xs) (rw (front_point (by_triplets (turned 1) xs) d place (omega arith)) (list_inside xs (subst (λ (j : ℕ). Allowed (suc j) xs (length xs)) (one_of k known) ok) place h))

-- AND SO EACH POINT IS FINITE
pub positions_finite : (kind : ℕ) (xs d : List Float) → kind_ok kind ≡ true → Allowed kind xs (length xs) → (place : ℕ) → 3 * place + 2 < length xs
    → Finite (point_at (over (cartesian_from kind xs) d) place)
positions_finite kind xs d known ok place h =
    let e = positions_inside kind xs d known ok place h in
    record { x = within_finite _ e.x; y = within_finite _ e.y; z = within_finite _ e.z }
