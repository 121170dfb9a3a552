-- The angle that the arctangent answers, in its eighth: k, the sign of r, and r near j / 2^24. Assumes nothing.
use mathlib.Core.Path.{◌≡◌, refl}
use mathlib.Core.Logic.{◌⊎◌, inl, inr}
use Prim.Native.Nat.{ℕ, suc, ◌+◌, ◌*◌, ◌≤◌, ◌<◌, zero}
use native.Mathlib.Omega.{arith}
use mathlib.Core.Bool.{Bool}
use native.Mathlib.Nat.{mul-le-mul_right}
use lib.Dec.{lit≤}
use Rattle.sines.specs.Steps.{bound, rest}
use Rattle.angle_laws.proofs.Out.{place}
use Rattle.angle_laws.proofs.Reduce.{Reduced, reduced}
use Rattle.angle_laws.proofs.Parts.{Angle}
use Rattle.angle_laws.specs.Angle.{rest_top, rest_bot}

-- ---- each eighth, on numbers
abbrev At : ℕ → ℕ → Type 0
At o j = ((o ≡ 0) ⊎ (bound o < place o j * 65536)) × ((place o j * 65536 ≤ bound (suc o)) × ((rest o (place o j * 65536) ≤ j * 1024 + 5700) × (j * 1024 ≤ rest o (place o j * 65536) + 5700)))

at : (o j : ℕ) → o < 4 → j < 13176795 → At o j
unfolding place
at zero j ho hj = (inl refl, (omega arith, (omega arith, omega arith)))
at (suc zero) j ho hj = (inr (omega arith), (omega arith, (omega arith, omega arith)))
at (suc (suc zero)) j ho hj = (inr (omega arith), (omega arith, (omega arith, omega arith)))
at (suc (suc (suc zero))) j ho hj = (inr (omega arith), (omega arith, (omega arith, omega arith)))
at (suc (suc (suc (suc o)))) j ho hj = absurd (omega arith)

scale : (N n d : ℕ) → N * d ≡ 16777216 * n → N * 65536 * d ≡ 1099511627776 * n
scale N n d h = omega arith

-- ---- a = place o j / 2^24 = n / d
pub placed : (f : Bool) (o j n d : ℕ) → o < 4 → j < 13176795 → 0 < d → place o j * d ≡ 16777216 * n → Reduced f n d (place o j * 65536) o
placed f o j n d ho hj dp e =
    let w = at o j ho hj in
    reduced f n d (place o j * 65536) o dp (scale (place o j) n d e) (lt21 o ho) w.0 w.1.0
  where
    lt21 : (o : ℕ) → o < 4 → o < 21
    lt21 o h = omega arith

-- from one fixed-point angle to another near it
pub widen : (A B D R e w z : ℕ) → Angle 17179869184 B D R e → A ≤ B + w → B ≤ A + w → e + w ≤ z → Angle 17179869184 A D R z
widen A B D R e w z an h k le = record {
  low = lo an.low (mul-le-mul_right D h) (mul-le-mul_right D le);
  high = hi an.high (mul-le-mul_right D k) (mul-le-mul_right D le);
}
  where
    lo : B * D ≤ 17179869184 * R + e * D → A * D ≤ (B + w) * D → (e + w) * D ≤ z * D → A * D ≤ 17179869184 * R + z * D
    lo x y v = omega arith

    hi : 17179869184 * R ≤ B * D + e * D → B * D ≤ (A + w) * D → (e + w) * D ≤ z * D → 17179869184 * R ≤ A * D + z * D
    hi x y v = omega arith

pub angle_here : (f : Bool) (o j n d k : ℕ) → o < 4 → j < 13176795 → Angle 17179869184 (rest o (place o j * 65536)) (rest_bot d) (rest_top k n d) 2 → Angle 17179869184 (j * 1024) (rest_bot d) (rest_top k n d) 7168
angle_here f o j n d k ho hj an = let w = at o j ho hj in widen (j * 1024) (rest o (place o j * 65536)) (rest_bot d) (rest_top k n d) 2 5700 7168 an w.1.1.1 w.1.1.0 (lit≤ tt)

pub angle_next : (f : Bool) (o j n d k : ℕ) → o < 4 → j < 13176795 → Angle 17179869184 (rest o (place o j * 65536)) (rest_bot d) (rest_top k n d) 2 → Angle 17179869184 ((j + 1) * 1024) (rest_bot d) (rest_top k n d) 7168
angle_next f o j n d k ho hj an =
    let w = at o j ho hj in
    widen ((j + 1) * 1024) (rest o (place o j * 65536)) (rest_bot d) (rest_top k n d) 2 6724 7168 an (more j (rest o (place o j * 65536)) w.1.1.1) (less j (rest o (place o j * 65536)) w.1.1.0) (lit≤ tt)
  where
    more : (j r : ℕ) → j * 1024 ≤ r + 5700 → (j + 1) * 1024 ≤ r + 6724
    more j r h = omega arith

    less : (j r : ℕ) → r ≤ j * 1024 + 5700 → r ≤ (j + 1) * 1024 + 6724
    less j r h = omega arith
