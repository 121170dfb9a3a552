-- What document 01 asks of an arctangent.
use Rattle.std.specs.Prelude.{ℕ, ◌+◌, ◌<◌, ◌*◌, ◌≤◌, max, Bool, true, false, cond, Float, ◌≡◌}
use Rattle.std.specs.Float.Ieee.{neg, up, down}
use Rattle.std.specs.Float.{nan, inf, fin}
use Rattle.angles.specs.Arc.{minus_size, signed_pi32}
use Rattle.angle_laws.specs.Angle.{Ratio, S, C}
use Rattle.sines.specs.Steps.{xor}

-- ± u + ± v > 0
abbrev pub plus_positive : Bool → ℕ → Bool → ℕ → Type 0
plus_positive false u false v = 0 < u + v
plus_positive false u true v = v < u
plus_positive true u false v = u < v
plus_positive true u true v = ⊥

-- |y C(a) - x S(a)| ≤ 2^-18 max(|x|, |y|), with all denominators multiplied out
abbrev pub near_line : Bool → ℕ → ℕ → Bool → ℕ → ℕ → Ratio → Ratio → Type 0
near_line sy ny dy sx nx dx s c =
    minus_size (xor sy c.neg) (ny * dx * (c.top * s.bot)) (xor sx s.neg) (nx * dy * (s.top * c.bot)) * 262144 ≤ max (nx * dy) (ny * dx) * (c.bot * s.bot)

-- x C(a) + y S(a) > 0
abbrev pub forward : Bool → ℕ → ℕ → Bool → ℕ → ℕ → Ratio → Ratio → Type 0
forward sy ny dy sx nx dx s c =
    plus_positive (xor sx c.neg) (nx * dy * (c.top * s.bot)) (xor sy s.neg) (ny * dx * (s.top * c.bot))

-- a is an arctangent of (y, x), all finite, not both zero: |a| ≤ 13176795 / 2^22, the f32 nearest π, and a has y's sign
unfoldable pub IsArc : Float → Float → Float → Type 0
IsArc (fin sy my ey) (fin sx mx ex) (fin sa m e) =
    near_line sy (my * up ey) (down ey) sx (mx * up ex) (down ex) (S (fin sa m e)) (C (fin sa m e))
    × (forward sy (my * up ey) (down ey) sx (mx * up ex) (down ex) (S (fin sa m e)) (C (fin sa m e))
    × ((m * up e * 4194304 ≤ 13176795 * down e) × (sa ≡ sy)))
IsArc (fin sy my ey) (fin sx mx ex) nan = ⊥
IsArc (fin sy my ey) (fin sx mx ex) (inf s) = ⊥
IsArc (fin sy my ey) nan a = ⊥
IsArc (fin sy my ey) (inf s) a = ⊥
IsArc nan x a = ⊥
IsArc (inf s) x a = ⊥

-- all of document 01's rules, for finite y and x: a zero y gives y itself for x positive or +0, and ± the f32 nearest π for x negative or -0; not both zero, an arctangent
unfoldable pub Arctan : Float → Float → Float → Type 0
Arctan (fin sy my ey) (fin sx mx ex) r = (my ≡ 0 → r ≡ cond sx (signed_pi32 sy) (fin sy my ey)) × ((my + mx ≡ 0 → ⊥) → IsArc (fin sy my ey) (fin sx mx ex) r)
Arctan (fin sy my ey) nan r = ⊥
Arctan (fin sy my ey) (inf s) r = ⊥
Arctan nan x r = ⊥
Arctan (inf s) x r = ⊥
