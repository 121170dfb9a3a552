-- THE THEOREM that no angle of a neighbour search is refused, for every allowed angle step and a measurement whose coordinates are of magnitude at most 10001.
-- A search goes at most 90 degrees: all its steps but the last stay below 45. Assumes nothing.
use mathlib.Core.Path.{◌≡◌, refl, sym, subst}
use mathlib.Core.Bool.{Bool, true, false, cond}
use Prim.Native.Nat.{ℕ, zero, suc, ◌*◌, ◌≤◌, ◌<◌}
use native.Mathlib.Nat.{mul-pos, mul-le-mul_right}
use native.Mathlib.Omega.{arith}
use borrow.Author.Tests.{ne_eqb, lt-ltb, ltb-true, ltb-false}
use lib.Dec.{T, eqb, eqb→eq, ltb, ltb→lt}
use lib.IntN.{ℤ, pos}
use lib.Ieee.{Float, nan, inf, fin, binary32, up, down, round, neg, add, mul, div, le, lt, eq, fits, is_nan, of_int, of_bits}
use lib.Ieee.Back.{round_whole}
use lib.Ieee.Exact.{HasValue}
use lib.Ieee.Fits.{up_pos, down_pos}
use lib.Ieee.Order.{round_mono, le_of_values}
use lib.Ieee.Scale.{finite}
use Rattle.floats.specs.Floats.{zero32, abs_of, clamp_of}
use Rattle.floats.proofs.Cross.{le→cross, of_left}
use Rattle.floats.proofs.Ops.{finite_number}
use Rattle.floats.proofs.Preorder.{le_trans_f, not_lt→le}
use Rattle.floats.proofs.Ceiling.{ceil_least}
use Rattle.points.specs.declared.Point3.{Point3}
use Rattle.limits.specs.Allowed.{nearest32, within, angle_step_ok}
use Rattle.limits.proofs.Ends.{angle_step_finite}
use Rattle.coords.specs.declared.Spherical.{Spherical}
use Rattle.coords.specs.Coords.{full32}
use Rattle.coords.specs.Moderate.{Moderate}
use Rattle.coords.proofs.Size.{Small, small_wider, small_round, small_mul, small_mul_neg, small_add, between_small}
use Rattle.coord_laws.proofs.Inside.{small_within}
use Rattle.coord_laws.proofs.Answered.{turn_answered, azimuth_small, elevation_small, spherical_answered}
use Rattle.neighbors.specs.Neighbors.{after, tilted, moved, step_of, angle_cap, cap_of}
use Rattle.neighbor_laws.specs.Answered.{looks, SearchAnswered}
use Rattle.neighbor_laws.proofs.Caps.{turn45, high, above, cap_most}

-- ---- how far a search goes

-- the step m 2^e, as the fraction m up / down
module _ (m : ℕ) (e : ℤ) (some : 0 < m) where
  quotient : div binary32 turn45 (fin false m e) ≡ round binary32 false (45 * 1 * down e) (m * up e * 1)
  unfolding div
  quotient = rw (ne_eqb m 0 (λ z. omega arith)) refl

  -- 45 / step, rounded, is at most a whole s where s steps are at least 45
  rounded_most : (s : ℕ) → s ≤ 450 → 45 * down e ≤ s * (m * up e) → T (le (div binary32 turn45 (fin false m e)) (fin false s (pos 0)))
  rounded_most s b h =
      subst (λ (z : Float). T (le z (fin false s (pos 0)))) (sym quotient)
      (le_trans_f _ (round binary32 false s 1) (fin false s (pos 0))
      (round_mono binary32 (45 * 1 * down e) (m * up e * 1) s 1 (mul-pos (mul-pos some (up_pos e)) (omega arith)) (omega arith) (ones (down e) (m * up e) s h))
      (le_of_values (round binary32 false s 1) (fin false s (pos 0)) s 1 s 1 (omega arith) (omega arith) (round_whole binary32 false s (omega arith)) (refl, omega arith) (omega arith)))
    where
      ones : (d n s : ℕ) → 45 * d ≤ s * n → 45 * 1 * d * 1 ≤ s * (n * 1)
      ones d n s h = omega arith

  -- so fewer steps than the cap stay below 45
  below_45 : (s : ℕ) → s ≤ 450 → s < angle_cap (fin false m e) → s * (m * up e) < 45 * down e
  unfolding angle_cap of_bits
  below_45 s b h = go (ltb (s * (m * up e)) (45 * down e)) refl
    where
      go : (t : Bool) → ltb (s * (m * up e)) (45 * down e) ≡ t → s * (m * up e) < 45 * down e
      go true q = ltb-true _ _ q
      go false q = let c : angle_cap (fin false m e) ≤ s = ceil_least (div binary32 turn45 (fin false m e)) s (rounded_most s b (ltb-false _ _ q)) in absurd (omega arith)

  -- and the cap itself does not go beyond 90
  reach_90 : (s : ℕ) → s ≤ 451 → s ≤ angle_cap (fin false m e) → m * up e ≤ 45 * down e → s * (m * up e) ≤ 90 * down e
  reach_90 zero b h k = omega arith
  reach_90 (suc s) b h k = more s (m * up e) (down e) (below_45 s (omega arith) h) k
    where
      more : (s n d : ℕ) → s * n < 45 * d → n ≤ 45 * d → suc s * n ≤ 90 * d
      more s n d h k = omega arith

-- ---- the same as floats

-- a whole number s
whole_small : (w : Float) (s : ℕ) → HasValue w false s 1 → s ≤ 450 → Small (nearest32 450 1) w
unfolding abs_of
whole_small nan s v h = absurd v
whole_small (inf t) s v h = absurd v
whole_small (fin true k g) s v h = absurd (subst T v.0 tt)
whole_small (fin false k g) s v h = record { held = tt; most = le_of_values (fin false k g) (nearest32 450 1) s 1 450 1 (omega arith) (omega arith) v (round_whole binary32 false 450 (omega arith)) (omega arith) }

-- times a step m 2^e, where that is at most 90
product_small : (m : ℕ) (e : ℤ) (w : Float) (s : ℕ) → HasValue w false s 1 → s * (m * up e) ≤ 90 * down e → Small (nearest32 90 1) (mul binary32 (fin false m e) w)
unfolding mul round
product_small m e nan s v h = absurd v
product_small m e (inf t) s v h = absurd v
product_small m e (fin true k g) s v h = absurd (subst T v.0 tt)
product_small m e (fin false k g) s v h =
    small_round binary32 false (m * up e * (k * up g)) (down e * down g) 45 (pos 1) (mul-pos (down_pos e) (down_pos g)) (unfold fits in tt) (scaled (m * up e) (k * up g) s (down e) (down g) v.1 h)
  where
    scaled : (n q s d g : ℕ) → q * 1 ≡ s * g → s * n ≤ 90 * d → n * q * 1 ≤ 45 * 2 * (d * g)
    scaled n q s d g v h = let k : s * n * g ≤ 90 * d * g = mul-le-mul_right g h in let z : q ≡ s * g = omega arith in rw z (omega arith)

step_most : (m : ℕ) (e : ℤ) → T (le (fin false m e) (nearest32 45 1)) → m * up e ≤ 45 * down e
unfolding round
step_most m e h = omega (arith, le→cross (fin false m e) (fin false 45 (pos 0)) tt tt h)

whole : (s : ℕ) → s ≤ 450 → HasValue (of_int binary32 (pos s)) false s 1
unfolding of_int
whole s h = round_whole binary32 false s (omega arith)

-- s steps forward, s steps back, and s that do not turn
forth : (angle : Float) → angle_step_ok angle ≡ true → (s : ℕ) → s ≤ angle_cap angle → Small (nearest32 90 1) (mul binary32 angle (of_int binary32 (pos s)))
forth nan ok s h = absurd (above nan ok)
forth (inf t) ok s h = absurd (above (inf t) ok)
forth (fin true m e) ok s h = absurd (above (fin true m e) ok)
forth (fin false m e) ok s h =
    let c = cap_most (fin false m e) ok in
    product_small m e (of_int binary32 (pos s)) s (whole s (omega arith)) (reach_90 m e (ltb→lt 0 m (above (fin false m e) ok)) s (omega arith) h (step_most m e (high (fin false m e) ok)))

back : (angle : Float) → angle_step_ok angle ≡ true → (s : ℕ) → s ≤ angle_cap angle → Small (nearest32 90 1) (mul binary32 (neg angle) (of_int binary32 (pos s)))
unfolding round
back angle ok s h =
    let c = cap_most angle ok in
    small_mul_neg binary32 (nearest32 90 1) angle (of_int binary32 (pos s)) tt (angle_step_finite angle ok) (whole_small (of_int binary32 (pos s)) s (whole s (omega arith)) (omega arith)).held (forth angle ok s h)

still : (s : ℕ) → s ≤ 450 → Small (nearest32 90 1) (mul binary32 zero32 (of_int binary32 (pos s)))
unfolding mul round le lt eq abs_of
still s h = small_mul binary32 zero32 (nearest32 450 1) (nearest32 90 1) zero32 (of_int binary32 (pos s)) tt tt tt tt (record { held = tt; most = tt }) (whole_small (of_int binary32 (pos s)) s (whole s h) h)

-- ---- six directions

-- s steps of it turn by at most 90 degrees, either way
record Reaches (s : ℕ) (t : Spherical) : Type 0 where
  azimuth : Small (nearest32 90 1) (mul binary32 t.azimuth (of_int binary32 (pos s)))
  elevation : Small (nearest32 90 1) (mul binary32 t.elevation (of_int binary32 (pos s)))

pick : (s : ℕ) (b : Bool) (x y : Spherical) → (T b → Reaches s x) → Reaches s y → Reaches s (cond b x y)
pick s true x y f r = f tt
pick s false x y f r = r

module _ (angle radius : Float) (ok : angle_step_ok angle ≡ true) where
  cap_turns : (d i s : ℕ) → T (eqb d i) → i < 4 → s ≤ cap_of d angle → s ≤ angle_cap angle
  unfolding cap_of
  cap_turns d i s t l h = let e : d ≡ i = eqb→eq d i t in rw (lt-ltb d 4 (omega arith)) at h

  cap_any : (d s : ℕ) → s ≤ cap_of d angle → s ≤ 450
  unfolding cap_of
  cap_any d s h = go (ltb d 4) h
    where
      go : (b : Bool) → s ≤ cond b (angle_cap angle) 100 → s ≤ 450
      go true h = omega (arith, cap_most angle ok)
      go false h = omega arith

  reaches : (d s : ℕ) → s ≤ cap_of d angle → Reaches s (step_of d angle radius)
  unfolding step_of
  reaches d s h =
      let none = still s (cap_any d s h) in
      pick s (eqb d 0) _ _ (λ t. record { azimuth = forth angle ok s (cap_turns d 0 s t (omega arith) h); elevation = none })
      (pick s (eqb d 1) _ _ (λ t. record { azimuth = back angle ok s (cap_turns d 1 s t (omega arith) h); elevation = none })
      (pick s (eqb d 2) _ _ (λ t. record { azimuth = none; elevation = forth angle ok s (cap_turns d 2 s t (omega arith) h) })
      (pick s (eqb d 3) _ _ (λ t. record { azimuth = none; elevation = back angle ok s (cap_turns d 3 s t (omega arith) h) })
      (pick s (eqb d 4) _ _ (λ t. record { azimuth = none; elevation = none }) (record { azimuth = none; elevation = none })))))

-- ---- where a step looks

turned_small : (v t : Float) → Small full32 v → Small (nearest32 90 1) t → Small (nearest32 450 1) (add binary32 v t)
unfolding round add of_bits le lt eq
turned_small v t h k = small_add binary32 full32 (nearest32 90 1) (nearest32 450 1) v t tt tt tt tt h k

raised_small : (v t : Float) → Small (nearest32 180 1) v → Small (nearest32 90 1) t → Small (nearest32 270 1) (add binary32 v t)
unfolding round add le lt eq
raised_small v t h k = small_add binary32 (nearest32 180 1) (nearest32 90 1) (nearest32 270 1) v t tt tt tt tt h k

tilted_small : (v : Float) → T (finite v) → Small (nearest32 90 1) (tilted v)
unfolding tilted clamp_of
tilted_small v f = go (lt v lo) (lt hi v) refl refl
  where
    lo : Float
    lo = of_bits binary32 0xc2b40000

    hi : Float
    hi = of_bits binary32 0x42b40000

    go : (a b : Bool) → lt v lo ≡ a → lt hi v ≡ b → Small (nearest32 90 1) (cond a lo (cond b hi v))
    go true b p q = unfold round of_bits le lt eq abs_of in record { held = tt; most = tt }
    go false true p q = unfold round of_bits le lt eq abs_of in record { held = tt; most = tt }
    go false false p q = between_small (nearest32 90 1) v f
        (unfold round neg of_bits is_nan in not_lt→le v lo (finite_number v f) tt (of_left p))
        (unfold round of_bits is_nan in not_lt→le hi v tt (finite_number v f) (of_left q))

wider_450 : (v : Float) → Small (nearest32 450 1) v → Small (nearest32 720 1) v
unfolding round le lt eq
wider_450 v h = small_wider (nearest32 450 1) (nearest32 720 1) v tt h

wider_90 : (v : Float) → Small (nearest32 90 1) v → Small (nearest32 720 1) v
unfolding round le lt eq
wider_90 v h = small_wider (nearest32 90 1) (nearest32 720 1) v tt h

within_450 : (v : Float) → Small (nearest32 450 1) v → within 450 1 v ≡ true
unfolding round neg le lt eq
within_450 v h = small_within 450 1 v tt tt h

within_90 : (v : Float) → Small (nearest32 90 1) v → within 90 1 v ≡ true
unfolding round neg le lt eq
within_90 v h = small_within 90 1 v tt tt h

module _ (angle radius : Float) (ok : angle_step_ok angle ≡ true) (p : Point3) where
  looks_azimuth : (d s : ℕ) → s ≤ cap_of d angle → Small (nearest32 450 1) (looks angle radius p d s).azimuth
  unfolding moved after
  looks_azimuth d s h = turned_small _ _ (azimuth_small p) (reaches angle radius ok d s h).azimuth

  looks_elevation : (d s : ℕ) → s ≤ cap_of d angle → Small (nearest32 90 1) (looks angle radius p d s).elevation
  unfolding moved after
  looks_elevation d s h = tilted_small _ (raised_small _ _ (elevation_small p) (reaches angle radius ok d s h).elevation).held

  -- EACH STEP OF EACH SEARCH IS ANSWERED
  pub search_answered : Moderate p → SearchAnswered angle radius p
  search_answered i = record {
    start = spherical_answered p i;
    azimuth = λ d s h. within_450 _ (looks_azimuth d s h);
    elevation = λ d s h. within_90 _ (looks_elevation d s h);
    step = λ d s h. record { azimuth = turn_answered _ (wider_450 _ (looks_azimuth d s h)); elevation = turn_answered _ (wider_90 _ (looks_elevation d s h)) };
  }
