-- What stands outside of an open box is no nearer to a query inside than a face is: of any floats, by the box lemma for the half of space behind the face. Assumes nothing.
use mathlib.Core.Path.{◌≡◌, refl, sym, ap, ◌∙◌, subst}
use mathlib.Core.Logic.{◌⊎◌, inl, inr}
use mathlib.Core.Bool.{Bool, true, false, not, ◌&&◌, ◌||◌}
use Prim.Native.Nat.{ℕ, zero, suc}
use lib.Dec.{T, eqb, eqb→eq, T_not}
use lib.Ieee.{Float, nan, inf, fin, binary32, add, lt}
use lib.Ieee.Bits.{is_true}
use Rattle.floats.specs.Floats.{zero32}
use Rattle.floats.proofs.Cross.{of_taken, of_left}
use Rattle.floats.proofs.Preorder.{lt_irrefl_f, lt_trans_f, number, lt_numbers, not_lt→le, lt_le_trans}
use Rattle.points.specs.declared.Point3.{Point3}
use Rattle.points.specs.Points.{gap, dist_sq_of}
use Rattle.kdtree.specs.declared.BoundingBox.{BoundingBox}
use Rattle.kdtree.specs.Geometry.{byAxis, coord_of, box_at, outside, box_dist_sq, with_min, with_max, min_at, max_at}
use Rattle.kdtree_laws.proofs.Box.{Between, box_under, from_zero}
use Rattle.clearing.specs.Clearing.{nearer_than_faces, alone_in, none}
use Rattle.clearing_laws.proofs.Cleared.{Out}

-- ---- nothing is beyond infinity

lt_most : (x : Float) → lt (inf false) x ≡ false
unfolding lt
lt_most nan = refl
lt_most (inf s) = refl
lt_most (fin s m e) = refl

lt_least : (x : Float) → lt x (inf true) ≡ false
unfolding lt
lt_least nan = refl
lt_least (inf true) = refl
lt_least (inf false) = refl
lt_least (fin s m e) = refl

-- all of space
unfoldable pub everywhere : BoundingBox
everywhere = record { min_x = inf true; min_y = inf true; min_z = inf true; max_x = inf false; max_y = inf false; max_z = inf false }

free : (x : Float) → Between (inf true) (inf false) x
free x = (of_left (lt_least x), of_left (lt_most x))

-- an axis without faces adds nothing, one face adds the gap to it
no_face : (r q : Float) → outside r (inf true) (inf false) q ≡ r
unfolding outside
no_face r q = simp (lt_least q, lt_most q)

below_face : (r lo q : Float) → lt lo q ≡ true → outside r (inf true) lo q ≡ add binary32 r (gap lo q)
unfolding outside
below_face r lo q h = simp (lt_least q, h)

above_face : (r hi q : Float) → lt q hi ≡ true → outside r hi (inf false) q ≡ add binary32 r (gap hi q)
unfolding outside
above_face r hi q h = simp h

-- ---- behind a face

-- what is behind the lower face lo on the axis n
behind_low : (n : ℕ) (lo : Float) (x q : Point3) → T (not (lt lo (coord_of x n))) → lt lo (coord_of q n) ≡ true → T (not (lt (dist_sq_of x q) (gap lo (coord_of q n))))
unfolding everywhere with_max coord_of byAxis box_dist_sq
behind_low zero lo x q h e =
    subst (λ (z : Float). T (not (lt (dist_sq_of x q) z)))
    (no_face _ q.z ∙ no_face _ q.y ∙ below_face zero32 lo q.x e ∙ from_zero lo q.x)
    (box_under (with_max everywhere 0 lo) x q (record { on_x_lem = (of_left (lt_least x.x), h); on_y_lem = free x.y; on_z = free x.z }))
behind_low (suc zero) lo x q h e =
    subst (λ (z : Float). T (not (lt (dist_sq_of x q) z)))
    (no_face _ q.z ∙ below_face _ lo q.y e ∙ ap (λ (r : Float). add binary32 r (gap lo q.y)) (no_face zero32 q.x) ∙ from_zero lo q.y)
    (box_under (with_max everywhere 1 lo) x q (record { on_x_lem = free x.x; on_y_lem = (of_left (lt_least x.y), h); on_z = free x.z }))
behind_low (suc (suc n)) lo x q h e =
    subst (λ (z : Float). T (not (lt (dist_sq_of x q) z)))
    (below_face _ lo q.z e ∙ ap (λ (r : Float). add binary32 r (gap lo q.z)) (no_face _ q.y ∙ no_face zero32 q.x) ∙ from_zero lo q.z)
    (box_under (with_max everywhere 2 lo) x q (record { on_x_lem = free x.x; on_y_lem = free x.y; on_z = (of_left (lt_least x.z), h) }))

behind_high : (n : ℕ) (hi : Float) (x q : Point3) → T (not (lt (coord_of x n) hi)) → lt (coord_of q n) hi ≡ true → T (not (lt (dist_sq_of x q) (gap hi (coord_of q n))))
unfolding everywhere with_min coord_of byAxis box_dist_sq
behind_high zero hi x q h e =
    subst (λ (z : Float). T (not (lt (dist_sq_of x q) z)))
    (no_face _ q.z ∙ no_face _ q.y ∙ above_face zero32 hi q.x e ∙ from_zero hi q.x)
    (box_under (with_min everywhere 0 hi) x q (record { on_x_lem = (h, of_left (lt_most x.x)); on_y_lem = free x.y; on_z = free x.z }))
behind_high (suc zero) hi x q h e =
    subst (λ (z : Float). T (not (lt (dist_sq_of x q) z)))
    (no_face _ q.z ∙ above_face _ hi q.y e ∙ ap (λ (r : Float). add binary32 r (gap hi q.y)) (no_face zero32 q.x) ∙ from_zero hi q.y)
    (box_under (with_min everywhere 1 hi) x q (record { on_x_lem = free x.x; on_y_lem = (h, of_left (lt_most x.y)); on_z = free x.z }))
behind_high (suc (suc n)) hi x q h e =
    subst (λ (z : Float). T (not (lt (dist_sq_of x q) z)))
    (above_face _ hi q.z e ∙ ap (λ (r : Float). add binary32 r (gap hi q.z)) (no_face _ q.y ∙ no_face zero32 q.x) ∙ from_zero hi q.z)
    (box_under (with_min everywhere 2 hi) x q (record { on_x_lem = free x.x; on_y_lem = free x.y; on_z = (h, of_left (lt_most x.z)) }))

-- ---- the test

pub record Faced (d : Float) (b : BoundingBox) (q : Point3) (k : ℕ) : Type 0 where
  pub low : lt (min_at b k) (coord_of q k) ≡ true
  pub high : lt (coord_of q k) (max_at b k) ≡ true
  pub to_low : lt d (gap (min_at b k) (coord_of q k)) ≡ true
  pub to_high : lt d (gap (max_at b k) (coord_of q k)) ≡ true

four : (a c d e : Bool) → ((a && c) && (d && e)) ≡ true → (a ≡ true) × (c ≡ true) × (d ≡ true) × (e ≡ true)
four true true true true h = (refl, refl, refl, refl)
four false c d e h = absurd (subst T (sym h) tt)
four true false d e h = absurd (subst T (sym h) tt)
four true true false e h = absurd (subst T (sym h) tt)
four true true true false h = absurd (subst T (sym h) tt)

pub record Tested (b : BoundingBox) (own : ℕ) (p root q : Point3) : Type 0 where
  pub start : (own ≡ 0) ⊎ (lt (dist_sq_of p q) (dist_sq_of root q) ≡ true)
  pub faces : (k : ℕ) → Faced (dist_sq_of p q) b q k

split : (a x y z : Bool) → (a && (x && (y && z))) ≡ true → (a ≡ true) × (x ≡ true) × (y ≡ true) × (z ≡ true)
split true true true true h = (refl, refl, refl, refl)
split false x y z h = absurd (subst T (sym h) tt)
split true false y z h = absurd (subst T (sym h) tt)
split true true false z h = absurd (subst T (sym h) tt)
split true true true false h = absurd (subst T (sym h) tt)

either_one : (a c : Bool) → (a || c) ≡ true → (a ≡ true) ⊎ (c ≡ true)
either_one true c h = inl refl
either_one false c h = inr h

pub tested : (b : BoundingBox) (own : ℕ) (p root q : Point3) → alone_in b own p root q ≡ true → Tested b own p root q
unfolding alone_in nearer_than_faces min_at max_at coord_of byAxis
tested b own p root q h =
    let d = dist_sq_of p q in
    let s = split (eqb own 0 || lt d (dist_sq_of root q)) (nearer_than_faces d b.min_x b.max_x q.x) (nearer_than_faces d b.min_y b.max_y q.y) (nearer_than_faces d b.min_z b.max_z q.z) h in
    let x = four (lt b.min_x q.x) (lt q.x b.max_x) (lt d (gap b.min_x q.x)) (lt d (gap b.max_x q.x)) s.1 in
    let y = four (lt b.min_y q.y) (lt q.y b.max_y) (lt d (gap b.min_y q.y)) (lt d (gap b.max_y q.y)) s.2 in
    let z = four (lt b.min_z q.z) (lt q.z b.max_z) (lt d (gap b.min_z q.z)) (lt d (gap b.max_z q.z)) s.3 in
    record { start = root_part (either_one (eqb own 0) (lt d (dist_sq_of root q)) s.0); faces = at x y z }
  where
    root_part : (eqb own 0 ≡ true) ⊎ (lt (dist_sq_of p q) (dist_sq_of root q) ≡ true) → (own ≡ 0) ⊎ (lt (dist_sq_of p q) (dist_sq_of root q) ≡ true)
    root_part (inl e) = inl (eqb→eq own 0 (of_taken e))
    root_part (inr e) = inr e

    at : (lt b.min_x q.x ≡ true) × (lt q.x b.max_x ≡ true) × (lt (dist_sq_of p q) (gap b.min_x q.x) ≡ true) × (lt (dist_sq_of p q) (gap b.max_x q.x) ≡ true)
        → (lt b.min_y q.y ≡ true) × (lt q.y b.max_y ≡ true) × (lt (dist_sq_of p q) (gap b.min_y q.y) ≡ true) × (lt (dist_sq_of p q) (gap b.max_y q.y) ≡ true)
        → (lt b.min_z q.z ≡ true) × (lt q.z b.max_z ≡ true) × (lt (dist_sq_of p q) (gap b.min_z q.z) ≡ true) × (lt (dist_sq_of p q) (gap b.max_z q.z) ≡ true)
        → (k : ℕ) → Faced (dist_sq_of p q) b q k
    at x y z zero = record { low = x.0; high = x.1; to_low = x.2; to_high = x.3 }
    at x y z (suc zero) = record { low = y.0; high = y.1; to_low = y.2; to_high = y.3 }
    at x y z (suc (suc k)) = record { low = z.0; high = z.1; to_low = z.2; to_high = z.3 }

-- ---- so what is outside is farther than p

farther : (d g e : Float) → lt d g ≡ true → T (not (lt e g)) → T (number e) → lt d e ≡ true
farther d g e h k n = is_true (lt d e) (lt_le_trans d g e (of_taken h) (not_lt→le e g n (lt_numbers d g (of_taken h)).1 k))

-- WHAT STANDS OUTSIDE IS FARTHER, unless its distance is no number
pub out_farther : (b : BoundingBox) (own : ℕ) (p root q x : Point3) → Tested b own p root q → Out b x → T (number (dist_sq_of x q)) → lt (dist_sq_of p q) (dist_sq_of x q) ≡ true
out_farther b own p root q x t o n = go o.out
  where
    f : Faced (dist_sq_of p q) b q o.axis
    f = t.faces o.axis

    go : T (not (lt (min_at b o.axis) (coord_of x o.axis))) ⊎ T (not (lt (coord_of x o.axis) (max_at b o.axis))) → lt (dist_sq_of p q) (dist_sq_of x q) ≡ true
    go (inl h) = farther (dist_sq_of p q) _ (dist_sq_of x q) f.to_low (behind_low o.axis (min_at b o.axis) x q h f.low) n
    go (inr h) = farther (dist_sq_of p q) _ (dist_sq_of x q) f.to_high (behind_high o.axis (max_at b o.axis) x q h f.high) n

-- p alone has no inside
pub none_tested : (p : Point3) (own : ℕ) (x root q : Point3) → alone_in (none p).faces own x root q ≡ true → ⊥
unfolding none box_at min_at max_at coord_of byAxis
none_tested p own x root q h =
    let f = (tested (none p).faces own x root q h).faces 0 in
    T_not (lt p.x p.x) (lt_irrefl_f p.x) (lt_trans_f p.x q.x p.x (of_taken f.low) (of_taken f.high))
