-- Every measurement of a tree but the one whose clearing it is is listed in it, or stands outside of the open box: of any floats. Assumes nothing.
use mathlib.Core.Path.{◌≡◌, refl, sym, ◌∙◌, subst}
use mathlib.Core.Logic.{◌⊎◌, inl, inr}
use mathlib.Core.Bool.{Bool, true, false, cond, not, ◌&&◌, ◌||◌}
use Prim.Native.Nat.{ℕ, zero, suc, ◌+◌, ◌<◌, ◌≤◌}
use native.Mathlib.Omega.{arith}
use lib.Dec.{T, eqb, ltb, eqb→eq, ltb→lt, T_not, not_T}
use lib.ListN.{length, get_or, length-set, length-replicate}
use lib.Seq.{get_or-set_same, get_or-set_other}
use lib.Ieee.{Float, lt, le}
use Rattle.floats.proofs.Cross.{of_taken, of_left}
use Rattle.floats.proofs.Preorder.{lt_irrefl_f, lt_trans_f, lt_le_trans}
use Rattle.points.specs.declared.Point3.{Point3}
use Rattle.kdtree.specs.declared.BoundingBox.{BoundingBox}
use Rattle.kdtree.specs.Geometry.{byAxis, coord_of, next_axis, with_min, with_max, min_at, max_at}
use Rattle.kdtree.specs.Tree.{Tree, gone, bad, node}
use Rattle.kdtree.proofs.Nodes.{All}
use Rattle.kdtree_laws.proofs.Sides.{Sorted, all_map}
use Rattle.clearing.specs.declared.Clearing.{Clearing}
use Rattle.clearing.specs.Clearing.{holds, far_axis, drawn_in, most, listed, faced, around, met, reaches, cleared}

-- ---- outside of an open box: not past one of its faces, to the inside, on some axis

pub record Out (b : BoundingBox) (x : Point3) : Type 0 where
  pub axis : ℕ
  pub out : T (not (lt (min_at b axis) (coord_of x axis))) ⊎ T (not (lt (coord_of x axis) (max_at b axis)))

-- a box whose faces only went in
pub record Narrower (b c : BoundingBox) : Type 0 where
  pub low : (k : ℕ) (v : Float) → T (not (lt (min_at b k) v)) → T (not (lt (min_at c k) v))
  pub high : (k : ℕ) (v : Float) → T (not (lt v (max_at b k))) → T (not (lt v (max_at c k)))

narrow_refl : (b : BoundingBox) → Narrower b b
narrow_refl b = record { low = λ k v h. h; high = λ k v h. h }

narrow_trans : (a b c : BoundingBox) → Narrower a b → Narrower b c → Narrower a c
narrow_trans a b c m n = record { low = λ k v h. n.low k v (m.low k v h); high = λ k v h. n.high k v (m.high k v h) }

narrow_out : (b c : BoundingBox) (x : Point3) → Narrower b c → Out b x → Out c x
narrow_out b c x n o = go o.out
  where
    go : T (not (lt (min_at b o.axis) (coord_of x o.axis))) ⊎ T (not (lt (coord_of x o.axis) (max_at b o.axis))) → Out c x
    go (inl h) = record { axis = o.axis; out = inl (n.low o.axis (coord_of x o.axis) h) }
    go (inr h) = record { axis = o.axis; out = inr (n.high o.axis (coord_of x o.axis) h) }

-- ---- one face drawn in

-- what is not above a is not above what is above a
above : (a b v : Float) → T (lt a b) → T (not (lt a v)) → T (not (lt b v))
above a b v h k = not_T (lt b v) (λ t. T_not (lt a v) k (lt_trans_f a b v h t))

below : (a b v : Float) → T (lt b a) → T (not (lt v a)) → T (not (lt v b))
below a b v h k = not_T (lt v b) (λ t. T_not (lt v a) k (lt_trans_f v b a t h))

low_in : (b : BoundingBox) (n : ℕ) (w : Float) → T (lt (min_at b n) w) → (k : ℕ) (v : Float) → T (not (lt (min_at b k) v)) → T (not (lt (min_at (with_min b n w) k) v))
unfolding min_at with_min byAxis
low_in b zero w h zero v t = above b.min_x w v h t
low_in b zero w h (suc zero) v t = t
low_in b zero w h (suc (suc k)) v t = t
low_in b (suc zero) w h zero v t = t
low_in b (suc zero) w h (suc zero) v t = above b.min_y w v h t
low_in b (suc zero) w h (suc (suc k)) v t = t
low_in b (suc (suc n)) w h zero v t = t
low_in b (suc (suc n)) w h (suc zero) v t = t
low_in b (suc (suc n)) w h (suc (suc k)) v t = above b.min_z w v h t

high_in : (b : BoundingBox) (n : ℕ) (w : Float) → T (lt w (max_at b n)) → (k : ℕ) (v : Float) → T (not (lt v (max_at b k))) → T (not (lt v (max_at (with_max b n w) k)))
unfolding max_at with_max byAxis
high_in b zero w h zero v t = below b.max_x w v h t
high_in b zero w h (suc zero) v t = t
high_in b zero w h (suc (suc k)) v t = t
high_in b (suc zero) w h zero v t = t
high_in b (suc zero) w h (suc zero) v t = below b.max_y w v h t
high_in b (suc zero) w h (suc (suc k)) v t = t
high_in b (suc (suc n)) w h zero v t = t
high_in b (suc (suc n)) w h (suc zero) v t = t
high_in b (suc (suc n)) w h (suc (suc k)) v t = below b.max_z w v h t

-- the other faces stay, and the one that went in stands where it was put
max_stays : (b : BoundingBox) (n : ℕ) (w : Float) (k : ℕ) → max_at (with_min b n w) k ≡ max_at b k
unfolding max_at with_min byAxis
max_stays b zero w k = refl
max_stays b (suc zero) w k = refl
max_stays b (suc (suc n)) w k = refl

min_stays : (b : BoundingBox) (n : ℕ) (w : Float) (k : ℕ) → min_at (with_max b n w) k ≡ min_at b k
unfolding min_at with_max byAxis
min_stays b zero w k = refl
min_stays b (suc zero) w k = refl
min_stays b (suc (suc n)) w k = refl

min_there : (b : BoundingBox) (n : ℕ) (w : Float) → min_at (with_min b n w) n ≡ w
unfolding min_at with_min byAxis
min_there b zero w = refl
min_there b (suc zero) w = refl
min_there b (suc (suc n)) w = refl

max_there : (b : BoundingBox) (n : ℕ) (w : Float) → max_at (with_max b n w) n ≡ w
unfolding max_at with_max byAxis
max_there b zero w = refl
max_there b (suc zero) w = refl
max_there b (suc (suc n)) w = refl

with_min_lem : (b : BoundingBox) (n : ℕ) (w : Float) → T (lt (min_at b n) w) → Narrower b (with_min b n w)
with_min_lem b n w h = record { low = low_in b n w h; high = λ k v t. subst (λ (z : Float). T (not (lt v z))) (sym (max_stays b n w k)) t }

with_max_lem : (b : BoundingBox) (n : ℕ) (w : Float) → T (lt w (max_at b n)) → Narrower b (with_max b n w)
with_max_lem b n w h = record { low = λ k v t. subst (λ (z : Float). T (not (lt z v))) (sym (min_stays b n w k)) t; high = high_in b n w h }

-- ---- a point met

-- six tests that all hold
six : (a c d e f g : Bool) → ((a && c) && ((d && e) && (f && g))) ≡ true → (T a × T c) × ((T d × T e) × (T f × T g))
six true true true true true true h = ((tt, tt), ((tt, tt), (tt, tt)))
six false c d e f g h = absurd (subst T (sym h) tt)
six true false d e f g h = absurd (subst T (sym h) tt)
six true true false e f g h = absurd (subst T (sym h) tt)
six true true true false f g h = absurd (subst T (sym h) tt)
six true true true true false g h = absurd (subst T (sym h) tt)
six true true true true true false h = absurd (subst T (sym h) tt)

abbrev Past : BoundingBox → Point3 → ℕ → Type 0
Past b x k = T (lt (min_at b k) (coord_of x k)) × T (lt (coord_of x k) (max_at b k))

-- a point inside is past both faces on every axis
inside_at : (b : BoundingBox) (x : Point3) → holds b x ≡ true → (k : ℕ) → Past b x k
unfolding holds min_at max_at coord_of byAxis
inside_at b x h k = go k (six (lt b.min_x x.x) (lt x.x b.max_x) (lt b.min_y x.y) (lt x.y b.max_y) (lt b.min_z x.z) (lt x.z b.max_z) h)
  where
    go : (k : ℕ) → (T (lt b.min_x x.x) × T (lt x.x b.max_x)) × ((T (lt b.min_y x.y) × T (lt x.y b.max_y)) × (T (lt b.min_z x.z) × T (lt x.z b.max_z)))
        → Past b x k
    go zero f = f.0
    go (suc zero) f = f.1.0
    go (suc (suc k)) f = f.1.1

-- a point that is not inside is outside
not_inside : (b : BoundingBox) (x : Point3) → holds b x ≡ false → Out b x
unfolding holds min_at max_at coord_of byAxis
not_inside b x = go (lt b.min_x x.x) (lt x.x b.max_x) (lt b.min_y x.y) (lt x.y b.max_y) (lt b.min_z x.z) (lt x.z b.max_z) refl refl refl refl refl refl
  where
    go : (a c d e f g : Bool) → lt b.min_x x.x ≡ a → lt x.x b.max_x ≡ c → lt b.min_y x.y ≡ d → lt x.y b.max_y ≡ e → lt b.min_z x.z ≡ f
        → lt x.z b.max_z ≡ g → ((a && c) && ((d && e) && (f && g))) ≡ false → Out b x
    go false c d e f g ea ec ed ee ef eg h = record { axis = 0; out = inl (of_left ea) }
    go true false d e f g ea ec ed ee ef eg h = record { axis = 0; out = inr (of_left ec) }
    go true true false e f g ea ec ed ee ef eg h = record { axis = 1; out = inl (of_left ed) }
    go true true true false f g ea ec ed ee ef eg h = record { axis = 1; out = inr (of_left ee) }
    go true true true true false g ea ec ed ee ef eg h = record { axis = 2; out = inl (of_left ef) }
    go true true true true true false ea ec ed ee ef eg h = record { axis = 2; out = inr (of_left eg) }
    go true true true true true true ea ec ed ee ef eg h = absurd (subst (λ (z : Bool). T z) h tt)

-- ---- the places listed

-- room for 24 places, and no more than that are listed
pub record Sound (c : Clearing) : Type 0 where
  pub long : length c.places ≡ 24
  pub few : c.count ≤ 24

pub record Listed (c : Clearing) (n : ℕ) : Type 0 where
  pub at : ℕ
  pub under : at < c.count
  pub is : get_or c.places at 0 ≡ n

-- a clearing further on: its faces only went in, and what was listed is
pub record Later (c d : Clearing) : Type 0 where
  pub narrow : Narrower c.faces d.faces
  pub kept : (n : ℕ) → Listed c n → Listed d n

later_refl : (c : Clearing) → Later c c
later_refl c = record { narrow = narrow_refl c.faces; kept = λ n l. l }

later_trans : (a b c : Clearing) → Later a b → Later b c → Later a c
later_trans a b c l m = record { narrow = narrow_trans a.faces b.faces c.faces l.narrow m.narrow; kept = λ n k. m.kept n (l.kept n k) }

pub around_sound : (p : Point3) (w : Float) → Sound (around p w)
unfolding around
around_sound p w = record { long = length-replicate {A = ℕ} most 0; few = omega arith }

-- one place more
listed_later : (c : Clearing) (n : ℕ) → Later c (listed c n)
unfolding listed
listed_later c n = record { narrow = narrow_refl c.faces; kept = kept }
  where
    kept : (i : ℕ) → Listed c i → Listed (listed c n) i
    kept i l = record { at = l.at; under = under; is = get_or-set_other c.places c.count l.at n 0 other ∙ l.is }
      where
        before : l.at < c.count
        before = l.under

        under : l.at < c.count + 1
        under = omega arith

        other : l.at ≡ c.count → ⊥
        other e = omega arith

listed_sound : (c : Clearing) (n : ℕ) → Sound c → c.count < most → Sound (listed c n)
unfolding listed
listed_sound c n s h = record { long = length-set c.places c.count n ∙ s.long; few = omega arith }

listed_there : (c : Clearing) (n : ℕ) → Sound c → c.count < most → Listed (listed c n) n
unfolding listed
listed_there c n s h = record { at = c.count; under = omega arith; is = get_or-set_same c.places c.count n 0 inside }
  where
    long : length c.places ≡ 24
    long = s.long

    inside : c.count < length c.places
    inside = omega arith

-- other faces
faced_later : (c : Clearing) (b : BoundingBox) → Narrower c.faces b → Later c (faced c b)
unfolding faced
faced_later c b n = record { narrow = n; kept = λ i l. record { at = l.at; under = l.under; is = l.is } }

faced_sound : (c : Clearing) (b : BoundingBox) → Sound c → Sound (faced c b)
unfolding faced
faced_sound c b s = record { long = s.long; few = s.few }

module _ (own : ℕ) (p : Point3) where
  -- its own, or listed, or outside
  abbrev pub Standing : Clearing → ℕ → Point3 → Type 0
  Standing c i x = (i ≡ own) ⊎ (Listed c i ⊎ Out c.faces x)

  later_standing : (c d : Clearing) → Later c d → (i : ℕ) (x : Point3) → Standing c i x → Standing d i x
  later_standing c d m i x (inl e) = inl e
  later_standing c d m i x (inr (inl l)) = inr (inl (m.kept i l))
  later_standing c d m i x (inr (inr o)) = inr (inr (narrow_out c.faces d.faces x m.narrow o))

  all_later : (c d : Clearing) → Later c d → (t : Tree) → All (Standing c) t → All (Standing d) t
  all_later c d m t a = all_map (Standing c) (Standing d) t (later_standing c d m) a

  record Met (n : ℕ) (x : Point3) (c d : Clearing) : Type 0 where
    later : Later c d
    sound : Sound d
    stands : Standing d n x

  drawn : (x : Point3) (b : BoundingBox) → holds b x ≡ true → Narrower b (drawn_in b p x) × Out (drawn_in b p x) x
  unfolding drawn_in
  drawn x b h = go (lt (coord_of x n) (coord_of p n))
    where
      n : ℕ
      n = far_axis p x

      v : Float
      v = coord_of x n

      go : (g : Bool) → Narrower b (cond g (with_min b n v) (with_max b n v)) × Out (cond g (with_min b n v) (with_max b n v)) x
      go true = (with_min_lem b n v (inside_at b x h n).0, record { axis = n; out = inl (subst (λ (z : Float). T (not (lt z v))) (sym (min_there b n v)) (lt_irrefl_f v)) })
      go false = (with_max_lem b n v (inside_at b x h n).1, record { axis = n; out = inr (subst (λ (z : Float). T (not (lt v z))) (sym (max_there b n v)) (lt_irrefl_f v)) })

  put_out : (n : ℕ) (x : Point3) (c : Clearing) → Sound c → holds c.faces x ≡ true → Met n x c (faced c (drawn_in c.faces p x))
  unfolding faced
  put_out n x c s h =
      let d = drawn x c.faces h in
      record { later = faced_later c (drawn_in c.faces p x) d.0; sound = faced_sound c (drawn_in c.faces p x) s; stands = inr (inr d.1) }

  meeting : (n : ℕ) (x : Point3) (c : Clearing) → Sound c → Met n x c (met own p n x c)
  unfolding met
  meeting n x c s = go (eqb n own) (holds c.faces x) (ltb c.count most) (eqb→eq n own) refl refl
    where
      go : (e h r : Bool) → (T e → n ≡ own) → holds c.faces x ≡ h → ltb c.count most ≡ r
          → Met n x c (cond (e || not h) c (cond r (listed c n) (faced c (drawn_in c.faces p x))))
      go true h r f g k = record { later = later_refl c; sound = s; stands = inl (f tt) }
      go false false r f g k = record { later = later_refl c; sound = s; stands = inr (inr (not_inside c.faces x g)) }
      go false true true f g k =
          let u : c.count < most = ltb→lt c.count most (of_taken k) in
          record { later = listed_later c n; sound = listed_sound c n s u; stands = inr (inl (listed_there c n s u)) }
      go false true false f g k = put_out n x c s g

  -- ---- a whole tree

  abbrev clr : Tree → ℕ → Clearing → Clearing
  clr = cleared own p

  abbrev Goes : Clearing → Clearing → Type 0
  Goes c d = Later c d × Sound d

  goes_trans : (a b c : Clearing) → Goes a b → Goes b c → Goes a c
  goes_trans a b c f g = (later_trans a b c f.0 g.0, g.1)

  -- the other side, gone to or not
  maybe : (g : Bool) (c d : Clearing) → Sound c → Goes c d → Goes c (cond g d c)
  maybe true c d s n = n
  maybe false c d s n = (later_refl c, s)

  pub cleared_later : (t : Tree) (axis : ℕ) (c : Clearing) → Sound c → Later c (cleared own p t axis c) × Sound (cleared own p t axis c)
  unfolding cleared
  cleared_later gone axis b s = (later_refl b, s)
  cleared_later bad axis b s = (later_refl b, s)
  cleared_later (node n x l r) axis b s =
      goes_trans b (met own p n x b) _ (m.later, m.sound) (go (lt (coord_of p axis) (coord_of x axis)) (cleared_later l (next_axis axis)) (cleared_later r (next_axis axis)))
    where
      m : Met n x b (met own p n x b)
      m = meeting n x b s

      b1 : Clearing
      b1 = met own p n x b

      go : (g : Bool) → ((c : Clearing) → Sound c → Goes c (clr l (next_axis axis) c)) → ((c : Clearing) → Sound c → Goes c (clr r (next_axis axis) c))
          → (let c = cond g (clr l) (clr r) (next_axis axis) b1 in Goes b1 (cond (reaches g c.faces axis (coord_of x axis)) (cond g (clr r) (clr l) (next_axis axis) c) c))
      go true il ir =
          let c = clr l (next_axis axis) b1 in
          let k = il b1 m.sound in
          goes_trans b1 c _ k (maybe (reaches true c.faces axis (coord_of x axis)) c (clr r (next_axis axis) c) k.1 (ir c k.1))
      go false il ir =
          let c = clr r (next_axis axis) b1 in
          let k = ir b1 m.sound in
          goes_trans b1 c _ k (maybe (reaches false c.faces axis (coord_of x axis)) c (clr l (next_axis axis) c) k.1 (il c k.1))

  pub cleared_sound : (t : Tree) (axis : ℕ) (c : Clearing) → Sound c → Sound (cleared own p t axis c)
  cleared_sound t axis c s = (cleared_later t axis c s).1

  -- a side that the box does not reach
  not_right : (c : Clearing) (axis : ℕ) (v : Float) (t : Tree) → T (le (max_at c.faces axis) v) → All (λ k y. T (not (lt (coord_of y axis) v))) t → All (Standing c) t
  not_right c axis v t h a =
      let b = c.faces in
      all_map (λ k y. T (not (lt (coord_of y axis) v))) (Standing c) t
      (λ k y s. inr (inr (record { axis = axis; out = inr (not_T (lt (coord_of y axis) (max_at b axis)) (λ z. T_not (lt (coord_of y axis) v) s (lt_le_trans (coord_of y axis) (max_at b axis) v z h))) }))) a

  not_left : (c : Clearing) (axis : ℕ) (v : Float) (t : Tree) → T (not (lt (min_at c.faces axis) v)) → All (λ k y. T (lt (coord_of y axis) v)) t → All (Standing c) t
  not_left c axis v t h a =
      let b = c.faces in
      all_map (λ k y. T (lt (coord_of y axis) v)) (Standing c) t
      (λ k y s. inr (inr (record { axis = axis; out = inl (not_T (lt (min_at b axis) (coord_of y axis)) (λ z. T_not (lt (min_at b axis) v) h (lt_trans_f (min_at b axis) (coord_of y axis) v z s))) }))) a

  not_not : (b : Bool) → not b ≡ false → T b
  not_not true e = tt
  not_not false e = absurd (subst T e tt)

  -- ALL BUT ITS OWN ARE LISTED OR OUTSIDE
  pub cleared_out : (t : Tree) (axis : ℕ) (c : Clearing) → Sound c → Sorted t axis → All (Standing (cleared own p t axis c)) t
  unfolding cleared reaches
  cleared_out gone axis b sb s = tt
  cleared_out bad axis b sb s = tt
  cleared_out (node n x l r) axis b sb s =
      go (lt (coord_of p axis) v) (cleared_out l (next_axis axis)) (cleared_out r (next_axis axis))
    where
      v : Float
      v = coord_of x axis

      m : Met n x b (met own p n x b)
      m = meeting n x b sb

      b1 : Clearing
      b1 = met own p n x b

      -- with what the other side left: node, near side, other side
      made : (c d : Clearing) (near far : Tree) → Later b1 c → Later c d → All (Standing c) near → All (Standing d) far
          → Standing d n x × (All (Standing d) near × All (Standing d) far)
      made c d near far i k a f = (later_standing b1 d (later_trans b1 c d i k) n x m.stands, (all_later c d k near a, f))

      right_side : (c : Clearing) (g : Bool) → not (le (max_at c.faces axis) v) ≡ g → ((c : Clearing) → Sound c → All (Standing (clr r (next_axis axis) c)) r)
          → Goes b1 c → All (Standing c) l → All (Standing (cond g (clr r (next_axis axis) c) c)) (node n x l r)
      right_side c true e ir k a = made c (clr r (next_axis axis) c) l r k.0 (cleared_later r (next_axis axis) c k.1).0 a (ir c k.1)
      right_side c false e ir k a = made c c l r k.0 (later_refl c) a (not_right c axis v r (not_not (le (max_at c.faces axis) v) e) s.0.1)

      left_side : (c : Clearing) (g : Bool) → lt (min_at c.faces axis) v ≡ g → ((c : Clearing) → Sound c → All (Standing (clr l (next_axis axis) c)) l)
          → Goes b1 c → All (Standing c) r → All (Standing (cond g (clr l (next_axis axis) c) c)) (node n x l r)
      left_side c true e il k a =
          let z = made c (clr l (next_axis axis) c) r l k.0 (cleared_later l (next_axis axis) c k.1).0 a (il c k.1) in
          (z.0, (z.1.1, z.1.0))
      left_side c false e il k a = let z = made c c r l k.0 (later_refl c) a (not_left c axis v l (of_left e) s.0.0) in (z.0, (z.1.1, z.1.0))

      go : (g : Bool) → ((c : Clearing) → Sound c → Sorted l (next_axis axis) → All (Standing (clr l (next_axis axis) c)) l)
          → ((c : Clearing) → Sound c → Sorted r (next_axis axis) → All (Standing (clr r (next_axis axis) c)) r)
          → (let c = cond g (clr l) (clr r) (next_axis axis) b1 in
          All (Standing (cond (cond g (not (le (max_at c.faces axis) v)) (lt (min_at c.faces axis) v)) (cond g (clr r) (clr l) (next_axis axis) c) c)) (node n x l r))
      go true il ir =
          let c = clr l (next_axis axis) b1 in
          right_side c (not (le (max_at c.faces axis) v)) refl (λ d e. ir d e s.1.1) (cleared_later l (next_axis axis) b1 m.sound) (il b1 m.sound s.1.0)
      go false il ir =
          let c = clr r (next_axis axis) b1 in
          left_side c (lt (min_at c.faces axis) v) refl (λ d e. il d e s.1.0) (cleared_later r (next_axis axis) b1 m.sound) (ir b1 m.sound s.1.1)
