-- The source's nearest_rec and the port's search come to the same node, visit by visit, whatever the floats. Assumes nothing.
use mathlib.Core.Path.{◌≡◌, refl, ap, ◌∙◌, subst}
use mathlib.Core.Bool.{Bool, true, false, cond}
use Prim.Native.Nat.{ℕ, suc, ◌+◌, ◌≤◌}
use native.Mathlib.Omega.{arith}
use lib.Ieee.{Float, lt}
use Rattle.points.specs.declared.Point3.{Point3}
use Rattle.points.specs.Points.{dist_sq_of}
use Rattle.kdtree.specs.declared.Best.{Best}
use Rattle.std.specs.Prelude.{Option, None, Some}
use Rattle.kdtree.specs.Geometry.{coord_of, box_dist_sq, with_min, with_max, next_axis, left_first}
use Rattle.kdtree.specs.Tree.{Tree, gone, bad, node}
use Rattle.kdtree.specs.Search.{search, improve, visited, farther, after_near}
use Rattle.kdtree.specs.Unpruned.{size}
use Rattle.kdtree_laws.proofs.Pruned.{Clean, search_left, search_right, improve_visits}
use Rattle.source.specs.Rust.{at, put}
use Rattle.source.specs.Kdtree as source
use Rattle.source.specs.Kdtree.{Link, KdNode, kd_node, some, data_of, current, nearest_rec, nearer_side, farther_side}
use Rattle.source_laws.specs.Drawn.{boxed, flat}
use Rattle.source_laws.proofs.Shapes.{at_coord, dist_same, flat_max, flat_min, box_dist, left_first_lem}

-- rect with the corner of one side replaced
abbrev below : source.BoundingBox → ℕ → Point3 → source.BoundingBox
below rect axis p = record { min = rect.min; max = put rect.max axis (at p axis) }

abbrev above : source.BoundingBox → ℕ → Point3 → source.BoundingBox
above rect axis p = record { min = put rect.min axis (at p axis); max = rect.max }

flat_below : (rect : source.BoundingBox) (axis : ℕ) (p : Point3) → flat (below rect axis p) ≡ with_max (flat rect) axis (coord_of p axis)
flat_below rect axis p = flat_max rect axis (at p axis) ∙ ap (with_max (flat rect) axis) (at_coord p axis)

flat_above : (rect : source.BoundingBox) (axis : ℕ) (p : Point3) → flat (above rect axis p) ≡ with_min (flat rect) axis (coord_of p axis)
flat_above rect axis p = flat_min rect axis (at p axis) ∙ ap (with_min (flat rect) axis) (at_coord p axis)

-- ---- the two orders of the sides

module _ (p : Point3) (axis value : ℕ) (l r : Link) (q : Point3) (b : source.Best) (rect : source.BoundingBox) where
  abbrev here : KdNode
  here = kd_node p axis value l r

  rec_left : left_first q p axis ≡ true
      → nearer_side (some here) q b rect ≡ farther_side r q (current here q (nearer_side l q b (below rect axis p))) (above rect axis p)
  unfolding nearest_rec
  rec_left e = simp (left_first_lem q p axis ∙ e)

  rec_right : left_first q p axis ≡ false
      → nearer_side (some here) q b rect ≡ farther_side l q (current here q (nearer_side r q b (above rect axis p))) (below rect axis p)
  unfolding nearest_rec
  rec_right e = simp (left_first_lem q p axis ∙ e)

-- ---- the answers compared

module _ (number : ℕ → ℕ) where
  -- the same node, by its number, at the same distance
  abbrev pub Tied : Best → source.Best → Type 0
  Tied s b = (number s.place ≡ data_of b.best) × (s.dist ≡ b.best_dist_sq)

  -- not stopped, with at most v visits
  abbrev pub Matches : source.Best → ℕ → Option Best → Type 0
  Matches b v (Some r) = Tied r b × (r.visits ≤ v)
  Matches b v None = ⊥

  matches_le : (b b' : source.Best) (v v' : ℕ) (w : Option Best) → b ≡ b' → v ≤ v' → Matches b v w → Matches b' v' w
  matches_le b b' v v' (Some r) e h m = (subst (Tied r) e m.0, (let z = m.1 in omega arith))
  matches_le b b' v v' None e h m = m

  module _ (M : ℕ) (q : Point3) where
    -- the node itself
    improve_tied : (n : ℕ) (p : Point3) (axis : ℕ) (l r : Link) (s : Best) (b : source.Best) → Tied s b
        → Tied (improve n (dist_sq_of p q) s) (current (kd_node p axis (number n) l r) q b)
    unfolding improve
    improve_tied n p axis l r s b h =
        rw (dist_same p q) (subst (λ (d : Float). Tied (improve n (dist_sq_of p q) s) (cond (lt (dist_sq_of p q) d) won b)) h.1 (go (lt (dist_sq_of p q) s.dist)))
      where
        won : source.Best
        won = record { best = kd_node p axis (number n) l r; best_dist_sq = dist_sq_of p q }

        go : (c : Bool) → Tied (cond c (record { place = n; dist = dist_sq_of p q; visits = s.visits }) s) (cond c won b)
        go true = (refl, refl)
        go false = h

    -- the farther side: searched, or passed over by both
    far_matches : (t : Tree) (axis : ℕ) (rect : source.BoundingBox) (s : Best) (b : source.Best) → Clean t → Tied s b
        → Matches (nearer_side (boxed number t axis) q b rect) (s.visits + size t) (search M q t (flat rect) axis s)
        → Matches (farther_side (boxed number t axis) q b rect) (s.visits + size t) (farther q t (search M q t) (flat rect) axis s)
    unfolding boxed farther nearest_rec size
    far_matches gone axis rect s b c h m = (h, omega arith)
    far_matches bad axis rect s b c h m = c
    far_matches (node n p l r) axis rect s b c h m =
        rw (box_dist rect q)
        (subst (λ (d : Float). Matches (cond (lt (box_dist_sq (flat rect) q) d) k b) v (cond (lt (box_dist_sq (flat rect) q) s.dist) w (Some s))) h.1
        (go (lt (box_dist_sq (flat rect) q) s.dist)))
      where
        w : Option Best
        w = search M q (node n p l r) (flat rect) axis s

        k : source.Best
        k = nearer_side (boxed number (node n p l r) axis) q b rect

        v : ℕ
        v = s.visits + suc (size l + size r)

        go : (g : Bool) → Matches (cond g k b) v (cond g w (Some s))
        go true = m
        go false = (h, omega arith)

    near_then : (w : Option Best) (f : Best → Option Best) (k : source.Best) (g : source.Best) (u v : ℕ) → Matches k u w
        → ((s : Best) → Tied s k → s.visits ≤ u → Matches g v (f s)) → Matches g v (after_near w f)
    unfolding after_near
    near_then (Some s) f k g u v m h = h s m.0 m.1
    near_then None f k g u v m h = m

    abbrev Follows : Tree → ℕ → Type 0
    Follows t axis = (rect : source.BoundingBox) (s : Best) (b : source.Best) → s.visits + size t ≤ M → Tied s b
        → Matches (nearer_side (boxed number t axis) q b rect) (s.visits + size t) (search M q t (flat rect) axis s)

    -- the node and the farther side, after the nearer one
    both : (n : ℕ) (p : Point3) (dim : ℕ) (L R : Link) (near far : Tree) (nr fr : source.BoundingBox) (axis : ℕ) (s : Best) (b : source.Best) → Clean far
        → s.visits + suc (size near + size far) ≤ M → Tied s b → Follows near axis → Follows far axis
        → Matches (farther_side (boxed number far axis) q (current (kd_node p dim (number n) L R) q (nearer_side (boxed number near axis) q b nr)) fr) (s.visits + suc (size near + size far))
        (after_near (search M q near (flat nr) axis (visited s)) (λ t. farther q far (search M q far) (flat fr) axis (improve n (dist_sq_of p q) t)))
    unfolding visited
    both n p dim L R near far nr fr axis s b c room h fn ff =
        let k = nearer_side (boxed number near axis) q b nr in
        let g = current (kd_node p dim (number n) L R) q k in
        near_then (search M q near (flat nr) axis (visited s)) (λ t. farther q far (search M q far) (flat fr) axis (improve n (dist_sq_of p q) t)) k
        (farther_side (boxed number far axis) q g fr) (s.visits + 1 + size near) (s.visits + suc (size near + size far)) (fn nr (visited s) b (omega arith) h)
        (λ t ht vt.
        let i = improve n (dist_sq_of p q) t in
        let iv : i.visits ≡ t.visits = improve_visits n (dist_sq_of p q) t in
        let ti = improve_tied n p dim L R t k ht in
        matches_le (farther_side (boxed number far axis) q g fr) (farther_side (boxed number far axis) q g fr) (i.visits + size far) (s.visits + suc (size near + size far))
        (farther q far (search M q far) (flat fr) axis i) refl (omega arith)
        (far_matches far axis fr i g c ti (ff fr i g (omega arith) ti)))

    -- THE SOURCE'S SEARCH IS THE PORT'S: with a visit for each node it isn't refused, and names the same number at the same distance
    pub follows : (t : Tree) (axis : ℕ) → Clean t → Follows t axis
    unfolding boxed nearest_rec size
    follows gone axis c rect s b room h = unfold search in (h, omega arith)
    follows bad axis c rect s b room h = absurd c
    follows (node n p l r) axis c rect s b room h = go (left_first q p axis) refl (follows l (next_axis axis) c.0) (follows r (next_axis axis) c.1)
      where
        L : Link
        L = boxed number l (next_axis axis)

        R : Link
        R = boxed number r (next_axis axis)

        v : ℕ
        v = s.visits + suc (size l + size r)

        -- what the source finds where it goes right first
        found : source.Best
        found = farther_side L q (current (kd_node p axis (number n) L R) q (nearer_side R q b (above rect axis p))) (below rect axis p)

        go : (g : Bool) → left_first q p axis ≡ g → Follows l (next_axis axis) → Follows r (next_axis axis)
            → Matches (nearer_side (some (kd_node p axis (number n) L R)) q b rect) v (search M q (node n p l r) (flat rect) axis s)
        go true e fl fr =
            rw (search_left M q n p l r (flat rect) axis s e (omega arith))
            (rw (rec_left p axis (number n) L R q b rect e)
            (rw (← flat_below rect axis p, ← flat_above rect axis p)
            (both n p axis L R l r (below rect axis p) (above rect axis p) (next_axis axis) s b c.1 room h fl fr)))
        go false e fl fr =
            rw (search_right M q n p l r (flat rect) axis s e (omega arith))
            (rw (rec_right p axis (number n) L R q b rect e)
            (rw (← flat_below rect axis p, ← flat_above rect axis p)
            (matches_le found found (s.visits + suc (size r + size l)) v
            (after_near (search M q r (flat (above rect axis p)) (next_axis axis) (visited s))
            (λ t. farther q l (search M q l) (flat (below rect axis p)) (next_axis axis) (improve n (dist_sq_of p q) t)))
            refl (omega arith)
            (both n p axis L R r l (above rect axis p) (below rect axis p) (next_axis axis) s b c.0 (omega arith) h fr fl))))
