-- One step of the clearing, in the terms of the code: each value that the code has, with the equation that it has for it, and what the
-- definition then says. Assumes nothing.
use mathlib.Core.Path.{◌≡◌, refl, sym, ap, ◌∙◌}
use mathlib.Core.Bool.{Bool, true, false, cond}
use mathlib.Core.List.{List}
use Prim.Native.Nat.{ℕ, zero, suc, ◌-◌, ◌<◌, ◌≤◌}
use native.Mathlib.Omega.{arith}
use lib.ListN.{get_or}
use lib.Ieee.{Float, lt}
use Rattle.points.specs.declared.Point3.{Point3}
use Rattle.points.specs.Points.{point_at}
use Rattle.clearing.specs.declared.Clearing.{Clearing}
use Rattle.kdtree.specs.declared.Link.{Link}
use Rattle.kdtree.specs.declared.Link.TheVariants.{Gone, To, Bad}
use Rattle.kdtree.specs.Geometry.{coord_of, next_axis}
use Rattle.kdtree.specs.Tree.{Tree, link_of, side_of, subtree}
use Rattle.kdtree.proofs.Step as links
use Rattle.clearing.specs.Clearing.{met, reaches, cleared}

module _ (left right : List ℕ) (xs : List Float) (m own : ℕ) (p : Point3) where
  abbrev T : ℕ → ℕ → Tree
  T = subtree left right xs m

  abbrev side : ℕ → ℕ → ℕ → Tree
  side k n l = side_of (link_of m n l) (T k l)

  -- the link to the side that p is on, which is the left or not, and the other
  abbrev pub near : Bool → ℕ → ℕ
  near g n = cond g (get_or left n 0) (get_or right n 0)

  abbrev pub far : Bool → ℕ → ℕ
  far g n = cond g (get_or right n 0) (get_or left n 0)

  -- the code's answer r at the node n, for every fuel that suffices
  abbrev pub After : ℕ → ℕ → Clearing → Clearing → Type 0
  After n axis b r = (f : ℕ) → m - n ≤ f → r ≡ cleared own p (T f n) axis b

  -- its answer for the side behind the link l of the node n
  abbrev pub Side : ℕ → ℕ → ℕ → Clearing → Clearing → Type 0
  Side n l axis b r = (k : ℕ) → m - suc n ≤ k → r ≡ cleared own p (side k n l) axis b

  passed_over : (lk : Link) → links.Nowhere lk → (t : Tree) (axis : ℕ) (b : Clearing) → b ≡ cleared own p (side_of lk t) axis b
  unfolding cleared side_of
  passed_over Gone h t axis b = refl
  passed_over Bad h t axis b = refl
  passed_over (To n) h t axis b = absurd (h n refl)

  -- l is the link as the code has it, s as the lists have it
  module _ (n s axis : ℕ) (b : Clearing) (l : ℕ) (lk : Link) (el : l ≡ s) (ek : lk ≡ link_of m n l) where
    pub side_none : links.Nowhere lk → Side n s axis b b
    side_none h k hk =
        let z : lk ≡ link_of m n s = cc in
        passed_over lk h (T k s) axis b ∙ ap (λ (y : Link). cleared own p (side_of y (T k s)) axis b) z

    pub side_to : (j : ℕ) (r : Clearing) → lk ≡ To j → After j axis b r → Side n s axis b r
    unfolding side_of
    side_to j r e after k hk =
        let z : link_of m n s ≡ To j = cc in
        let i = links.link_to m n s j (sym z) in
        let a : r ≡ cleared own p (T k j) axis b = after k (omega arith) in
        let w : j ≡ s = i.is in
        rw z (cc)

  step : (k n axis : ℕ) (b : Clearing) (g : Bool) → lt (coord_of p axis) (coord_of (point_at xs n) axis) ≡ g
      → cleared own p (T (suc k) n) axis b
      ≡ (let c = cleared own p (side k n (near g n)) (next_axis axis) (met own p n (point_at xs n) b) in
      let d = cleared own p (side k n (far g n)) (next_axis axis) c in
      cond (reaches g c.faces axis (coord_of (point_at xs n) axis)) d c)
  unfolding cleared subtree
  step k n axis b true e = simp e
  step k n axis b false e = simp e

  module _ (n axis : ℕ) (b : Clearing) where
    -- what the code knows past its nearer side
    pub record Here : Type 0 where
      pub own_point : Point3
      pub x : Point3
      pub v : Float
      pub w : Float
      pub nx : ℕ
      pub here : Clearing
      pub c : Clearing
      pub below : n < m
      pub ep : own_point ≡ p
      pub ex : x ≡ point_at xs n
      pub ev : v ≡ coord_of x axis
      pub ew : w ≡ coord_of own_point axis
      pub en : nx ≡ next_axis axis
      pub eh : here ≡ met own own_point n x b
      pub ec : Side n (near (lt w v) n) nx here c

    module _ (h : Here) where
      abbrev g : Bool
      g = lt h.w h.v

      -- the definition at this node, the nearer side being done
      at : (k : ℕ) → m - suc n ≤ k
          → cleared own p (T (suc k) n) axis b ≡ cond (reaches g h.c.faces axis h.v) (cleared own p (side k n (far g n)) h.nx h.c) h.c
      at k hk =
          let y : lt (coord_of p axis) (coord_of (point_at xs n) axis) ≡ g = cc in
          let z = h.ec k hk in
          let s = step k n axis b g y in
          cc

      pub stays : (q : Bool) → q ≡ reaches g h.c.faces axis h.v → q ≡ false → After n axis b h.c
      stays q eq e zero le = let i = h.below in absurd (omega arith)
      stays q eq e (suc k) le =
          let i = h.below in
          let z : reaches g h.c.faces axis h.v ≡ false = cc in
          sym (at k (omega arith) ∙ rw z)

      pub goes_on : (q : Bool) (r : Clearing) → q ≡ reaches g h.c.faces axis h.v → q ≡ true → Side n (far g n) h.nx h.c r → After n axis b r
      goes_on q r eq e f zero le = let i = h.below in absurd (omega arith)
      goes_on q r eq e f (suc k) le =
          let i = h.below in
          let z : reaches g h.c.faces axis h.v ≡ true = cc in
          f k (omega arith) ∙ sym (at k (omega arith) ∙ rw z)
