-- The source's nearest and the port's search of the tree that stands for it name the same node; and the radius clamp. Assumes nothing.
use mathlib.Core.Path.{◌≡◌, sym, ap, ◌∙◌}
use mathlib.Core.List.{List}
use Prim.Native.Nat.{ℕ, ◌+◌}
use native.Mathlib.Omega.{arith}
use lib.Ieee.{Float}
use Rattle.points.specs.declared.Point3.{Point3}
use Rattle.points.specs.Points.{point_at, dist_sq_of}
use Rattle.kdtree.specs.declared.Best.{Best}
use Rattle.kdtree.specs.Geometry.{next_axis}
use Rattle.kdtree.specs.Tree.{Tree, gone, bad, node}
use Rattle.kdtree.specs.Search.{search}
use Rattle.kdtree.specs.Nearest.{start_at, start_at_root}
use Rattle.kdtree.specs.Unpruned.{size}
use Rattle.coords.specs.Coords.{radius_of}
use Rattle.kdtree_laws.proofs.Pruned.{Clean}
use Rattle.kdtree_laws.proofs.Rep.{RepAt}
use Rattle.lookup.specs.Build.{lookup_of}
use Rattle.lookup.specs.Lookup.{scaled, clamped_to, clamped_by}
use Rattle.source.specs.Rust.{Option, None, Some}
use Rattle.source.specs.Coords.{radius}
use Rattle.source.specs.Kdtree as source
use Rattle.source.specs.Kdtree.{kd_node, some, data_of, nearest_rec, nearer_side, nearest_from}
use Rattle.source.specs.Lookup.{normalize_radius}
use Rattle.source_laws.specs.Drawn.{boxed, flat}
use Rattle.source_laws.proofs.Shapes.{dist_same}
use Rattle.source_laws.proofs.Search.{Matches, follows}
use Rattle.source_laws.proofs.Built.{measured_to, six_same}

-- ---- nearest

-- the source names the number of the place that the port's search found
abbrev pub Names : (ℕ → ℕ) → Option ℕ → Option Best → Type 0
Names number (Some k) (Some s) = number s.place ≡ k
Names number (Some k) None = ⊥
Names number None w = ⊥

module _ (number : ℕ → ℕ) (left right : List ℕ) (xs : List Float) (count : ℕ) (b : source.BoundingBox) (q : Point3) where
  matches_names : (k : source.Best) (v : ℕ) (w : Option Best) → Matches number k v w → Names number (Some (data_of k.best)) w
  matches_names k v (Some s) m = m.0.0
  matches_names k v None m = m

  pub nearest_names : (t : Tree) → RepAt left right xs count t 0 → Clean t → size t ≡ count
      → Names number (nearest_from (boxed number t 0) (Some b) q) (search count q t (flat b) 0 (start_at_root xs q))
  unfolding boxed nearest_from nearest_rec start_at
  nearest_names gone r c e = r
  nearest_names bad r c e = r
  nearest_names (node n p l r) h c e =
      let t = node n p l r in
      let root = kd_node p 0 (number n) (boxed number l (next_axis 0)) (boxed number r (next_axis 0)) in
      let start : source.Best = record { best = root; best_dist_sq = source.dist_sq p q } in
      let d : dist_sq_of (point_at xs 0) q ≡ source.dist_sq p q = ap (λ (i : ℕ). dist_sq_of (point_at xs i) q) (sym h.0) ∙ ap (λ (z : Point3). dist_sq_of z q) (sym h.1.1) ∙ sym (dist_same p q) in
      matches_names (nearer_side (some root) q start b) (0 + size t) (search count q t (flat b) 0 (record { place = 0; dist = dist_sq_of (point_at xs 0) q; visits = 0 }))
      (follows number count q t 0 c b (record { place = 0; dist = dist_sq_of (point_at xs 0) q; visits = 0 }) start (omega arith) (ap number (sym h.0), d))

-- ---- the radius clamp

pub clamp_same : (xs : List Float) (n : ℕ) (q : Point3) → normalize_radius (measured_to xs n) q ≡ clamped_by (lookup_of xs n) q
unfolding normalize_radius radius clamped_by clamped_to radius_of scaled lookup_of
clamp_same xs n q =
    let s = six_same xs n in
    let l = lookup_of xs n in
    ap (λ (lo : Float). clamped_to lo (measured_to xs n).radius_max q) s.least ∙ ap (λ (hi : Float). clamped_to l.radius_min hi q) s.greatest
