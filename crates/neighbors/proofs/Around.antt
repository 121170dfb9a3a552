-- Over links that were built a clearing surrounds its measurement: the theorem of `clearing_laws`, in the terms of the code. Assumes nothing.
use Rattle.std.proofs.Common.{◌≡◌, ℕ, zero, suc, ◌<◌, Bool, true, false, cond, not, ◌&&◌, T, List, sym, refl, ap, ◌∙◌, subst, arith}
use lib.Ieee.{Float, lt}
use Rattle.lists.specs.Over.{over}
use Rattle.points.specs.Points.{point_at}
use Rattle.kdtree.specs.declared.BoundingBox.{BoundingBox}
use Rattle.kdtree.specs.Tree.{subtree}
use Rattle.clearing.specs.declared.Clearing.{Clearing}
use Rattle.clearing.specs.declared.Nearest.{Nearest}
use Rattle.clearing.specs.Clearing.{none, around, cleared, clearing_of, alone_in, nearest_within}
use Rattle.kdtree.specs.Nearest.{place_found}
use Rattle.points.specs.declared.Point3.{Point3}
use Rattle.lookup.specs.declared.Located.TheVariants.{At}
use Rattle.lookup.specs.Lookup.{clamped_by, located_by, locate_of}
use Rattle.clearing_laws.proofs.Faces.{none_tested}
use Rattle.clearing_laws.proofs.Alone.{alone_found}
use Rattle.lookup.specs.declared.Lookup.{Lookup}
use Rattle.lookup.specs.Build.{Links, links_of, linked, box_of, lookup_of, Built, built_as, build_of}
use Rattle.lookup_laws.specs.Loaded.{Room}
use Rattle.neighbors.specs.Built.{BuiltBy, Surrounds}

abbrev Clears : ℕ → List Float → List ℕ → List ℕ → ℕ → Float → Float → Clearing → Type 0
Clears m xs left right own w step c = c ≡ clearing_of own (point_at xs own) (subtree left right xs m m 0) w step

abbrev Test : ℕ → List Float → ℕ → Point3 → Clearing → Type 0
Test m xs own p c = (let s = nearest_within xs m p own c in (s.tied ≡ false) × (alone_in c.faces s.place (point_at xs s.place) (point_at xs 0) p ≡ true))

abbrev Finds : ℕ → List Float → List ℕ → List ℕ → ℕ → Point3 → Clearing → Type 0
Finds m xs l r own p c = located_by (place_found xs l r m (box_of xs m) p) ≡ At (nearest_within xs m p own c).place

over_built : (look : Lookup) (m : ℕ) (xs : List Float) (d : Links) → Room xs m d → look.bounds ≡ box_of xs m → (own : ℕ) → own < m → (w step : Float) (c : Clearing)
    → (let l = over (linked xs m).left d.left in let r = over (linked xs m).right d.right in Clears m xs l r own w step c → Surrounds look m xs l r own c)
unfolding clearing_of
over_built look zero xs d room eb own h w step c e p t a = absurd (omega arith)
over_built look (suc k) xs d room eb own h w step c e p t a =
    let l = over (linked xs (suc k)).left d.left in
    let r = over (linked xs (suc k)).right d.right in
    ap (λ (b : BoundingBox). located_by (place_found xs l r (suc k) b p)) eb ∙ subst (Finds (suc k) xs l r own p) (sym e) (go (lt w step) (subst (Test (suc k) xs own p) e (t, a)))
  where
    go : (b : Bool) → (let q = point_at xs own in
        let c = cond b (none q) (cleared own q (subtree (over (linked xs (suc k)).left d.left) (over (linked xs (suc k)).right d.right) xs (suc k) (suc k) 0) 0 (around q w)) in
        Test (suc k) xs own p c → Finds (suc k) xs (over (linked xs (suc k)).left d.left) (over (linked xs (suc k)).right d.right) own p c)
    go true z = absurd (none_tested (point_at xs own) _ _ (point_at xs 0) p z.1)
    go false z = alone_found xs k d room own h w p z.0 z.1

pub surrounds : (look : Lookup) (m : ℕ) (xs : List Float) (left right : List ℕ) → BuiltBy look m xs left right → (own : ℕ) → own < m → (w step : Float) (c : Clearing)
    → Clears m xs left right own w step c → Surrounds look m xs left right own c
surrounds look m xs left right B own h w step c =
    let el : left ≡ over (linked xs m).left B.lent.left = ap (λ (a : Links). a.left) B.links in
    let er : right ≡ over (linked xs m).right B.lent.right = ap (λ (a : Links). a.right) B.links in
    subst (λ (l : List ℕ). Clears m xs l right own w step c → Surrounds look m xs l right own c) (sym el)
    (subst (λ (r : List ℕ). Clears m xs (over (linked xs m).left B.lent.left) r own w step c → Surrounds look m xs (over (linked xs m).left B.lent.left) r own c) (sym er)
    (over_built look m xs B.lent B.room B.bounds own h w step c))

-- the code's test: of the clamped query, and of the nearest of those in the clearing
both : (tied t : Bool) → (not tied && t) ≡ true → (tied ≡ false) × (t ≡ true)
both false true e = (refl, refl)
both false false e = absurd (subst T (sym e) tt)
both true t e = absurd (subst T (sym e) tt)

pub found_by : (look : Lookup) (m : ℕ) (xs : List Float) (left right : List ℕ) (own : ℕ) (c : Clearing) → Surrounds look m xs left right own c → (q p : Point3) → p ≡ clamped_by look q
    → (s : Nearest) → s ≡ nearest_within xs m p own c → (here root : Point3) → here ≡ point_at xs s.place → root ≡ point_at xs 0
    → (t : Bool) → t ≡ alone_in c.faces s.place here root p → (not s.tied && t) ≡ true → At s.place ≡ locate_of look m xs left right q
unfolding locate_of
found_by look m xs left right own c h q p ep s es here root eh er t et e =
    let z = both s.tied t e in
    let a : alone_in c.faces s.place (point_at xs s.place) (point_at xs 0) p ≡ true = let y = z.1 in cc in
    let w = subst (λ (s : Nearest). (s.tied ≡ false) × (alone_in c.faces s.place (point_at xs s.place) (point_at xs 0) p ≡ true)) es (z.0, a) in
    ap (λ (s : Nearest). At s.place) es ∙ (sym (h p w.0 w.1) ∙ ap (λ (p : Point3). located_by (place_found xs left right m look.bounds p)) ep)

-- what a build promises is what the fill asks
pub built_by : (look : Lookup) (m : ℕ) (xs : List Float) (l r l₀ r₀ : List ℕ) → Room xs m (links_of l₀ r₀) → built_as look (links_of l r) ≡ build_of xs m (links_of l₀ r₀)
    → BuiltBy look m xs l r
unfolding build_of lookup_of
built_by look m xs l r l₀ r₀ room e = record { lent = links_of l₀ r₀; room = room; links = ap (λ (b : Built). b.links) e; bounds = ap (λ (b : Built). b.lookup.bounds) e }
