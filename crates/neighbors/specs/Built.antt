-- What the fill of the table asks of the lists: that they are as a build leaves them; and what that gives its searches. Definitions only.
use Rattle.std.specs.Prelude.{◌≡◌, ℕ, true, false, List, Float}
use Rattle.points.specs.declared.Point3.{Point3}
use Rattle.points.specs.Points.{point_at}
use Rattle.kdtree.specs.Nearest.{place_found}
use Rattle.clearing.specs.declared.Clearing.{Clearing}
use Rattle.clearing.specs.Clearing.{alone_in, nearest_within}
use Rattle.lookup.specs.declared.Lookup.{Lookup}
use Rattle.lookup.specs.declared.Located.TheVariants.{At}
use Rattle.lookup.specs.Build.{Links, links_of, linked, over_both, box_of}
use Rattle.lookup.specs.Lookup.{located_by}
use Rattle.lookup_laws.specs.Loaded.{Room}

-- links that were built over lists that were lent, and a lookup with their box
pub record BuiltBy (look : Lookup) (m : ℕ) (xs : List Float) (left right : List ℕ) : Type 0 where
  pub lent : Links
  pub room : Room xs m lent
  pub links : links_of left right ≡ over_both (linked xs m) lent
  pub bounds : look.bounds ≡ box_of xs m

-- a clearing around a measurement: a point that passes its test finds the nearest of those in it
abbrev pub Surrounds : Lookup → ℕ → List Float → List ℕ → List ℕ → ℕ → Clearing → Type 0
Surrounds look m xs left right own c =
    (p : Point3)
    → (let s = nearest_within xs m p own c in
    s.tied ≡ false → alone_in c.faces s.place (point_at xs s.place) (point_at xs 0) p ≡ true → located_by (place_found xs left right m look.bounds p) ≡ At s.place)
