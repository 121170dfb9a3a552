-- WHICH CALLS ARE MEANT: a load, and the calls over the set that it left, by the names of their arguments. Definitions only.
-- Of a call, κs are its lifetimes, a its arguments in the parameters' order (`a.0` is the first; `.now` is what a lent list holds), and e its parameters at the return.
use Rattle.std.specs.Prelude.{◌≡◌, List, ℕ, Float}
use borrow.Fn.World.{ArgsD}
use denote.Triple.Clauses.{AtExit}
use Rattle.points.specs.declared.Point3.{Point3}
use Rattle.loads.specs.Load.{Work, work_of}
use Rattle.source.specs.Reader as source
use Rattle.load_laws.specs.Load.{Given}
use Rattle.sofa.specs.declared.set.SofaLoaded.{SofaLoaded}
use Rattle.sofa.specs.contracts.set.sofa_load as load
use Rattle.sofa.specs.contracts.set.sofa_find as find
use Rattle.sofa.specs.contracts.set.sofa_find_mut as find-mut
use Rattle.sofa.specs.contracts.set.sofa_filter as filter
use Rattle.sofa.specs.contracts.set.sofa_filter_nointerp as filter-nointerp
use Rattle.sofa.specs.contracts.set.sofa_filter_number as filter-number
use Rattle.sofa.specs.contracts.set.sofa_left_response as left_response
use Rattle.sofa.specs.contracts.set.sofa_right_response as right_response
use Rattle.sofa.specs.contracts.set.sofa_neighbors_of as neighbors-of
use Rattle.sofa.specs.contracts.set.sofa_max_delay as max-delay

-- sofa_load(kind, sizes, positions, responses, angle_step, radius_step, rate, left, right, neighbours, cartesian): what it is given, and the delays, which only
-- later calls read
abbrev pub given_in : (κs : _) → ArgsD load.signature κs → List Float → Given
given_in κs a delays = record {
  kind = a.0;
  sizes = a.1.0;
  positions = a.1.1.0.now;
  responses = a.1.1.1.0.now;
  delays = delays;
  angle = a.1.1.1.1.0;
  radius = a.1.1.1.1.1.0;
  rate = a.1.1.1.1.1.1.0;
  work = work_of a.1.1.1.1.1.1.1.0.now a.1.1.1.1.1.1.1.1.0.now a.1.1.1.1.1.1.1.1.1.0.now a.1.1.1.1.1.1.1.1.1.1.0.now;
}

-- what its four lists then hold
abbrev pub left_in : (κs : _) → AtExit load.ended κs → Work
left_in κs e = work_of e.1.1.1.1.1.1.1.0.now e.1.1.1.1.1.1.1.1.0.now e.1.1.1.1.1.1.1.1.1.0.now e.1.1.1.1.1.1.1.1.1.1.0.now

-- the load was given g, answered r and left the lists w; of each later call, that its arguments are these
module _ (g : Given) (r : SofaLoaded) (w : Work) where
  -- sofa_find(sizes, look, cartesian, left, right, x, y, z)
  pub record Finding (q : Point3) (κs : _) (a : ArgsD find.signature κs) : Type 0 where
    pub sizes : a.0 ≡ g.sizes
    pub look : a.1.0 ≡ r.lookup
    pub cartesian : a.1.1.0.now ≡ w.cartesian
    pub left : a.1.1.1.0.now ≡ w.left
    pub right : a.1.1.1.1.0.now ≡ w.right
    pub x : a.1.1.1.1.1.0 ≡ q.x
    pub y : a.1.1.1.1.1.1.0 ≡ q.y
    pub z : a.1.1.1.1.1.1.1.0 ≡ q.z

  -- sofa_find_mut(sizes, look, cartesian, left, right, coordinate)
  pub record Moving (l : List Float) (κs : _) (a : ArgsD find-mut.signature κs) : Type 0 where
    pub sizes : a.0 ≡ g.sizes
    pub look : a.1.0 ≡ r.lookup
    pub cartesian : a.1.1.0.now ≡ w.cartesian
    pub left : a.1.1.1.0.now ≡ w.left
    pub right : a.1.1.1.1.0.now ≡ w.right
    pub coordinate : a.1.1.1.1.1.0.now ≡ l

  -- sofa_filter(sizes, look, cartesian, left, right, neighbours, responses, delays, rate, x, y, z, out_left, out_right)
  pub record Filtering (q : Point3) (out : source.Filter) (κs : _) (a : ArgsD filter.signature κs) : Type 0 where
    pub sizes : a.0 ≡ g.sizes
    pub look : a.1.0 ≡ r.lookup
    pub cartesian : a.1.1.0.now ≡ w.cartesian
    pub left : a.1.1.1.0.now ≡ w.left
    pub right : a.1.1.1.1.0.now ≡ w.right
    pub neighbours : a.1.1.1.1.1.0.now ≡ w.neighbours
    pub responses : a.1.1.1.1.1.1.0.now ≡ g.responses
    pub delays : a.1.1.1.1.1.1.1.0.now ≡ g.delays
    pub rate : a.1.1.1.1.1.1.1.1.0 ≡ g.rate
    pub x : a.1.1.1.1.1.1.1.1.1.0 ≡ q.x
    pub y : a.1.1.1.1.1.1.1.1.1.1.0 ≡ q.y
    pub z : a.1.1.1.1.1.1.1.1.1.1.1.0 ≡ q.z
    pub out_left : a.1.1.1.1.1.1.1.1.1.1.1.1.0.now ≡ out.left
    pub out_right : a.1.1.1.1.1.1.1.1.1.1.1.1.1.0.now ≡ out.right

  -- sofa_filter_nointerp(sizes, look, cartesian, left, right, responses, delays, rate, x, y, z, out_left, out_right)
  pub record FilteringPlain (q : Point3) (out : source.Filter) (κs : _) (a : ArgsD filter-nointerp.signature κs) : Type 0 where
    pub sizes : a.0 ≡ g.sizes
    pub look : a.1.0 ≡ r.lookup
    pub cartesian : a.1.1.0.now ≡ w.cartesian
    pub left : a.1.1.1.0.now ≡ w.left
    pub right : a.1.1.1.1.0.now ≡ w.right
    pub responses : a.1.1.1.1.1.0.now ≡ g.responses
    pub delays : a.1.1.1.1.1.1.0.now ≡ g.delays
    pub rate : a.1.1.1.1.1.1.1.0 ≡ g.rate
    pub x : a.1.1.1.1.1.1.1.1.0 ≡ q.x
    pub y : a.1.1.1.1.1.1.1.1.1.0 ≡ q.y
    pub z : a.1.1.1.1.1.1.1.1.1.1.0 ≡ q.z
    pub out_left : a.1.1.1.1.1.1.1.1.1.1.1.0.now ≡ out.left
    pub out_right : a.1.1.1.1.1.1.1.1.1.1.1.1.0.now ≡ out.right

-- the calls that take neither lookup nor links: of what the load was given, and of the neighbours that it left
module _ (g : Given) where
  -- sofa_filter_number(sizes, responses, delays, rate, number, out_left, out_right)
  pub record FilteringNumber (k : ℕ) (out : source.Filter) (κs : _) (a : ArgsD filter-number.signature κs) : Type 0 where
    pub sizes : a.0 ≡ g.sizes
    pub responses : a.1.0.now ≡ g.responses
    pub delays : a.1.1.0.now ≡ g.delays
    pub rate : a.1.1.1.0 ≡ g.rate
    pub number : a.1.1.1.1.0 ≡ k
    pub out_left : a.1.1.1.1.1.0.now ≡ out.left
    pub out_right : a.1.1.1.1.1.1.0.now ≡ out.right

  -- sofa_left_response(sizes, responses, number)
  pub record LeftOf (k : ℕ) (κs : _) (a : ArgsD left_response.signature κs) : Type 0 where
    pub sizes : a.0 ≡ g.sizes
    pub responses : a.1.0.now ≡ g.responses
    pub number : a.1.1.0 ≡ k

  -- sofa_right_response(sizes, responses, number)
  pub record RightOf (k : ℕ) (κs : _) (a : ArgsD right_response.signature κs) : Type 0 where
    pub sizes : a.0 ≡ g.sizes
    pub responses : a.1.0.now ≡ g.responses
    pub number : a.1.1.0 ≡ k

  -- sofa_neighbors_of(sizes, neighbours, number)
  pub record SixOf (w : Work) (k : ℕ) (κs : _) (a : ArgsD neighbors-of.signature κs) : Type 0 where
    pub sizes : a.0 ≡ g.sizes
    pub neighbours : a.1.0.now ≡ w.neighbours
    pub number : a.1.1.0 ≡ k

  -- sofa_max_delay(delays, rate)
  pub record LongestOf (κs : _) (a : ArgsD max-delay.signature κs) : Type 0 where
    pub delays : a.0.now ≡ g.delays
    pub rate : a.1.0 ≡ g.rate
