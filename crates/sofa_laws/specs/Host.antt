-- WHAT A HOST HEARS after a `sofa_load` with reason 0, of every call over the set: the source's answer in the fields of the call's struct. Definitions only; the
-- theorem `heard` is in proofs/Host.antt.
-- `Post` is a call's own contract, as the check reads it from its `ensures`: of its arguments a (specs/Calls.antt), its answer, and its parameters at the return e,
-- so that `e.1.0.now` is what the second parameter's list holds then.
use Rattle.std.specs.Prelude.{◌≡◌, List, ℕ, ◌<◌, ◌≤◌, ◌+◌, length, take, drop, Float}
use Rattle.points.specs.declared.Point3.{Point3}
use Rattle.points.specs.Points.{Finite}
use Rattle.lookup.specs.Lookup.{point_in, put_point}
use Rattle.loads.specs.Load.{Work}
use Rattle.source.specs.Neighbors.{Neighbors}
use Rattle.source.specs.Interpolate.{get_filter_nointerp}
use Rattle.source.specs.Reader as source
use Rattle.source.specs.Reader.{filled_or, filter, filter_nointerp, max_delay}
use Rattle.source_laws.specs.Drawn.{entered}
use Rattle.source_laws.specs.Way.{Way, exactly, blending, way_in}
use Rattle.load_laws.specs.Load.{Given, judged, LoadsAsSource}
use Rattle.load_laws.specs.Domain.{Domain}
use Rattle.load_laws.specs.Found.{FindsNearest}
use Rattle.sofa.specs.declared.SofaValue.{SofaValue}
use Rattle.sofa.specs.declared.tree.SofaFound.{SofaFound}
use Rattle.sofa.specs.declared.set.SofaLoaded.{SofaLoaded}
use Rattle.sofa.specs.declared.set.SofaFiltered.{SofaFiltered}
use Rattle.sofa.specs.declared.set.SofaPart.{SofaPart}
use Rattle.sofa.specs.declared.set.SofaNeighbors.{SofaNeighbors}
use Rattle.sofa.specs.Convert.{reason_of, place_of}
use Rattle.sofa.specs.Set.{moved_by, Filtered, filtered_by}
use Rattle.sofa.proofs.set.sofa_find.Reads as find
use Rattle.sofa.proofs.set.sofa_find_mut.Reads as find-mut
use Rattle.sofa.proofs.set.sofa_filter.Reads as blend
use Rattle.sofa.proofs.set.sofa_filter_nointerp.Reads as plain
use Rattle.sofa.proofs.set.sofa_filter_number.Reads as filter-number
use Rattle.sofa.proofs.set.sofa_left_response.Reads as left_response
use Rattle.sofa.proofs.set.sofa_right_response.Reads as right_response
use Rattle.sofa.proofs.set.sofa_neighbors_of.Reads as neighbors-of
use Rattle.sofa.proofs.set.sofa_max_delay.Reads as max-delay
use Rattle.sofa_laws.specs.Calls.{Finding, Moving, Filtering, FilteringPlain, FilteringNumber, LeftOf, RightOf, SixOf, LongestOf}

-- ---- the source's answers as structs: reason 0 and place 0

abbrev pub numbered : ℕ → SofaFound
numbered k = record { reason = 0; place = 0; number = k }

-- exact is one point; blended is 1, with the points that the source adds up
abbrev pub heard_by : Way → source.Filter → Filtered
heard_by exactly f = filtered_by (record { reason = 0; place = 0; blended = 0; points = 1; ldelay = f.ldelay; rdelay = f.rdelay }) f.left f.right
heard_by (blending l) f = filtered_by (record { reason = 0; place = 0; blended = 1; points = length l; ldelay = f.ldelay; rdelay = f.rdelay }) f.left f.right

-- 65535 for None
abbrev pub six_heard : Neighbors → SofaNeighbors
six_heard s = record {
  reason = 0;
  place = 0;
  phi_plus = entered s.phi_plus;
  phi_minus = entered s.phi_minus;
  theta_plus = entered s.theta_plus;
  theta_minus = entered s.theta_minus;
  radius_plus = entered s.radius_plus;
  radius_minus = entered s.radius_minus;
}

-- a part of the host's list of responses: n taps within it, and these
pub record PartHeard (xs : List Float) (n : ℕ) (taps : List Float) (p : SofaPart) : Type 0 where
  pub reason : p.reason ≡ 0
  pub place : p.place ≡ 0
  pub count : p.count ≡ n
  pub within : p.start + p.count ≤ length xs
  pub held : take p.count (drop p.start xs) ≡ taps

-- ---- the load was given g and answered r, and the host's lists then held w

pub record HearsSource (g : Given) (r : SofaLoaded) (w : Work) : Type 0 where
  pub loads : LoadsAsSource g w r.lookup
  pub finds : (q : Point3) → Finite q → (κs : _) (a : _) (f : SofaFound) (e : _) → Finding g r w q κs a → find.Post κs a f e → f ≡ numbered (loads.number q)
  -- demand 3: the measurement whose number it hears is the nearest (load_laws specs/Found.antt)
  pub nearest : (q : Point3) → Finite q → FindsNearest g w r.lookup q
  pub names_nearest : (q : Point3) (h : Finite q) (κs : _) (a : _) (f : SofaFound) (e : _) → Finding g r w q κs a → find.Post κs a f e → f ≡ numbered (nearest q h).found
  pub moves : (l : List Float) → Finite (point_in l) → (κs : _) (a : _) (f : SofaFound) (e : _) → Moving g r w l κs a → find-mut.Post κs a f e
      → moved_by f e.1.1.1.1.1.0.now ≡ moved_by (numbered (loads.number (point_in l))) (put_point l (loads.moved (point_in l)))
  pub filters : (q : Point3) → Finite q → (out : source.Filter) (κs : _) (a : _) (f : SofaFiltered) (e : _) → Filtering g r w q out κs a → blend.Post κs a f e
      → filtered_by f e.1.1.1.1.1.1.1.1.1.1.1.1.0.now e.1.1.1.1.1.1.1.1.1.1.1.1.1.0.now
      ≡ heard_by (way_in loads.same.sofar (loads.number q) q) (filter loads.same.sofar q.x q.y q.z out)
  pub filters_plain : (q : Point3) → Finite q → (out : source.Filter) (κs : _) (a : _) (f : SofaFiltered) (e : _) → FilteringPlain g r w q out κs a → plain.Post κs a f e
      → filtered_by f e.1.1.1.1.1.1.1.1.1.1.1.0.now e.1.1.1.1.1.1.1.1.1.1.1.1.0.now
      ≡ heard_by exactly (filter_nointerp loads.same.sofar q.x q.y q.z out)
  pub by_number : (k : ℕ) → k < g.sizes.m → (out : source.Filter) (κs : _) (a : _) (f : SofaFiltered) (e : _) → FilteringNumber g k out κs a → filter-number.Post κs a f e
      → filtered_by f e.1.1.1.1.1.0.now e.1.1.1.1.1.1.0.now
      ≡ heard_by exactly (filled_or loads.same.sofar out (get_filter_nointerp loads.same.sofar.hrtf k))
  -- `own k` is what the source's get_filter_nointerp gives of k, and `row k` its neighbourhood's row (`source_own`, `source_row` of `loads`)
  pub left_response : (k : ℕ) → k < g.sizes.m → (κs : _) (a : _) (p : SofaPart) (e : _) → LeftOf g k κs a → left_response.Post κs a p e
      → PartHeard g.responses g.sizes.n (loads.own k).left p
  pub right_response : (k : ℕ) → k < g.sizes.m → (κs : _) (a : _) (p : SofaPart) (e : _) → RightOf g k κs a → right_response.Post κs a p e
      → PartHeard g.responses g.sizes.n (loads.own k).right p
  pub six : (k : ℕ) → k < g.sizes.m → (κs : _) (a : _) (s : SofaNeighbors) (e : _) → SixOf g w k κs a → neighbors-of.Post κs a s e → s ≡ six_heard (loads.row k)
  pub longest : (κs : _) (a : _) (v : SofaValue) (e : _) → LongestOf g κs a → max-delay.Post κs a v e → v ≡ record { reason = 0; place = 0; value = max_delay loads.same.sofar }

-- ALL OF IT, of any `sofa_load`: reason and place are the table's, 0 wherever what it was given is in document 01's domain; with reason 0 the host hears the source;
-- with any other its lists are as they were
pub record LoadHeard (g : Given) (r : SofaLoaded) (w : Work) : Type 0 where
  pub reason : r.reason ≡ reason_of (judged g)
  pub place : r.place ≡ place_of (judged g)
  pub in_domain : Domain g → r.reason ≡ 0
  pub hears : r.reason ≡ 0 → HearsSource g r w
  pub keeps : (r.reason ≡ 0 → ⊥) → w ≡ g.work
