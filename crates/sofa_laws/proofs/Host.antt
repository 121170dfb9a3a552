-- What a host has after `sofa_load`: with reason 0 the source's set, and hears its answers; else its lists as they were (specs/Host.antt). Assumes nothing.
use mathlib.Core.Path.{◌≡◌, refl, sym, ap, ◌∙◌, subst}
use mathlib.Core.Bool.{Bool, true, false, cond}
use mathlib.Core.List.{List, [], ◌∷◌}
use Prim.Native.Nat.{ℕ, ◌<◌, ◌≤◌, ◌+◌}
use native.Mathlib.Omega.{arith}
use lib.ListN.{length}
use lib.Ieee.{Float}
use Rattle.points.specs.declared.Point3.{Point3}
use Rattle.points.specs.Points.{Finite}
use Rattle.std.specs.Prelude.{⊤, Result, Ok, Err}
use Rattle.std.specs.Result.{result_and}
use Rattle.refusals.specs.declared.Refusal.{Refusal}
use Rattle.refusals.specs.declared.Refusal.TheVariants.{UnknownKind, BadSizes, ShortLists, BadPosition, BadAngleStep, BadRadiusStep, BadRate, BadValue, NoMeasurement, BadLink}
use Rattle.refusals.specs.Refusals.{number_of}
use Rattle.lookup.specs.declared.Lookup.{Lookup}
use Rattle.lookup.specs.Lookup.{find_of, find_mut_of}
use Rattle.mix.specs.Mix.{start_of}
use Rattle.mix.proofs.Laws.{inside}
use Rattle.stored.specs.declared.Taps.{Taps}
use Rattle.stored.specs.Numbers.{part_of, taps_in, response_of, around_of}
use Rattle.stored.specs.Longest.{max_delay_of}
use Rattle.reader.specs.Queries.{filter_says, plain_says, number_says}
use Rattle.loads.specs.Load.{Work, Load, indexed, load_by, load_of}
use Rattle.source.specs.Reader as source
use Rattle.source.specs.Reader.{filter}
use Rattle.source_laws.specs.Way.{Way, exactly, blending, way_in, told}
use Rattle.source_laws.specs.Same.{look}
use Rattle.load_laws.specs.Load.{Given, judged, loaded, set_in, port_find, LoadsAsSource}
use Rattle.load_laws.proofs.Load.{accepted, from_load}
use Rattle.load_laws.proofs.Domain.{accepts}
use Rattle.load_laws.specs.Found.{FindsNearest}
use Rattle.load_laws.proofs.Found.{found}
use Rattle.load_laws.proofs.Loaded.{done, went}
use Rattle.load_laws.proofs.Checks.{response_fine}
use Rattle.sofa.specs.declared.tree.SofaFound.{SofaFound}
use Rattle.sofa.specs.declared.set.SofaLoaded.{SofaLoaded}
use Rattle.sofa.specs.declared.set.SofaPart.{SofaPart}
use Rattle.sofa.specs.Tree.{point}
use Rattle.sofa.specs.Convert.{reason_of, place_of}
use Rattle.sofa.specs.Set.{LoadedSet, located_as, loaded_as, part_as, around_as, longest_as, move_told, filter_told}
use Rattle.sofa.proofs.set.sofa_load.Reads as load
use Rattle.sofa.proofs.set.sofa_find.Reads as find
use Rattle.sofa_laws.specs.Calls.{given_in, left_in, Finding}
use Rattle.sofa_laws.specs.Host.{heard_by, PartHeard, HearsSource, LoadHeard}

-- ---- no refusal has the number 0

pub above_zero : (refusal : Refusal) → 0 < number_of refusal
above_zero (UnknownKind kind) = omega arith
above_zero BadSizes = omega arith
above_zero ShortLists = omega arith
above_zero (BadPosition index) = omega arith
above_zero BadAngleStep = omega arith
above_zero BadRadiusStep = omega arith
above_zero BadRate = omega arith
above_zero (BadValue argument) = omega arith
above_zero (NoMeasurement number) = omega arith
above_zero BadLink = omega arith

pub unrefused : (v : Result ⊤ Refusal) → reason_of v ≡ 0 → v ≡ Ok tt
unrefused (Ok fine) e = refl
unrefused (Err refusal) e = absurd (omega (arith, e, above_zero refusal))

-- ---- the answer's reason and place are the verdict's

reason_is : (v : Result ⊤ Refusal) (l : Load) (d : Work) (look : Lookup) → l.answer ≡ Ok look → (loaded_as (load_by v l d).answer).reason ≡ reason_of v
unfolding load_by
reason_is (Ok fine) l d look e = ap (λ (a : Result Lookup Refusal). (loaded_as a).reason) e
reason_is (Err refusal) l d look e = refl

place_is : (v : Result ⊤ Refusal) (l : Load) (d : Work) (look : Lookup) → l.answer ≡ Ok look → (loaded_as (load_by v l d).answer).place ≡ place_of v
unfolding load_by
place_is (Ok fine) l d look e = ap (λ (a : Result Lookup Refusal). (loaded_as a).place) e
place_is (Err refusal) l d look e = refl

left_as : (v : Result ⊤ Refusal) (l : Load) (d : Work) → (reason_of v ≡ 0 → ⊥) → (load_by v l d).work ≡ d
unfolding load_by
left_as (Ok fine) l d h = absurd (h refl)
left_as (Err refusal) l d h = refl

ready : (g : Given) → (done g).answer ≡ Ok (look (set_in g (done g).work))
unfolding indexed
ready g = refl

-- ---- an answer as a struct

heard_as : (way : Way) (f : source.Filter) → filter_told (told way f) ≡ heard_by way f
heard_as exactly f = refl
heard_as (blending l) f = refl

part_heard : (xs : List Float) (s n : ℕ) (taps : List Float) (t : Result Taps Refusal) (p : SofaPart) → t ≡ Ok (record { start = s; count = n }) → s + n ≤ length xs → taps_in t xs ≡ taps → p ≡ part_as t → PartHeard xs n taps p
unfolding taps_in
part_heard xs s n taps t p et h held e =
    subst (PartHeard xs n taps) (sym (e ∙ ap part_as et)) (record { reason = refl; place = refl; count = refl; within = h; held = ap (λ (u : Result Taps Refusal). taps_in u xs) (sym et) ∙ held })

-- of a measurement of a loaded set, by its ear
module _ (g : Given) (fine : judged g ≡ Ok tt) (k : ℕ) (h : k < g.sizes.m) where
  taps_of : (ear : ℕ) → part_of g.sizes (length g.responses) k ear ≡ Ok (record { start = start_of g.sizes.r g.sizes.n ear k; count = g.sizes.n })
  unfolding part_of
  taps_of ear = ap (λ (v : Result ⊤ Refusal). result_and v (Ok (record { start = start_of g.sizes.r g.sizes.n ear k; count = g.sizes.n }))) (response_fine g fine k h)

  ear_heard : (ear : ℕ) (taps : List Float) (p : SofaPart) → ear ≤ 1 → response_of g.sizes g.responses k ear ≡ taps → p ≡ part_as (part_of g.sizes (length g.responses) k ear)
      → PartHeard g.responses g.sizes.n taps p
  ear_heard ear taps p one held e =
      part_heard g.responses (start_of g.sizes.r g.sizes.n ear k) g.sizes.n taps (part_of g.sizes (length g.responses) k ear) p (taps_of ear)
      (let i = inside g.sizes.m g.sizes.r g.sizes.n k ear h (went g fine).sizes.ears one in let l = (went g fine).room.blend.plain.taps in omega arith) held e

-- ---- from a call of `sofa_load`, by its own contract, and whatever delays later calls read

module _ (κs : _) (a : _) (r : SofaLoaded) (e : _) (says : load.Post κs a r e) (delays : List Float) where
  abbrev g : Given
  g = given_in κs a delays

  abbrev w : Work
  w = left_in κs e

  answer_is : r ≡ loaded_as (loaded g).answer
  answer_is = ap (λ (x : LoadedSet). x.out) says

  lists_are : w ≡ (loaded g).work
  lists_are = ap (λ (x : LoadedSet). x.work) says

  -- THE REASON IS THE TABLE'S: 0 exactly where no line is met
  pub reason_told : r.reason ≡ reason_of (judged g)
  reason_told = ap (λ (x : SofaLoaded). x.reason) answer_is ∙ by_verdict
    where
      by_verdict : (loaded_as (loaded g).answer).reason ≡ reason_of (judged g)
      by_verdict = unfold load_of in reason_is (judged g) (done g) g.work (look (set_in g (done g).work)) (ready g)

  place_told : r.place ≡ place_of (judged g)
  place_told = ap (λ (x : SofaLoaded). x.place) answer_is ∙ by_verdict
    where
      by_verdict : (loaded_as (loaded g).answer).place ≡ place_of (judged g)
      by_verdict = unfold load_of in place_is (judged g) (done g) g.work (look (set_in g (done g).work)) (ready g)

  -- WITH REASON 0 the host has the source's set
  module _ (told-fine : r.reason ≡ 0) where
    fine : judged g ≡ Ok tt
    fine = unrefused (judged g) (sym reason_told ∙ told-fine)

    answers_ready : (loaded g).answer ≡ Ok r.lookup
    answers_ready =
        let yes = accepted g fine in
        let same = ap (λ (x : SofaLoaded). x.lookup) answer_is ∙ ap (λ (l : Result Lookup Refusal). (loaded_as l).lookup) yes in
        yes ∙ ap Ok (sym same)

    pub loads_as_source : LoadsAsSource g w r.lookup
    loads_as_source = subst (λ (v : Work). LoadsAsSource g v r.lookup) (sym lists_are) (from_load g r.lookup answers_ready)

    finds_nearest : (q : Point3) → Finite q → FindsNearest g w r.lookup q
    finds_nearest q f = subst (λ (v : Work). FindsNearest g v r.lookup q) (sym lists_are) (found g r.lookup answers_ready q f)

    abbrev S : LoadsAsSource g w r.lookup
    S = loads_as_source

    find_says : (q : Point3) (κs : _) (a : _) (o : SofaFound) (e : _) → Finding g r w q κs a → find.Post κs a o e → o ≡ located_as (port_find g w r.lookup q)
    find_says q κs a o e A p = p ∙ (λ i. located_as (find_of (A.look i) (A.sizes i) (A.cartesian i) (A.left i) (A.right i) (point (A.x i) (A.y i) (A.z i))))

    -- AND HEARS its answers: each contract says the definition of the call at the call's arguments, which are these
    pub hears : HearsSource g r w
    hears = record {
      loads = S;
      finds = λ q f κs a o e A p. find_says q κs a o e A p ∙ ap located_as (S.port_finds q f);
      nearest = finds_nearest;
      names_nearest = λ q f κs a o e A p. find_says q κs a o e A p ∙ ap located_as (finds_nearest q f).finds;
      moves = λ l f κs a o e A p. p ∙ (λ i. move_told (find_mut_of (A.look i) (A.sizes i) (A.cartesian i) (A.left i) (A.right i) (A.coordinate i))) ∙ ap move_told (S.port_moves l f);
      filters = λ q f out κs a o e A p.
          p ∙ (λ i. filter_told (filter_says (A.sizes i) (A.look i) (A.cartesian i) (A.left i) (A.right i) (A.neighbours i) (A.responses i) (A.delays i) (A.rate i)
          (point (A.x i) (A.y i) (A.z i)) (length (A.out_left i)) (length (A.out_right i))))
          ∙ ap filter_told (S.filters q f out) ∙ heard_as (way_in S.same.sofar (S.number q) q) (filter S.same.sofar q.x q.y q.z out);
      filters_plain = λ q f out κs a o e A p.
          p ∙ (λ i. filter_told (plain_says (A.sizes i) (A.look i) (A.cartesian i) (A.left i) (A.right i) (A.responses i) (A.delays i) (A.rate i)
          (point (A.x i) (A.y i) (A.z i)) (length (A.out_left i)) (length (A.out_right i))))
          ∙ ap filter_told (S.filters_plain q f out);
      by_number = λ k h out κs a o e A p.
          p ∙ (λ i. filter_told (number_says (A.sizes i) (A.responses i) (A.delays i) (A.rate i) (A.number i) (length (A.out_left i)) (length (A.out_right i))))
          ∙ ap filter_told (S.by_number k h out);
      left_response = λ k h κs a o e A p.
          ear_heard g fine k h 0 (S.own k).left o (omega arith) (S.left_response k h) (p ∙ (λ i. part_as (part_of (A.sizes i) (length (A.responses i)) (A.number i) 0)));
      right_response = λ k h κs a o e A p.
          ear_heard g fine k h 1 (S.own k).right o (omega arith) (S.right_response k h) (p ∙ (λ i. part_as (part_of (A.sizes i) (length (A.responses i)) (A.number i) 1)));
      six = λ k h κs a o e A p. p ∙ (λ i. around_as (around_of (A.sizes i) (A.neighbours i) (A.number i))) ∙ ap around_as (S.port_row k h);
      longest = λ κs a o e A p. p ∙ (λ i. longest_as (max_delay_of (A.delays i) (A.rate i))) ∙ ap longest_as S.longest;
    }

  -- ANY OTHER leaves its lists as they were
  pub keeps : (r.reason ≡ 0 → ⊥) → w ≡ g.work
  keeps h = lists_are ∙ (unfold load_of in left_as (judged g) (done g) g.work (λ z. h (reason_told ∙ z)))

  -- THE THEOREM
  pub heard : LoadHeard g r w
  heard = record {
    reason = reason_told;
    place = place_told;
    in_domain = λ D. ap (λ (x : SofaLoaded). x.reason) answer_is ∙ ap (λ (l : Result Lookup Refusal). (loaded_as l).reason) (accepts g D);
    hears = hears;
    keeps = keeps;
  }
