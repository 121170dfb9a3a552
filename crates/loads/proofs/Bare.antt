-- A loaded set's tree is the bare one filled in place order, and no search over it is refused. Assumes nothing.
use Prim.Native.Nat.{ℕ, ◌≤◌}
use mathlib.Core.Path.{◌≡◌, refl, sym, ap, ◌∙◌, subst}
use mathlib.Core.List.{List}
use native.Mathlib.Omega.{arith}
use lib.ListN.{length, replicate}
use lib.Ieee.{Float}
use Rattle.std.specs.Prelude.{⊤, Result, Ok}
use Rattle.refusals.specs.declared.Refusal.{Refusal}
use Rattle.lists.specs.Over.{over, upto}
use Rattle.lists.proofs.Laws.{length_over}
use Rattle.points.specs.declared.Point3.{Point3}
use Rattle.kdtree.specs.Insert.{lists_of}
use Rattle.limits.specs.declared.Sizes.{Sizes}
use Rattle.limits.specs.Refusals.{verdict_of, load_lines}
use Rattle.lookup.specs.declared.Lookup.{Lookup}
use Rattle.lookup.specs.Build.{links_of, linked, box_of}
use Rattle.lookup.specs.Lookup.{locate_of}
use Rattle.lookup_laws.specs.Loaded.{Room, Below, filled_with}
use Rattle.lookup_laws.proofs.Loaded as built
use Rattle.loads.specs.Load.{Work, Load, cartesian_from, indexed, placed_in, lengths_in, load_by, load_of}
use Rattle.loads.proofs.Ways.{as_long, accepted}

module _ (kind : ℕ) (s : Sizes) (xs : List Float) (responses : ℕ) (angle radius rate : Float) (d : Work)
    (fine : verdict_of (load_lines kind s (lengths_in responses d) xs angle radius rate) ≡ Ok tt) where
  abbrev after : Work
  after = (load_of kind s xs responses angle radius rate d).work

  -- the Cartesian list then
  abbrev cart : List Float
  cart = over (cartesian_from kind xs) d.cartesian

  says : load_of kind s xs responses angle radius rate d ≡ indexed s.m angle radius (placed_in kind xs d)
  unfolding load_of load_by
  says = ap (λ (u : Result ⊤ Refusal). load_by u (indexed s.m angle radius (placed_in kind xs d)) d) fine

  left_is : after.left ≡ over (linked cart s.m).left d.left
  unfolding indexed
  left_is = ap (λ (l : Load). l.work.left) says

  right_is : after.right ≡ over (linked cart s.m).right d.right
  unfolding indexed
  right_is = ap (λ (l : Load). l.work.right) says

  pub enough : Room cart s.m (links_of d.left d.right)
  enough =
      let v = verdict_of (load_lines kind s (lengths_in responses d) xs angle radius rate) in
      let r = accepted kind s xs responses angle radius rate d v refl fine in
      let n : length (cartesian_from kind xs) ≤ length d.cartesian = omega (arith, as_long kind xs) in
      record { some = r.some; most = r.lists.3; positions = omega (arith, length_over (cartesian_from kind xs) d.cartesian n); left = r.lists.1; right = r.lists.2 }

  -- A LOADED SET'S TREE IS THE BARE ONE FILLED IN PLACE ORDER, each measurement's number being its place
  pub bare : filled_with cart s.m (links_of d.left d.right) ≡ record { lists = lists_of cart after.left after.right (over (upto built.itself s.m) (replicate s.m 0)); count = s.m; bounds = box_of cart s.m }
  bare =
      built.loaded cart s.m (links_of d.left d.right) enough
      ∙ ap (λ (l : List ℕ). record { lists = lists_of cart l (over (linked cart s.m).right d.right) (over (upto built.itself s.m) (replicate s.m 0)); count = s.m; bounds = box_of cart s.m }) (sym left_is)
      ∙ ap (λ (l : List ℕ). record { lists = lists_of cart after.left l (over (upto built.itself s.m) (replicate s.m 0)); count = s.m; bounds = box_of cart s.m }) (sym right_is)

  -- NO SEARCH OVER IT IS REFUSED: a query that its own checks let pass is answered
  pub answers : (look : Lookup) (q : Point3) → Below s.m (locate_of look s.m cart after.left after.right q)
  answers look q =
      subst (λ (r : List ℕ). Below s.m (locate_of look s.m cart after.left r q)) (sym right_is)
      (subst (λ (l : List ℕ). Below s.m (locate_of look s.m cart l (over (linked cart s.m).right d.right) q)) (sym left_is)
      (built.never_refused cart s.m (links_of d.left d.right) enough look q))
