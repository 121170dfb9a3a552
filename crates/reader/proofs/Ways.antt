-- What verdicts of Ok give a filter: what its search, its blend and its extraction ask. Assumes nothing.
use Prim.Native.Nat.{ℕ, ◌*◌, ◌<◌, ◌≤◌}
use mathlib.Core.Path.{◌≡◌, sym, ap, ◌∙◌}
use mathlib.Core.List.{List}
use lib.ListN.{length}
use lib.Ieee.{Float}
use Rattle.std.specs.Prelude.{Ok}
use Rattle.points.specs.declared.Point3.{Point3}
use Rattle.kdtree.specs.Tree.{TreeHolds}
use Rattle.limits.specs.declared.Sizes.{Sizes}
use Rattle.limits.specs.declared.TreeLengths.{TreeLengths}
use Rattle.limits.specs.Allowed.{tree_lengths, plain_fits, blend_fits, responses_fit}
use Rattle.limits.specs.Refusals.{verdict_of, filter_lines, rated_lines}
use Rattle.limits.proofs.Passed as passed
use Rattle.lookup.specs.declared.Lookup.{Lookup}
use Rattle.lookup.specs.declared.Located.TheVariants.{At}
use Rattle.lookup.specs.Lookup.{locate_of}
use Rattle.mix.specs.Mix.{Sized}
use Rattle.interpolate.specs.Blend.{TableHolds}
use Rattle.reader.specs.Queries.{lengths_of}
use Rattle.reader.proofs.Near.{located_below}

-- what allowed sizes give the blend
sized : (s : Sizes) → passed.Sized s → Sized s.m s.r s.n
sized s h = record { high = h.most; two = h.ears; receivers = h.receivers; taps = h.taps }

-- what `Recorded::filters` asks
abbrev pub Whole : Sizes → List Float → Type 0
Whole s resp = Sized s.m s.r s.n × (s.m * s.r * s.n ≤ length resp)

-- ---- the blended filter

module _ (s : Sizes) (cart : List Float) (left right neigh : List ℕ) (resp : List Float) (rate : Float) (q : Point3) (t : TreeLengths) (et : t ≡ tree_lengths cart left right)
    (fine : Ok tt ≡ verdict_of (filter_lines s (blend_fits s (record { tree = t; responses = length resp; neighbours = length neigh })) rate q)) where
  went : passed.FilterPassed s (blend_fits s (lengths_of cart left right resp neigh)) rate q
  went =
      passed.filter_passed s (blend_fits s (lengths_of cart left right resp neigh)) rate q
      (sym (fine ∙ ap (λ (u : TreeLengths). verdict_of (filter_lines s (blend_fits s (record { tree = u; responses = length resp; neighbours = length neigh })) rate q)) et))

  room : passed.BlendRoom s (lengths_of cart left right resp neigh)
  room = passed.blend_room s (lengths_of cart left right resp neigh) went.fits

  pub filter_search : (0 < s.m) × TreeHolds s.m cart left right
  filter_search = (went.sizes.some, (room.plain.tree.cartesian, room.plain.tree.left, room.plain.tree.right, went.sizes.most))

  pub filter_whole : Whole s resp
  filter_whole = (sized s went.sizes, room.plain.taps)

  pub filter_table : TableHolds s.m cart neigh
  filter_table = (room.plain.tree.cartesian, room.neighbours)

  pub filter_below : (look : Lookup) (k : ℕ) → At k ≡ locate_of look s.m cart left right q → k < s.m
  filter_below look k e = located_below look s.m cart left right q k went.sizes.some e

-- ---- the plain filter

module _ (s : Sizes) (cart : List Float) (left right : List ℕ) (resp : List Float) (rate : Float) (q : Point3) (t : TreeLengths) (et : t ≡ tree_lengths cart left right)
    (fine : Ok tt ≡ verdict_of (filter_lines s (plain_fits s t (length resp)) rate q)) where
  plain_went : passed.FilterPassed s (plain_fits s (tree_lengths cart left right) (length resp)) rate q
  plain_went =
      passed.filter_passed s (plain_fits s (tree_lengths cart left right) (length resp)) rate q
      (sym (fine ∙ ap (λ (u : TreeLengths). verdict_of (filter_lines s (plain_fits s u (length resp)) rate q)) et))

  plain_room : passed.PlainRoom s (tree_lengths cart left right) (length resp)
  plain_room = passed.plain_room s (tree_lengths cart left right) (length resp) plain_went.fits

  pub plain_search : (0 < s.m) × TreeHolds s.m cart left right
  plain_search = (plain_went.sizes.some, (plain_room.tree.cartesian, plain_room.tree.left, plain_room.tree.right, plain_went.sizes.most))

  pub plain_whole : Whole s resp
  plain_whole = (sized s plain_went.sizes, plain_room.taps)

  pub plain_below : (look : Lookup) (k : ℕ) → At k ≡ locate_of look s.m cart left right q → k < s.m
  plain_below look k e = located_below look s.m cart left right q k plain_went.sizes.some e

-- ---- the filter by number

module _ (s : Sizes) (resp : List Float) (rate : Float) (number : ℕ) (fine : Ok tt ≡ verdict_of (rated_lines s (responses_fit s (length resp)) rate number)) where
  rated : passed.RatedPassed s (responses_fit s (length resp)) rate number
  rated = passed.rated_passed s (responses_fit s (length resp)) rate number (sym fine)

  pub number_whole : Whole s resp
  number_whole = (sized s rated.sizes, passed.responses_room s (length resp) rated.fits)

  pub number_below : number < s.m
  number_below = rated.below
