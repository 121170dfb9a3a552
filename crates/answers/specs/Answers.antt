-- What a set in the text form answers: its load after the last line of the set, and the block of each query. Definitions only.
use Rattle.std.specs.Prelude.{ℕ, ◌*◌, List, take, length, Float}
use Rattle.lists.specs.Over.{over}
use Rattle.points.specs.declared.Point3.{Point3}
use Rattle.limits.specs.declared.Sizes.{Sizes}
use Rattle.lookup.specs.declared.Lookup.{Lookup}
use Rattle.lookup.specs.declared.Located.{Located}
use Rattle.lookup.specs.Lookup.{find_of}
use Rattle.interpolate.specs.Blend.{FilterAnswer}
use Rattle.reader.specs.Queries.{filter_says}
use Rattle.loads.specs.Load.{Work, Load, load_of}
use Rattle.blocks.specs.Blocks.{block_of}
use Rattle.settext.specs.declared.State.{State}

-- the sizes that the keys said, with three coordinates to a position
abbrev pub sizes_in : State → Sizes
sizes_in s = record { m = s.m; c = 3; r = s.r; n = s.n }

-- the load of the set: its first 3m positions, over a response list of this length
unfoldable pub set_of : State → List Float → ℕ → Work → Load
set_of s positions responses d = load_of s.kind (sizes_in s) (take (3 * s.m) positions) responses s.astep s.rstep s.rate d

-- the measurement nearest to a query, or the find's refusal
unfoldable pub nearest_number : State → Lookup → Work → Point3 → Located
nearest_number s look d q = find_of look (sizes_in s) d.cartesian d.left d.right q

-- the filter at a query, with outputs of n values
unfoldable pub filtered_of : State → Lookup → Work → List Float → List Float → Point3 → FilterAnswer
filtered_of s look d responses delays q =
    filter_says (sizes_in s) look d.cartesian d.left d.right d.neighbours responses (take s.delays delays) s.rate q s.n s.n

abbrev pub block_for : FilterAnswer → Located → List ℕ
block_for f found = block_of f.answer found f.left f.right

-- the block of a query
unfoldable pub answer_block : State → Lookup → Work → List Float → List Float → Point3 → List ℕ
answer_block s look d responses delays q = block_for (filtered_of s look d responses delays q) (nearest_number s look d q)

-- what the call leaves: the number of bytes of the block, the list with the block at its front, and both responses
pub record Answered : Type 0 where
  pub count : ℕ
  pub out : List ℕ
  pub left : List Float
  pub right : List Float

abbrev pub answered_as : ℕ → List ℕ → List Float → List Float → Answered
answered_as k out l r = record { count = k; out = out; left = l; right = r }

-- the block b and the responses of f, over the list `out`
abbrev pub block_into : List ℕ → FilterAnswer → List ℕ → Answered
block_into b f out = answered_as (length b) (over b out) f.left f.right

unfoldable pub answered_of : State → Lookup → Work → List Float → List Float → Point3 → List ℕ → Answered
answered_of s look d responses delays q out = block_into (answer_block s look d responses delays q) (filtered_of s look d responses delays q) out
