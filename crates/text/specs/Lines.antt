-- Lines of a text that comes in chunks: a line ends in a newline, the byte 10, and in nothing else. Definitions only.
-- `keep` is what is kept of a line begun: all of it (`whole`), or its first bytes (`take room`).
use Rattle.std.specs.Prelude.{ℕ, ◌≤◌, ◌<◌, ◌≡◌, cond, List, [], ◌∷◌, ◌++◌, eqb, length, take, drop}
use Rattle.lists.specs.Over.{over}
use Rattle.text.specs.declared.Cut.{Cut}
use Rattle.text.specs.declared.Cut.TheVariants.{Line, More}

abbrev pub whole : List ℕ → List ℕ
whole l = l

-- a whole line and what is left of the chunk, or a line begun
pub data Part : Type 0 where
  line : List ℕ → List ℕ → Part
  more : List ℕ → Part

-- what the bytes of a chunk make of the line begun
unfoldable pub cut : (List ℕ → List ℕ) → List ℕ → List ℕ → Part
cut keep have [] = more have
cut keep have (b ∷ bs) = cond (eqb b 10) (line have bs) (cut keep (keep (have ++ (b ∷ []))) bs)

-- what comes of a part when the text goes on with t
unfoldable pub go_on : (List ℕ → List ℕ) → List ℕ → Part → Part
go_on keep t (line l rest) = line l (rest ++ t)
go_on keep t (more have) = cut keep have t

-- a part of which only the first bytes of the line are kept
abbrev pub shorten : ℕ → Part → Part
shorten room (line l rest) = line (take room l) rest
shorten room (more have) = more (take room have)

-- the bytes of its line that a part has
abbrev pub part_bytes : Part → List ℕ
part_bytes (line l rest) = l
part_bytes (more have) = have

-- the part that an answer of the code stands for, by the line buffer and the chunk
abbrev pub cut_part : Cut → List ℕ → List ℕ → Part
cut_part (Line next used) buf chunk = line (take used buf) (drop next chunk)
cut_part (More used) buf chunk = more (take used buf)

abbrev pub CutWithin : Cut → ℕ → ℕ → ℕ → Type 0
CutWithin (Line next used) from room n = (used ≤ room) × (from < next) × (next ≤ n)
CutWithin (More used) from room n = used ≤ room

pub record CutSays (chunk buf : List ℕ) (from used : ℕ) (r : Cut) (buf' : List ℕ) : Type 0 where
  pub same : cut_part r buf' chunk ≡ cut (take (length buf)) (take used buf) (drop from chunk)
  -- past the line the buffer stays
  pub buffer : buf' ≡ over (part_bytes (cut (take (length buf)) (take used buf) (drop from chunk))) buf
  pub within : CutWithin r from (length buf) (length chunk)
