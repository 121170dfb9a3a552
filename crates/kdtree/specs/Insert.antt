-- An insertion into the lent lists: the whole effect of one call, refusals included.
use Rattle.std.specs.Prelude.{ℕ, ◌+◌, ◌*◌, Bool, cond, ◌&&◌, List, length, set, eqb, ltb, Result, Ok, Err, Float}
use Rattle.points.specs.declared.Point3.{Point3}
use Rattle.kdtree.specs.declared.BoundingBox.{BoundingBox}
use Rattle.kdtree.specs.declared.Slot.{Slot}
use Rattle.kdtree.specs.declared.Slot.TheVariants.{Left, Right, Blocked}
use Rattle.refusals.specs.declared.Refusal.{Refusal}
use Rattle.refusals.specs.declared.Refusal.TheVariants.{ShortLists, BadLink}
use Rattle.kdtree.specs.Geometry.{next_axis, goes_left, box_at, grown}
use Rattle.kdtree.specs.Tree.{Tree, gone, bad, node, subtree}

-- the four lent lists
pub record Lists : Type 0 where
  pub positions : List Float
  pub left : List ℕ
  pub right : List ℕ
  pub numbers : List ℕ

abbrev pub lists_of : List Float → List ℕ → List ℕ → List ℕ → Lists
lists_of xs l r n = record { positions = xs; left = l; right = r; numbers = n }

-- what a call leaves: its answer and the lists
pub record Stored : Type 0 where
  pub out : Result BoundingBox Refusal
  pub lists : Lists

abbrev pub stored_as : Result BoundingBox Refusal → Lists → Stored
stored_as o a = record { out = o; lists = a }

-- the tree of the first count places, links followed f times
abbrev pub tree_of : Lists → ℕ → ℕ → Tree
tree_of a count f = subtree a.left a.right a.positions count f 0

-- ---- where a point goes: to the absent side that it comes to

unfoldable pub side_slot : Tree → Slot → Slot → Slot
side_slot gone here deeper = here
side_slot bad here deeper = Blocked
side_slot (node n x l r) here deeper = deeper

module _ (p : Point3) where
  unfoldable pub slot_in : Tree → ℕ → Slot
  slot_in gone axis = Blocked
  slot_in bad axis = Blocked
  slot_in (node n x l r) axis =
      cond (goes_left p x axis) (side_slot l (Left n) (slot_in l (next_axis axis))) (side_slot r (Right n) (slot_in r (next_axis axis)))

-- ---- what is written

-- the new node's own cells, at the next place
unfoldable pub written : Lists → ℕ → Point3 → ℕ → Lists
written a c p number = record {
  positions = set (set (set a.positions (3 * c) p.x) (3 * c + 1) p.y) (3 * c + 2) p.z;
  left = set a.left c 65535;
  right = set a.right c 65535;
  numbers = set a.numbers c number;
}

-- the place whose side a slot is, or the root
abbrev pub owner_of : Slot → ℕ
owner_of (Left o) = o
owner_of (Right o) = o
owner_of Blocked = 0

-- a slot leads to the place c now, if it is one: both lists of links
unfoldable pub left_linked : Slot → ℕ → List ℕ → List ℕ
left_linked (Left o) c l = set l o c
left_linked (Right o) c l = l
left_linked Blocked c l = l

unfoldable pub right_linked : Slot → ℕ → List ℕ → List ℕ
right_linked (Left o) c l = l
right_linked (Right o) c l = set l o c
right_linked Blocked c l = l

unfoldable pub linked_at : Slot → ℕ → Lists → Lists
linked_at s c a = record { positions = a.positions; left = left_linked s c a.left; right = right_linked s c a.right; numbers = a.numbers }

-- ---- the call

-- each list has room for one more, and fewer than 16384 are in
abbrev pub room_for : ℕ → ℕ → ℕ → ℕ → ℕ → Bool
room_for c positions left right numbers = ltb c 16384 && (ltb (3 * c + 2) positions && (ltb c left && (ltb c right && ltb c numbers)))

abbrev pub has_room : Lists → ℕ → Bool
has_room a c = room_for c (length a.positions) (length a.left) (length a.right) (length a.numbers)

-- nothing is written
abbrev pub no_room : Lists → Stored
no_room a = record { out = Err ShortLists; lists = a }

abbrev pub bad_link : Lists → Stored
bad_link a = record { out = Err BadLink; lists = a }

unfoldable pub by_slot : Slot → Lists → ℕ → BoundingBox → Point3 → ℕ → Stored
by_slot (Left o) a c b p number = record { out = Ok (grown b p); lists = written (linked_at (Left o) c a) c p number }
by_slot (Right o) a c b p number = record { out = Ok (grown b p); lists = written (linked_at (Right o) c a) c p number }
by_slot Blocked a c b p number = bad_link a

unfoldable pub insert_of : Lists → ℕ → BoundingBox → Point3 → ℕ → Stored
insert_of a c b p number =
    let first : Stored = record { out = Ok (box_at p); lists = written a c p number } in
    let later = by_slot (slot_in p (tree_of a c c) 0) a c b p number in
    let r = cond (eqb c 0) first later in
    cond (has_room a c) r (no_room a)
