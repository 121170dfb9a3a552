-- The bare tree filled by inserts with room is the source's tree, grows by its box, and names what it names, whatever the floats. Assumes nothing.
use mathlib.Core.Path.{◌≡◌, refl, sym, ap, ◌∙◌, subst}
use mathlib.Core.List.{List, [], ◌∷◌, ◌++◌}
use Prim.Native.Nat.{ℕ, suc, ◌+◌}
use native.Mathlib.Omega.{arith}
use lib.ListN.{length}
use Rattle.std.specs.Prelude.{Ok}
use Rattle.points.specs.declared.Point3.{Point3}
use Rattle.kdtree.specs.declared.Best.{Best}
use Rattle.kdtree.specs.declared.BoundingBox.{BoundingBox}
use Rattle.kdtree.specs.Geometry.{grown}
use Rattle.kdtree.specs.Tree.{Tree, subtree}
use Rattle.kdtree.specs.Search.{search}
use Rattle.kdtree.specs.Insert.{Lists, Stored}
use Rattle.kdtree.specs.Nearest.{start_at_root, found_from, number_of}
use Rattle.kdtree.proofs.Whole as whole
use Rattle.kdtree_laws.specs.Demand3.{Numbered, Bare, empty, insert_into, fill, RoomFor, nearest_in, search_in, tree_in}
use Rattle.kdtree_laws.proofs.Pruned.{Clean}
use Rattle.kdtree_laws.proofs.Rep.{graft, rep_at}
use Rattle.kdtree_laws.proofs.Filled.{Filled, Next, first, next, root_clean, root_below}
use Rattle.kdtree_laws.proofs.Demand3.{room_now, room_kept, afterwards, keeps, empty_names_nothing}
use Rattle.source.specs.Rust.{Option, None, Some}
use Rattle.source.specs.Kdtree as source
use Rattle.source.specs.Kdtree.{Link, kd_node, none, some, extend, new_box, grown_by, KdTree, new_tree, insert, insert_rec, nearest_from, nearest}
use Rattle.source_laws.specs.Drawn.{boxed, flat}
use Rattle.source_laws.specs.Bare.{inserted, number_at, AnswersBox, SameTree}
use Rattle.source_laws.proofs.Shapes.{flat_new, flat_extend}
use Rattle.source_laws.proofs.Insert.{boxed_same, insert_same}
use Rattle.source_laws.proofs.Find.{Names, nearest_names}

-- the bare tree t and the source's k hold the same
record Held (t : Bare) (k : KdTree) : Type 0 where
  root : Numbered
  others : List Numbered
  filled : Filled root others t
  tree : k.root ≡ boxed (number_at t) filled.tree 0
  box : source.BoundingBox
  has_box : k.bounds ≡ Some box
  corners : flat box ≡ t.bounds

-- the first insert
held_first : (t : Bare) (x : Numbered) (room : whole.Room t.lists t.count) (e : t.count ≡ 0) → Held (afterwards t x x [] (first t x room e)) (insert new_tree x.point x.number)
unfolding insert new_tree grown_by insert_rec boxed
held_first t x room e =
    let N = first t x room e in
    let t' = afterwards t x x [] N in
    let z = N.starts e in
    record {
      root = x;
      others = [];
      filled = N.filled;
      tree = ap (λ (v : ℕ). some (kd_node x.point 0 v none none)) (sym (ap (λ (y : Numbered). y.number) N.own)) ∙ ap (λ (d : Tree). boxed (number_at t') d 0) (sym z.1);
      box = new_box x.point;
      has_box = refl;
      corners = flat_new x.point ∙ sym z.0;
    }

-- each later insert
module _ (t : Bare) (k : KdTree) (H : Held t k) (x : Numbered) (room : whole.Room t.lists t.count) where
  abbrev N : Next t x H.root (H.others ++ (x ∷ []))
  N = next t x H.root H.others room H.filled

  abbrev t' : Bare
  t' = afterwards t x H.root (H.others ++ (x ∷ [])) N

  abbrev d : Tree
  d = H.filled.tree

  clean : Clean d
  clean = root_clean t.lists.left t.lists.right t.lists.positions t.count d 0 H.filled.rep

  drawn : tree_in t ≡ d
  drawn = rep_at t.lists.left t.lists.right t.lists.positions t.count H.filled.small d 0 t.count (omega arith) H.filled.rep

  grew : (N.bounds ≡ grown t.bounds x.point) × (N.filled.tree ≡ graft t.count x.point (tree_in t) 0)
  grew = N.grows H.filled.some

  numbers_old : boxed (number_at t) d 0 ≡ boxed (number_at t') d 0
  numbers_old =
      boxed_same (number_at t) (number_at t') d 0
      (λ i m. sym (ap (λ (y : Numbered). y.number) (N.old i (root_below t.lists.left t.lists.right t.lists.positions t.count d 0 i H.filled.rep m))))

  held_next : Held t' (insert k x.point x.number)
  unfolding insert
  held_next = record {
    root = H.root;
    others = H.others ++ (x ∷ []);
    filled = N.filled;
    tree = ap (λ (l : Link). insert_rec l x.point x.number 0) (H.tree ∙ numbers_old)
        ∙ ap (λ (v : ℕ). insert_rec (boxed (number_at t') d 0) x.point v 0) (sym (ap (λ (y : Numbered). y.number) N.own))
        ∙ sym (insert_same (number_at t') t.count x.point d 0 0 refl clean)
        ∙ ap (λ (z : Tree). boxed (number_at t') z 0) (ap (λ (z : Tree). graft t.count x.point z 0) (sym drawn) ∙ sym grew.1);
    box = extend H.box x.point;
    has_box = boxes;
    corners = flat_extend H.box x.point ∙ ap (λ (b : BoundingBox). grown b x.point) H.corners ∙ sym grew.0;
  }
    where
      boxes : Some (grown_by k.bounds x.point) ≡ Some (extend H.box x.point)
      boxes = unfold grown_by in ap (λ (o : Option source.BoundingBox). Some (grown_by o x.point)) H.has_box

-- what an insert answered, where the trees then hold the same
answers_box : (t : Bare) (x m : Numbered) (ms : List Numbered) (N : Next t x m ms) (k : KdTree) → Held (afterwards t x m ms N) k → AnswersBox k (insert_into t x).out
answers_box t x m ms N k H = record { box = H.box; has_box = H.has_box; answers = ap (λ (s : Stored). s.out) N.is ∙ ap (λ (b : BoundingBox). Ok b) (sym H.corners) }

room_next : (t : Bare) → RoomFor t.lists (suc t.count) → whole.Room t.lists t.count
room_next t r = room_now t.lists t.count (suc t.count) r (omega arith)

-- all of them
record Whole (t : Bare) (k : KdTree) : Type 0 where
  held : Held t k
  room : RoomFor t.lists t.count

fills : (rest : List Numbered) (t : Bare) (k : KdTree) → Held t k → RoomFor t.lists (t.count + length rest) → Whole (fill rest t) (inserted rest k)
unfolding fill inserted
fills [] t k H r = record { held = H; room = let e : t.count + 0 ≡ t.count = omega arith in subst (RoomFor t.lists) e r }
fills (x ∷ rest) t k H r =
    let room = room_now t.lists t.count (t.count + length (x ∷ rest)) r (omega arith) in
    let M = N t k H x room in
    let u = t' t k H x room in
    subst (λ (b : Bare). Whole (fill rest b) (inserted rest (insert k x.point x.number))) (sym (keeps t x H.root (H.others ++ (x ∷ [])) M))
    (fills rest u (insert k x.point x.number) (held_next t k H x room)
    (room_kept t.lists M.lists (t.count + length (x ∷ rest)) (suc t.count + length rest) M.same (omega arith) r))

-- ---- the answer

module _ (t : Bare) (k : KdTree) (W : Whole t k) where
  abbrev H : Held t k
  H = W.held

  abbrev tr : Tree
  tr = H.filled.tree

  drawn_tree : tree_in t ≡ tr
  drawn_tree = rep_at t.lists.left t.lists.right t.lists.positions t.count H.filled.small tr 0 t.count (omega arith) H.filled.rep

  same_tree : k.root ≡ boxed (number_at t) (tree_in t) 0
  same_tree = H.tree ∙ ap (λ (z : Tree). boxed (number_at t) z 0) (sym drawn_tree)

  grows : (x : Numbered) → RoomFor t.lists (suc t.count) → AnswersBox (insert k x.point x.number) (insert_into t x).out
  grows x r = let room = room_next t r in answers_box t x H.root (H.others ++ (x ∷ [])) (N t k H x room) (insert k x.point x.number) (held_next t k H x room)

  long : whole.Readable t.lists t.count
  long = let r = W.room in record { most = r.most; positions = r.positions; left = r.left; right = r.right; numbers = r.numbers }

  named_by : (o : Option ℕ) (w : Option Best) → Names (number_at t) o w → number_of t.lists.numbers w ≡ Ok o
  unfolding number_of
  named_by (Some n) (Some s) e = ap (λ (i : ℕ). Ok (Some i)) e
  named_by (Some n) None e = absurd e
  named_by None w e = absurd e

  searched : (q : Point3) → search_in t q ≡ search t.count q tr (flat H.box) 0 (start_at_root t.lists.positions q)
  unfolding found_from
  searched q =
      ap (λ (z : Tree). search t.count q z t.bounds 0 (start_at_root t.lists.positions q))
      drawn_tree
      ∙ ap (λ (b : BoundingBox). search t.count q tr b 0 (start_at_root t.lists.positions q)) (sym H.corners)

  asked : (q : Point3) → nearest k q ≡ nearest_from (boxed (number_at t) tr 0) (Some H.box) q
  unfolding nearest
  asked q = ap (λ (l : Link). nearest_from l k.bounds q) H.tree ∙ ap (λ (o : Option source.BoundingBox). nearest_from (boxed (number_at t) tr 0) o q) H.has_box

  answers : (q : Point3) → nearest_in t q ≡ Ok (nearest k q)
  answers q =
      sym (whole.read t.lists t.count t.bounds q long (λ e. let z = H.filled.some in omega arith) (search_in t q) refl)
      ∙ ap (number_of t.lists.numbers) (searched q)
      ∙ named_by (nearest_from (boxed (number_at t) tr 0) (Some H.box) q) (search t.count q tr (flat H.box) 0 (start_at_root t.lists.positions q))
      (nearest_names (number_at t) t.lists.left t.lists.right t.lists.positions t.count H.box q tr H.filled.rep
      (root_clean t.lists.left t.lists.right t.lists.positions t.count tr 0 H.filled.rep) H.filled.whole)
      ∙ ap (λ (o : Option ℕ). Ok o) (sym (asked q))

filled_whole : (a : Lists) (b : BoundingBox) (x : Numbered) (l : List Numbered) → RoomFor a (length (x ∷ l)) → Whole (fill (x ∷ l) (empty a b)) (inserted (x ∷ l) new_tree)
unfolding fill inserted
filled_whole a b x l r =
    let t : Bare = empty a b in
    let room = room_now a 0 (length (x ∷ l)) r (omega arith) in
    let M = first t x room refl in
    subst (λ (z : Bare). Whole (fill l z) (inserted l (insert new_tree x.point x.number))) (sym (keeps t x x [] M))
    (fills l (afterwards t x x [] M) (insert new_tree x.point x.number) (held_first t x room refl)
    (room_kept a M.lists (length (x ∷ l)) (suc 0 + length l) M.same (omega arith) r))

-- THE BARE TREE IS THE SOURCE'S, for any f32: the same nodes, the same box at each insert, the same number named
pub bare : (a : Lists) (b : BoundingBox) (l : List Numbered) → RoomFor a (length l) → SameTree l (fill l (empty a b))
bare a b [] r = nothing
  where
    first_box : (x : Numbered) → RoomFor a 1 → AnswersBox (insert new_tree x.point x.number) (insert_into (empty a b) x).out
    first_box x r = let room = room_next (empty a b) r in answers_box (empty a b) x x [] (first (empty a b) x room refl) (insert new_tree x.point x.number) (held_first (empty a b) x room refl)

    nothing : SameTree [] (fill [] (empty a b))
    nothing = unfold fill inserted new_tree subtree boxed nearest nearest_from in record { tree = refl; grows = first_box; names = λ q. empty_names_nothing a b q }
bare a b (x ∷ l) r =
    let W = filled_whole a b x l r in
    let t = fill (x ∷ l) (empty a b) in
    record { tree = same_tree t (inserted (x ∷ l) new_tree) W; grows = grows t (inserted (x ∷ l) new_tree) W; names = answers t (inserted (x ∷ l) new_tree) W }
