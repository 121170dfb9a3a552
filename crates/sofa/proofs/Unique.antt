-- CONTRACTS THAT LEAVE NO CHOICE: of each exported function, two answers that its contract permits for the same arguments are equal, and so is what each list
-- that it may write then holds. `Post` is the function's own contract, as the check reads it from its `ensures`: κs are the lifetimes, a the arguments, r the
-- answer, e the parameters at the return, so that `e.1.1.0.now` is what the third parameter's list holds then. Assumes nothing.
use mathlib.Core.Path.{◌≡◌, sym, ap, ◌∙◌}
use Rattle.sofa.specs.Convert.{Turned}
use Rattle.sofa.specs.Tree.{Left}
use Rattle.sofa.specs.Set.{LoadedSet, MovedTo, Filtered}
use Rattle.sofa.proofs.sofa_version.Reads as version
use Rattle.sofa.proofs.sofa_root.Reads as root
use Rattle.sofa.proofs.sofa_sine.Reads as sine
use Rattle.sofa.proofs.sofa_cosine.Reads as cosine
use Rattle.sofa.proofs.sofa_arctangent.Reads as arctangent
use Rattle.sofa.proofs.tree.sofa_tree_nearest.Reads as tree-nearest
use Rattle.sofa.proofs.set.sofa_find.Reads as find
use Rattle.sofa.proofs.set.sofa_left_response.Reads as left_response
use Rattle.sofa.proofs.set.sofa_right_response.Reads as right_response
use Rattle.sofa.proofs.set.sofa_neighbors_of.Reads as neighbors-of
use Rattle.sofa.proofs.set.sofa_max_delay.Reads as max-delay
use Rattle.sofa.proofs.convert.sofa_to_spherical.Reads as to_spherical
use Rattle.sofa.proofs.convert.sofa_to_cartesian.Reads as to_cartesian
use Rattle.sofa.proofs.tree.sofa_tree_insert.Reads as tree-insert
use Rattle.sofa.proofs.set.sofa_load.Reads as load
use Rattle.sofa.proofs.set.sofa_find_mut.Reads as find-mut
use Rattle.sofa.proofs.set.sofa_filter.Reads as filter
use Rattle.sofa.proofs.set.sofa_filter_nointerp.Reads as filter-nointerp
use Rattle.sofa.proofs.set.sofa_filter_number.Reads as filter-number

-- both are what the contract's definition says
only : {A : Type 0} {a b d : A} → a ≡ d → b ≡ d → a ≡ b
only p q = p ∙ sym q

-- ---- an answer

pub sofa_version : (κs : _) (a : _) (r r' : _) (e e' : _) → version.Post κs a r e → version.Post κs a r' e' → r ≡ r'
sofa_version κs a r r' e e' p q = only p q

pub sofa_root : (κs : _) (a : _) (r r' : _) (e e' : _) → root.Post κs a r e → root.Post κs a r' e' → r ≡ r'
sofa_root κs a r r' e e' p q = only p q

pub sofa_sine : (κs : _) (a : _) (r r' : _) (e e' : _) → sine.Post κs a r e → sine.Post κs a r' e' → r ≡ r'
sofa_sine κs a r r' e e' p q = only p q

pub sofa_cosine : (κs : _) (a : _) (r r' : _) (e e' : _) → cosine.Post κs a r e → cosine.Post κs a r' e' → r ≡ r'
sofa_cosine κs a r r' e e' p q = only p q

pub sofa_arctangent : (κs : _) (a : _) (r r' : _) (e e' : _) → arctangent.Post κs a r e → arctangent.Post κs a r' e' → r ≡ r'
sofa_arctangent κs a r r' e e' p q = only p q

pub sofa_tree_nearest : (κs : _) (a : _) (r r' : _) (e e' : _) → tree-nearest.Post κs a r e → tree-nearest.Post κs a r' e' → r ≡ r'
sofa_tree_nearest κs a r r' e e' p q = only p q

pub sofa_find : (κs : _) (a : _) (r r' : _) (e e' : _) → find.Post κs a r e → find.Post κs a r' e' → r ≡ r'
sofa_find κs a r r' e e' p q = only p q

pub sofa_left_response : (κs : _) (a : _) (r r' : _) (e e' : _) → left_response.Post κs a r e → left_response.Post κs a r' e' → r ≡ r'
sofa_left_response κs a r r' e e' p q = only p q

pub sofa_right_response : (κs : _) (a : _) (r r' : _) (e e' : _) → right_response.Post κs a r e → right_response.Post κs a r' e' → r ≡ r'
sofa_right_response κs a r r' e e' p q = only p q

pub sofa_neighbors_of : (κs : _) (a : _) (r r' : _) (e e' : _) → neighbors-of.Post κs a r e → neighbors-of.Post κs a r' e' → r ≡ r'
sofa_neighbors_of κs a r r' e e' p q = only p q

pub sofa_max_delay : (κs : _) (a : _) (r r' : _) (e e' : _) → max-delay.Post κs a r e → max-delay.Post κs a r' e' → r ≡ r'
sofa_max_delay κs a r r' e e' p q = only p q

-- ---- an answer and lists

module _ (κs : _) (a : _) (r r' : _) (e e' : _) (p : to_spherical.Post κs a r e) (q : to_spherical.Post κs a r' e') where
  pub sofa_to_spherical : r ≡ r'
  sofa_to_spherical = ap (λ (x : Turned). x.out) (only p q)

  pub sofa_to_spherical_values : e.0.now ≡ e'.0.now
  sofa_to_spherical_values = ap (λ (x : Turned). x.values) (only p q)

module _ (κs : _) (a : _) (r r' : _) (e e' : _) (p : to_cartesian.Post κs a r e) (q : to_cartesian.Post κs a r' e') where
  pub sofa_to_cartesian : r ≡ r'
  sofa_to_cartesian = ap (λ (x : Turned). x.out) (only p q)

  pub sofa_to_cartesian_values : e.0.now ≡ e'.0.now
  sofa_to_cartesian_values = ap (λ (x : Turned). x.values) (only p q)

module _ (κs : _) (a : _) (r r' : _) (e e' : _) (p : tree-insert.Post κs a r e) (q : tree-insert.Post κs a r' e') where
  pub sofa_tree_insert : r ≡ r'
  sofa_tree_insert = ap (λ (x : Left). x.out) (only p q)

  pub sofa_tree_insert_positions : e.1.1.0.now ≡ e'.1.1.0.now
  sofa_tree_insert_positions = ap (λ (x : Left). x.lists.positions) (only p q)

  pub sofa_tree_insert_left : e.1.1.1.0.now ≡ e'.1.1.1.0.now
  sofa_tree_insert_left = ap (λ (x : Left). x.lists.left) (only p q)

  pub sofa_tree_insert_right : e.1.1.1.1.0.now ≡ e'.1.1.1.1.0.now
  sofa_tree_insert_right = ap (λ (x : Left). x.lists.right) (only p q)

  pub sofa_tree_insert_numbers : e.1.1.1.1.1.0.now ≡ e'.1.1.1.1.1.0.now
  sofa_tree_insert_numbers = ap (λ (x : Left). x.lists.numbers) (only p q)

module _ (κs : _) (a : _) (r r' : _) (e e' : _) (p : load.Post κs a r e) (q : load.Post κs a r' e') where
  pub sofa_load : r ≡ r'
  sofa_load = ap (λ (x : LoadedSet). x.out) (only p q)

  pub sofa_load_left : e.1.1.1.1.1.1.1.0.now ≡ e'.1.1.1.1.1.1.1.0.now
  sofa_load_left = ap (λ (x : LoadedSet). x.work.left) (only p q)

  pub sofa_load_right : e.1.1.1.1.1.1.1.1.0.now ≡ e'.1.1.1.1.1.1.1.1.0.now
  sofa_load_right = ap (λ (x : LoadedSet). x.work.right) (only p q)

  pub sofa_load_neighbours : e.1.1.1.1.1.1.1.1.1.0.now ≡ e'.1.1.1.1.1.1.1.1.1.0.now
  sofa_load_neighbours = ap (λ (x : LoadedSet). x.work.neighbours) (only p q)

  pub sofa_load_cartesian : e.1.1.1.1.1.1.1.1.1.1.0.now ≡ e'.1.1.1.1.1.1.1.1.1.1.0.now
  sofa_load_cartesian = ap (λ (x : LoadedSet). x.work.cartesian) (only p q)

module _ (κs : _) (a : _) (r r' : _) (e e' : _) (p : find-mut.Post κs a r e) (q : find-mut.Post κs a r' e') where
  pub sofa_find_mut : r ≡ r'
  sofa_find_mut = ap (λ (x : MovedTo). x.out) (only p q)

  pub sofa_find_mut_coordinate : e.1.1.1.1.1.0.now ≡ e'.1.1.1.1.1.0.now
  sofa_find_mut_coordinate = ap (λ (x : MovedTo). x.coordinates) (only p q)

module _ (κs : _) (a : _) (r r' : _) (e e' : _) (p : filter.Post κs a r e) (q : filter.Post κs a r' e') where
  pub sofa_filter : r ≡ r'
  sofa_filter = ap (λ (x : Filtered). x.out) (only p q)

  pub sofa_filter_out_left : e.1.1.1.1.1.1.1.1.1.1.1.1.0.now ≡ e'.1.1.1.1.1.1.1.1.1.1.1.1.0.now
  sofa_filter_out_left = ap (λ (x : Filtered). x.left) (only p q)

  pub sofa_filter_out_right : e.1.1.1.1.1.1.1.1.1.1.1.1.1.0.now ≡ e'.1.1.1.1.1.1.1.1.1.1.1.1.1.0.now
  sofa_filter_out_right = ap (λ (x : Filtered). x.right) (only p q)

module _ (κs : _) (a : _) (r r' : _) (e e' : _) (p : filter-nointerp.Post κs a r e) (q : filter-nointerp.Post κs a r' e') where
  pub sofa_filter_nointerp : r ≡ r'
  sofa_filter_nointerp = ap (λ (x : Filtered). x.out) (only p q)

  pub sofa_filter_nointerp_out_left : e.1.1.1.1.1.1.1.1.1.1.1.0.now ≡ e'.1.1.1.1.1.1.1.1.1.1.1.0.now
  sofa_filter_nointerp_out_left = ap (λ (x : Filtered). x.left) (only p q)

  pub sofa_filter_nointerp_out_right : e.1.1.1.1.1.1.1.1.1.1.1.1.0.now ≡ e'.1.1.1.1.1.1.1.1.1.1.1.1.0.now
  sofa_filter_nointerp_out_right = ap (λ (x : Filtered). x.right) (only p q)

module _ (κs : _) (a : _) (r r' : _) (e e' : _) (p : filter-number.Post κs a r e) (q : filter-number.Post κs a r' e') where
  pub sofa_filter_number : r ≡ r'
  sofa_filter_number = ap (λ (x : Filtered). x.out) (only p q)

  pub sofa_filter_number_out_left : e.1.1.1.1.1.0.now ≡ e'.1.1.1.1.1.0.now
  sofa_filter_number_out_left = ap (λ (x : Filtered). x.left) (only p q)

  pub sofa_filter_number_out_right : e.1.1.1.1.1.1.0.now ≡ e'.1.1.1.1.1.1.0.now
  sofa_filter_number_out_right = ap (λ (x : Filtered). x.right) (only p q)
