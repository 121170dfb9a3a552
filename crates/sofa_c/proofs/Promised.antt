-- EACH EXPORT PROMISES WHAT THE FUNCTION OF ITS NAME IN `sofa` PROMISES, of each function's own contract: so what `sofa` and `sofa_laws` prove of those contracts
-- holds of the exports. `Post` is the contract as the check reads it from the `ensures` (sofa, proofs/Unique.antt). Assumes nothing.
use Rattle.sofa.proofs.sofa_version.Reads as version
use Rattle.sofa_c.proofs.sofa_version.Reads as version_c
use Rattle.sofa.proofs.sofa_root.Reads as root
use Rattle.sofa_c.proofs.sofa_root.Reads as root_c
use Rattle.sofa.proofs.sofa_sine.Reads as sine
use Rattle.sofa_c.proofs.sofa_sine.Reads as sine_c
use Rattle.sofa.proofs.sofa_cosine.Reads as cosine
use Rattle.sofa_c.proofs.sofa_cosine.Reads as cosine_c
use Rattle.sofa.proofs.sofa_arctangent.Reads as arctangent
use Rattle.sofa_c.proofs.sofa_arctangent.Reads as arctangent_c
use Rattle.sofa.proofs.tree.sofa_tree_nearest.Reads as tree_nearest
use Rattle.sofa_c.proofs.sofa_tree_nearest.Reads as tree_nearest_c
use Rattle.sofa.proofs.set.sofa_find.Reads as find
use Rattle.sofa_c.proofs.sofa_find.Reads as find_c
use Rattle.sofa.proofs.set.sofa_left_response.Reads as left_response
use Rattle.sofa_c.proofs.sofa_left_response.Reads as left_response_c
use Rattle.sofa.proofs.set.sofa_right_response.Reads as right_response
use Rattle.sofa_c.proofs.sofa_right_response.Reads as right_response_c
use Rattle.sofa.proofs.set.sofa_neighbors_of.Reads as neighbors_of
use Rattle.sofa_c.proofs.sofa_neighbors_of.Reads as neighbors_of_c
use Rattle.sofa.proofs.set.sofa_max_delay.Reads as max_delay
use Rattle.sofa_c.proofs.sofa_max_delay.Reads as max_delay_c
use Rattle.sofa.proofs.convert.sofa_to_spherical.Reads as to_spherical
use Rattle.sofa_c.proofs.sofa_to_spherical.Reads as to_spherical_c
use Rattle.sofa.proofs.convert.sofa_to_cartesian.Reads as to_cartesian
use Rattle.sofa_c.proofs.sofa_to_cartesian.Reads as to_cartesian_c
use Rattle.sofa.proofs.tree.sofa_tree_insert.Reads as tree_insert
use Rattle.sofa_c.proofs.sofa_tree_insert.Reads as tree_insert_c
use Rattle.sofa.proofs.set.sofa_load.Reads as load
use Rattle.sofa_c.proofs.sofa_load.Reads as load_c
use Rattle.sofa.proofs.set.sofa_find_mut.Reads as find_mut
use Rattle.sofa_c.proofs.sofa_find_mut.Reads as find_mut_c
use Rattle.sofa.proofs.set.sofa_filter.Reads as filter
use Rattle.sofa_c.proofs.sofa_filter.Reads as filter_c
use Rattle.sofa.proofs.set.sofa_filter_nointerp.Reads as filter_nointerp
use Rattle.sofa_c.proofs.sofa_filter_nointerp.Reads as filter_nointerp_c
use Rattle.sofa.proofs.set.sofa_filter_number.Reads as filter_number
use Rattle.sofa_c.proofs.sofa_filter_number.Reads as filter_number_c

pub sofa_version : (κs : _) (a : _) (r : _) (e : _) → version_c.Post κs a r e → version.Post κs a r e
sofa_version κs a r e p = p

pub sofa_root : (κs : _) (a : _) (r : _) (e : _) → root_c.Post κs a r e → root.Post κs a r e
sofa_root κs a r e p = p

pub sofa_sine : (κs : _) (a : _) (r : _) (e : _) → sine_c.Post κs a r e → sine.Post κs a r e
sofa_sine κs a r e p = p

pub sofa_cosine : (κs : _) (a : _) (r : _) (e : _) → cosine_c.Post κs a r e → cosine.Post κs a r e
sofa_cosine κs a r e p = p

pub sofa_arctangent : (κs : _) (a : _) (r : _) (e : _) → arctangent_c.Post κs a r e → arctangent.Post κs a r e
sofa_arctangent κs a r e p = p

pub sofa_tree_nearest : (κs : _) (a : _) (r : _) (e : _) → tree_nearest_c.Post κs a r e → tree_nearest.Post κs a r e
sofa_tree_nearest κs a r e p = p

pub sofa_find : (κs : _) (a : _) (r : _) (e : _) → find_c.Post κs a r e → find.Post κs a r e
sofa_find κs a r e p = p

pub sofa_left_response : (κs : _) (a : _) (r : _) (e : _) → left_response_c.Post κs a r e → left_response.Post κs a r e
sofa_left_response κs a r e p = p

pub sofa_right_response : (κs : _) (a : _) (r : _) (e : _) → right_response_c.Post κs a r e → right_response.Post κs a r e
sofa_right_response κs a r e p = p

pub sofa_neighbors_of : (κs : _) (a : _) (r : _) (e : _) → neighbors_of_c.Post κs a r e → neighbors_of.Post κs a r e
sofa_neighbors_of κs a r e p = p

pub sofa_max_delay : (κs : _) (a : _) (r : _) (e : _) → max_delay_c.Post κs a r e → max_delay.Post κs a r e
sofa_max_delay κs a r e p = p

pub sofa_to_spherical : (κs : _) (a : _) (r : _) (e : _) → to_spherical_c.Post κs a r e → to_spherical.Post κs a r e
sofa_to_spherical κs a r e p = p

pub sofa_to_cartesian : (κs : _) (a : _) (r : _) (e : _) → to_cartesian_c.Post κs a r e → to_cartesian.Post κs a r e
sofa_to_cartesian κs a r e p = p

pub sofa_tree_insert : (κs : _) (a : _) (r : _) (e : _) → tree_insert_c.Post κs a r e → tree_insert.Post κs a r e
sofa_tree_insert κs a r e p = p

pub sofa_load : (κs : _) (a : _) (r : _) (e : _) → load_c.Post κs a r e → load.Post κs a r e
sofa_load κs a r e p = p

pub sofa_find_mut : (κs : _) (a : _) (r : _) (e : _) → find_mut_c.Post κs a r e → find_mut.Post κs a r e
sofa_find_mut κs a r e p = p

pub sofa_filter : (κs : _) (a : _) (r : _) (e : _) → filter_c.Post κs a r e → filter.Post κs a r e
sofa_filter κs a r e p = p

pub sofa_filter_nointerp : (κs : _) (a : _) (r : _) (e : _) → filter_nointerp_c.Post κs a r e → filter_nointerp.Post κs a r e
sofa_filter_nointerp κs a r e p = p

pub sofa_filter_number : (κs : _) (a : _) (r : _) (e : _) → filter_number_c.Post κs a r e → filter_number.Post κs a r e
sofa_filter_number κs a r e p = p
