-- P1 to P12, by computation. Assumes nothing.
use mathlib.Core.Path.{refl}
use lib.Ieee.{of_bits, add, sub, mul, div, neg, lt, le, eq}
use Rattle.points.specs.Points.{point_at, dist_sq_of}
use Rattle.kdtree.specs.Geometry.{byAxis, coord_of, next_axis, outside, box_dist_sq, box_at, grown, with_min, with_max, goes_left, left_first}
use Rattle.kdtree.specs.Tree.{link_of, side_of, subtree}
use Rattle.kdtree.specs.Search.{improve, visited, nearer_box, farther_box, farther, after_near, search}
use Rattle.kdtree.specs.Insert.{side_slot, slot_in, written, left_linked, right_linked, linked_at, by_slot, insert_of}
use Rattle.kdtree.specs.Nearest.{start_at, found_from, number_of, nearest_of}
use Rattle.lists.specs.Each.{Each}
use Rattle.kdtree_laws.specs.Demand3.{kept, fill}
use Rattle.root.specs.Root.{root_of}
use Rattle.floats.specs.Floats.{ceil_of}
use Rattle.coords.specs.Coords.{radius_of}
use Rattle.lookup.specs.Lookup.{scaled, clamped_to}
use Rattle.neighbors.specs.Neighbors.{angle_cap}
use Rattle.proved_examples.specs.Table.{blank, Holds, rows}

pub table : Each Holds rows
unfolding kept fill blank of_bits add sub mul neg lt le eq byAxis coord_of next_axis dist_sq_of outside box_dist_sq box_at grown with_min with_max goes_left left_first point_at link_of side_of subtree improve visited nearer_box farther_box farther after_near search side_slot slot_in written left_linked right_linked linked_at by_slot insert_of start_at found_from number_of nearest_of div root_of radius_of scaled clamped_to ceil_of angle_cap
table = (refl, (refl, (refl, (refl, (refl, (refl, ((refl, (refl, tt)), (refl, (refl, (refl, (refl, (refl, (refl, (refl, (refl, tt)))))))))))))))
