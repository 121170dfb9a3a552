-- The transcription run on document 01's examples P1 to P7 and P12, by computation: what it must give to be the source. Assumes nothing.
use Rattle.std.proofs.Common.{◌≡◌, ℕ, refl}
use lib.Ieee.{binary32, of_bits, add, sub, mul, div, neg, lt, le, eq, is_nan}
use Rattle.floats.specs.Floats.{zero32, abs_of, max_of, ceil_of}
use Rattle.points.specs.declared.Point3.{Point3}
use Rattle.source.specs.Rust.{None, Some, at, put}
use Rattle.source.specs.Kdtree.{KdTree, new_box, extend_at, extend, dist_sq_at, box_dist_sq, new_tree, insert_rec, grown_by, insert, dist_sq, nearest_rec, nearest_from, nearest}
use Rattle.source.specs.Neighbors.{max_steps}

-- a point on the x axis, by the bits of its coordinate
abbrev on_x : ℕ → Point3
on_x x = record { x = of_bits binary32 x; y = zero32; z = zero32 }

abbrev on_y : ℕ → Point3
on_y y = record { x = zero32; y = of_bits binary32 y; z = zero32 }

-- (0,0,0) as 0, (2,0,0) as 1
abbrev pair : KdTree
pair = insert (insert new_tree (on_x 0) 0) (on_x 0x40000000) 1

pub record Table : Type 0 where
  pub p1 : nearest new_tree (on_x 0) ≡ None
  pub p2 : nearest pair (on_x 0x3f800000) ≡ Some 0
  pub p3 : nearest (insert (insert new_tree (on_x 0x40000000) 1) (on_x 0) 0) (on_x 0x3f800000) ≡ Some 1
  pub p4 : nearest (insert (insert (insert new_tree (on_x 0x41200000) 0) (on_x 0x3f800000) 1) (on_x 0xbf800000) 2) (on_x 0) ≡ Some 1
  pub p5 : nearest (insert (insert new_tree (on_x 0) 0) (on_y 0x3f800000) 1) (on_y 0x3f800000) ≡ Some 1
  pub p6 : nearest (insert (insert new_tree (on_x 0x7f61b1e6) 0) (on_x 0x7e967699) 1) (on_x 0xff61b1e6) ≡ Some 0
  pub p7 : nearest pair (on_x 0x7fc00000) ≡ Some 0
  pub p12_two : max_steps (of_bits binary32 0x40000000) zero32 ≡ 23
  pub p12_all : max_steps (of_bits binary32 0x42340000) zero32 ≡ 1

pub table : Table
unfolding at put new_box extend_at extend dist_sq_at box_dist_sq new_tree insert_rec grown_by insert dist_sq nearest_rec nearest_from nearest max_steps of_bits add sub mul div neg lt le eq is_nan abs_of max_of ceil_of
table = record { p1 = refl; p2 = refl; p3 = refl; p4 = refl; p5 = refl; p6 = refl; p7 = refl; p12_two = refl; p12_all = refl }
