-- What a writer writes, one part after the other. Assumes nothing.
use Rattle.std.proofs.Common.{ℕ, List, [], ◌++◌, refl, ◌∙◌}
use Rattle.blocks.specs.declared.Writer.{Writer}
use Rattle.blocks.specs.Put.{Fits, Writes}
use Rattle.blocks.proofs.Into.{begin, then, room_left, room_right}

pub nothing : (w : Writer) → Writes [] w w
nothing w = record { wrote = begin w.at w.out.now; same = refl }

-- two parts
module _ (a b : List ℕ) (w v : Writer) (h : Fits (a ++ b) w) where
  pub first : Fits a w
  first = room_left w.at a b w.out.now h

  pub second : Writes a w v → Fits b v
  second s = room_right w.at v.at a b w.out.now v.out.now h s.wrote

  pub both : (u : Writer) → Writes a w v → Writes b v u → Writes (a ++ b) w u
  both u s t = record { wrote = then w.at v.at u.at a b w.out.now v.out.now u.out.now h s.wrote t.wrote; same = t.same ∙ s.same }

-- three parts
module _ (a b c : List ℕ) (w v u : Writer) (h : Fits ((a ++ b) ++ c) w) where
  front : Fits (a ++ b) w
  front = first (a ++ b) c w v h

  pub first_of_three : Fits a w
  first_of_three = first a b w v front

  pub second_of_three : Writes a w v → Fits b v
  second_of_three s = second a b w v front s

  pub third_of_three : Writes a w v → Writes b v u → Fits c u
  third_of_three s t = second (a ++ b) c w u h (both a b w v front u s t)

  pub all_three : (x : Writer) → Writes a w v → Writes b v u → Writes c u x → Writes ((a ++ b) ++ c) w x
  all_three x s t r = both (a ++ b) c w u h x (both a b w v front u s t) r

-- four parts
module _ (a b c d : List ℕ) (w v u x : Writer) (h : Fits (((a ++ b) ++ c) ++ d) w) where
  pub front_of_four : Fits ((a ++ b) ++ c) w
  front_of_four = first ((a ++ b) ++ c) d w v h

  pub fourth_of_four : Writes a w v → Writes b v u → Writes c u x → Fits d x
  fourth_of_four s t r = second ((a ++ b) ++ c) d w x h (all_three a b c w v u front_of_four x s t r)

  pub all_four : (y : Writer) → Writes a w v → Writes b v u → Writes c u x → Writes d x y → Writes (((a ++ b) ++ c) ++ d) w y
  all_four y s t r q = both ((a ++ b) ++ c) d w x h y (all_three a b c w v u front_of_four x s t r) q
