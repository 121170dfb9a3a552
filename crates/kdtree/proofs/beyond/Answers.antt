use mathlib.Core.Path.{◌∙◌, sym, subst}
use lib.Dec.{T}
use lib.Ieee.{binary32, fits, of_bits}
use Rattle.kdtree.proofs.OneProduct as one
use Rattle.kdtree.proofs.beyond.Goals as goal
use Rattle.kdtree.proofs.beyond.Goals.{then-q-min, else-q-min, then-q-max, else-q-max}

pub returns : goal.returns
unfolding of_bits
returns c =
    let a = c.args in
    let g = c.if-q-min.g in
    -- what owning an `f32` tells: the format holds it
    let held : T (fits binary32 a.sum) = subst T (sym c.well_formed.0.1) tt in
    elim c.if-q-min.branch [
      | then-q-min w ↦ one.on_below a.sum a.min a.max a.q g c.requires w.if-q-min.true w.g-is
      | else-q-min w ↦ elim c.if-q-max.branch [
        | then-q-max v ↦ one.on_above a.sum a.min a.max a.q g c.requires w.if-q-min.false v.if-q-max.true (w.g-is ∙ v.above-is)
        | else-q-max v ↦ one.on_within a.sum a.min a.max a.q g c.requires held w.if-q-min.false v.if-q-max.false (w.g-is ∙ v.above-is)
      ]
    ]
