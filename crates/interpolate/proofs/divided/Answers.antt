-- `interpolate::divided` meets its contract. Assumes nothing.
use Rattle.interpolate.proofs.Laws as Laws
use Rattle.interpolate.proofs.divided.Goals as goal

pub returns : goal.returns
returns c = (
  Laws.divided_list c.args.p c.args.sum c.share-a.result c.share-b.result c.share-c.result c.share-d.result c.share-a.ensures c.share-b.ensures c.share-c.ensures c.share-d.ensures,
  λ m g. record { one = g.one; four = g.four; a_in = rw c.share-a.ensures g.a_in; b_in = rw c.share-b.ensures g.b_in; c_in = rw c.share-c.ensures g.c_in; d_in = rw c.share-d.ensures g.d_in },
)
