-- `sofaquery::end` is safe and ends. Assumes nothing.
use Rattle.queries.proofs.Turns.{fits}
use Rattle.sofaquery.proofs.end.Goals as goal

pub write-wrote-requires : goal.write-wrote-requires
write-wrote-requires c = fits c.last-count.ensures
