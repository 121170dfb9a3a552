-- `Store::ask` meets its contract. Assumes nothing.
use Rattle.queries.proofs.Turns.{unasked}
use Rattle.queries.proofs.Store.ask.Goals as goal

pub returns-in_default : goal.returns-in_default
returns-in_default c = unasked c.args.phase c.args.s c.args.q c.args.self.now c.in_default.not-Ready
