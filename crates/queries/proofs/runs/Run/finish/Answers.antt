-- `Run::finish` meets its contract. Assumes nothing.
use mathlib.Core.Path.{sym, ap}
use lib.ListN.{take}
use Rattle.queries.specs.declared.runs.Phase.{Phase}
use Rattle.queries.specs.Program.{closing}
use Rattle.queries.proofs.Turns.{nothing, renamed}
use Rattle.queries.proofs.runs.Run.finish.Goals as goal

pub returns-in-Over : goal.returns-in-Over
returns-in-Over c =
    let a = c.args in
    renamed (sym (ap (λ (f : Phase). closing f (take a.self.used a.buf.now)) c.in-Over.is)) (nothing a.out.now)
