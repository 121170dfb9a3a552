-- `sofaquery::last` meets its contract. Assumes nothing.
use mathlib.Core.Path.{sym}
use Rattle.queries.proofs.Turns.{nothing, renamed}
use Rattle.sofaquery.proofs.Turns.{nothing_last}
use Rattle.sofaquery.proofs.last.Goals as goal

pub returns-in_default : goal.returns-in_default
returns-in_default c =
    let a = c.args in
    let m = a.memory.now in
    renamed (sym (nothing_last a.went.flow a.went.run m.buf c.in_default.not-Ended)) (nothing m.store.out)
