-- `mix::silence` meets its contract: zeros to all that stands from k on. Assumes nothing.
use Rattle.mix.proofs.Laws.{tail_is}
use Rattle.mix.proofs.silence.Goals as goal

pub returns : goal.returns
returns c = tail_is c.args.k c.args.out.now c.zeros.new.dst c.zeros.ensures
