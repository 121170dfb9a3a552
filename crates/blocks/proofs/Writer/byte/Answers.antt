-- `blocks::Writer::byte` meets its contract. Assumes nothing.
use Rattle.std.proofs.Common.{refl, arith}
use Rattle.blocks.proofs.Into.{one}
use Rattle.blocks.proofs.Writer.byte.Goals as goal

pub returns : goal.returns
returns c =
    let w = c.args.self.now in
    record { wrote = (refl, one w.at c.args.b w.out.now (omega (arith, c.requires))); same = refl }
