-- `blocks::Writer::count` meets its contract. Assumes nothing.
use Rattle.std.proofs.Common.{ℕ, ◌+◌, refl, ap}
use Rattle.text.specs.Print.{decimal_text}
use Rattle.blocks.proofs.Into.{tail}
use Rattle.blocks.proofs.Writer.count.Goals as goal

pub returns : goal.returns
returns c =
    let w = c.args.self.now in
    let p = c.put_decimal in
    record { wrote = (ap (λ (k : ℕ). w.at + k) p.ensures.0, tail w.at (decimal_text c.args.k) w.out.now p.new.out c.requires p.ensures.1); same = refl }
