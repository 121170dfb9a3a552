-- `blocks::Writer::value` meets its contract. Assumes nothing.
use Rattle.std.proofs.Common.{ℕ, ◌-◌, length, take, drop, refl, ap, ◌∙◌, arith, length-drop}
use lib.ListN.{length-take}
use Rattle.lists.specs.Over.{over}
use Rattle.text.specs.Print.{hex_text}
use Rattle.blocks.specs.Blocks.{value_text}
use Rattle.blocks.proofs.Into.{tail}
use Rattle.blocks.proofs.Values.{value_length}
use Rattle.blocks.proofs.Writer.value.Goals as goal

pub put_hex-requires : goal.put_hex-requires
put_hex-requires c = simp (length-take, length-drop) (omega (arith, c.requires, value_length c.args.x))

pub returns : goal.returns
unfolding value_text
returns c =
    let w = c.args.self.now in
    let d = w.out.now in
    let e = ap (λ (k : ℕ). over (hex_text k) (take (length d - w.at) (drop w.at d))) c.pattern.ensures in
    record { wrote = (omega (arith, value_length c.args.x), tail w.at (value_text c.args.x) d c.put_hex.new.out c.requires (c.put_hex.ensures ∙ e)); same = refl }
