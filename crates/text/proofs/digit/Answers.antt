-- `text::digit` meets its contract. Assumes nothing.
use Rattle.std.proofs.Common.{inl, inr, arith}
use Rattle.text.proofs.Reading.{no_digit, as_digit}
use Rattle.text.proofs.digit.Goals as goal
use Rattle.text.proofs.digit.Goals.{in-48-to-57, in-97-to-102}

pub returns-in_default : goal.returns-in_default
returns-in_default c = no_digit c.args.base c.args.b c.requires (λ h g. omega arith) (λ h g. omega arith)

pub returns-in_default-2 : goal.returns-in_default-2
returns-in_default-2 c = no_digit c.args.base c.args.b c.requires (λ h g. omega arith) (λ h g. omega arith)

pub returns-in_default-3 : goal.returns-in_default-3
returns-in_default-3 c = no_digit c.args.base c.args.b c.requires (λ h g. omega arith) (λ h g. omega arith)

pub returns : goal.returns
returns c =
    let f = as_digit c.args.base c.args.b c.if-b-lt58.d c.then_some.result in
    elim c.if-b-lt58.branch [ in-48-to-57 w ↦ f (inl (omega arith, omega arith, omega arith)) c.then_some.ensures | in-97-to-102 w ↦ f (inr (omega arith, omega arith, omega arith)) c.then_some.ensures ]
