-- `Store::take_line` meets its contract. Assumes nothing.
use mathlib.Core.Path.{ap, ◌∙◌}
use Rattle.queries.specs.Program.{Turn, text_in, work_in}
use Rattle.queries.proofs.Turns.{renamed, line_few, line_turn_lem, line_ears_of}
use Rattle.queries.proofs.Store.take_line.Goals as goal

pub by_step-requires : goal.by_step-requires
by_step-requires c =
    let a = c.args in
    line_few a.phase (text_in a.self.now.given) a.line.now _ _ c.take_line-step.ensures c.state.ensures c.requires

pub returns : goal.returns
returns c =
    let a = c.args in
    let d = text_in a.self.now.given in
    let w = work_in a.self.now.work in
    let t = c.take_line-step.ensures in
    let r = c.by_step.ensures in
    let at = line_turn_lem a.phase d a.line.now _ _ t c.state.ensures w in
    record {
      turn = record { session = r.turn.session ∙ ap (λ (t : Turn). t.session) at; printed = renamed (ap (λ (t : Turn). t.printed) at) r.turn.printed };
      ears = r.ears ∙ line_ears_of a.phase d a.line.now _ _ t c.state.ensures w a.self.now.ears;
    }
