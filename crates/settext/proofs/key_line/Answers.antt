-- `settext::key_line` meets its contract. Assumes nothing.
use Rattle.std.proofs.Common.{rules, sym, ap, ◌∙◌, arith}
use Rattle.text.specs.Words.{bytes}
use Rattle.settext.specs.State.{set_m, set_r, set_n, set_delays, set_rate, set_astep, set_rstep}
use Rattle.settext.specs.Lines.{gives, product, m_line, r_line, n_line, rate_line, astep_line, rstep_line, delays_line}
use Rattle.settext.proofs.Laws.{past_keys, wanted, given, given_value, given_word}
use Rattle.settext.proofs.key_line.Goals as goal

pub returns-in-0 : goal.returns-in-0
returns-in-0 c = c.form_line.ensures ∙ sym (wanted c.args.s c.args.line.now 0 c.in-0.is)

pub returns-in-1 : goal.returns-in-1
unfolding bytes
returns-in-1 c =
    let s = c.args.s in
    given_word s _ c.args.line.now _ c.gives.ensures c.strip_prefix.ensures.cases (λ w x p. search rules) ∙ sym (wanted s c.args.line.now 1 c.in-1.is)

pub returns-in-2 : goal.returns-in-2
unfolding m_line bytes
returns-in-2 c =
    let s = c.args.s in
    given s (set_m s) _ _ c.gives-in-2.ensures (λ n x p. search rules) ∙ ap (gives s (set_m s)) c.count.ensures ∙ sym (wanted s c.args.line.now 2 c.in-2.is)

pub returns-in-3 : goal.returns-in-3
unfolding r_line bytes
returns-in-3 c =
    let s = c.args.s in
    given s (set_r s) _ _ c.gives-in-3.ensures (λ n x p. search rules) ∙ ap (gives s (set_r s)) c.count-in-3.ensures ∙ sym (wanted s c.args.line.now 3 c.in-3.is)

pub returns-in-4 : goal.returns-in-4
unfolding n_line bytes
returns-in-4 c =
    let s = c.args.s in
    given s (set_n s) _ _ c.gives-in-4.ensures (λ n x p. search rules) ∙ ap (gives s (set_n s)) (c.product_ok.ensures ∙ ap (product s) c.count-in-4.ensures) ∙ sym (wanted s c.args.line.now 4 c.in-4.is)

pub returns-in-8 : goal.returns-in-8
unfolding delays_line bytes
returns-in-8 c =
    let s = c.args.s in
    given s (set_delays s) _ _ c.gives-in-8.ensures (λ n x p. search rules) ∙ ap (gives s (set_delays s)) c.count-in-8.ensures ∙ sym (wanted s c.args.line.now 8 c.in-8.is)

pub returns-in-5 : goal.returns-in-5
unfolding rate_line bytes
returns-in-5 c =
    let s = c.args.s in
    given_value s (set_rate s) _ _ _ c.gives-in-5.ensures (λ n x p. search rules) c.value.ensures ∙ sym (wanted s c.args.line.now 5 c.in-5.is)

pub returns-in-6 : goal.returns-in-6
unfolding astep_line bytes
returns-in-6 c =
    let s = c.args.s in
    given_value s (set_astep s) _ _ _ c.gives-in-6.ensures (λ n x p. search rules) c.value-in-6.ensures ∙ sym (wanted s c.args.line.now 6 c.in-6.is)

pub returns-in-7 : goal.returns-in-7
unfolding rstep_line bytes
returns-in-7 c =
    let s = c.args.s in
    given_value s (set_rstep s) _ _ _ c.gives-in-7.ensures (λ n x p. search rules) c.value-in-7.ensures ∙ sym (wanted s c.args.line.now 7 c.in-7.is)

pub returns-in_default : goal.returns-in_default
returns-in_default c = c.malformed.ensures ∙ sym (past_keys c.args.s c.args.line.now (omega arith))
