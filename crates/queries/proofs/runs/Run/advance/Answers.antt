-- `Run::advance` meets its contract. Assumes nothing.
use native.Mathlib.Omega.{arith}
use mathlib.Core.Path.{◌≡◌, sym, ap, subst, ◌∙◌}
use mathlib.Core.List.{[]}
use lib.Dec.{lit≤}
use lib.ListN.{length, take, drop}
use Rattle.queries.specs.Program.{Session, session_in}
use Rattle.queries.specs.Sound.{SoundPhase}
use Rattle.queries.specs.Machine.{between_bytes, Advance, run_place}
use Rattle.queries.proofs.Keeps.{turn_sound}
use Rattle.queries.proofs.Turns.{nothing, renamed, silent_ears, silent_buf, buf_by, all_over, found_line, a_line, line_ears_lem, no_line, more_ears}
use borrow.Author.Rules.{rules}
use Rattle.queries.proofs.runs.Run.advance.Goals as goal

pub returns-then-is_over : goal.returns-then-is_over
returns-then-is_over c =
    let a = c.args in
    let m = a.memory.now in
    let o = sym c.is_over.ensures ∙ c.if-is_over.true in
    let v = all_over 40000 (run_place a.self m) (drop a.at a.chunk.now) a.chunk.now o in
    record {
      place = ap (λ (v : Advance). v.place) v;
      left = ap (λ (v : Advance). v.left) v;
      printed = renamed (ap (λ (v : Advance). v.printed) v) (nothing m.store.out);
      ears = silent_ears 40000 (run_place a.self m) (drop a.at a.chunk.now) _ o;
      buffer = silent_buf 40000 (run_place a.self m) (drop a.at a.chunk.now) _ o;
      next = omega arith;
      moves = λ h. h;
    }

pub invariant_of-result : goal.invariant_of-result
invariant_of-result c =
    let a = c.args in
    let t = c.take_line-turned.ensures in
    let k = session_in a.self.phase a.memory.now.store in
    record { sound = record { limits = subst SoundPhase (sym (ap (λ (k : Session). k.phase) t.turn.session)) (turn_sound k (take c.in-Line.n c.next_line.new.buf) a.self.sound.limits); used = lit≤ tt } }

pub returns-in-Line : goal.returns-in-Line
returns-in-Line c =
    let a = c.args in
    let m = a.memory.now in
    let k = session_in a.self.phase m.store in
    let n = c.next_line in
    let g = c.in-Line in
    let f = found_line m.buf a.chunk.now a.at _ _ _ g.is n.ensures.within in
    let t = c.take_line-turned.ensures in
    let going = sym c.is_over.ensures ∙ c.if-is_over.false in
    let room : length m.buf ≡ 40000 = search rules in
    let v = rw room at (a_line m.buf n.new.buf a.chunk.now k a.at a.self.used n.result going n.ensures.same g.next g.n g.is) in
    record {
      place = ap (λ (k : Session). between_bytes k []) t.turn.session ∙ ap (λ (v : Advance). v.place) v;
      left = ap (λ (v : Advance). v.left) v;
      printed = renamed (ap (λ (v : Advance). v.printed) v) t.turn.printed;
      ears = t.ears ∙ (rw room at (line_ears_lem m.buf n.new.buf a.chunk.now k a.at a.self.used n.result going n.ensures.same g.next g.n g.is m.store.ears));
      buffer = rw room at (buf_by (length m.buf) (run_place a.self m) (drop a.at a.chunk.now) m.buf n.new.buf going n.ensures.buffer);
      next = f.2;
      moves = λ h. f.1;
    }

pub returns-in-More : goal.returns-in-More
returns-in-More c =
    let a = c.args in
    let m = a.memory.now in
    let k = session_in a.self.phase m.store in
    let n = c.next_line in
    let g = c.in-More in
    let going = sym c.is_over.ensures ∙ c.if-is_over.false in
    let room : length m.buf ≡ 40000 = search rules in
    let v = rw room at (no_line m.buf n.new.buf a.chunk.now k a.at a.self.used n.result going n.ensures.same g.n g.is) in
    record {
      place = ap (λ (v : Advance). v.place) v;
      left = ap (λ (v : Advance). v.left) v;
      printed = renamed (ap (λ (v : Advance). v.printed) v) (nothing m.store.out);
      ears = rw room at (more_ears m.buf n.new.buf a.chunk.now k a.at a.self.used n.result going n.ensures.same g.n g.is m.store.ears);
      buffer = rw room at (buf_by (length m.buf) (run_place a.self m) (drop a.at a.chunk.now) m.buf n.new.buf going n.ensures.buffer);
      next = omega arith;
      moves = λ h. h;
    }
