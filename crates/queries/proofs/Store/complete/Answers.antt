-- `Store::complete` meets its contract. Assumes nothing.
use native.Mathlib.Omega.{arith}
use native.Mathlib.Nat.{zero-add}
use mathlib.Core.Path.{◌≡◌, refl, ◌∙◌}
use Rattle.lists.specs.Over.{into}
use Rattle.refusals.specs.Refusals.{number_of, place_of}
use Rattle.blocks.specs.Blocks.{refused_text}
use Rattle.blocks.proofs.Rooms.{refused_room}
use Rattle.queries.specs.Program.{text_in}
use Rattle.queries.proofs.Turns.{nothing, put, says, renamed, load_ready, load_refused}
use lib.ListN.{length}
use borrow.Author.Rules.{rules}
use Rattle.queries.proofs.Store.complete.Goals as goal

pub refused_block-requires : goal.refused_block-requires
refused_block-requires c =
    let room : 73848 ≡ length c.args.self.now.out = search rules in
    omega (arith, refused_room c.number.result c.place.result, room)

pub returns-in-Ok : goal.returns-in-Ok
returns-in-Ok c =
    let a = c.args in
    record { turn = says (load_ready a.s (text_in a.self.now.given) _ _ _ c.load-answer.ensures _ c.in-Ok.is) (nothing _); ears = refl }

pub returns-in-Err : goal.returns-in-Err
unfolding into
returns-in-Err c =
    let a = c.args in
    let w = c.refused_block.ensures in
    let text : refused_text c.number.result c.place.result ≡ refused_text (number_of c.in-Err.refusal) (place_of c.in-Err.refusal) = cc in
    record { turn = says (load_refused a.s (text_in a.self.now.given) _ _ _ c.load-answer.ensures _ c.in-Err.is) (renamed text (put (w.0 ∙ zero-add _) w.1)); ears = refl }
