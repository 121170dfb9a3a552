use Rattle.std.proofs.Common.{◌≡◌, ℕ, suc, ◌+◌, ◌*◌, ◌&&◌, leb, ap, ◌∙◌, arith}
use borrow.Author.Tests.{le-ltb}
use Rattle.kdtree.proofs.has_room.Goals as goal

pub returns-then-count-ge16384 : goal.returns-then-count-ge16384
returns-then-count-ge16384 c = simp (le-ltb _ _ c.if-count-ge16384.true)

-- less than is no more than with one added
pub returns : goal.returns
returns c =
    let a = c.args in
    let e : a.count + 1 ≡ suc a.count = omega arith in
    let f : 3 * (a.count + 1) ≡ suc (3 * a.count + 2) = omega arith in
    c.long_enough.ensures
    ∙ ap (λ (k : ℕ). leb k 16384 && (leb (3 * (a.count + 1)) a.positions && (leb k a.left && (leb k a.right && leb k a.numbers)))) e
    ∙ ap (λ (j : ℕ). leb (suc a.count) 16384 && (leb j a.positions && (leb (suc a.count) a.left && (leb (suc a.count) a.right && leb (suc a.count) a.numbers)))) f
