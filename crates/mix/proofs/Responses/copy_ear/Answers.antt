-- `mix::Responses::copy_ear` meets its contract: a copy of the taps that both the output and n leave room for, then the silence. Assumes nothing.
use Rattle.std.proofs.Common.{◌≡◌, ◌≤◌, ◌<◌, min, ap, ◌∙◌, ◌+◌, ℕ, Float, List, length, get_or, arith}
use Rattle.std.proofs.lemmas.List.{length-take}
use lib.ListN.{length-drop}
use lib.Ieee.{nan}
use Rattle.lists.specs.Over.{over, upto}
use native.Mathlib.Nat.{lt_of_lt_of_le}
use Rattle.mix.specs.declared.Ear.{Ear}
use Rattle.mix.specs.declared.Responses.{Responses}
use Rattle.mix.specs.Mix.{receiver_of, tap_of, tailed, start_of}
use Rattle.mix.proofs.Laws.{whole, shorter_past, two_ears, reaches, part_upto}
use Rattle.mix.proofs.Responses.copy_ear.Goals as goal

pub start-a-requires : goal.start-a-requires
start-a-requires c = let s = c.args.self.now.sized in (lt_of_lt_of_le c.requires s.high, s.receivers, s.taps)

-- k samples from the start are there, where k is at most n
reach : (t : Responses) (number a k : ℕ) (ear : Ear) (out : List Float) → a ≡ start_of t.r t.n (receiver_of ear) number → k ≡ min t.n (length out) → number < t.m → a + k ≤ length t.taps.now
reach t number a k ear out q z h = reaches t.m t.r t.n number (receiver_of ear) k (length t.taps.now) a q t.sized h (two_ears ear) (omega arith) t.whole

pub offset_bounds-self-a : goal.offset_bounds-self-a
offset_bounds-self-a c = omega (arith, reach c.args.self.now _ _ _ c.args.ear _ c.start-a.ensures c.min-k.ensures c.requires)

pub slice_bounds-copy-count : goal.slice_bounds-copy-count
slice_bounds-copy-count c = omega (arith, reach c.args.self.now _ _ _ c.args.ear _ c.start-a.ensures c.min-k.ensures c.requires)

pub slice_bounds-copy-start : goal.slice_bounds-copy-start
slice_bounds-copy-start c = omega (arith, reach c.args.self.now _ _ _ c.args.ear _ c.start-a.ensures c.min-k.ensures c.requires)

pub copy-requires : goal.copy-requires
copy-requires c =
    let h = reach c.args.self.now _ _ _ c.args.ear _ c.start-a.ensures c.min-k.ensures c.requires in
    (simp (length-take, length-drop) (omega (arith, h)), omega arith)

pub returns : goal.returns
returns c =
    let a = c.args in
    let t = a.self.now in
    let k = c.min-k.result in
    let h = reach c.args.self.now _ _ _ c.args.ear _ c.start-a.ensures c.min-k.ensures c.requires in
    let low : k ≤ t.n = omega arith in
    let short : k ≤ length a.out.now = omega arith in
    let from : ℕ → List Float = λ b. over (upto (λ i. get_or t.taps.now (b + i) nan) k) a.out.now in
    c.silence.ensures
    ∙ ap (tailed k) (c.copy.ensures
    ∙ ap (λ (l : List Float). over l a.out.now) (part_upto t.taps.now nan c.start-a.result k h)
    ∙ ap from c.start-a.ensures)
    ∙ whole (λ i. tap_of t.taps.now t.r t.n (receiver_of a.ear) i a.number) t.n k a.out.now low short (λ i h g. shorter_past _ _ i _ c.min-k.ensures h g)
