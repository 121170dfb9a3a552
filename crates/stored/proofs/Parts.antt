-- A measurement's taps lie inside the response list, its entries inside the table. Assumes nothing.
use Prim.Native.Nat.{ℕ, ◌+◌, ◌*◌, ◌≤◌, ◌<◌}
use mathlib.Core.Path.{◌≡◌, refl, sym, ap}
use mathlib.Core.List.{List}
use native.Mathlib.Omega.{arith}
use lib.ListN.{length}
use Rattle.std.proofs.lemmas.Bool.{false≢true}
use Rattle.std.specs.Prelude.{⊤, Result, Ok, Err, is_ok}
use Rattle.std.specs.Result.{result_and}
use Rattle.refusals.specs.declared.Refusal.{Refusal}
use Rattle.limits.specs.declared.Sizes.{Sizes}
use Rattle.limits.specs.Allowed.{responses_fit, neighbours_fit}
use Rattle.limits.specs.Refusals.{verdict_of, number_lines}
use Rattle.limits.proofs.Passed as passed
use Rattle.mix.specs.Mix.{receiver_of, start_of}
use Rattle.mix.proofs.Laws.{inside, two_ears}
use Rattle.mix.specs.declared.Ear.{Ear}
use Rattle.stored.specs.declared.Taps.{Taps}
use Rattle.stored.specs.Numbers.{part_of}

pub start_bounds : (s : Sizes) (len number : ℕ) → verdict_of (number_lines s (responses_fit s len) number) ≡ Ok tt → (number < 16384) × (s.r ≤ 8) × (s.n ≤ 8192)
start_bounds s len number fine =
    let h = passed.number_passed s (responses_fit s len) number fine in
    (omega (arith, h.below, h.sizes.most), h.sizes.receivers, h.sizes.taps)

module _ (s : Sizes) (len number : ℕ) (ear : Ear) where
  -- where the taps end
  pub part_ends : (t : Taps) → part_of s len number (receiver_of ear) ≡ Ok t → t.start + t.count ≤ len
  unfolding part_of
  part_ends t h = go (verdict_of (number_lines s (responses_fit s len) number)) refl h
    where
      go : (u : Result ⊤ Refusal) → u ≡ verdict_of (number_lines s (responses_fit s len) number) → result_and u (Ok (record { start = start_of s.r s.n (receiver_of ear) number; count = s.n })) ≡ Ok t → t.start + t.count ≤ len
      go (Ok tt) eu z =
          let g = passed.number_passed s (responses_fit s len) number (sym eu) in
          let ea : start_of s.r s.n (receiver_of ear) number ≡ t.start = cc in
          let en : s.n ≡ t.count = cc in
          let room = passed.responses_room s len g.fits in
          omega (arith, ea, en, room, inside s.m s.r s.n number (receiver_of ear) g.below g.sizes.ears (two_ears ear))
      go (Err refusal) eu z = absurd (false≢true (ap is_ok z))

-- where the entries end
pub row_fits : (s : Sizes) (near : List ℕ) (number : ℕ) → verdict_of (number_lines s (neighbours_fit s (length near)) number) ≡ Ok tt → 6 * number + 5 < length near
row_fits s near number fine =
    let h = passed.number_passed s (neighbours_fit s (length near)) number fine in
    omega (arith, h.below, passed.neighbours_room s (length near) h.fits)
