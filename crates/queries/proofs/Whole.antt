-- However a text is cut into chunks, all that the turns over the chunks print, and then the end, come to `output_from` of the text (`whole`); once
-- the program is over, nothing more is printed, whatever the text goes on with (`nothing_more`). `program`, `told` and `printed` say it of what `advance` and
-- `finish` promise. Assumes nothing.
use Prim.Native.Nat.{ℕ, suc, ◌≤◌}
use mathlib.Core.Path.{◌≡◌, refl, sym, ap, subst, ◌∙◌}
use mathlib.Core.Bool.{Bool, true, false}
use mathlib.Core.List.{List, [], ◌∷◌, ◌++◌, append_assoc, append-nil}
use lib.Dec.{T, lit≤}
use lib.ListN.{take, drop}
use Rattle.text.specs.Lines.{Part, line, more, cut, whole as all}
use Rattle.text.specs.Machine.{At, split, runs, after_part, short_at}
use Rattle.text.proofs.Chunks.{runs_on, runs_kept, stays, by_lines, by_text, by_rest}
use Rattle.settext.specs.Lines.{TextLists, After}
use Rattle.settext_laws.proofs.Long.{long_lines, end_of_lem}
use Rattle.settext_laws.proofs.Reached.{begins_so}
use Rattle.loads.specs.Load.{Work}
use Rattle.queries.specs.declared.runs.Run.{Run}
use Rattle.queries.specs.declared.Told.{Told}
use Rattle.queries.specs.declared.Memory.{Memory}
use Rattle.queries.specs.declared.runs.Phase.{Phase}
use Rattle.queries.specs.declared.runs.Phase.TheVariants.{Reading, Ready, Over}
use Rattle.queries.specs.Program.{Session, Known, known_as, state_in, is_over, after_turn, line_turn, ended, printing, on_line, end_text, closing, closed, begun, output_from, no_lists, no_work, output_of}
use Rattle.queries.specs.Sound.{SoundPhase}
use Rattle.queries.specs.Machine.{between_bytes, Advance, part_advance, advance_of, run_place, AdvanceSays, FinishSays, joined, Makes, done, next, goes}
use Rattle.queries.proofs.Keeps.{turn_sound}
use Rattle.queries.proofs.Turns.{silent, goes_by, front}

-- ---- turns are the machine of the lines

-- between two bytes, with this printed so far
abbrev at : List ℕ → At Session → At Known
at p a = record { known = known_as a.known p; have = a.have }

abbrev goes_on : List ℕ → Advance → At Known
goes_on p a = at (p ++ a.printed) a.place

module _ (room : ℕ) where
  abbrev over_chunk : At Known → List ℕ → At Known
  over_chunk a s = runs ended on_line (take room) a s

  by_part : (p : List ℕ) (k : Session) (x : Part) → after_part ended on_line (take room) (known_as k p) x ≡ over_chunk (goes_on p (part_advance k x)) (part_advance k x).left
  unfolding after_part runs on_line
  by_part p k (line l rest) = refl
  by_part p k (more h) = rw (append-nil p)

  -- a turn is the machine over the bytes that it reads
  one : (p : List ℕ) (a : At Session) (s : List ℕ) → over_chunk (at p a) s ≡ over_chunk (goes_on p (advance_of room a s)) (advance_of room a s).left
  unfolding runs
  one p a s = by (is_over a.known.phase) refl
    where
      by : (b : Bool) → is_over a.known.phase ≡ b → over_chunk (at p a) s ≡ over_chunk (goes_on p (advance_of room a s)) (advance_of room a s).left
      by true e =
          stays ended on_line (take room) (at p a) s e
          ∙ ap (λ (q : List ℕ). at q a) (sym (append-nil p))
          ∙ ap (λ (z : Advance). over_chunk (goes_on p z) z.left) (sym (silent room a s e))
      by false e =
          by_lines ended on_line (take room) (known_as a.known p) a.have s e
          ∙ by_part p a.known (cut (take room) a.have s)
          ∙ ap (λ (z : Advance). over_chunk (goes_on p z) z.left) (sym (goes_by room a s e))

  -- all turns are the machine over all chunks
  each : {a z : At Session} {cs : List (List ℕ)} {p : List ℕ} (q : List ℕ) → Makes room a cs p z → over_chunk (at q a) (joined cs) ≡ at (q ++ p) z
  unfolding joined runs
  each {a} q done = ap (λ (q : List ℕ). at q a) (sym (append-nil q))
  each q (next m) = each q m
  each {a} {z} q (goes {c = c} {cs = cs} {p = p} m) =
      let t = advance_of room a c in
      runs_on ended on_line (take room) (at q a) c (joined cs)
      ∙ ap (λ (b : At Known). over_chunk b (joined cs)) (one q a c)
      ∙ sym (runs_on ended on_line (take room) (goes_on q t) t.left (joined cs))
      ∙ each (q ++ t.printed) m
      ∙ ap (λ (q : List ℕ). at q z) (append_assoc q t.printed p)

-- ---- the line buffer does not show

end_kept : (room : ℕ) (f : Phase) (h rest : List ℕ) → (is_over f ≡ false → h ≡ rest) → closing f (take (suc room) h) ≡ closing f rest
end_kept room (Reading s) h rest e = ap end_text (end_of_lem room s h rest (e refl))
end_kept room (Ready s look) h rest e = ap end_text (end_of_lem room s h rest (e refl))
end_kept room Over h rest e = refl

abbrev first : TextLists → Work → At Known
first d w = at [] (between_bytes (begun d w) [])

abbrev closed_at : At Known → List ℕ
closed_at a = closed a.known a.have

module _ (room : ℕ) (large : 40000 ≤ suc room) (d : TextLists) (w : Work) where
  by_all : (s : List ℕ) → closed_at (short_at (suc room) (runs ended on_line all (first d w) s)) ≡ output_from d w s
  unfolding output_from
  by_all s =
      let k = by_text ended on_line (known_as (begun d w) []) [] s in
      let r = runs ended on_line all (first d w) s in
      ap (λ (t : List ℕ). r.known.printed ++ t)
      (end_kept room r.known.session.phase r.have (split s).rest (λ e. by_rest ended on_line (known_as (begun d w) []) [] s (ap ended (sym k) ∙ e)))
      ∙ ap (λ (a : Known). closed a (split s).rest) k

  -- no line is looked at past the buffer
  blind : (k : Known) (l : List ℕ) → SoundPhase k.session.phase → on_line k (take (suc room) l) ≡ on_line k l
  unfolding on_line line_turn
  blind k l h =
      let n = k.session in
      ap (λ (a : After). printing k.printed (after_turn n.phase a n.work)) (long_lines (suc room) large (state_in n.phase) l n.lists h.taps)

  keeps : (k : Known) (l : List ℕ) → SoundPhase k.session.phase → SoundPhase (on_line k l).session.phase
  unfolding on_line
  keeps k l h = turn_sound k.session l h

  comes_to_lem : (s : List ℕ) (a : At Known) → runs ended on_line (take (suc room)) (first d w) s ≡ a → closed_at a ≡ output_from d w s
  comes_to_lem s a e =
      ap closed_at (sym e ∙ runs_kept ended on_line (suc room) (λ k. SoundPhase k.session.phase) keeps blind (known_as (begun d w) []) [] s begins_so)
      ∙ by_all s

  -- ---- the whole program

  -- Where the text is divided, and how large the line buffer is, does not matter
  pub whole : {z : At Session} {cs : List (List ℕ)} {p : List ℕ} → Makes (suc room) (between_bytes (begun d w) []) cs p z
      → p ++ closing z.known.phase z.have ≡ output_from d w (joined cs)
  whole {z} {cs} {p} m = comes_to_lem (joined cs) (at p z) (each (suc room) [] m)

  nothing_left : (f : Phase) (h p : List ℕ) → is_over f ≡ true → p ++ closing f h ≡ p
  nothing_left (Reading s) h p e = absurd (subst T (sym e) tt)
  nothing_left (Ready s look) h p e = absurd (subst T (sym e) tt)
  nothing_left Over h p e = append-nil p

  -- Once over, all is printed: whatever the text goes on with
  pub nothing_more : {z : At Session} {cs : List (List ℕ)} {p : List ℕ} → Makes (suc room) (between_bytes (begun d w) []) cs p z → is_over z.known.phase ≡ true
      → (t : List ℕ) → p ≡ output_from d w (joined cs ++ t)
  nothing_more {z} {cs} {p} m e t =
      sym (nothing_left z.known.phase z.have p e)
      ∙ comes_to_lem (joined cs ++ t) (at p z)
      (runs_on ended on_line (take (suc room)) (first d w) (joined cs) t
      ∙ ap (λ (a : At Known). runs ended on_line (take (suc room)) a t) (each (suc room) [] m)
      ∙ stays ended on_line (take (suc room)) (at p z) t e)

-- The program, with its line buffer of 40000 bytes and its lists of zeros
pub program : {z : At Session} {cs : List (List ℕ)} {p : List ℕ} → Makes 40000 (between_bytes (begun no_lists no_work) []) cs p z
    → p ++ closing z.known.phase z.have ≡ output_of (joined cs)
unfolding output_of
program m = whole 39999 (lit≤ tt) no_lists no_work m

-- ---- in the code's terms

-- what `advance` promises is a turn
pub told : {chunk : List ℕ} {from : ℕ} {m m' : Memory} {t : Run} {r : Told} {cs : List (List ℕ)} {p : List ℕ} {z : At Session}
    → AdvanceSays chunk from m m' t r → Makes 40000 (run_place r.run m') (drop r.next chunk ∷ cs) p z
    → Makes 40000 (run_place t m) (drop from chunk ∷ cs) (take r.count m'.store.out ++ p) z
told says m = rw (front says.printed) (goes (rw (says.place, says.left) at m))

-- what the turns over a text said to print, and what `finish` says then, is the output of the text
pub printed : {cs : List (List ℕ)} {p out out' : List ℕ} {r : ℕ} (t : Run) (m : Memory)
    → Makes 40000 (between_bytes (begun no_lists no_work) []) cs p (run_place t m) → FinishSays m.buf t out out' r → p ++ take r out' ≡ output_of (joined cs)
printed {p = p} t m made says = ap (λ (l : List ℕ). p ++ l) (front says) ∙ program made
