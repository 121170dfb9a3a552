-- Where a text is divided does not matter, the machine goes by lines, and the buffer does not show. Assumes nothing.
use Prim.Native.Nat.{ℕ, zero, suc}
use mathlib.Core.Path.{◌≡◌, refl, sym, ap, subst, ◌∙◌}
use mathlib.Core.Bool.{Bool, true, false, cond}
use mathlib.Core.List.{List, [], ◌∷◌, ◌++◌}
use lib.Dec.{T, eqb}
use lib.ListN.{take}
use lib.Seq.{take-nil}
use Rattle.text.specs.Lines.{Part, line, cut, go_on, shorten, whole}
use Rattle.text.specs.Machine.{At, split_from, behind, reads, byte, runs, after_part, short_at}

picked : (b : Bool) (keep : List ℕ → List ℕ) (t : List ℕ) (x y : Part) → cond b (go_on keep t x) (go_on keep t y) ≡ go_on keep t (cond b x y)
unfolding go_on
picked true keep t x y = refl
picked false keep t x y = refl

-- A text read in two chunks is cut as the whole is
pub chunks : (keep : List ℕ → List ℕ) (have s t : List ℕ) → cut keep have (s ++ t) ≡ go_on keep t (cut keep have s)
unfolding cut go_on
chunks keep have [] t = refl
chunks keep have (b ∷ s) t =
    rw (chunks keep (keep (have ++ (b ∷ []))) s t) (picked (eqb b 10) keep t (line have s) (cut keep (keep (have ++ (b ∷ []))) s))

-- what is kept of a line that goes on is what is kept of its first bytes
kept_on : (room : ℕ) (h t : List ℕ) → take room (take room h ++ t) ≡ take room (h ++ t)
kept_on zero h t = refl
kept_on (suc room) [] t = refl
kept_on (suc room) (x ∷ h) t = ap (λ (l : List ℕ). x ∷ l) (kept_on room h t)

shortened : (b : Bool) (room : ℕ) (x y : Part) → cond b (shorten room x) (shorten room y) ≡ shorten room (cond b x y)
shortened true room x y = refl
shortened false room x y = refl

-- with the first bytes of each line kept the text is cut as it is with all of them
pub cut_kept : (room : ℕ) (have s : List ℕ) → cut (take room) (take room have) s ≡ shorten room (cut whole have s)
unfolding cut
cut_kept room have [] = refl
cut_kept room have (b ∷ s) =
    rw (kept_on room have (b ∷ []), cut_kept room (have ++ (b ∷ [])) s) (shortened (eqb b 10) room (line have s) (cut whole (have ++ (b ∷ [])) s))

module _ {S : Type 0} (ended : S → Bool) (on_line : S → List ℕ → S) where
  module _ (keep : List ℕ → List ℕ) where
    -- in two chunks
    pub runs_on : (a : At S) (s t : List ℕ) → runs ended on_line keep a (s ++ t) ≡ runs ended on_line keep (runs ended on_line keep a s) t
    unfolding runs
    runs_on a [] t = refl
    runs_on a (b ∷ s) t = runs_on (byte ended on_line keep a b) s t

    -- once it has ended nothing changes
    pub stays : (a : At S) (s : List ℕ) → ended a.known ≡ true → runs ended on_line keep a s ≡ a
    unfolding runs byte
    stays a [] e = refl
    stays a (b ∷ s) e = rw e (stays a s e)

    after_pick : (k : S) (b : Bool) (x y : Part) → after_part ended on_line keep k (cond b x y) ≡ cond b (after_part ended on_line keep k x) (after_part ended on_line keep k y)
    after_pick k true x y = refl
    after_pick k false x y = refl

    runs_choose : (b : Bool) (x y : At S) (s : List ℕ) → runs ended on_line keep (cond b x y) s ≡ cond b (runs ended on_line keep x s) (runs ended on_line keep y s)
    runs_choose true x y s = refl
    runs_choose false x y s = refl

    opened : (k : S) (have : List ℕ) (b : ℕ) → ended k ≡ false
        → byte ended on_line keep (record { known = k; have = have }) b
        ≡ cond (eqb b 10) (record { known = on_line k have; have = [] }) (record { known = k; have = keep (have ++ (b ∷ [])) })
    unfolding byte
    opened k have b e = rw e

    -- The machine over a chunk, by the parts that `cut` finds
    pub by_lines : (k : S) (have s : List ℕ) → ended k ≡ false → runs ended on_line keep (record { known = k; have = have }) s ≡ after_part ended on_line keep k (cut keep have s)
    unfolding runs cut after_part
    by_lines k have [] e = refl
    by_lines k have (b ∷ s) e =
        let here : At S = record { known = on_line k have; have = [] } in
        let grown : At S = record { known = k; have = keep (have ++ (b ∷ [])) } in
        ap (λ (a : At S). runs ended on_line keep a s) (opened k have b e)
        ∙ runs_choose (eqb b 10) here grown s
        ∙ ap (λ (a : At S). cond (eqb b 10) (runs ended on_line keep here s) a) (by_lines k (keep (have ++ (b ∷ []))) s e)
        ∙ sym (after_pick k (eqb b 10) (line have s) (cut keep (keep (have ++ (b ∷ []))) s))

  -- The buffer does not show in what is known, where `on_line` does not look past its room; P is what holds of all that is known
  pub runs_kept : (room : ℕ) (P : S → Type 0) → ((k : S) (l : List ℕ) → P k → P (on_line k l)) → ((k : S) (l : List ℕ) → P k → on_line k (take room l) ≡ on_line k l)
      → (k : S) (have s : List ℕ) → P k
      → runs ended on_line (take room) (record { known = k; have = take room have }) s ≡ short_at room (runs ended on_line whole (record { known = k; have = have }) s)
  unfolding runs byte
  runs_kept room P holds blind k have [] p = refl
  runs_kept room P holds blind k have (b ∷ s) p = step (λ k h p. runs_kept room P holds blind k h s p) (ended k) (eqb b 10)
    where
      step : ((k : S) (h : List ℕ) → P k → runs ended on_line (take room) (record { known = k; have = take room h }) s ≡ short_at room (runs ended on_line whole (record { known = k; have = h }) s))
          → (e n : Bool)
          → runs ended on_line (take room) (cond e (record { known = k; have = take room have }) (cond n (record { known = on_line k (take room have); have = [] }) (record { known = k; have = take room (take room have ++ (b ∷ [])) }))) s
          ≡ short_at room (runs ended on_line whole (cond e (record { known = k; have = have }) (cond n (record { known = on_line k have; have = [] }) (record { known = k; have = have ++ (b ∷ []) }))) s)
      step on true n = on k have p
      step on false true =
          rw (blind k have p)
          (ap (λ (h : List ℕ). runs ended on_line (take room) (record { known = on_line k have; have = h }) s) (sym (take-nil {A = ℕ} room)) ∙ on (on_line k have) [] (holds k have p))
      step on false false = rw (kept_on room have (b ∷ [])) (on k (have ++ (b ∷ [])) p)

  reads_stays : (k : S) (ls : List (List ℕ)) → ended k ≡ true → reads ended on_line k ls ≡ k
  unfolding reads
  reads_stays k [] e = refl
  reads_stays k (l ∷ ls) e = rw e

  -- The machine over a whole text: its lines one after the other, and the bytes after the last newline are kept
  pub by_text : (k : S) (have s : List ℕ) → (runs ended on_line whole (record { known = k; have = have }) s).known ≡ reads ended on_line k (split_from have s).lines
  unfolding runs byte split_from reads
  by_text k have [] = refl
  by_text k have (b ∷ s) = step (λ k h. by_text k h s) (ended k) (eqb b 10) refl
    where
      step : ((k : S) (h : List ℕ) → (runs ended on_line whole (record { known = k; have = h }) s).known ≡ reads ended on_line k (split_from h s).lines) → (e n : Bool) → ended k ≡ e
          → (runs ended on_line whole (cond e (record { known = k; have = have }) (cond n (record { known = on_line k have; have = [] }) (record { known = k; have = have ++ (b ∷ []) }))) s).known
          ≡ reads ended on_line k (cond n (behind have (split_from [] s)) (split_from (have ++ (b ∷ [])) s)).lines
      step on true n q =
          ap (λ (a : At S). a.known) (stays whole (record { known = k; have = have }) s q)
          ∙ sym (reads_stays k (cond n (behind have (split_from [] s)) (split_from (have ++ (b ∷ [])) s)).lines q)
      step on false true q = rw q (on (on_line k have) [])
      step on false false q = on k (have ++ (b ∷ []))

  pub by_rest : (k : S) (have s : List ℕ) → ended (reads ended on_line k (split_from have s).lines) ≡ false → (runs ended on_line whole (record { known = k; have = have }) s).have ≡ (split_from have s).rest
  unfolding runs byte split_from reads
  by_rest k have [] e = refl
  by_rest k have (b ∷ s) e = step (λ k h e. by_rest k h s e) (ended k) (eqb b 10) refl e
    where
      step : ((k : S) (h : List ℕ) → ended (reads ended on_line k (split_from h s).lines) ≡ false → (runs ended on_line whole (record { known = k; have = h }) s).have ≡ (split_from h s).rest) → (e n : Bool) → ended k ≡ e → ended (reads ended on_line k (cond n (behind have (split_from [] s)) (split_from (have ++ (b ∷ [])) s)).lines) ≡ false
          → (runs ended on_line whole (cond e (record { known = k; have = have }) (cond n (record { known = on_line k have; have = [] }) (record { known = k; have = have ++ (b ∷ []) }))) s).have
          ≡ (cond n (behind have (split_from [] s)) (split_from (have ++ (b ∷ [])) s)).rest
      step on true n q f =
          let z : true ≡ false = sym (ap ended (reads_stays k (cond n (behind have (split_from [] s)) (split_from (have ++ (b ∷ [])) s)).lines q) ∙ q) ∙ f in
          absurd (subst T z tt)
      step on false true q f = on (on_line k have) [] (rw q at f)
      step on false false q f = on k (have ++ (b ∷ [])) f
