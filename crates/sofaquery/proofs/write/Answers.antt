-- `sofaquery::write` hands on all that it was given, in order, or says that it failed. Assumes nothing.
use Rattle.std.proofs.Common.{◌≡◌, ◌≤◌, ℕ, ◌-◌, List, ◌++◌, length, take, drop, sym, ap, ◌∙◌, subst, arith, append_assoc, take-append-drop}
use lib.ListN.{length-drop}
use Rattle.std.proofs.lemmas.List.{take_rest}
use Rattle.std.proofs.KnownBytes.{Appends-trans}
use Rattle.sofaquery.proofs.write.Goals as goal

-- n more are gone from the rest
moved : (all done rest : List ℕ) (n : ℕ) → all ≡ done ++ rest → all ≡ (done ++ take n rest) ++ take (length rest - n) (drop n rest)
moved all done rest n e =
    e ∙ ap (λ l. done ++ l) (sym (take-append-drop n rest)) ∙ sym (append_assoc done (take n rest) (drop n rest)) ∙ ap (λ l. (done ++ take n rest) ++ l) (sym (take_rest rest n))

shorter : (rest : List ℕ) (n count : ℕ) → length rest ≤ count → length (take (length rest - n) (drop n rest)) ≤ count
shorter rest n count e = subst (λ (l : List ℕ). length l ≤ count) (sym (take_rest rest n)) (omega (arith, length-drop n rest))

pub loop-rest-preserved : goal.loop-rest-preserved
loop-rest-preserved g c =
    let (done, split, appended, fits) = c.loop-rest.invariant in
    let rest = c.loop-rest.rest.now in
    let n = c.in_ok-wrote.wrote in
    (done ++ take n rest, moved _ done rest n split, Appends-trans _ _ _ _ _ appended c.in_ok-wrote.ensures.bytes, shorter rest n _ fits)
