-- The verdict over a list of lines: the first that is met, and Ok exactly where none is. Assumes nothing.
use mathlib.Core.Path.{◌≡◌, refl, sym, ap, ◌∙◌}
use mathlib.Core.Bool.{Bool, true, false, cond}
use mathlib.Core.List.{List, [], ◌∷◌, ◌++◌}
use Rattle.std.proofs.lemmas.Bool.{false≢true}
use Rattle.std.specs.Prelude.{⊤, Result, Ok, Err, is_ok}
use Rattle.refusals.specs.declared.Refusal.{Refusal}
use Rattle.limits.specs.Refusals.{Check, verdict_of}

never : {r : Refusal} → ◌≡◌ {A = Result ⊤ Refusal} (Err r) (Ok tt) → ⊥
never e = false≢true (ap (λ (r : Result ⊤ Refusal). is_ok r) e)

-- a line that is met gives its refusal
pub stops : (c : Check) (cs : List Check) → c.met ≡ true → verdict_of (c ∷ cs) ≡ Err c.refusal
unfolding verdict_of
stops c cs e = rw e

-- one that is not leaves the verdict to those after it
pub goes_on : (c : Check) (cs : List Check) → c.met ≡ false → verdict_of (c ∷ cs) ≡ verdict_of cs
unfolding verdict_of
goes_on c cs e = rw e

pub none : verdict_of [] ≡ Ok tt
unfolding verdict_of
none = refl

picked : (b : Bool) (r : Refusal) (v : Result ⊤ Refusal) → cond b (Err r) v ≡ Ok tt → (b ≡ false) × (v ≡ Ok tt)
picked true r v e = absurd (never e)
picked false r v e = (refl, e)

-- where the verdict is Ok, the first line is not met, and the verdict on those after it is Ok
pub passed : (c : Check) (cs : List Check) → verdict_of (c ∷ cs) ≡ Ok tt → (c.met ≡ false) × (verdict_of cs ≡ Ok tt)
unfolding verdict_of
passed c cs e = picked c.met c.refusal (verdict_of cs) e

-- none of the lines is met
pub data Unmet : List Check → Type 0 where
  done : Unmet []
  more : {c : Check} {cs : List Check} → c.met ≡ false → Unmet cs → Unmet (c ∷ cs)

pub ok→unmet : (cs : List Check) → verdict_of cs ≡ Ok tt → Unmet cs
ok→unmet [] e = done
ok→unmet (c ∷ cs) e = let p = passed c cs e in more p.0 (ok→unmet cs p.1)

pub unmet→ok : (cs : List Check) → Unmet cs → verdict_of cs ≡ Ok tt
unmet→ok [] done = none
unmet→ok (c ∷ cs) (more e u) = goes_on c cs e ∙ unmet→ok cs u

-- lines that are not met, then one that is: the verdict is that one's, whatever follows
pub first_met : (cs : List Check) (c : Check) (rest : List Check) → Unmet cs → c.met ≡ true → verdict_of (cs ++ (c ∷ rest)) ≡ Err c.refusal
first_met [] c rest done e = stops c rest e
first_met (d ∷ cs) c rest (more h u) e = goes_on d (cs ++ (c ∷ rest)) h ∙ first_met cs c rest u e

-- and each refusal comes from such a line
pub record Source (cs : List Check) (r : Refusal) : Type 0 where
  pub front : List Check
  pub line : Check
  pub rest : List Check
  pub split : cs ≡ front ++ (line ∷ rest)
  pub unmet : Unmet front
  pub met : line.met ≡ true
  pub refusal : line.refusal ≡ r

same_refusal : {r t : Refusal} → ◌≡◌ {A = Result ⊤ Refusal} (Err r) (Err t) → r ≡ t
same_refusal e = cc

here : (c : Check) (cs : List Check) (r : Refusal) → verdict_of (c ∷ cs) ≡ Err r → c.met ≡ true → Source (c ∷ cs) r
here c cs r e t = record { front = []; line = c; rest = cs; split = refl; unmet = done; met = t; refusal = same_refusal (sym (stops c cs t) ∙ e) }

later : (c : Check) (cs : List Check) (r : Refusal) → c.met ≡ false → Source cs r → Source (c ∷ cs) r
later c cs r f s = record { front = c ∷ s.front; line = s.line; rest = s.rest; split = cc; unmet = more f s.unmet; met = s.met; refusal = s.refusal }

by_met : (c : Check) (cs : List Check) (r : Refusal) (b : Bool) → c.met ≡ b → verdict_of (c ∷ cs) ≡ Err r → (verdict_of cs ≡ Err r → Source cs r) → Source (c ∷ cs) r
by_met c cs r true t e next = here c cs r e t
by_met c cs r false f e next = later c cs r f (next (sym (goes_on c cs f) ∙ e))

pub refused→line : (cs : List Check) (r : Refusal) → verdict_of cs ≡ Err r → Source cs r
refused→line [] r e = absurd (false≢true (ap (λ (r : Result ⊤ Refusal). is_ok r) (sym (sym none ∙ e))))
refused→line (c ∷ cs) r e = by_met c cs r c.met refl e (refused→line cs r)
