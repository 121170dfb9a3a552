-- Short texts and what the program prints of them, by computation. Assumes nothing.
use Prim.Native.Nat.{ℕ}
use Prim.Native.String.{String}
use mathlib.Core.Path.{◌≡◌, refl}
use mathlib.Core.List.{List, [], ◌∷◌, ◌++◌}
use Rattle.text.specs.Machine.{split_from, reads}
use Rattle.text.specs.Number.{begins, count_of, hex_of, num_from, at_most, digit_of}
use Rattle.text.specs.Print.{decimal_text, decimal_in}
use Rattle.text.specs.Words.{bytes}
use Rattle.text.specs.Keys.{exactly_of, num_behind}
use Rattle.settext.specs.State.{line_number, line_count, went_of, bad_of}
use Rattle.settext.specs.Lines.{kind_of, product, key_line, form_line, kind_line, m_line, r_line, n_line, rate_line, astep_line, rstep_line, delays_line, line_of, end_of}
use Rattle.limits.specs.Allowed.{kind_ok, sizes_ok}
use Rattle.limits.specs.Refusals.{verdict_of}
use Rattle.loads.specs.Load.{load_by, load_of}
use Rattle.blocks.specs.Blocks.{word_line, count_line, refused_text, form_error}
use Rattle.answers.specs.Answers.{set_of}
use Rattle.queries.specs.Program.{line_turn, on_line, output_from, output_of}

-- lines of text, each ended by a newline
abbrev lines : List String → List ℕ
lines [] = []
lines (l ∷ ls) = bytes l ++ (10 ∷ lines ls)

-- nothing at all: the first line is missing
pub empty : output_of [] ≡ lines ("form error at line 1" ∷ [])
unfolding output_of output_from split_from reads end_of line_number line_count form_error count_line decimal_text decimal_in bytes
empty = refl

-- a line that is not ended is malformed
pub unfinished : output_of (bytes "form=1") ≡ lines ("form error at line 1" ∷ [])
unfolding output_of output_from split_from reads end_of line_number line_count form_error count_line decimal_text decimal_in bytes
unfinished = refl

-- a carriage return is no part of a line's end
pub carriage_return : output_of (bytes "form=1" ++ (13 ∷ 10 ∷ [])) ≡ lines ("form error at line 1" ∷ [])
unfolding output_of output_from split_from reads on_line line_turn line_of key_line form_line exactly_of begins bad_of end_of line_number line_count form_error count_line decimal_text decimal_in bytes
carriage_return = refl

-- the second line is missing
pub cut_short : output_of (lines ("form=1" ∷ [])) ≡ lines ("form error at line 2" ∷ [])
unfolding output_of output_from split_from reads on_line line_turn line_of key_line form_line exactly_of begins went_of end_of line_number line_count form_error count_line decimal_text decimal_in bytes
cut_short = refl

-- no measurement: the set is well formed, its load is refused, and what comes after is not read
pub no_measurement : output_of (lines ("form=1" ∷ "kind=cartesian" ∷ "m=0" ∷ "r=2" ∷ "n=1" ∷ "rate=473b8000" ∷ "astep=3f000000" ∷ "rstep=3c23d70a" ∷ "delays=0" ∷ "anything" ∷ []))
    ≡ lines ("answer=refused" ∷ "reason=2" ∷ "place=0" ∷ [])
unfolding output_of output_from split_from reads on_line line_turn line_of key_line form_line kind_line kind_of m_line r_line n_line product rate_line astep_line rstep_line delays_line exactly_of begins num_behind count_of hex_of num_from at_most digit_of went_of bad_of end_of line_number line_count set_of load_of load_by verdict_of kind_ok sizes_ok word_line count_line refused_text decimal_text decimal_in bytes
no_measurement = refl
