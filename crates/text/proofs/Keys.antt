-- A line with its key, and one without. Assumes nothing.
use Prim.Native.Nat.{ℕ, ◌+◌}
use Prim.Native.Nat.compare
use mathlib.Core.Path.{◌≡◌, refl, sym, ap, ◌∙◌}
use mathlib.Core.Bool.{Bool, true, false, ◌&&◌}
use mathlib.Core.List.{List, [], ◌∷◌}
use native.Mathlib.Omega.{arith}
use lib.Dec.{eqb, leb}
use lib.Pointwise.{pointwise}
use lib.Ieee.{Float}
use lib.ListN.{length, take, drop}
use borrow.Author.Tests.{ne_eqb}
use Rattle.std.specs.Prelude.{Option, Some, None}
use Rattle.text.specs.Number.{begins}
use Rattle.text.specs.Values.{values_ok, value_at}
use Rattle.points.specs.declared.Point3.{Point3}
use Rattle.text.specs.Keys.{exactly_of, num_behind, values_fit, point_of, point_read, point_behind}

-- `strip_prefix` and `==`, as they go through two lists, say what `begins` and `exactly_of` say
pub begins_is : (key l : List ℕ) → pointwise eqb (take (length key) l) key ≡ begins key l
unfolding begins
begins_is [] l = refl
begins_is (x ∷ key) [] = refl
begins_is (x ∷ key) (y ∷ l) = ap (λ (b : Bool). eqb y x && b) (begins_is key l)

pub same_word : (word l : List ℕ) → pointwise eqb l word ≡ exactly_of word l
unfolding exactly_of begins
same_word [] [] = refl
same_word [] (y ∷ l) = sym (ne_eqb (length (y ∷ l)) 0 (λ q. omega arith))
same_word (x ∷ word) [] = refl
same_word (x ∷ word) (y ∷ l) = by (eqb y x) (same_word word l)
  where
    by : (b : Bool) → pointwise eqb l word ≡ (begins word l && eqb (length l) (length word)) → (b && pointwise eqb l word) ≡ ((b && begins word l) && eqb (length (y ∷ l)) (length (x ∷ word)))
    by true e = rw compare.suc-suc e
    by false e = refl

-- what stands behind the key, and a line without it
pub has_key : (key l rest : List ℕ) (read : List ℕ → Option ℕ) (r : Option ℕ) → pointwise eqb (take (length key) l) key ≡ true → rest ≡ drop (length key) l → r ≡ read rest → r ≡ num_behind key read l
unfolding num_behind
has_key key l rest read r b f e = rw (sym (begins_is key l) ∙ b) (e ∙ ap read f)

pub no_key : (key l : List ℕ) (read : List ℕ → Option ℕ) → pointwise eqb (take (length key) l) key ≡ false → None ≡ num_behind key read l
unfolding num_behind
no_key key l read b = rw (sym (begins_is key l) ∙ b)

pub has_point : (key l rest : List ℕ) (r : Option Point3) → pointwise eqb (take (length key) l) key ≡ true → rest ≡ drop (length key) l → r ≡ point_read rest → r ≡ point_behind key l
unfolding point_behind
has_point key l rest r b f e = rw (sym (begins_is key l) ∙ b) (e ∙ ap point_read f)

pub no_point : (key l : List ℕ) → pointwise eqb (take (length key) l) key ≡ false → None ≡ point_behind key l
unfolding point_behind
no_point key l b = rw (sym (begins_is key l) ∙ b)

pub values_fit_lem : (key l rest : List ℕ) (n at : ℕ) (d : List Float) (r : Bool) → pointwise eqb (take (length key) l) key ≡ true → rest ≡ drop (length key) l
    → r ≡ (values_ok rest n && leb (at + n) (length d)) → r ≡ values_fit key n at l d
unfolding values_fit
values_fit_lem key l rest n at d r b f e = rw (sym (begins_is key l) ∙ b) (e ∙ ap (λ (s : List ℕ). values_ok s n && leb (at + n) (length d)) f)

pub no_values : (key l : List ℕ) (n at : ℕ) (d : List Float) → pointwise eqb (take (length key) l) key ≡ false → false ≡ values_fit key n at l d
unfolding values_fit
no_values key l n at d b = rw (sym (begins_is key l) ∙ b)

pub point_in_lem : (s : List ℕ) (x y z : Float) → values_ok s 3 ≡ true → x ≡ value_at s 0 → y ≡ value_at s 1 → z ≡ value_at s 2
    → Some (record { x = x; y = y; z = z }) ≡ point_read s
unfolding point_read point_of
point_in_lem s x y z ok ex ey ez = rw ok (cc)
