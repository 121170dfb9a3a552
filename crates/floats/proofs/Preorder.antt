-- `le`, `lt` and `eq` of floats: on all values but `nan` a total preorder, infinities included, with -0 equal to +0. A comparison with `nan` is false. Assumes nothing.
use Rattle.std.proofs.Common.{◌≡◌, ℕ, Bool, true, false, not, ◌&&◌, T, eqb, ltb, leb, ℤ, sym, refl, ap, ◌∙◌, subst, le_of_eq, le_refl, le_antisymm, zero-mul, not-le_of_lt, le→leb, eqb→eq, ltb→lt, lt→ltb, leb→le, T_not}
use lib.Dec.{nleb→lt, not_T}
use lib.Ieee.{Float, nan, inf, fin, lt, eq, le, is_nan}
use lib.Ieee.Fits.{and_i, and_l, and_r, eq→eqb}
use lib.Ieee.Positive.{den, den_pos}
use Rattle.floats.proofs.Cross.{plus, less, cross, iff→eq, or_l, lt_is, eq_is, le_is, le→cross, cross→le, chain}

-- not `nan`
abbrev pub number : Float → Bool
number x = not (is_nan x)

-- ---- with `nan`
pub le_nan : (x : Float) → T (le x nan) → ⊥
unfolding le
le_nan nan t = t
le_nan (inf s) t = t
le_nan (fin s m e) t = t

pub nan_le : (x : Float) → T (le nan x) → ⊥
unfolding le
nan_le x t = t

pub lt_nan : (x : Float) → lt x nan ≡ false
unfolding lt
lt_nan nan = refl
lt_nan (inf s) = refl
lt_nan (fin s m e) = refl

pub nan_lt : (x : Float) → lt nan x ≡ false
unfolding lt
nan_lt x = refl

-- ---- reflexive, transitive
pub le_refl_f : (x : Float) → T (number x) → T (le x x)
unfolding is_nan le
le_refl_f nan t = absurd t
le_refl_f (inf true) t = tt
le_refl_f (inf false) t = tt
le_refl_f (fin s m e) t = cross→le (fin s m e) (fin s m e) tt tt (le_refl (cross (fin s m e) (fin s m e)))

pub le_trans_f : (x y z : Float) → T (le x y) → T (le y z) → T (le x z)
unfolding le
le_trans_f nan y z h k = absurd h
le_trans_f (inf s) nan z h k = absurd h
le_trans_f (inf s) (inf t) nan h k = absurd k
le_trans_f (inf true) (inf t) (inf true) h k = tt
le_trans_f (inf true) (inf t) (inf false) h k = tt
le_trans_f (inf false) (inf true) (inf u) h k = absurd h
le_trans_f (inf false) (inf false) (inf u) h k = k
le_trans_f (inf true) (inf t) (fin u o g) h k = tt
le_trans_f (inf false) (inf true) (fin u o g) h k = absurd h
le_trans_f (inf false) (inf false) (fin u o g) h k = k
le_trans_f (inf s) (fin t n d) nan h k = absurd k
le_trans_f (inf true) (fin t n d) (inf true) h k = tt
le_trans_f (inf true) (fin t n d) (inf false) h k = tt
le_trans_f (inf false) (fin t n d) (inf u) h k = absurd h
le_trans_f (inf true) (fin t n d) (fin u o g) h k = tt
le_trans_f (inf false) (fin t n d) (fin u o g) h k = absurd h
le_trans_f (fin s m e) nan z h k = absurd h
le_trans_f (fin s m e) (inf t) nan h k = absurd k
le_trans_f (fin s m e) (inf true) (inf u) h k = absurd h
le_trans_f (fin s m e) (inf false) (inf true) h k = absurd k
le_trans_f (fin s m e) (inf false) (inf false) h k = tt
le_trans_f (fin s m e) (inf true) (fin u o g) h k = absurd h
le_trans_f (fin s m e) (inf false) (fin u o g) h k = absurd k
le_trans_f (fin s m e) (fin t n d) nan h k = absurd k
le_trans_f (fin s m e) (fin t n d) (inf true) h k = absurd k
le_trans_f (fin s m e) (fin t n d) (inf false) h k = tt
le_trans_f (fin s m e) (fin t n d) (fin u o g) h k =
    let x = fin s m e in
    let y = fin t n d in
    let z = fin u o g in
    cross→le x z tt tt
    (chain (plus x) (less x) (den x) (plus y) (less y) (den y) (plus z) (less z) (den z) (den_pos y) (le→cross x y tt tt h) (le→cross y z tt tt k))

-- ---- `lt` is the negation of `le` the other way round, `eq` is `le` both ways
ltb_is : (a b : ℕ) → ltb a b ≡ not (leb b a)
ltb_is a b = iff→eq (ltb a b) (not (leb b a)) (λ (t : T (ltb a b)). not_T (leb b a) (λ (u : T (leb b a)). not-le_of_lt (ltb→lt a b t) (leb→le b a u))) (λ (t : T (not (leb b a))). lt→ltb a b (nleb→lt b a t))

pub lt_not_le : (x y : Float) → T (number x) → T (number y) → lt x y ≡ not (le y x)
unfolding is_nan lt le
lt_not_le nan y p q = absurd p
lt_not_le (inf s) nan p q = absurd q
lt_not_le (inf true) (inf true) p q = refl
lt_not_le (inf true) (inf false) p q = refl
lt_not_le (inf false) (inf true) p q = refl
lt_not_le (inf false) (inf false) p q = refl
lt_not_le (inf true) (fin t n d) p q = refl
lt_not_le (inf false) (fin t n d) p q = refl
lt_not_le (fin s m e) nan p q = absurd q
lt_not_le (fin s m e) (inf true) p q = refl
lt_not_le (fin s m e) (inf false) p q = refl
lt_not_le (fin s m e) (fin t n d) p q =
    let x = fin s m e in
    let y = fin t n d in
    lt_is x y tt tt ∙ ltb_is (cross x y) (cross y x) ∙ ap not (sym (le_is y x tt tt))

leb_both : (a b : ℕ) → eqb a b ≡ (leb a b && leb b a)
leb_both a b =
    iff→eq (eqb a b) (leb a b && leb b a)
    (λ (t : T (eqb a b)). and_i (leb a b) (leb b a) (le→leb a b (le_of_eq (eqb→eq a b t))) (le→leb b a (le_of_eq (sym (eqb→eq a b t)))))
    (λ (t : T (leb a b && leb b a)). eq→eqb (le_antisymm (leb→le a b (and_l (leb a b) (leb b a) t)) (leb→le b a (and_r (leb a b) (leb b a) t))))

pub eq_both : (x y : Float) → eq x y ≡ (le x y && le y x)
unfolding eq le
eq_both nan y = refl
eq_both (inf s) nan = refl
eq_both (inf true) (inf true) = refl
eq_both (inf true) (inf false) = refl
eq_both (inf false) (inf true) = refl
eq_both (inf false) (inf false) = refl
eq_both (inf true) (fin t n d) = refl
eq_both (inf false) (fin t n d) = refl
eq_both (fin s m e) nan = refl
eq_both (fin s m e) (inf true) = refl
eq_both (fin s m e) (inf false) = refl
eq_both (fin s m e) (fin t n d) =
    let x = fin s m e in
    let y = fin t n d in
    eq_is x y tt tt ∙ leb_both (cross x y) (cross y x) ∙ ap (λ (b : Bool). b && leb (cross y x) (cross x y)) (sym (le_is x y tt tt)) ∙ ap (λ (b : Bool). le x y && b) (sym (le_is y x tt tt))

-- ---- who can be compared
pub le_numbers : (x y : Float) → T (le x y) → T (number x) × T (number y)
unfolding le is_nan
le_numbers nan y t = absurd t
le_numbers (inf s) nan t = absurd t
le_numbers (inf s) (inf u) t = (tt, tt)
le_numbers (inf s) (fin u n d) t = (tt, tt)
le_numbers (fin s m e) nan t = absurd t
le_numbers (fin s m e) (inf u) t = (tt, tt)
le_numbers (fin s m e) (fin u n d) t = (tt, tt)

pub lt→le : (x y : Float) → T (lt x y) → T (le x y)
unfolding le
lt→le x y t = or_l (lt x y) (eq x y) t

pub lt_numbers : (x y : Float) → T (lt x y) → T (number x) × T (number y)
lt_numbers x y t = le_numbers x y (lt→le x y t)

-- ---- the laws that a search uses
pub not_lt→le : (x y : Float) → T (number x) → T (number y) → T (not (lt x y)) → T (le y x)
not_lt→le x y p q t = not_not (le y x) (subst (λ (b : Bool). T (not b)) (lt_not_le x y p q) t)
  where
    not_not : (b : Bool) → T (not (not b)) → T b
    not_not true t = tt
    not_not false t = t

pub le→not_lt : (x y : Float) → T (le x y) → T (not (lt y x))
le→not_lt x y t =
    let n = le_numbers x y t in
    subst (λ (b : Bool). T (not b)) (sym (lt_not_le y x n.1 n.0)) (back (le x y) t)
  where
    back : (b : Bool) → T b → T (not (not b))
    back true t = tt
    back false t = t

pub lt_irrefl_f : (x : Float) → T (not (lt x x))
lt_irrefl_f x = not_T (lt x x) (λ (t : T (lt x x)). T_not (lt x x) (le→not_lt x x (lt→le x x t)) t)

pub lt_le_trans : (x y z : Float) → T (lt x y) → T (le y z) → T (lt x z)
lt_le_trans x y z h k =
    let n = lt_numbers x y h in
    let r = le_numbers y z k in
    subst T (sym (lt_not_le x z n.0 r.1)) (not_T (le z x) (λ (u : T (le z x)). T_not (lt x y) (le→not_lt y x (le_trans_f y z x k u)) h))

pub le_lt_trans : (x y z : Float) → T (le x y) → T (lt y z) → T (lt x z)
le_lt_trans x y z h k =
    let n = le_numbers x y h in
    let r = lt_numbers y z k in
    subst T (sym (lt_not_le x z n.0 r.1)) (not_T (le z x) (λ (u : T (le z x)). T_not (lt y z) (le→not_lt z y (le_trans_f z x y u h)) k))

pub lt_trans_f : (x y z : Float) → T (lt x y) → T (lt y z) → T (lt x z)
lt_trans_f x y z h k = lt_le_trans x y z h (lt→le y z k)

-- `lt` fails from x to y and from y to z: then from x to z, if y is not `nan`. x and z may be
pub not_lt_trans : (x y z : Float) → T (number y) → T (not (lt x y)) → T (not (lt y z)) → T (not (lt x z))
not_lt_trans x y z q h k = not_T (lt x z) (λ (t : T (lt x z)). let n = lt_numbers x z t in T_not (lt x z) (le→not_lt z x (le_trans_f z y x (not_lt→le y z q n.1 k) (not_lt→le x y n.0 q h))) t)

-- -0 and +0 are equal
pub zeros_eq : (s t : Bool) (e d : ℤ) → eq (fin s 0 e) (fin t 0 d) ≡ true
zeros_eq s t e d = eq_is (fin s 0 e) (fin t 0 d) tt tt ∙ iff→eq (eqb (cross (fin s 0 e) (fin t 0 d)) (cross (fin t 0 d) (fin s 0 e))) true (λ (u : T (eqb (cross (fin s 0 e) (fin t 0 d)) (cross (fin t 0 d) (fin s 0 e)))). tt) (λ (u : Unit). eq→eqb (none s t e d))
  where
    none : (s t : Bool) (e d : ℤ) → cross (fin s 0 e) (fin t 0 d) ≡ cross (fin t 0 d) (fin s 0 e)
    none true true e d = simp zero-mul
    none true false e d = simp zero-mul
    none false true e d = simp zero-mul
    none false false e d = simp zero-mul
