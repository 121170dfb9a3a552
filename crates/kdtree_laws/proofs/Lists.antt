-- What holds of each of a list, and lists in another order. Assumes nothing.
use mathlib.Core.Path.{◌≡◌, refl, sym, ap, subst}
use mathlib.Core.Logic.{inl, inr}
use mathlib.Core.List.{List, [], ◌∷◌, ◌++◌, map}
use Rattle.lists.specs.Each.{Each, In}
use Rattle.kdtree_laws.specs.Demand3.{Put, here, there, Reordered, none, more}

module _ {A : Type 0} (P : A → Type 0) where
  pub each_left : (k l : List A) → Each P (k ++ l) → Each P k
  each_left [] l a = tt
  each_left (x ∷ k) l a = (a.0, each_left k l a.1)

  pub each_right : (k l : List A) → Each P (k ++ l) → Each P l
  each_right [] l a = a
  each_right (x ∷ k) l a = each_right k l a.1

  pub each_in : (l : List A) (x : A) → Each P l → In x l → P x
  each_in [] x a i = absurd i
  each_in (y ∷ l) x a (inl e) = subst P (sym e) a.0
  each_in (y ∷ l) x a (inr i) = each_in l x a.1 i

  pub each_put : {x : A} {k l : List A} → Put x k l → P x → Each P k → Each P l
  each_put here h e = (h, e)
  each_put (there p) h e = (e.0, each_put p h e.1)

  pub each_unput : {x : A} {k l : List A} → Put x k l → Each P l → P x × Each P k
  each_unput here e = e
  each_unput (there p) e = let u = each_unput p e.1 in (u.0, (e.0, u.1))

  -- what holds of all holds of all in another order
  pub each_reordered : {k l : List A} → Reordered k l → Each P k → Each P l
  each_reordered none e = tt
  each_reordered (more r p) e = each_put p e.0 (each_reordered r e.1)

  pub each_ordered : {k l : List A} → Reordered k l → Each P l → Each P k
  each_ordered none e = tt
  each_ordered (more r p) e = let u = each_unput p e in (u.0, each_ordered r u.1)

pub each_to : {A : Type 0} (P Q : A → Type 0) → ((a : A) → P a → Q a) → (l : List A) → Each P l → Each Q l
each_to P Q f [] e = tt
each_to P Q f (x ∷ l) e = (f x e.0, each_to P Q f l e.1)

pub each_both : {A : Type 0} (P Q R : A → Type 0) → ((a : A) → P a → Q a → R a) → (l : List A) → Each P l → Each Q l → Each R l
each_both P Q R f [] e h = tt
each_both P Q R f (x ∷ l) e h = (f x e.0 h.0, each_both P Q R f l e.1 h.1)

module _ {A : Type 0} where
  self : (l : List A) → Each (λ (a : A). In a l) l
  self [] = tt
  self (x ∷ l) = (inl refl, each_to (λ (a : A). In a l) (λ (a : A). In a (x ∷ l)) (λ (a : A) (i : In a l). inr i) l (self l))

  pub in_reordered : {k l : List A} → Reordered k l → (y : A) → In y k → In y l
  in_reordered {k} {l} r y i = each_in (λ (a : A). In a l) k y (each_ordered (λ (a : A). In a l) r (self l)) i

  pub in_ordered : {k l : List A} → Reordered k l → (y : A) → In y l → In y k
  in_ordered {k} {l} r y i = each_in (λ (a : A). In a k) l y (each_reordered (λ (a : A). In a k) r (self k)) i

  pub in_middle : (k l : List A) (x : A) → In x (k ++ (x ∷ l))
  in_middle [] l x = inl refl
  in_middle (y ∷ k) l x = inr (in_middle k l x)

  -- one more at an end of a part
  pub put_after : {x : A} {k l : List A} (j : List A) → Put x k l → Put x (j ++ k) (j ++ l)
  put_after [] p = p
  put_after (y ∷ j) p = there (put_after j p)

  pub put_before : {x : A} {k l : List A} (j : List A) → Put x k l → Put x (k ++ j) (l ++ j)
  put_before j here = here
  put_before j (there p) = there (put_before j p)

  -- two that are put in, in either order
  pub record Between (x y : A) (k l : List A) : Type 0 where
    pub middle : List A
    pub first : Put y k middle
    pub second : Put x middle l

  pub swap : {x y : A} {k m l : List A} → Put x k m → Put y m l → Between x y k l
  swap {y = y} {k = k} p here = record { middle = y ∷ k; first = here; second = there p }
  swap {k = k} here (there q) = record { middle = _; first = q; second = here }
  swap (there {b = b} {k = k} p) (there q) = let w = swap {k = k} p q in record { middle = b ∷ w.middle; first = there w.first; second = there w.second }

  -- one more at the end of the first list, put anywhere into the second
  pub reordered_snoc : {x : A} {k l l' : List A} → Reordered k l → Put x l l' → Reordered (k ++ (x ∷ [])) l'
  reordered_snoc none here = more none here
  reordered_snoc (more r p) q = let w = swap p q in more (reordered_snoc r w.first) w.second

  -- one that stands somewhere in the first list stands somewhere in the second, and without it the lists have the same still
  pub record Without (x : A) (k l : List A) : Type 0 where
    pub rest : List A
    pub same : Reordered k rest
    pub back : Put x rest l

  pub without : {x : A} {j k l : List A} → Put x j k → Reordered k l → Without x j l
  without here (more r p) = record { rest = _; same = r; back = p }
  without (there q) (more r p) =
      let w = without q r in
      let s = swap w.back p in
      record { rest = s.middle; same = more w.same s.first; back = s.second }

  -- in another order, and again in another
  pub reordered_again : {j k l : List A} → Reordered j k → Reordered k l → Reordered j l
  reordered_again none r = r
  reordered_again (more q p) r = let w = without p r in more (reordered_again q w.same) w.back

module _ {A B : Type 0} (f : A → B) where
  pub put_map : {x : A} {k l : List A} → Put x k l → Put (f x) (map f k) (map f l)
  put_map here = here
  put_map (there p) = there (put_map p)

  pub map_append : (k l : List A) → map f (k ++ l) ≡ map f k ++ map f l
  map_append [] l = refl
  map_append (x ∷ k) l = ap (λ (m : List B). f x ∷ m) (map_append k l)

  pub map_same : (g : A → B) (l : List A) → Each (λ (a : A). f a ≡ g a) l → map f l ≡ map g l
  map_same g [] e = refl
  map_same g (x ∷ l) e = λ i. (e.0 i) ∷ (map_same g l e.1 i)
