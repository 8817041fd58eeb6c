-- One more name in a list, and in the set with the same names.
use Rattle.std.proofs.Common.{◌++◌, ◌||◌, ◌∷◌, ◌≡◌}
use Rattle.dropins.proofs.Prelude.{[], ap, Bool, bytes_eq, bytes_eq-Decides, cond, false, is_among, is_eq, is_eq-slice_cmp, List, Name, name_cmp, refl, sym, true, ◌∙◌}

either_way : (x y : Name) → bytes_eq x y ≡ bytes_eq y x
either_way x y = by (bytes_eq x y) (bytes_eq y x) refl refl
  where
    by : (a b : Bool) → bytes_eq x y ≡ a → bytes_eq y x ≡ b → a ≡ b
    by true true e f = refl
    by false false e f = refl
    by true false e f = sym (sym f ∙ (bytes_eq-Decides y x).1 (sym ((bytes_eq-Decides x y).0 e)))
    by false true e f = sym e ∙ (bytes_eq-Decides x y).1 (sym ((bytes_eq-Decides y x).0 f))

or_later : (a b c : Bool) → (a || cond b true c) ≡ cond b true (a || c)
or_later true true c = refl
or_later true false c = refl
or_later false true c = refl
or_later false false c = refl

among_push : (q x : Name) (names : List Name) → is_among q (names ++ x ∷ []) ≡ cond (bytes_eq x q) true (is_among q names)
among_push q x [] = ap (λ b. b || false) (either_way q x) ∙ by (bytes_eq x q)
  where
    by : (b : Bool) → (b || false) ≡ cond b true false
    by true = refl
    by false = refl
among_push q x (n ∷ names) = ap (λ b. bytes_eq q n || b) (among_push q x names) ∙ or_later (bytes_eq q n) (bytes_eq x q) (is_among q names)

-- If a set gains a name, the list with the same names gains it at its end.
pub one_more : (k x q : Name) (names new : List Name) (o : Bool) → k ≡ x → o ≡ is_among q names → new ≡ names ++ x ∷ [] → cond (is_eq (name_cmp k q)) true o ≡ is_among q new
one_more k x q names new o same kept pushed =
    ap (λ y. cond (is_eq (name_cmp y q)) true o) same
    ∙ ap (λ b. cond b true o) (is_eq-slice_cmp x q)
    ∙ ap (λ b. cond (bytes_eq x q) true b) kept
    ∙ sym (among_push q x names)
    ∙ ap (is_among q) (sym pushed)
