-- What is found is added after what was found before, and for each file name the first is taken.
use Rattle.std.proofs.Common.{◌++◌, ◌∷◌, ◌≡◌}
use Rattle.dropins.proofs.Prelude.{[], ap, Bool, bytes_eq, cond, eq_by_cmp, false, first_for, is_eq-slice_cmp, List, name_cmp, None, Option, option_or, or_assoc, or_none, refl, reverse, reverse-append, Some, sym, Take, true, update_all, update_all_push, ℕ, ◌∙◌}

-- What a candidate gives for a file name.
abbrev gives : List ℕ → List ℕ × Take → Option Take
gives f c = cond (bytes_eq c.0 f) (Some c.1) None

after : (cs : List (List ℕ × Take)) (c : List ℕ × Take) (f : List ℕ) → first_for (cs ++ c ∷ []) f ≡ option_or (first_for cs f) (gives f c)
after [] c f = or_none (gives f c)
after (d ∷ ds) c f = ap (option_or (gives f d)) (after ds c f) ∙ sym (or_assoc (gives f d) (first_for ds f) (gives f c))

-- One more candidate comes after those before it.
pub placed : (cs : List (List ℕ × Take)) (k f : List ℕ) (v : Take) (w : Option Take) → w ≡ Some v
    → first_for (cs ++ (k, v) ∷ []) f ≡ option_or (first_for cs f) (cond (bytes_eq k f) w None)
placed cs k f v w e = after cs (k, v) f ∙ ap (λ o. option_or (first_for cs f) (cond (bytes_eq k f) o None)) (sym e)

-- What says nothing changes nothing.
pub nothing_said : (o : Option Take) (b : Bool) (w : Option Take) → w ≡ None → o ≡ option_or o (cond b w None)
nothing_said o true w e = sym (or_none o) ∙ ap (option_or o) (sym e)
nothing_said o false w e = sym (or_none o)

same_or : (b : Bool) (v : Take) (rest : Option Take) → cond b (Some v) rest ≡ option_or (cond b (Some v) None) rest
same_or true v rest = refl
same_or false v rest = refl

-- If candidates are put into a map from last to first, the first of each file name stays.
pub firsts_stay : (cs : List (List ℕ × Take)) (f : List ℕ) → update_all (eq_by_cmp name_cmp) (λ _. None) (reverse cs) f ≡ first_for cs f
firsts_stay [] f = refl
firsts_stay (c ∷ cs) f =
    ap (λ ps. update_all (eq_by_cmp name_cmp) (λ _. None) ps f) (reverse-append (c ∷ []) cs)
    ∙ sym (update_all_push (eq_by_cmp name_cmp) (λ _. None) (first_for cs) (reverse cs) c f (sym (firsts_stay cs f)))
    ∙ ap (λ b. cond b (Some c.1) (first_for cs f)) (is_eq-slice_cmp c.0 f)
    ∙ same_or (bytes_eq c.0 f) c.1 (first_for cs f)
