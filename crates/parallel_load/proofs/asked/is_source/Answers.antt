use Rattle.std.proofs.Common.{◌||◌, ◌∷◌, ◌≡◌}
use Rattle.parallel_load.proofs.Prelude.{[], asked_by, Bool, eq_by_cmp, false, Files, inl, inr, IsAmong, IsAmong-append_right, List, list_any, Manager, Name, name_cmp, name_eq-Decides, perpetual_units, Profile, refl, sym, true, ◌∙◌}
use Rattle.parallel_load.proofs.asked.is_source.Goals as goal

-- the test of one more name
one_more : (z y : Name) (xs : List Name) (b rest : Bool) → eq_by_cmp name_cmp y z ≡ b → (rest ≡ true → IsAmong z xs) → (b || rest) ≡ true
    → IsAmong z (y ∷ xs)
one_more z y xs true rest e more h = inl ((name_eq-Decides y z).0 e)
one_more z y xs false rest e more h = inr (more h)

-- a name that a list is found to have is among it
any_among : (z : Name) (xs : List Name) → list_any (λ y. eq_by_cmp name_cmp y z) xs ≡ true → IsAmong z xs
any_among z [] h = cc (h)
any_among z (y ∷ xs) h =
    one_more z y xs (eq_by_cmp name_cmp y z) (list_any (λ x. eq_by_cmp name_cmp x z) xs) refl (any_among z xs) h

-- a name that is given is asked for
asked_among : (profile : Profile) (extra : List Name) (n : Name) → IsAmong n extra → IsAmong n (asked_by profile extra)
asked_among Files extra n h = h
asked_among Manager extra n h = IsAmong-append_right n perpetual_units extra h

pub returns-then-contains : goal.returns-then-contains
returns-then-contains c = record {
  source = λ _. inl (asked_among c.args.view.now.profile c.args.others.now c.args.name.now (any_among c.args.name.now c.args.others.now (sym c.contains.ensures.value ∙ c.if-contains.true)));
}
