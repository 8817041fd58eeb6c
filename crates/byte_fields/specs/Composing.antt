-- Fields that are made of fields: each that is written is read back, and what is read is what was written.
use Rattle.std.proofs.Common.{◌≡◌, ℕ, Bool, true, cond, List, ◌++◌, Result, Ok, Err, sym, ap, subst, ◌∙◌, ⊎_elim, append_assoc}
use Rattle.byte_fields.specs.declared.faults.SpellingFault.{SpellingFault}
use Rattle.byte_fields.specs.Reading.{◌>>=◌}
use Rattle.byte_fields.specs.Laws.{IsBytes, Takes}
use Rattle.byte_fields.specs.FieldLaws.{bind_ok, chosen, ok_is, Takes-then}

-- a reader of values that fit, and how each is written
pub record IsField {A : Type 0} (at : List ℕ → Result (A × List ℕ) SpellingFault) (text : A → List ℕ) (Fits : A → Type 0) : Type 0 where
  pub takes : (bytes : List ℕ) (x : A × List ℕ) → IsBytes bytes → at bytes ≡ Ok x → Takes bytes (text x.0) x.1 × Fits x.0
  pub again : (a : A) (rest : List ℕ) → Fits a → at (text a ++ rest) ≡ Ok (a, rest)

-- a value that is made of two, of which one is written behind the other
pub record IsMadeOf {A B C : Type 0} (s : A → List ℕ) (P : A → Type 0) (t : B → List ℕ) (Q : B → Type 0)
    (text : C → List ℕ) (R : C → Type 0) (make : A → B → C) : Type 0 where
  pub first : C → A
  pub second : C → B
  pub whole : (c : C) → make (first c) (second c) ≡ c
  pub spelled : (a : A) (b : B) → text (make a b) ≡ s a ++ t b
  pub fits : (a : A) (b : B) → P a → Q b → R (make a b)
  pub first_fits : (c : C) → R c → P (first c)
  pub second_fits : (c : C) → R c → Q (second c)

module _ {A B C : Type 0} (f : List ℕ → Result (A × List ℕ) SpellingFault) (s : A → List ℕ) (P : A → Type 0)
    (g : List ℕ → Result (B × List ℕ) SpellingFault) (t : B → List ℕ) (Q : B → Type 0)
    (text : C → List ℕ) (R : C → Type 0) (make : A → B → C) (F : IsField f s P) (G : IsField g t Q) (M : IsMadeOf s P t Q text R make) where
  -- one behind the other
  abbrev made_at : List ℕ → Result (C × List ℕ) SpellingFault
  made_at bytes = f bytes >>= λ a. g a.1 >>= λ b. Ok (make a.0 b.0, b.1)

  abbrev second_at : A × List ℕ → Result (C × List ℕ) SpellingFault
  second_at a = g a.1 >>= λ b. Ok (make a.0 b.0, b.1)

  abbrev made_from : A → Result (B × List ℕ) SpellingFault → Result (C × List ℕ) SpellingFault
  made_from a r = r >>= λ b. Ok (make a b.0, b.1)

  two_takes : (bytes : List ℕ) (x : C × List ℕ) → IsBytes bytes → made_at bytes ≡ Ok x → Takes bytes (text x.0) x.1 × R x.0
  two_takes bytes x fits e =
      let a = bind_ok (f bytes) (λ a. g a.1 >>= λ b. Ok (make a.0 b.0, b.1)) x e in
      let b = bind_ok (g a.0.1) (λ b. Ok (make a.0.0 b.0, b.1)) x a.2 in
      let first = F.takes bytes a.0 fits a.1 in
      let second = G.takes a.0.1 b.0 first.0.rest_fits b.1 in
      let both = Takes-then bytes (s a.0.0) a.0.1 (t b.0.0) b.0.1 first.0 second.0 in
      let made : C × List ℕ = (make a.0.0 b.0.0, b.0.1) in
      subst (λ (y : C × List ℕ). Takes bytes (text y.0) y.1 × R y.0) (ok_is made x b.2)
      (subst (λ (l : List ℕ). Takes bytes l b.0.1) (sym (M.spelled a.0.0 b.0.0)) both, M.fits a.0.0 b.0.0 first.1 second.1)

  two_again : (c : C) (rest : List ℕ) → R c → made_at (text c ++ rest) ≡ Ok (c, rest)
  two_again c rest fits =
      let a = M.first c in
      let b = M.second c in
      let regrouped : text c ++ rest ≡ s a ++ (t b ++ rest) = ap (λ (l : List ℕ). l ++ rest) (ap text (sym (M.whole c)) ∙ M.spelled a b) ∙ append_assoc (s a) (t b) rest in
      ap made_at regrouped
      ∙ ap (λ (r : Result (A × List ℕ) SpellingFault). r >>= second_at) (F.again a (t b ++ rest) (M.first_fits c fits))
      ∙ ap (λ (r : Result (B × List ℕ) SpellingFault). made_from a r) (G.again b rest (M.second_fits c fits))
      ∙ ap (λ (d : C). Ok (d, rest)) (M.whole c)

  pub two : IsField made_at text R
  two = record { takes = two_takes; again = two_again }

-- a field whose value passes a test
pub record IsPassed {A : Type 0} (P R : A → Type 0) (test : A → Bool) : Type 0 where
  pub fits : (a : A) → P a → test a ≡ true → R a
  pub plain : (a : A) → R a → P a
  pub passes : (a : A) → R a → test a ≡ true

module _ {A : Type 0} (f : List ℕ → Result (A × List ℕ) SpellingFault) (s : A → List ℕ) (P R : A → Type 0)
    (test : A → Bool) (d : SpellingFault) (F : IsField f s P) (T : IsPassed P R test) where
  passed_takes : (bytes : List ℕ) (x : A × List ℕ) → IsBytes bytes
      → (f bytes >>= λ y. cond (test y.0) (Ok y) (Err d)) ≡ Ok x → Takes bytes (s x.0) x.1 × R x.0
  passed_takes bytes x fits e =
      let a = bind_ok (f bytes) (λ y. cond (test y.0) (Ok y) (Err d)) x e in
      let t = F.takes bytes a.0 fits a.1 in
      ⊎_elim
      (λ good. subst (λ (y : A × List ℕ). Takes bytes (s y.0) y.1 × R y.0) (ok_is a.0 x good.1) (t.0, T.fits a.0.0 t.1 good.0))
      (λ bad. let wrong = bad.1 in absurd cc)
      (chosen (test a.0.0) (Ok a.0) (Err d) (Ok x) a.2)

  passed_again : (a : A) (rest : List ℕ) → R a → (f (s a ++ rest) >>= λ y. cond (test y.0) (Ok y) (Err d)) ≡ Ok (a, rest)
  passed_again a rest fits =
      ap (λ (r : Result (A × List ℕ) SpellingFault). r >>= λ y. cond (test y.0) (Ok y) (Err d)) (F.again a rest (T.plain a fits))
      ∙ ap (λ (b : Bool). cond b (Ok (a, rest)) (Err d)) (T.passes a fits)

  pub passed : IsField (λ bytes. f bytes >>= λ y. cond (test y.0) (Ok y) (Err d)) s R
  passed = record { takes = passed_takes; again = passed_again }
