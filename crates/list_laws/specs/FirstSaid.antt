-- The first answer that a function gives along a list.
-- Source: this project's own.
use Rattle.std.proofs.Common.{◌++◌, ◌+◌, ◌<◌, ◌∷◌, ◌≡◌}
use Rattle.list_laws.specs.Prelude.{[], ap, arith, get_or, length, List, None, none-some, Option, option_or, refl, Some, suc, sym, take, take_more, zero, ℕ, ◌∙◌}

-- the first result that is not `None`
abbrev pub first_said : {A B : Type 0} → (A → Option B) → List A → Option B
first_said f [] = None
first_said f (x ∷ xs) = option_or (f x) (first_said f xs)

module _ {B : Type 0} where
  pub or_assoc : (a b c : Option B) → option_or (option_or a b) c ≡ option_or a (option_or b c)
  or_assoc None b c = refl
  or_assoc (Some x) b c = refl

  pub or_none : (a : Option B) → option_or a None ≡ a
  or_none None = refl
  or_none (Some x) = refl

-- `v` is the answer at one index, and there is no answer before it
pub record IsFirst {A B : Type 0} (g : A → Option B) (xs : List A) (d : A) (v : B) : Type 0 where
  pub place : ℕ
  pub within : place < length xs
  pub says : g (get_or xs place d) ≡ Some v
  pub before : (i : ℕ) → i < place → g (get_or xs i d) ≡ None

module _ {A B : Type 0} where
  pub first_is : (g : A → Option B) (xs : List A) (d : A) (v : B) → first_said g xs ≡ Some v → IsFirst g xs d v
  first_is g [] d v h = absurd (none-some _ h)
  first_is g (x ∷ xs) d v h = step (g x) refl (first_is g xs d v) h
    where
      later : g x ≡ None → IsFirst g xs d v → IsFirst g (x ∷ xs) d v
      later e m = record { place = suc m.place; within = omega (arith, m.within); says = m.says; before = before }
        where
          before : (i : ℕ) → i < suc m.place → g (get_or (x ∷ xs) i d) ≡ None
          before zero l = e
          before (suc i) l = m.before i (omega arith)

      step : (o : Option B) → g x ≡ o → (first_said g xs ≡ Some v → IsFirst g xs d v)
          → option_or o (first_said g xs) ≡ Some v → IsFirst g (x ∷ xs) d v
      step None e more t = later e (more t)
      step (Some w) e more t = record { place = 0; within = omega arith; says = e ∙ t; before = λ i l. absurd (omega arith) }

  -- if there is no first answer, no element has an answer
  pub none_says : (g : A → Option B) (xs : List A) (d : A) → first_said g xs ≡ None → (i : ℕ) → i < length xs → g (get_or xs i d) ≡ None
  none_says g [] d h i l = absurd (omega arith)
  none_says g (x ∷ xs) d h i l = step (g x) refl (none_says g xs d) h i l
    where
      step : (o : Option B) → g x ≡ o → (first_said g xs ≡ None → (j : ℕ) → j < length xs → g (get_or xs j d) ≡ None)
          → option_or o (first_said g xs) ≡ None → (j : ℕ) → j < length (x ∷ xs) → g (get_or (x ∷ xs) j d) ≡ None
      step None e more t zero m = e
      step None e more t (suc j) m = more t j (omega arith)
      step (Some w) e more t j m = absurd (none-some _ (sym t))

  -- functions that agree on every element have the same first answer
  pub first_same : (f g : A → Option B) → ((x : A) → f x ≡ g x) → (xs : List A) → first_said f xs ≡ first_said g xs
  first_same f g same [] = refl
  first_same f g same (x ∷ xs) = ap (λ o. option_or o (first_said f xs)) (same x) ∙ ap (option_or (g x)) (first_same f g same xs)

  said_push : (g : A → Option B) (xs : List A) (x : A) → first_said g (xs ++ x ∷ []) ≡ option_or (first_said g xs) (g x)
  said_push g [] x = or_none (g x)
  said_push g (y ∷ ys) x = ap (option_or (g y)) (said_push g ys x) ∙ sym (or_assoc (g y) (first_said g ys) (g x))

  -- one more element: its answer counts only if there was none before it
  pub said_more : (g : A → Option B) (xs : List A) (i : ℕ) (x : A) → i < length xs → x ≡ get_or xs i x
      → (new cur init : Option B) → new ≡ option_or cur (g x) → cur ≡ option_or init (first_said g (take i xs))
      → new ≡ option_or init (first_said g (take (i + 1) xs))
  said_more g xs i x h e new cur init n c =
      n ∙ ap (λ o. option_or o (g x)) c ∙ or_assoc init (first_said g (take i xs)) (g x)
      ∙ ap (option_or init) (sym (said_push g (take i xs) x) ∙ ap (λ y. first_said g (take i xs ++ y ∷ [])) e ∙ ap (first_said g) (sym (take_more xs i x h)))
