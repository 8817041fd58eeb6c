-- Lists that grow, step by step or element by element.
use Rattle.std.proofs.Common.{◌++◌, ◌+◌, ◌<◌, ◌∷◌, ◌≡◌}
use Rattle.implied_names.proofs.Prelude.{[], ap, append_assoc, get_or, length, List, sym, take, ℕ, ◌∙◌}
use Rattle.unit_values.specs.ValueLaws.{one_more}

-- one part and then another
pub behind : {X : Type 0} (a b c : List X) (p q : List X) → b ≡ a ++ p → c ≡ b ++ q → c ≡ a ++ (p ++ q)
behind a b c p q h k = k ∙ ap (λ l. l ++ q) h ∙ append_assoc a p q

module _ {X B : Type 0} (made : List X → List B) (made-append : (xs ys : List X) → made (xs ++ ys) ≡ made xs ++ made ys) where
  -- what is made of the elements so far, with one element more
  pub grown_by : (done : List X) (x : X) (was now new : List B) → now ≡ was ++ made done → new ≡ now ++ made (x ∷ []) → new ≡ was ++ made (done ++ x ∷ [])
  grown_by done x was now new h k = behind was now new (made done) (made (x ∷ [])) h k ∙ ap (λ l. was ++ l) (sym (made-append done (x ∷ [])))

  pub grown : (l : List X) (i : ℕ) (d x : X) (was now new : List B) → i < length l → x ≡ get_or l i d → now ≡ was ++ made (take i l) → new ≡ now ++ made (x ∷ []) → new ≡ was ++ made (take (i + 1) l)
  grown l i d x was now new lt is h k = grown_by (take i l) x was now new h k ∙ ap (λ m. was ++ made m) (sym (one_more l i d x lt is))
