-- The first item that says something.
use Rattle.std.proofs.Common.{◌&&◌, ◌||◌, ◌∷◌, ◌≡◌}
use Rattle.dropins.proofs.Prelude.{ap, Bool, cond, false, first_said, List, None, Option, option_or, or_none, refl, Some, true, ◌∙◌}

module _ {B : Type 0} where
  or_again : (b : Bool) (a : Option B) → option_or a (cond b a None) ≡ a
  or_again true None = refl
  or_again true (Some x) = refl
  or_again false a = or_none a

module _ {A B : Type 0} where
  -- One item of a list that passes a test, and is or isn't the one that is asked for.
  pub said_among : (g : A → Option B) (k : A) (rest : List A) (i n a : Bool) (w c : Option B) → g k ≡ cond n w None → (i ≡ true → n ≡ true → w ≡ c) → first_said g rest ≡ cond a c None → first_said g (cond i (k ∷ rest) rest) ≡ cond ((i && n) || a) c None
  said_among g k rest true true a w c says same h = ap (λ o. option_or o (first_said g rest)) (says ∙ same refl refl) ∙ ap (option_or c) h ∙ or_again a c
  said_among g k rest true false a w c says same h = ap (λ o. option_or o (first_said g rest)) says ∙ h
  said_among g k rest false n a w c says same h = h
