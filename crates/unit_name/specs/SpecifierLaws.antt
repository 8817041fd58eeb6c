-- Laws of expansion.
use Rattle.std.proofs.Common.{◌++◌, ◌==◌, ◌∷◌, ◌≡◌}
use Rattle.unit_name.specs.{Names.{Name}, Prelude.{[], ap, append-nil, Bool, cond-false, false, List, list_any, None, Option, or_parts, refl, Some, sym, ℕ, ◌∙◌}, Specifiers.{expand, put_before, specifier}}

abbrev pub is_percent : ℕ → Bool
is_percent b = b == 37

-- a text without percent signs is unchanged
abbrev pub PlainTextsStay : Type 0
PlainTextsStay = (v : List ℕ) (n : Name) → list_any is_percent v ≡ false → expand v n ≡ Some v

-- so is a prefix without percent signs, whatever follows it
abbrev pub PlainStartsStay : Type 0
PlainStartsStay = (v w : List ℕ) (n : Name) → list_any is_percent v ≡ false → expand (v ++ w) n ≡ put_before (Some v) (expand w n)

-- a percent sign and the next byte are replaced, and the rest is expanded by itself
abbrev pub PairsAreReplaced : Type 0
PairsAreReplaced = (c : ℕ) (w : List ℕ) (n : Name) → expand (37 ∷ c ∷ w) n ≡ put_before (specifier c n) (expand w n)

-- a percent sign at the end is kept
abbrev pub LastPercentStays : Type 0
LastPercentStays = (n : Name) → expand (37 ∷ []) n ≡ Some (37 ∷ [])

pub expand-nil : (n : Name) → expand [] n ≡ Some []
unfolding expand
expand-nil n = refl

-- a byte other than a percent sign is kept
pub expand-byte : (b : ℕ) (rest : List ℕ) (n : Name) → is_percent b ≡ false
    → expand (b ∷ rest) n ≡ put_before (Some (b ∷ [])) (expand rest n)
unfolding expand
expand-byte b [] n h = refl
expand-byte b (c ∷ rest) n h = cond-false (b == 37) _ _ h

pub expand-last : (b : ℕ) (n : Name) → expand (b ∷ []) n ≡ Some (b ∷ [])
unfolding expand
expand-last b n = refl

pub pairs_are_replaced : PairsAreReplaced
unfolding expand
pairs_are_replaced c w n = refl

pub last_percent_stays : LastPercentStays
last_percent_stays n = expand-last 37 n

put_nothing : (o : Option (List ℕ)) → put_before (Some []) o ≡ o
put_nothing None = refl
put_nothing (Some v) = refl

put_both : (b : ℕ) (v : List ℕ) (o : Option (List ℕ)) → put_before (Some (b ∷ [])) (put_before (Some v) o) ≡ put_before (Some (b ∷ v)) o
put_both b v None = refl
put_both b v (Some w) = refl

pub plain_starts_stay : PlainStartsStay
plain_starts_stay [] w n h = sym (put_nothing (expand w n))
plain_starts_stay (b ∷ v) w n h =
    let p = or_parts (is_percent b) (list_any is_percent v) h in
    expand-byte b (v ++ w) n p.0 ∙ ap (put_before (Some (b ∷ []))) (plain_starts_stay v w n p.1) ∙ put_both b v (expand w n)

pub plain_texts_stay : PlainTextsStay
plain_texts_stay v n h =
    sym (ap (λ x. expand x n) (append-nil v)) ∙ plain_starts_stay v [] n h ∙ ap (put_before (Some v)) (expand-nil n) ∙ ap (λ x. Some x) (append-nil v)
