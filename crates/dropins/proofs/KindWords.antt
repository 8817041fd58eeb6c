-- Kinds in a list are found by their words, and the types of names are listed one at a time.
use Rattle.std.proofs.{Common.{◌++◌, ◌+◌, ◌<◌, ◌||◌, ◌∷◌, ◌≡◌}, lemmas.Grind.{fold-append}}
use Rattle.unit_name.specs.contracts.kinds.{Kind.{the_type}, KindPartialEq.TheImpl.{eq-value}}
use denote.Enum.Bare.{same_false, same_true}
use Rattle.dropins.proofs.Prelude.{[], ap, Bool, bytes_eq, bytes_eq-Decides, cond, false, firsts, get_or, is_among, Kind, kind, kind_of, kind_of-word, length, List, list_any, map, map-append, Name, refl, same_Some, Some, suffix, suffix_is_word, sym, take, take_more, true, true≢false, types_of, with_name, word, ℕ, ◌∙◌}

-- Each kind has its own word.
same_kind : (j k : Kind) → word j ≡ word k → j ≡ k
same_kind j k e = same_Some _ _ (sym (kind_of-word j) ∙ ap kind_of e ∙ kind_of-word k)

same_word : (j k : Kind) → eq-value.it j k ≡ bytes_eq (word k) (word j)
same_word j k = by (eq-value.it j k) refl (bytes_eq (word k) (word j)) refl
  where
    by : (a : Bool) → eq-value.it j k ≡ a → (b : Bool) → bytes_eq (word k) (word j) ≡ b → a ≡ b
    by true e true f = refl
    by false e false f = refl
    by true e false f = absurd (true≢false (sym ((bytes_eq-Decides (word k) (word j)).1 (ap word (sym (same_true the_type tt j k e)))) ∙ f))
    by false e true f = absurd (same_false the_type j k e (sym (same_kind k j ((bytes_eq-Decides (word k) (word j)).0 f))))

-- A kind is in a list exactly if its word is among the words of the list.
pub among_words : (k : Kind) (ks : List Kind) → list_any (λ j. eq-value.it j k) ks ≡ is_among (word k) (map word ks)
among_words k [] = refl
among_words k (j ∷ ks) = ap (λ b. b || list_any (λ i. eq-value.it i k) ks) (same_word j k) ∙ ap (λ b. bytes_eq (word k) (word j) || b) (among_words k ks)

-- The types with one more name.
types_more : (ns : List Name) (i : ℕ) (n : Name) → i < length ns → n ≡ get_or ns i n → types_of (take (i + 1) ns) ≡ with_name (types_of (take i ns)) (suffix n)
types_more ns i n l e =
    ap types_of (take_more ns i n l ∙ ap (λ m. take i ns ++ m ∷ []) (sym e))
    ∙ ap firsts (map-append suffix (take i ns) (n ∷ []))
    ∙ fold-append with_name [] (map suffix (take i ns)) (suffix n ∷ [])

-- A kind that is already listed adds nothing, and a new one is added at the end.
module _ (ns : List Name) (i : ℕ) (n : Name) (k : Kind) (within : i < length ns) (there : n ≡ get_or ns i n) (kind_is : kind n ≡ Some k) (ks : List Kind) (listed : map word ks ≡ types_of (take i ns)) where
  by_word : (b : Bool) → is_among (word k) (map word ks) ≡ b → types_of (take (i + 1) ns) ≡ cond b (map word ks) (map word ks ++ word k ∷ [])
  by_word b e =
      types_more ns i n within there
      ∙ ap (λ ts. with_name ts (suffix n)) (sym listed)
      ∙ ap (with_name (map word ks)) (suffix_is_word n k kind_is)
      ∙ ap (λ c. cond c (map word ks) (map word ks ++ word k ∷ [])) e

  pub kind_known : is_among (word k) (map word ks) ≡ true → map word ks ≡ types_of (take (i + 1) ns)
  kind_known e = sym (by_word true e)

  pub kind_new : is_among (word k) (map word ks) ≡ false → (new : List Kind) → new ≡ ks ++ k ∷ [] → map word new ≡ types_of (take (i + 1) ns)
  kind_new e new pushed = ap (map word) pushed ∙ map-append word ks (k ∷ []) ∙ sym (by_word false e)
