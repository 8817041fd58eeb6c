-- Laws of the link targets that a load caches: a view has one list of them, which has those of every name; the list
-- stays if the targets stay.
use Rattle.std.proofs.Common.{◌∷◌, ◌≡◌}
use Rattle.parallel_load.specs.Prelude.{[], All, All-head, All-tail, All-weaker, among_level, among_map, ap, cons_option, Content, find, HasOwnLinkTargets, HostViewMap, inl, inr, is_some, IsAmong, IsShown, keys_of, levels, link_targets, link_targets_show, List, map, Name, name_cmp, NamedWords, nat_cmp-IsAntisymmetric, nat_list_cmp_total, None, none-some, one_ascending_list, Option, option_and_then, own_path, refl, SameWords, slice_cmp-IsAntisymmetric, Some, subst, sym, Target, target_part, targets_in, unwrap_or, viewed_at, words_of, ℕ, ◌∙◌}
use Rattle.parallel_load.specs.{KeyLaws.{sorted_from_keys}, OwnLinkTargets.{AreOwnLinkTargets, words_in}, PairLaws.{among_find, find_among}, UniverseLaws.{all_among}}

-- a view has one such list
abbrev pub OneListOfWords : Type 0
OneListOfWords = (s : HostViewMap) (a b : NamedWords) → AreOwnLinkTargets s a → AreOwnLinkTargets s b → a ≡ b

-- ---- one list

made_of : (s : HostViewMap) (all : NamedWords) → All (HasOwnLinkTargets s) all → all ≡ map (λ n. (n, link_targets s n)) (keys_of all)
made_of s [] h = refl
made_of s (p ∷ all) h =
    let rest : NamedWords = map (λ n. (n, link_targets s n)) (keys_of all) in
    ap (λ (ps : NamedWords). p ∷ ps) (made_of s all (All-tail (HasOwnLinkTargets s) p all h))
    ∙ ap (λ (ws : List Target). let q : Name × List Target = (p.0, ws) in q ∷ rest) (All-head (HasOwnLinkTargets s) p all h)

pub one_list_of_words : OneListOfWords
one_list_of_words s a b p q =
    let keys : keys_of a ≡ keys_of b =
    one_ascending_list name_cmp nat_list_cmp_total (keys_of a) (keys_of b) p.ascending q.ascending (λ n. (λ h. (q.shown n).1 ((p.shown n).0 h), λ h. (p.shown n).1 ((q.shown n).0 h))) in
    made_of s a p.words ∙ ap (map (λ n. (n, link_targets s n))) keys ∙ sym (made_of s b q.words)

-- ---- the link targets of every name

-- a name at which nothing is visible has no link targets
module _ (s : HostViewMap) (n : Name) (hidden : IsShown s n → ⊥) where
  none_viewed : (l : ℕ) → IsAmong l levels → viewed_at s (own_path n l) ≡ None
  none_viewed l a = by (viewed_at s (own_path n l)) refl
    where
      by : (o : Option Content) → viewed_at s (own_path n l) ≡ o → o ≡ None
      by None e = refl
      by (Some c) e = absurd (hidden (l, among_level l a, ap is_some e))

  no_targets : (ls : List ℕ) → ((l : ℕ) → IsAmong l ls → viewed_at s (own_path n l) ≡ None) → targets_in s n ls ≡ []
  no_targets [] h = refl
  no_targets (l ∷ ls) h = ap (λ o. cons_option (option_and_then target_part o) (targets_in s n ls)) (h l (inl refl)) ∙ no_targets ls (λ k a. h k (inr a))

  no_words : link_targets s n ≡ []
  no_words = ap words_of (no_targets levels none_viewed)

pub words_are : (s : HostViewMap) (all : NamedWords) → AreOwnLinkTargets s all → (n : Name) → words_in all n ≡ link_targets s n
words_are s all are n = by (find name_cmp n all) refl
  where
    by : (o : Option (List Target)) → find name_cmp n all ≡ o → unwrap_or o [] ≡ link_targets s n
    by (Some w) e =
        all_among (HasOwnLinkTargets s) all (n, w) are.words (find_among name_cmp (slice_cmp-IsAntisymmetric nat_cmp-IsAntisymmetric) n all w e)
    by None e = sym (no_words s n (λ shown. hidden ((are.shown n).1 shown)))
      where
        hidden : IsAmong n (keys_of all) → ⊥
        hidden h =
            let r = among_map (λ (p : Name × List Target). p.0) all n h in
            let P : Name → Type 0 = λ x. IsAmong {X = Name × List Target} (x, r.source.1) all in
            none-some _ (sym e ∙ among_find name_cmp nat_list_cmp_total n r.source.1 all (sorted_from_keys name_cmp all are.ascending) (subst P r.makes r.there))

-- ---- where link targets stay

pub words_again : (s t : HostViewMap) (all : NamedWords) → SameWords s t → AreOwnLinkTargets s all → AreOwnLinkTargets t all
words_again s t all same are = record {
  ascending = are.ascending;
  shown = λ n. (λ h. (link_targets_show s t n (same n)).0 ((are.shown n).0 h), λ h. (are.shown n).1 ((link_targets_show s t n (same n)).1 h));
  words = All-weaker (HasOwnLinkTargets s) (HasOwnLinkTargets t) (λ p e. e ∙ same p.0) all are.words;
}
