-- The names of a load with their link targets.
use Rattle.std.proofs.Common.{◌↔◌, ◌∷◌, ◌≡◌}
use Rattle.parallel_load.proofs.Prelude.{[], All, All-cons, All-nil, ap, AreOwnLinkTargets, HasOwnLinkTargets, HaveLinks, HostViewMap, is_some, IsAmong, IsShown, IsStrictlySortedBy, keys_of, link_targets, List, map, Name, name_cmp, NamedWords, None, Option, refl, Some, subst, sym, true, with_own_link_targets, ◌∙◌}
use Rattle.fragment_choice.specs.LinkedNames.{is_link}
use Rattle.parallel_load.specs.Prelude.{Content}

named_keys : (s : HostViewMap) (names : List Name) → keys_of (map (with_own_link_targets s) names) ≡ names
named_keys s [] = refl
named_keys s (n ∷ names) = ap (λ (ns : List Name). n ∷ ns) (named_keys s names)

named_words : (s : HostViewMap) (names : List Name) → All (HasOwnLinkTargets s) (map (with_own_link_targets s) names)
named_words s [] = All-nil (HasOwnLinkTargets s)
named_words s (n ∷ names) = All-cons (HasOwnLinkTargets s) (n, link_targets s n) (map (with_own_link_targets s) names) refl (named_words s names)

pub own_link_targets : (s : HostViewMap) (names : List Name) (all : NamedWords) → IsStrictlySortedBy name_cmp names → ((n : Name) → IsAmong n names ↔ IsShown s n) → all ≡ map (with_own_link_targets s) names
    → AreOwnLinkTargets s all
own_link_targets s names all ascending shown e =
    let keys : keys_of all ≡ names = ap (λ (ps : NamedWords). keys_of ps) e ∙ named_keys s names in
    record {
      ascending = subst (IsStrictlySortedBy name_cmp) (sym keys) ascending;
      shown = λ n. (let P : List Name → Type 0 = λ ns. IsAmong n ns in (λ h. (shown n).0 (subst P keys h), λ h. subst P (sym keys) ((shown n).1 h)));
      words = subst (All (HasOwnLinkTargets s)) (sym e) (named_words s names);
    }

-- a link is something that is seen
shows : (o : Option Content) → is_link o ≡ true → is_some o ≡ true
shows None h = cc (h)
shows (Some c) h = refl

-- an index of aliases can be made from them
pub have_links : (s : HostViewMap) (all : NamedWords) → AreOwnLinkTargets s all → HaveLinks s all
have_links s all are = record { linked = λ n h. (are.shown n).1 (h.0, h.1, shows _ h.2); words = are.words }
