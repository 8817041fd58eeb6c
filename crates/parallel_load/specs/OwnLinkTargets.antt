-- What a load caches of paths of one component: the link targets of each visible name.
-- Source: this project's own.
use Rattle.std.proofs.Common.{◌↔◌}
use Rattle.parallel_load.specs.Prelude.{[], All, Coded, coded_link_targets, coded_list, coded_ℕ, coded×, find, HasOwnLinkTargets, HostViewMap, IsAmong, IsShown, IsStrictlySortedBy, keys_of, link_targets, List, Name, name_cmp, NamedWords, Target, unwrap_or}

abbrev pub coded_named_words : Coded NamedWords
coded_named_words = coded_list (coded× (coded_list coded_ℕ) coded_link_targets)

-- the link targets of a name; none if it isn't in the list
abbrev pub words_in : NamedWords → Name → List Target
words_in all n = unwrap_or (find name_cmp n all) []

-- a name with its link targets
abbrev pub with_own_link_targets : HostViewMap → Name → Name × List Target
with_own_link_targets s n = (n, link_targets s n)

-- These are exactly the names at which something is visible, in byte order, each with its link targets.
pub record AreOwnLinkTargets (s : HostViewMap) (all : NamedWords) : Type 0 where
  pub ascending : IsStrictlySortedBy name_cmp (keys_of all)
  pub shown : (n : Name) → IsAmong n (keys_of all) ↔ IsShown s n
  pub words : All (HasOwnLinkTargets s) all
