-- What the merge of a host's own and the fleet's gives is the tree.
use Rattle.std.proofs.Common.{◌≡◌}
use Rattle.host_trees.proofs.Prelude.{ap, merged, Contents, EntryMap, find, Fleet, Host, IsTree, List, None, Option, option_and_then, option_map, own_at, path_cmp, PathParts, refl, Seen, seen_in, Some, standing, stands_at, sym, tree_of, ℕ, ◌∙◌}
use Rattle.host_trees.proofs.{Merges.{or_neither, shown_merged, sorted_merged}, Scopes.{seen_at, seen_sorted}, Sorted.{among_found, AreSorted, ascending, found_among, found_given, sorted_given}}
use Rattle.std.specs.FinMap as finmap

-- Where neither shows anything, nothing stands.
stands_if_any : (p : PathParts) (o : Option Contents) → option_and_then (λ c. standing p c.0 c.1) o ≡ standing p (or_neither o).0 (or_neither o).1
stands_if_any p None = refl
stands_if_any p (Some c) = refl

module _ (s : EntryMap) (host : Option (List ℕ)) where
  abbrev own : List Seen
  own = seen_in (option_map Host host) (finmap.entries s)

  abbrev fleets : List Seen
  fleets = seen_in (Some Fleet) (finmap.entries s)

  abbrev pub made : List Seen
  made = tree_of (merged own fleets)

  own_sorted : AreSorted own
  own_sorted = by host
    where
      by : (host : Option (List ℕ)) → AreSorted (seen_in (option_map Host host) (finmap.entries s))
      by None = refl
      by (Some h) = seen_sorted (Host h) s

  own_found : (p : PathParts) → find path_cmp p own ≡ own_at s host p
  own_found p = by host
    where
      by : (host : Option (List ℕ)) → find path_cmp p (seen_in (option_map Host host) (finmap.entries s)) ≡ own_at s host p
      by None = refl
      by (Some h) = seen_at (Host h) s p

  all_sorted : AreSorted (merged own fleets)
  all_sorted = sorted_merged own fleets own_sorted (seen_sorted Fleet s)

  made_sorted : AreSorted made
  made_sorted = sorted_given (λ p (c : Contents). standing p c.0 c.1) (merged own fleets) all_sorted

  made_found : (p : PathParts) → find path_cmp p made ≡ stands_at s host p
  made_found p =
      found_given (λ p (c : Contents). standing p c.0 c.1) p (merged own fleets) all_sorted
      ∙ stands_if_any p (find path_cmp p (merged own fleets))
      ∙ ap (λ (c : Contents). standing p c.0 c.1) (shown_merged p own fleets own_sorted (seen_sorted Fleet s))
      ∙ (λ i. standing p (own_found p i) (seen_at Fleet s p i))

  pub made_is_tree : IsTree s host made
  made_is_tree = record {
    ascending = ascending made made_sorted;
    exact = λ p c. (λ a. sym (made_found p) ∙ found_among p c made made_sorted a, λ e. among_found p c made (made_found p ∙ e));
  }
