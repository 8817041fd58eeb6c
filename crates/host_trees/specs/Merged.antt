-- What a host and the fleet show side by side, path by path: definitions for private clauses.
-- Source: this project's own.
use Rattle.std.proofs.Common.{if◌then◌else◌, ◌∷◌}
use Rattle.host_trees.specs.{Prelude.{[], Content, Entry, entries_of, eq_by_cmp, filter_map, List, map, match_ordering, None, Option, option_map, path_cmp, PathParts, PlaceParts, Scope, scope_cmp, shown, Some}, Trees.{standing}}

-- A path with a content.
abbrev pub Seen : Type 0
Seen = PathParts × Content

-- A path, and what a host's own place and the fleet's show there.
abbrev pub Contents : Type 0
Contents = Option Content × Option Content

abbrev pub Merged : Type 0
Merged = PathParts × Contents

-- What an entry shows, if it is of this scope.
abbrev pub content_of : Option Scope → PlaceParts × Entry → Option Content
content_of None e = None
content_of (Some scope) e = if eq_by_cmp scope_cmp scope e.0.scope then shown e.1 else None

-- An entry as a path with what is visible there.
abbrev pub seen_of : PathParts × Entry → Option Seen
seen_of e = option_map (λ c. (e.0, c)) (shown e.1)

-- What entries show of a scope, if there is one.
abbrev pub seen_in : Option Scope → List (PlaceParts × Entry) → List Seen
seen_in None es = []
seen_in (Some scope) es = filter_map seen_of (entries_of scope es)

-- For a path at which only one of the two shows something, and for one at which both do.
abbrev pub only_own : Seen → Merged
only_own e = (e.0, (Some e.1, None))

abbrev pub only_fleets : Seen → Merged
only_fleets f = (f.0, (None, Some f.1))

abbrev pub of_both : Seen → Seen → Merged
of_both e f = (e.0, (Some e.1, Some f.1))

-- The first of a host's own and the rest of them, merged in step with the fleet's.
abbrev pub first_merged : Seen → (List Seen → List Merged) → List Seen → List Merged
first_merged e rest [] = only_own e ∷ rest []
first_merged e rest (f ∷ fs) =
    match_ordering (path_cmp e.0 f.0) (only_own e ∷ rest (f ∷ fs)) (of_both e f ∷ rest fs) (only_fleets f ∷ first_merged e rest fs)

-- All paths at which a host's own or the fleet's show something, in order.
abbrev pub merged : List Seen → List Seen → List Merged
merged [] fs = map only_fleets fs
merged (e ∷ es) fs = first_merged e (merged es) fs

-- What stands at such a path.
abbrev pub standing_of : Merged → Option Content
standing_of b = standing b.0 b.1.0 b.1.1

abbrev pub pair_of : Merged → Option Seen
pair_of b = option_map (λ c. (b.0, c)) (standing_of b)

-- The paths with what stands there.
abbrev pub tree_of : List Merged → List Seen
tree_of = filter_map pair_of
