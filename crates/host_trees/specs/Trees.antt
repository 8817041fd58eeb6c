-- The tree of a host: the files and links that the unit manager of one host would find.
-- Source: this project's own.
use Rattle.std.proofs.Common.{if◌then◌else◌, ◌↔◌, ◌≡◌}
use Rattle.host_trees.specs.{Parts.{counts}, Prelude.{Content, EntryMap, Fleet, Host, IsAmong, IsStrictlySortedBy, List, map, None, Option, option_or, path_cmp, PathParts, Some, visible_at, within, ℕ}}

-- The visible content of the fleet at a path.
abbrev pub fleets_at : EntryMap → PathParts → Option Content
fleets_at s p = visible_at s (within Fleet p)

-- The visible content of the host's own there, if there is a host.
abbrev pub own_at : EntryMap → Option (List ℕ) → PathParts → Option Content
own_at s None p = None
own_at s (Some host) p = visible_at s (within (Host host) p)

-- A content, if it counts at the path.
abbrev pub counted : PathParts → Option Content → Option Content
counted p None = None
counted p (Some c) = if counts p c then Some c else None

-- Of the host's own content and then the fleet's, the first that counts; if neither counts, the first that there is.
abbrev pub standing : PathParts → Option Content → Option Content → Option Content
standing p own fleets = option_or (option_or (counted p own) (counted p fleets)) (option_or own fleets)

-- What stands at a path of the tree.
abbrev pub stands_at : EntryMap → Option (List ℕ) → PathParts → Option Content
stands_at s host p = standing p (own_at s host p) (fleets_at s p)

-- The list is the tree of a host, or the tree without a host: it has each path once, in path order, with just what
-- stands there.
pub record IsTree (s : EntryMap) (host : Option (List ℕ)) (tree : List (PathParts × Content)) : Type 0 where
  pub ascending : IsStrictlySortedBy path_cmp (map (λ e. e.0) tree)
  pub exact : (p : PathParts) (c : Content) → IsAmong (p, c) tree ↔ (stands_at s host p ≡ Some c)
