-- The parts that paths play for a unit manager, and which contents count in them.
-- Source: systemd.unit(5), "Unit File Load Path" and "Description".
use Rattle.std.proofs.Common.{if◌then◌else◌, ◌||◌}
use Rattle.host_trees.specs.Prelude.{as_link, Bool, codes, Content, content_as_drop_in, content_says, ending, ends_with, Fleet, has_folder, is_conf, is_name, is_some, List, nat_eq, PathParts, Requires, true, Wants, within, ℕ}
use Rattle.host_trees.specs.declared.parts.Part.{Part, TheVariants.{DropIn, OfUnit, Other, UnitLink}}

-- Drop-ins are in folders with this ending, and links to units in folders with one of these.
abbrev pub is_drop_in_folder : List ℕ → Bool
is_drop_in_folder folder = ends_with nat_eq folder (codes ".d")

abbrev pub is_link_folder : List ℕ → Bool
is_link_folder folder = ends_with nat_eq folder (ending Wants) || ends_with nat_eq folder (ending Requires)

-- The part of a path of one component: that of the unit whose name it has.
abbrev pub part_alone : List ℕ → Part
part_alone name = if is_name name then OfUnit name else Other

-- The part of a path in a folder.
abbrev pub part_within : List ℕ → List ℕ → Part
part_within folder name =
    if is_drop_in_folder folder then (if is_conf name then DropIn else Other)
    else if is_link_folder folder then UnitLink
    else Other

-- The part that a path plays.
abbrev pub part_of : PathParts → Part
part_of p = if has_folder p then part_within p.folder p.name else part_alone p.name

-- Whether a content counts at a path in a part, or is passed over there. For a unit it counts if it says anything of
-- that unit; among drop-ins and among links, if it is a candidate.
abbrev pub counts_as : Part → PathParts → Content → Bool
counts_as (OfUnit own) p c = is_some (content_says own own (within Fleet p) c)
counts_as DropIn p c = is_some (content_as_drop_in p c)
counts_as UnitLink p c = is_some (as_link p c)
counts_as Other p c = true

-- Whether a content counts in the part that its path plays.
abbrev pub counts : PathParts → Content → Bool
counts p c = counts_as (part_of p) p c
