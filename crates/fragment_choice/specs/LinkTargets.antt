-- What a name's own paths say of aliases: the targets of its links, level by level, up to the one that ends the search.
-- Source: this project's own.
use Rattle.std.proofs.Common.{if◌then◌else◌, ◌++◌, ◌∷◌, ◌≡◌}
use Rattle.fragment_choice.specs.{Choices.{is_null, last_component, link_says, own_path}, declared.choices.Choice.{Choice, TheVariants.{Alias, Bad, Fragment, Masked, NotFound}}}
use Rattle.fragment_choice.specs.Prelude.{[], Bool, Coded, coded_list, coded_option, coded_ℕ, Content, File, filter_map, Gone, HostViewMap, levels, Link, List, map, Name, None, Option, option_and_then, option_map, option_or, PathParts, Some, viewed_at, ℕ}

-- The target of a link; `None` for a file.
abbrev pub Target : Type 0
Target = Option (List ℕ)

-- The target of a content; a removal has none.
abbrev pub target_part : Content → Option Target
target_part Gone = None
target_part (Link target) = Some (Some target)
target_part (File bytes) = Some None

-- The same for what is seen at a path.
abbrev pub target_at : HostViewMap → PathParts → Option Target
target_at s p = option_and_then target_part (viewed_at s p)

-- The same for what is seen at the name's own paths, in the order of these levels.
abbrev pub targets_in : HostViewMap → Name → List ℕ → List Target
targets_in s n ls = filter_map (λ level. target_at s (own_path n level)) ls

abbrev pub own_targets : HostViewMap → Name → List Target
own_targets s n = targets_in s n levels

-- Up to the first that ends the search, which is a file or a link to `/dev/null`; either one becomes `None`.
abbrev pub words_of : List Target → List Target
words_of [] = []
words_of (None ∷ ts) = None ∷ []
words_of (Some target ∷ ts) = if is_null target then None ∷ [] else Some target ∷ words_of ts

-- What a name's own paths say of aliases.
abbrev pub link_targets : HostViewMap → Name → List Target
link_targets s n = words_of (own_targets s n)

-- The name that a choice makes a name an alias of.
abbrev pub lead_of : Choice → Option Name
lead_of NotFound = None
lead_of Masked = None
lead_of (Fragment p) = None
lead_of (Alias m) = Some m
lead_of (Bad cause) = None

-- What the link targets of the own name `o` say of `n`; `None` if none of them decides.
abbrev pub said_of : Name → Name → List Target → Option (Option Name)
said_of n o [] = None
said_of n o (None ∷ ts) = Some None
said_of n o (Some target ∷ ts) = option_or (option_map lead_of (link_says n o (last_component target))) (said_of n o ts)

-- What is said, if it is an alias.
abbrev pub lead_by : Option (Option Name) → Option Name
lead_by None = None
lead_by (Some lead) = lead

-- What its own link targets make a name an alias of.
abbrev pub own_alias : Name → List Target → Option Name
own_alias n ts = lead_by (said_of n n ts)

-- ---- names with their link targets

-- Names, each with its link targets.
abbrev pub NamedWords : Type 0
NamedWords = List (Name × List Target)

abbrev pub coded_link_targets : Coded (List Target)
coded_link_targets = coded_list (coded_option (coded_list coded_ℕ))

-- The targets of some links, closed by a file or a mask, or not.
abbrev pub link_targets_with : List (List ℕ) → Bool → List Target
link_targets_with links ends = map (λ target. Some target) links ++ (if ends then None ∷ [] else [])

-- A name's link targets are those at its own paths.
abbrev pub HasOwnLinkTargets : HostViewMap → Name × List Target → Type 0
HasOwnLinkTargets s p = p.1 ≡ link_targets s p.0
