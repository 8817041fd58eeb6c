-- The choice of a unit's main file.
-- Source: systemd.unit(5), "Unit File Load Path" and "Description"; the order of a link's tests is this project's own.
use Rattle.std.proofs.Common.{if◌then◌else◌, ◌==◌, ◌||◌, ◌∷◌}
use Rattle.fragment_choice.specs.Prelude.{[], after_last, Automount, Bool, bytes_eq, codes, Content, Device, eq_by_cmp, false, File, first_level, Gone, HostViewMap, Instance, instance, is_name, kind, Link, List, Mount, Name, name_cmp, None, not, Option, option_and_then, option_or, Path, path_at, PathParts, PlaceParts, Plain, Scope, Service, shape, Slice, Socket, Some, Swap, TargetKind, Template, template_of, Timer, true, UnitKind, UnitShape, unwrap_or, viewed_at, viewed_place, with_instance, word, ℕ}
use Rattle.fragment_choice.specs.declared.choices.{Cause.TheVariants.{Kind, Shape, Target}, Choice.{Choice, TheVariants.{Alias, Bad, Fragment, Masked, NotFound}}}

abbrev pub is_same : Name → Name → Bool
is_same = eq_by_cmp name_cmp

abbrev pub is_slash : ℕ → Bool
is_slash b = b == 47

-- The part of a link's target after the last slash.
abbrev pub last_component : List ℕ → List ℕ
last_component target = after_last is_slash target

-- The target that masks a unit.
abbrev pub is_null : List ℕ → Bool
is_null target = bytes_eq target (codes "/dev/null")

-- The kinds whose units have no aliases.
abbrev pub has_no_alias : UnitKind → Bool
has_no_alias Service = false
has_no_alias Socket = false
has_no_alias Device = false
has_no_alias Mount = true
has_no_alias Automount = true
has_no_alias Swap = true
has_no_alias TargetKind = false
has_no_alias Path = false
has_no_alias Timer = false
has_no_alias Slice = true
has_no_alias Scope = false

-- Whether the kinds differ (each has its own word), or are a kind without aliases.
abbrev pub is_bad_kind : Option UnitKind → Option UnitKind → Bool
is_bad_kind (Some k) (Some l) = not (bytes_eq (word k) (word l)) || has_no_alias l
is_bad_kind k l = true

-- `t` is the template, if there is one.
abbrev pub is_that : Option Name → Name → Bool
is_that None t = false
is_that (Some m) t = is_same m t

-- Whether a link of the own name `o` to `t` points to itself: `t` is `o` or the template of `o`.
abbrev pub is_self : Name → Name → Bool
is_self o t = is_same o t || is_that (template_of o) t

-- Two plain names agree, and so do two templates. An instance agrees with each template, and with each instance that
-- has the same instance part.
abbrev pub shapes_agree : UnitShape → List ℕ → UnitShape → List ℕ → Bool
shapes_agree Plain i Plain j = true
shapes_agree Plain i Template j = false
shapes_agree Plain i Instance j = false
shapes_agree Template i Plain j = false
shapes_agree Template i Template j = true
shapes_agree Template i Instance j = false
shapes_agree Instance i Plain j = false
shapes_agree Instance i Template j = true
shapes_agree Instance i Instance j = bytes_eq i j

-- An alias of this name; without a name, the target was bad.
abbrev pub alias_to : Option Name → Choice
alias_to None = Bad Target
alias_to (Some m) = Alias m

-- The alias that a link to `t` makes of `n`: `t` with the instance of `n` if `t` is a template and `n` an instance,
-- else `t` itself.
abbrev pub alias_of : UnitShape → Name → UnitShape → Name → Choice
alias_of Plain n y t = Alias t
alias_of Template n y t = Alias t
alias_of Instance n Plain t = Alias t
alias_of Instance n Template t = alias_to (with_instance t (instance n))
alias_of Instance n Instance t = Alias t

-- What a link of the own name `o` to the unit `t` says of `n`; `None` if the link is ignored.
abbrev pub target_says : Name → Name → Name → Option Choice
target_says n o t =
    if is_self o t then None
    else if is_bad_kind (kind o) (kind t) then Some (Bad Kind)
    else if shapes_agree (shape o) (instance o) (shape t) (instance t) then Some (alias_of (shape n) n (shape t) t)
    else Some (Bad Shape)

-- The same for a link whose target ends in these bytes as its last component.
abbrev pub link_says : Name → Name → List ℕ → Option Choice
link_says n o t = if is_name t then target_says n o t else Some (Bad Target)

-- What the content at the place `p` of the own name `o` says of `n`.
abbrev pub content_says : Name → Name → PlaceParts → Content → Option Choice
content_says n o p Gone = None
content_says n o p (File []) = Some Masked
content_says n o p (File (b ∷ bs)) = Some (Fragment p)
content_says n o p (Link target) = if is_null target then Some Masked else link_says n o (last_component target)

-- The path of one component at which a name is seen at a level, and the place of what is seen there.
abbrev pub own_path : Name → ℕ → PathParts
own_path o level = path_at level [] o

abbrev pub own_place : HostViewMap → Name → ℕ → PlaceParts
own_place s o level = viewed_place s (own_path o level)

-- What is visible of the own name `o` at a level says this of `n`.
abbrev pub says : HostViewMap → Name → Name → ℕ → Option Choice
says s n o level = option_and_then (content_says n o (own_place s o level)) (viewed_at s (own_path o level))

-- What the least level says that says anything of `n` under the own name `o`.
abbrev pub own_choice : HostViewMap → Name → Name → Option Choice
own_choice s n o = first_level (says s n o)

-- What the own paths of `n` say, else what those of its template say.
abbrev pub choice : HostViewMap → Name → Choice
choice s n = unwrap_or (option_or (own_choice s n n) (option_and_then (own_choice s n) (template_of n))) NotFound
