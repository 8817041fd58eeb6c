-- How the values of a key are evaluated, and the texts of booleans.
-- Source: systemd.unit(5), "[Unit] Section Options" and "Conditions and Asserts"; systemd.service(5), "Options", for
-- `Sockets`; systemd.syntax(7), "Introduction", for booleans.
use Rattle.std.proofs.Common.{if◌then◌else◌, ◌&&◌, ◌||◌, ◌∷◌}
use Rattle.setting_rules.specs.Prelude.{[], Bool, bytes_eq, codes, false, Files, is_some, List, Manager, nat_eq, None, Option, Profile, Some, starts_with, str_eq_ignore_ascii_case, true, ℕ}
use Rattle.setting_rules.specs.{declared.rules.KeyRule.{KeyRule, TheVariants.{Assertion, Condition, Dependency, Ignored, Kept, Plain, Switch}}, Kinds.{settable_kind}}

abbrev pub Text : Type 0
Text = List ℕ

abbrev pub is_empty : Text → Bool
is_empty [] = true
is_empty (b ∷ bs) = false

abbrev pub spells_yes : Text → Bool
spells_yes text = str_eq_ignore_ascii_case text (codes "1") || str_eq_ignore_ascii_case text (codes "yes") || str_eq_ignore_ascii_case text (codes "true") || str_eq_ignore_ascii_case text (codes "on")

abbrev pub spells_no : Text → Bool
spells_no text = str_eq_ignore_ascii_case text (codes "0") || str_eq_ignore_ascii_case text (codes "no") || str_eq_ignore_ascii_case text (codes "false") || str_eq_ignore_ascii_case text (codes "off")

-- The boolean that a text spells, ignoring case; `None` for other texts, also for the empty one.
unfoldable pub boolean : Text → Option Bool
boolean text = if spells_yes text then Some true else if spells_no text then Some false else None

-- the keys whose values a manager reads otherwise: in `[Unit]`, and elsewhere
abbrev pub manager_rule : Text → Text → KeyRule
manager_rule section key =
    if bytes_eq section (codes "Unit") && bytes_eq key (codes "DefaultDependencies") then Switch
    else if bytes_eq section (codes "Unit") && bytes_eq key (codes "RequiresMountsFor") then Kept
    else if bytes_eq section (codes "Service") && bytes_eq key (codes "Sockets") then Kept
    else Plain

-- how the values of a key are evaluated that has no rule of its own by files alone
abbrev pub other_rule : Profile → Text → Text → KeyRule
other_rule Files section key = Plain
other_rule Manager section key = manager_rule section key

-- how the values of a key of `[Unit]` are evaluated
abbrev pub unit_rule : Profile → Text → KeyRule
unit_rule profile key =
    if is_some (settable_kind profile key) then Dependency
    else if bytes_eq key (codes "RefuseManualStart") then Switch
    else if starts_with nat_eq key (codes "Condition") then Condition
    else if starts_with nat_eq key (codes "Assert") then Assertion
    else other_rule profile (codes "Unit") key

-- How the values of a key are evaluated by a profile, by its section and its name.
unfoldable pub rule_of : Profile → Text → Text → KeyRule
rule_of profile section key =
    if starts_with nat_eq section (codes "X-") || starts_with nat_eq key (codes "X-") then Ignored
    else if bytes_eq section (codes "Unit") then unit_rule profile key
    else other_rule profile section key

-- the two rules are equal
abbrev pub same_rule : KeyRule → KeyRule → Bool
same_rule Ignored Ignored = true
same_rule Dependency Dependency = true
same_rule Switch Switch = true
same_rule Condition Condition = true
same_rule Assertion Assertion = true
same_rule Plain Plain = true
same_rule Kept Kept = true
same_rule rule other = false
