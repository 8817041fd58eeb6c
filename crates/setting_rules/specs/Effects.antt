-- How one assignment changes the values of its key, and which values before an assignment still count.
-- Source: this project's own.
use Rattle.std.proofs.Common.{if◌then◌else◌, ◌&&◌, ◌++◌, ◌∷◌}
use Rattle.setting_rules.specs.Prelude.{[], Assignment, Bool, is_some, List, None, not, Option, Profile, Some, ℕ}
use Rattle.setting_rules.specs.{declared.{keys.SettingKey.{SettingKey}, rules.KeyRule.{KeyRule, TheVariants.{Assertion, Condition, Dependency, Ignored, Kept, Plain, Switch}}}, Maps.{changed, SettingMap}, Rules.{boolean, is_empty, rule_of, same_rule, Text}}

-- how a value changes the earlier values of its key; `None` if it doesn't count. A value of a family counts only if it
-- is live: no later assignment empties the family.
abbrev pub effect : KeyRule → Bool → Text → Option (List Text → List Text)
effect Ignored live value = None
effect Dependency live value = if is_empty value then None else Some (λ values. values ++ value ∷ [])
effect Switch live value = if is_some (boolean value) then Some (λ values. value ∷ []) else None
effect Condition live value = Some (λ values. if live && not (is_empty value) then values ++ value ∷ [] else values)
effect Assertion live value = Some (λ values. if live && not (is_empty value) then values ++ value ∷ [] else values)
effect Plain live value = Some (λ values. if is_empty value then [] else values ++ value ∷ [])
effect Kept live value = if is_empty value then None else Some (λ values. values ++ value ∷ [])

abbrev pub changed_by : Option (List Text → List Text) → SettingMap → SettingKey → SettingMap
changed_by None entries k = entries
changed_by (Some change) entries k = changed change entries k

-- an assignment empties the keys of its family, which have this rule
abbrev pub resets_family : Profile → KeyRule → Assignment → Bool
resets_family profile family a = is_empty a.value && same_rule (rule_of profile a.section a.key) family

-- the index from which the values of keys with this rule count: for a family, the start of its live values
abbrev pub start_of : ℕ → ℕ → KeyRule → ℕ
start_of conditions assertions Condition = conditions
start_of conditions assertions Assertion = assertions
start_of conditions assertions rule = 0
