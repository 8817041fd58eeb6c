-- What an empty condition or assertion empties, stated for all keys with the same beginning.
-- Source: systemd.unit(5), "Conditions and Asserts".
use Rattle.std.proofs.Common.{◌&&◌, ◌++◌, ◌||◌, ◌∷◌, ◌≡◌}
use Rattle.setting_rules.specs.Prelude.{[], All, All-head, All-tail, ap, Assignment, Bool, codes, false, Files, List, list_any, Manager, map, not, Profile, refl, subst, true, ◌∙◌}
use Rattle.setting_rules.specs.{declared.{keys.SettingKey.{SettingKey}, rules.KeyRule.{KeyRule, TheVariants.{Assertion, Condition}}}, KeyLaws.{same_key_is}, Kinds.{settable_kind}, Maps.{same_key, values_at}, ResetLaws.{filter-following_last-none, resets_forget, settings_show_values}, Rules.{is_empty, rule_of, Text}, Settings.{counted, counts, emptied_by, gives, key_of, resets, rule_at, settings_of, values_of}}

-- a key of `[Unit]` that begins with this word
abbrev pub BeginsWith : Text → SettingKey → Type 0
BeginsWith word k = (k.section ≡ codes "Unit") × ((rest : Text) × (k.key ≡ word ++ rest))

-- an empty value of such a key leaves all such keys without values, if no such key is set after it
abbrev pub EmptiesAll : Profile → Text → Type 0
EmptiesAll profile word = (before after : List Assignment) (a : Assignment) (k : SettingKey) →
    BeginsWith word (key_of a) → a.value ≡ [] → All (λ b. ¬ BeginsWith word (key_of b)) after → BeginsWith word k → values_at (settings_of profile (before ++ a ∷ after)) k ≡ []

-- An empty condition empties all conditions.
abbrev pub ConditionsEmptyAll : Type 0
ConditionsEmptyAll = (profile : Profile) → EmptiesAll profile (codes "Condition")

-- An empty assertion empties all assertions.
abbrev pub AssertionsEmptyAll : Type 0
AssertionsEmptyAll = (profile : Profile) → EmptiesAll profile (codes "Assert")

condition_words : (profile : Profile) (rest : Text) → rule_of profile (codes "Unit") (codes "Condition" ++ rest) ≡ Condition
unfolding rule_of settable_kind
condition_words Files rest = refl
condition_words Manager rest = refl

assertion_words : (profile : Profile) (rest : Text) → rule_of profile (codes "Unit") (codes "Assert" ++ rest) ≡ Assertion
unfolding rule_of settable_kind
assertion_words Files rest = refl
assertion_words Manager rest = refl

-- if the keys that begin with a word have a rule by which an empty value empties all of them
module _ (profile : Profile) (word : Text) (rule : KeyRule)
    (ruled : (rest : Text) → rule_of profile (codes "Unit") (word ++ rest) ≡ rule)
    (empties : (itself : Bool) → emptied_by rule rule itself ≡ true)
    (all : (values : List Text) → counted rule values ≡ values) where
  rule_is : (k : SettingKey) → BeginsWith word k → rule_at profile k ≡ rule
  rule_is k h = ap (λ s. rule_of profile s k.key) h.0 ∙ ap (rule_of profile (codes "Unit")) h.1.1 ∙ ruled h.1.0

  none_given : (k : SettingKey) → BeginsWith word k → (after : List Assignment)
      → All (λ b. ¬ BeginsWith word (key_of b)) after → list_any (gives profile k) after ≡ false
  none_given k h [] apart = refl
  none_given k h (b ∷ after) apart = by (same_key k (key_of b)) refl (none_given k h after (All-tail (λ b. ¬ BeginsWith word (key_of b)) b after apart))
    where
      by : (same : Bool) → same_key k (key_of b) ≡ same → list_any (gives profile k) after ≡ false
          → (gives profile k b || list_any (gives profile k) after) ≡ false
      by true e more = absurd (All-head (λ b. ¬ BeginsWith word (key_of b)) b after apart (subst (λ q. BeginsWith word q) (same_key_is k (key_of b) e) h))
      by false e more = ap (λ s. (s && counts profile b && not (is_empty b.value)) || list_any (gives profile k) after) e ∙ more

  nothing_following : (k : SettingKey) → BeginsWith word k → (after : List Assignment)
      → All (λ b. ¬ BeginsWith word (key_of b)) after → values_of profile k after ≡ []
  unfolding values_of
  nothing_following k h after apart =
      ap (λ l. counted (rule_at profile k) (map (λ b. b.value) l)) (filter-following_last-none (gives profile k) (resets profile k) after (none_given k h after apart))
      ∙ ap (λ r. counted r []) (rule_is k h) ∙ all []

  emptied : EmptiesAll profile word
  emptied before after a k of_a empty apart h =
      settings_show_values profile k (before ++ a ∷ after) ∙ resets_forget profile k before after a reset ∙ nothing_following k h after apart
    where
      reset : resets profile k a ≡ true
      reset =
          ap (λ v. is_empty v && emptied_by (rule_at profile (key_of a)) (rule_at profile k) (same_key k (key_of a))) empty
          ∙ ap (λ r. emptied_by r (rule_at profile k) (same_key k (key_of a))) (rule_is (key_of a) of_a)
          ∙ ap (λ r. emptied_by rule r (same_key k (key_of a))) (rule_is k h)
          ∙ empties (same_key k (key_of a))

pub conditions_empty_all : ConditionsEmptyAll
conditions_empty_all profile = emptied profile (codes "Condition") Condition (condition_words profile) (λ itself. refl) (λ values. refl)

pub assertions_empty_all : AssertionsEmptyAll
assertions_empty_all profile = emptied profile (codes "Assert") Assertion (assertion_words profile) (λ itself. refl) (λ values. refl)
