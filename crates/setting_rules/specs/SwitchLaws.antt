-- Which boolean decides whether a unit refuses a manual start.
-- Source: systemd.unit(5), "[Unit] Section Options".
use Rattle.std.proofs.Common.{◌&&◌, ◌++◌, ◌||◌, ◌∷◌, ◌≡◌}
use Rattle.setting_rules.specs.Prelude.{[], All, All-head, All-tail, ap, Assignment, Bool, cond, false, Files, filter, is_some, List, list_any, Manager, map, None, not, Profile, refl, Some, sym, true, unwrap_or, ◌∙◌}
use Rattle.setting_rules.specs.{declared.rules.KeyRule.TheVariants.{Switch}, JoinLaws.{last_following}, KeyLaws.{same_key_is, same_key_itself}, Kinds.{settable_kind}, Maps.{same_key, values_at}, ResetLaws.{filter-none, given-append, is_never_emptied, settings_keep_all}, Rules.{boolean, is_empty, rule_of, Text}, Settings.{counted, counts, counts_by, given, gives, key_of, last_alone, rule_at, settings_of}, Switches.{last_value, manual_start_key, refuses, says_yes}}

-- an assignment doesn't give the switch a valid boolean
abbrev pub GivesNoBoolean : Assignment → Type 0
GivesNoBoolean a = key_of a ≡ manual_start_key → boolean a.value ≡ None

-- A valid boolean is the switch's only value if no valid one follows.
abbrev pub LastBooleanStays : Type 0
LastBooleanStays = (profile : Profile) (before after : List Assignment) (a : Assignment) (says : Bool) →
    key_of a ≡ manual_start_key → boolean a.value ≡ Some says → All GivesNoBoolean after → values_at (settings_of profile (before ++ a ∷ after)) manual_start_key ≡ a.value ∷ []

-- And it decides.
abbrev pub LastBooleanDecides : Type 0
LastBooleanDecides = (profile : Profile) (before after : List Assignment) (a : Assignment) (says : Bool) →
    key_of a ≡ manual_start_key → boolean a.value ≡ Some says → All GivesNoBoolean after → refuses (settings_of profile (before ++ a ∷ after)) ≡ says

-- Without a valid boolean a unit doesn't refuse.
abbrev pub NothingRefusedUnsaid : Type 0
NothingRefusedUnsaid = (profile : Profile) (items : List Assignment) → All GivesNoBoolean items → refuses (settings_of profile items) ≡ false

switch_rule : (profile : Profile) → rule_at profile manual_start_key ≡ Switch
unfolding rule_of settable_kind
switch_rule Files = refl
switch_rule Manager = refl

-- nothing empties the switch, so its value is the last one given
switch_values : (profile : Profile) (items : List Assignment)
    → values_at (settings_of profile items) manual_start_key ≡ last_alone (given profile manual_start_key items)
switch_values profile items =
    settings_keep_all profile manual_start_key items (ap is_never_emptied (switch_rule profile))
    ∙ ap (λ r. counted r (given profile manual_start_key items)) (switch_rule profile)

-- an assignment to the switch counts exactly if its value is a valid boolean
counts_where_good : (profile : Profile) (a : Assignment) → key_of a ≡ manual_start_key → counts profile a ≡ is_some (boolean a.value)
counts_where_good profile a e = ap (λ k. counts_by (rule_at profile k) a.value) e ∙ ap (λ r. counts_by r a.value) (switch_rule profile)

none_given : (profile : Profile) (items : List Assignment) → All GivesNoBoolean items
    → list_any (gives profile manual_start_key) items ≡ false
none_given profile [] h = refl
none_given profile (a ∷ items) h = by (same_key manual_start_key (key_of a)) refl (none_given profile items (All-tail GivesNoBoolean a items h))
  where
    by : (same : Bool) → same_key manual_start_key (key_of a) ≡ same → list_any (gives profile manual_start_key) items
        ≡ false → (gives profile manual_start_key a || list_any (gives profile manual_start_key) items) ≡ false
    by false e more = ap (λ s. (s && counts profile a && not (is_empty a.value)) || list_any (gives profile manual_start_key) items) e ∙ more
    by true e more =
        let is : key_of a ≡ manual_start_key = sym (same_key_is manual_start_key (key_of a) e) in
        ap (λ s. (s && counts profile a && not (is_empty a.value)) || list_any (gives profile manual_start_key) items) e
        ∙ ap (λ c. (c && not (is_empty a.value)) || list_any (gives profile manual_start_key) items) (counts_where_good profile a is ∙ ap is_some (All-head GivesNoBoolean a items h is))
        ∙ more

nothing_given : (profile : Profile) (items : List Assignment) → All GivesNoBoolean items → given profile manual_start_key items ≡ []
nothing_given profile items h = ap (map (λ a. a.value)) (filter-none (gives profile manual_start_key) items (none_given profile items h))

-- a valid boolean isn't the empty text
not_empty : (value : Text) (says : Bool) → boolean value ≡ Some says → is_empty value ≡ false
unfolding boolean
not_empty [] says h = cc
not_empty (b ∷ bs) says h = refl

pub last_boolean_stays : LastBooleanStays
last_boolean_stays profile before after a says of_switch good none =
    switch_values profile (before ++ a ∷ after) ∙ ap last_alone values ∙ last_following (given profile manual_start_key before) a.value []
  where
    gives_it : gives profile manual_start_key a ≡ true
    gives_it =
        ap (λ k. same_key manual_start_key k && counts profile a && not (is_empty a.value)) of_switch
        ∙ ap (λ b. b && counts profile a && not (is_empty a.value)) (same_key_itself manual_start_key)
        ∙ ap (λ b. b && not (is_empty a.value)) (counts_where_good profile a of_switch ∙ ap is_some good)
        ∙ ap not (not_empty a.value says good)

    values : given profile manual_start_key (before ++ a ∷ after) ≡ given profile manual_start_key before ++ a.value ∷ []
    values =
        given-append profile manual_start_key before (a ∷ after)
        ∙ ap (λ b. given profile manual_start_key before ++ map (λ x. x.value) (cond b (a ∷ filter (gives profile manual_start_key) after) (filter (gives profile manual_start_key) after))) gives_it
        ∙ ap (λ l. given profile manual_start_key before ++ a.value ∷ l) (nothing_given profile after none)

pub last_boolean_decides : LastBooleanDecides
unfolding refuses
last_boolean_decides profile before after a says of_switch good none =
    ap (λ values. says_yes (last_value values)) (last_boolean_stays profile before after a says of_switch good none) ∙ ap (λ b. unwrap_or b false) good

pub nothing_refused_unsaid : NothingRefusedUnsaid
unfolding refuses
nothing_refused_unsaid profile items none = ap (λ values. says_yes (last_value values)) (switch_values profile items ∙ ap last_alone (nothing_given profile items none))
