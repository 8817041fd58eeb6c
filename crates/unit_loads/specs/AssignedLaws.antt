-- The words of a kind are those that assignments have in its key.
use Rattle.std.proofs.Common.{◌↔◌, ◌∷◌, ◌≡◌}
use Rattle.setting_rules.specs.{declared.kinds.DepKind.TheVariants.{Requires, Wants}, Kinds.{settable_kind}, ResetLaws.{is_never_emptied, settings_keep_all}, Rules.{rule_of}, Words.{words_of}}
use Rattle.unit_loads.specs.Prelude.{[], After, among_from_contains, and_from, and_parts, ap, Assignment, Before, BindsTo, Bool, BoundBy, cond, ConflictedBy, Conflicts, ConsistsOf, contains_from_among, counted, counts_by, Dependency, DepKind, false, Files, filter, flat_map, given, gives, InSlice, is_empty, is_settable, IsAmong, IsTrue, key_for, key_of, List, Manager, not, OnFailure, OnFailureOf, PartOf, Profile, PropagatesReloadTo, refl, ReloadPropagatedFrom, RequiredBy, Requisite, RequisiteOf, rule_at, same_key, same_key_is, same_key_itself, SettingKey, settings_of, SliceOf, subst, sym, Text, TriggeredBy, Triggers, true, true≢false, UpheldBy, Upholds, values_at, WantedBy, word, words_for, ℕ, ◌∙◌}
use Rattle.unit_loads.specs.{MemberLaws.{among_filter, among_flat_map, among_map, filter_among, flat_map_among, HasSource, map_among}, NamedUnits.{IsAssigned}}

-- the key of a settable kind sets dependencies
dependency_key : (profile : Profile) (dep : DepKind) → IsTrue (is_settable profile dep) → rule_at profile (key_for dep) ≡ Dependency
unfolding rule_of settable_kind
dependency_key Files Before h = refl
dependency_key Manager Before h = refl
dependency_key Files After h = refl
dependency_key Manager After h = refl
dependency_key Files Wants h = refl
dependency_key Manager Wants h = refl
dependency_key Files Requires h = refl
dependency_key Manager Requires h = refl
dependency_key Files Requisite h = refl
dependency_key Manager Requisite h = refl
dependency_key Files BindsTo h = refl
dependency_key Manager BindsTo h = refl
dependency_key Files PartOf h = refl
dependency_key Manager PartOf h = refl
dependency_key Files Conflicts h = refl
dependency_key Manager Conflicts h = refl
dependency_key Files OnFailure h = refl
dependency_key Manager OnFailure h = refl
dependency_key Files PropagatesReloadTo h = refl
dependency_key Manager PropagatesReloadTo h = refl
dependency_key Files ReloadPropagatedFrom h = refl
dependency_key Manager ReloadPropagatedFrom h = refl
dependency_key Files Upholds h = absurd (true≢false (sym h))
dependency_key Manager Upholds h = refl
dependency_key profile WantedBy h = absurd (true≢false (sym h))
dependency_key profile RequiredBy h = absurd (true≢false (sym h))
dependency_key profile RequisiteOf h = absurd (true≢false (sym h))
dependency_key profile BoundBy h = absurd (true≢false (sym h))
dependency_key profile ConsistsOf h = absurd (true≢false (sym h))
dependency_key profile ConflictedBy h = absurd (true≢false (sym h))
dependency_key profile OnFailureOf h = absurd (true≢false (sym h))
dependency_key profile UpheldBy h = absurd (true≢false (sym h))
dependency_key profile Triggers h = absurd (true≢false (sym h))
dependency_key profile TriggeredBy h = absurd (true≢false (sym h))
dependency_key profile InSlice h = absurd (true≢false (sym h))
dependency_key profile SliceOf h = absurd (true≢false (sym h))

-- so every value that is given stays
all_given : (profile : Profile) (k : SettingKey) → rule_at profile k ≡ Dependency → (items : List Assignment)
    → values_at (settings_of profile items) k ≡ given profile k items
all_given profile k rule items = settings_keep_all profile k items (ap is_never_emptied rule) ∙ ap (λ r. counted r (given profile k items)) rule

-- an assignment gives its value to its key, if the key sets dependencies and the value has a word
gives_it : (profile : Profile) (k : SettingKey) → rule_at profile k ≡ Dependency → (a : Assignment) → k ≡ key_of a
    → (text : Text) → IsAmong text (words_of a.value) → gives profile k a ≡ true
unfolding words_of
gives_it profile k rule a e text h = and_from _ _ (and_from _ _ (ap (same_key k) (sym e) ∙ same_key_itself k) (ap (λ r. counts_by r a.value) (ap (rule_at profile) (sym e) ∙ rule) ∙ full)) full
  where
    by : (value : Text) → IsAmong text (words_of value) → not (is_empty value) ≡ true
    by [] w = absurd w
    by (b ∷ bs) w = refl

    full : not (is_empty a.value) ≡ true
    full = by a.value h

-- The words that settings have for a kind are those of its key's assignments; there are none if no key sets the kind.
abbrev pub WordsAreAssigned : Type 0
WordsAreAssigned = (profile : Profile) (items : List Assignment) (dep : DepKind) (text : List ℕ) → IsAmong text (words_for profile (settings_of profile items) dep) ↔ IsAssigned profile items dep text

-- the same for the values of a settable kind's key
module _ (profile : Profile) (items : List Assignment) (dep : DepKind) (text : List ℕ) (settable : IsTrue (is_settable profile dep)) where
  values : values_at (settings_of profile items) (key_for dep) ≡ given profile (key_for dep) items
  values = all_given profile (key_for dep) (dependency_key profile dep settable) items

  of_assignment : (value : Text) → IsAmong text (words_of value)
      → HasSource (λ (a : Assignment) z. a.value ≡ z) (filter (gives profile (key_for dep)) items) value
      → IsAssigned profile items dep text
  of_assignment value h source =
      let found = among_filter (gives profile (key_for dep)) items source.source source.there in
      let same : key_for dep ≡ key_of source.source = same_key_is (key_for dep) (key_of source.source) (and_parts _ _ (and_parts _ _ found.1).0).0 in
      record {
        settable = settable;
        assignment = source.source;
        there = contains_from_among source.source items found.0;
        section_is = ap (λ (q : SettingKey). q.section) (sym same);
        key_is = ap (λ (q : SettingKey). q.key) (sym same);
        has_word = contains_from_among text (words_of source.source.value) (subst (λ v. IsAmong text (words_of v)) (sym source.makes) h);
      }

  of_value : HasSource (λ value z. IsAmong z (words_of value)) (given profile (key_for dep) items) text → IsAssigned profile items dep text
  of_value source = of_assignment source.source source.makes (among_map (λ (a : Assignment). a.value) (filter (gives profile (key_for dep)) items) source.source source.there)

  of_values : IsAmong text (flat_map words_of (values_at (settings_of profile items) (key_for dep))) → IsAssigned profile items dep text
  of_values h = of_value (among_flat_map words_of (given profile (key_for dep) items) text (subst (λ vs. IsAmong text (flat_map words_of vs)) values h))

  in_values : IsAssigned profile items dep text → IsAmong text (flat_map words_of (values_at (settings_of profile items) (key_for dep)))
  in_values a =
      let same : key_for dep ≡ key_of a.assignment = ap (λ s. let q : SettingKey = record { section = s; key = word dep } in q) (sym a.section_is) ∙ ap (λ t. let q : SettingKey = record { section = a.assignment.section; key = t } in q) (sym a.key_is) in
      let has = among_from_contains text (words_of a.assignment.value) a.has_word in
      let gave = gives_it profile (key_for dep) (dependency_key profile dep settable) a.assignment same text has in
      let there = filter_among (gives profile (key_for dep)) items a.assignment (among_from_contains a.assignment items a.there) gave in
      let value = map_among (λ (a : Assignment). a.value) (filter (gives profile (key_for dep)) items) a.assignment there in
      subst (λ vs. IsAmong text (flat_map words_of vs)) (sym values) (flat_map_among words_of (given profile (key_for dep) items) a.assignment.value text value has)

pub words_are_assigned : WordsAreAssigned
words_are_assigned profile items dep text = (by (is_settable profile dep) refl, back)
  where
    by : (settable : Bool) → is_settable profile dep ≡ settable
        → IsAmong text (cond settable (flat_map words_of (values_at (settings_of profile items) (key_for dep))) [])
        → IsAssigned profile items dep text
    by true e h = of_values profile items dep text e h
    by false e h = absurd h

    back : IsAssigned profile items dep text → IsAmong text (words_for profile (settings_of profile items) dep)
    back a =
        subst (λ (b : Bool). IsAmong text (cond b (flat_map words_of (values_at (settings_of profile items) (key_for dep))) [])) (sym a.settable)
        (in_values profile items dep text a.settable a)
