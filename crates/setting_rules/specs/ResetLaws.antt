-- The values that remain after resets.
use Rattle.std.proofs.Common.{find, ◌&&◌, ◌++◌, ◌||◌, ◌∷◌, ◌≡◌}
use Rattle.setting_rules.specs.Prelude.{[], and-false, ap, Assignment, Bool, cond, drop, false, filter, filter-append, List, list_any, list_any-append, map, map-append, not, Profile, refl, Some, suc, sym, true, true≢false, zero, ℕ, ◌∙◌}
use Rattle.setting_rules.specs.{declared.{keys.SettingKey.{SettingKey}, rules.KeyRule.{KeyRule, TheVariants.{Assertion, Condition, Dependency, Ignored, Kept, Plain, Switch}}}, KeyLaws.{same_key_is}, Maps.{same_key, SettingMap, texts_or_none, values_at}, Rules.{is_empty, rule_of, Text}, Settings.{counted, counts, counts_by, emptied_by, firsts, following_last, given, gives, key_of, keys_of, resets, rule_at, settings_of, values_of}}

module _ {X : Type 0} (p : X → Bool) where
  -- if no element passes, all of the list remains
  pub following_last-none : (xs : List X) → list_any p xs ≡ false → following_last p xs ≡ xs
  following_last-none [] h = refl
  following_last-none (x ∷ xs) h = by (p x) (list_any p xs) h
    where
      by : (a b : Bool) → (a || b) ≡ false → cond b (following_last p xs) (cond a xs (x ∷ xs)) ≡ x ∷ xs
      by true b e = absurd (true≢false e)
      by false true e = absurd (true≢false e)
      by false false e = refl

  -- for two lists, the last match in the second counts, if there is one
  pub following_last-append : (xs ys : List X)
      → following_last p (xs ++ ys) ≡ cond (list_any p ys) (following_last p ys) (following_last p xs ++ ys)
  following_last-append [] ys = by (list_any p ys) refl
    where
      by : (b : Bool) → list_any p ys ≡ b → following_last p ys ≡ cond b (following_last p ys) ys
      by true e = refl
      by false e = following_last-none ys e
  following_last-append (x ∷ xs) ys =
      ap (λ b. cond b (following_last p (xs ++ ys)) (cond (p x) (xs ++ ys) (x ∷ (xs ++ ys)))) (list_any-append p xs ys)
      ∙ by (p x) (list_any p xs) (list_any p ys) (following_last-append xs ys)
    where
      by : (a b c : Bool) → following_last p (xs ++ ys) ≡ cond c (following_last p ys) (following_last p xs ++ ys)
          → cond (b || c) (following_last p (xs ++ ys)) (cond a (xs ++ ys) (x ∷ (xs ++ ys)))
          ≡ cond c (following_last p ys) (cond b (following_last p xs) (cond a xs (x ∷ xs)) ++ ys)
      by a true true h = h
      by a true false h = h
      by a false true h = h
      by true false false h = refl
      by false false false h = refl

  -- with one more element at the end
  pub following_last-push : (xs : List X) (x : X) → following_last p (xs ++ x ∷ []) ≡ cond (p x) [] (following_last p xs ++ x ∷ [])
  following_last-push xs x = following_last-append xs (x ∷ []) ∙ by (p x)
    where
      by : (b : Bool) → cond (b || false) (cond b [] (x ∷ [])) (following_last p xs ++ x ∷ []) ≡ cond b [] (following_last p xs ++ x ∷ [])
      by true = refl
      by false = refl

  -- if no element passes a test, filtering leaves nothing
  pub filter-none : (xs : List X) → list_any p xs ≡ false → filter p xs ≡ []
  filter-none [] h = refl
  filter-none (x ∷ xs) h = by (p x) h (filter-none xs)
    where
      by : (b : Bool) → (b || list_any p xs) ≡ false → (list_any p xs ≡ false → filter p xs ≡ [])
          → cond b (x ∷ filter p xs) (filter p xs) ≡ []
      by true e more = absurd (true≢false e)
      by false e more = more e

  -- the same for the elements after the last one that passes another test
  pub filter-following_last-none : (q : X → Bool) (xs : List X) → list_any p xs ≡ false → filter p (following_last q xs) ≡ []
  filter-following_last-none q [] h = refl
  filter-following_last-none q (x ∷ xs) h = by (list_any q xs) (q x) (filter-following_last-none q xs)
    where
      rest : (b : Bool) → (b || list_any p xs) ≡ false → list_any p xs ≡ false
      rest true e = absurd (true≢false e)
      rest false e = e

      by : (b a : Bool) → (list_any p xs ≡ false → filter p (following_last q xs) ≡ [])
          → filter p (cond b (following_last q xs) (cond a xs (x ∷ xs))) ≡ []
      by true a more = more (rest (p x) h)
      by false true more = filter-none xs (rest (p x) h)
      by false false more = filter-none (x ∷ xs) h

  -- the same for the elements after an index
  pub filter-drop-none : (n : ℕ) (xs : List X) → list_any p xs ≡ false → filter p (drop n xs) ≡ []
  filter-drop-none zero xs h = filter-none xs h
  filter-drop-none (suc n) [] h = refl
  filter-drop-none (suc n) (x ∷ xs) h = filter-drop-none n xs (rest (p x) h)
    where
      rest : (b : Bool) → (b || list_any p xs) ≡ false → list_any p xs ≡ false
      rest true e = absurd (true≢false e)
      rest false e = e

pub given-append : (profile : Profile) (k : SettingKey) (xs ys : List Assignment)
    → given profile k (xs ++ ys) ≡ given profile k xs ++ given profile k ys
given-append profile k xs ys = ap (map (λ a. a.value)) (filter-append (gives profile k) xs ys) ∙ map-append (λ a. a.value) (filter (gives profile k) xs) (filter (gives profile k) ys)

-- A key that no assignment empties keeps all its values.
abbrev pub KeepsAllValues : Type 0
KeepsAllValues = (profile : Profile) (k : SettingKey) (items : List Assignment) → list_any (resets profile k) items ≡ false → values_of profile k items ≡ counted (rule_at profile k) (given profile k items)

pub keeps_all_values : KeepsAllValues
unfolding values_of
keeps_all_values profile k items h = ap (λ l. counted (rule_at profile k) (given profile k l)) (following_last-none (resets profile k) items h)

-- Assignments before a reset of a key don't change its values.
abbrev pub ResetsForget : Type 0
ResetsForget = (profile : Profile) (k : SettingKey) (before after : List Assignment) (a : Assignment) → resets profile k a ≡ true → values_of profile k (before ++ a ∷ after) ≡ values_of profile k after

pub resets_forget : ResetsForget
unfolding values_of
resets_forget profile k before after a h =
    ap (λ l. counted (rule_at profile k) (given profile k l))
    (following_last-append (resets profile k) before (a ∷ after)
    ∙ ap (λ b. cond (b || list_any (resets profile k) after) (cond (list_any (resets profile k) after) (following_last (resets profile k) after) (cond b after (a ∷ after))) (following_last (resets profile k) before ++ a ∷ after)) h
    ∙ by (list_any (resets profile k) after) refl)
  where
    by : (b : Bool) → list_any (resets profile k) after ≡ b
        → cond b (following_last (resets profile k) after) after ≡ following_last (resets profile k) after
    by true e = refl
    by false e = sym (following_last-none (resets profile k) after e)

-- An assignment that neither gives a key a value nor empties it doesn't change its values.
abbrev pub OthersChangeNothing : Type 0
OthersChangeNothing = (profile : Profile) (k : SettingKey) (before after : List Assignment) (a : Assignment) → gives profile k a ≡ false → resets profile k a ≡ false → values_of profile k (before ++ a ∷ after) ≡ values_of profile k (before ++ after)

pub others_change_nothing : OthersChangeNothing
unfolding values_of
others_change_nothing profile k before after a none stays =
    ap (counted (rule_at profile k))
    (ap (given profile k) (following_last-append (resets profile k) before (a ∷ after))
    ∙ ap (λ b. given profile k (cond (b || list_any (resets profile k) after) (cond (list_any (resets profile k) after) (following_last (resets profile k) after) (cond b after (a ∷ after))) (following_last (resets profile k) before ++ a ∷ after))) stays
    ∙ by (list_any (resets profile k) after)
    ∙ ap (given profile k) (sym (following_last-append (resets profile k) before after)))
  where
    passed : given profile k (a ∷ after) ≡ given profile k after
    passed = ap (λ b. map (λ y. y.value) (cond b (a ∷ filter (gives profile k) after) (filter (gives profile k) after))) none

    by : (b : Bool)
        → given profile k
        (cond b (cond b (following_last (resets profile k) after) (a ∷ after))
        (following_last (resets profile k) before ++ a ∷ after)) ≡ given profile k
        (cond b (following_last (resets profile k) after) (following_last (resets profile k) before ++ after))
    by true = refl
    by false = given-append profile k (following_last (resets profile k) before) (a ∷ after) ∙ ap (λ l. given profile k (following_last (resets profile k) before) ++ l) passed ∙ sym (given-append profile k (following_last (resets profile k) before) after)

-- An assignment to another key doesn't change a key's values, unless both keys are in one family.
abbrev pub OtherKeysChangeNothing : Type 0
OtherKeysChangeNothing = (profile : Profile) (k : SettingKey) (before after : List Assignment) (a : Assignment) → same_key k (key_of a) ≡ false → emptied_by (rule_of profile a.section a.key) (rule_at profile k) false ≡ false → values_of profile k (before ++ a ∷ after) ≡ values_of profile k (before ++ after)

pub other_keys_change_nothing : OtherKeysChangeNothing
other_keys_change_nothing profile k before after a other apart =
    others_change_nothing profile k before after a
    (ap (λ b. b && counts profile a && not (is_empty a.value)) other)
    (ap (λ b. is_empty a.value && emptied_by (rule_of profile a.section a.key) (rule_at profile k) b) other ∙ ap (λ b. is_empty a.value && b) apart ∙ and-false (is_empty a.value))

-- a key that isn't entered gets no value from any assignment
none_given : (profile : Profile) (k : SettingKey) (l : List Assignment)
    → list_any (same_key k) (map key_of (filter (counts profile) l)) ≡ false → list_any (gives profile k) l ≡ false
none_given profile k [] h = refl
none_given profile k (y ∷ l) h = by (counts profile y) (same_key k (key_of y)) refl refl h (none_given profile k l)
  where
    by : (b s : Bool) → counts profile y ≡ b → same_key k (key_of y) ≡ s
        → list_any (same_key k) (map key_of (cond b (y ∷ filter (counts profile) l) (filter (counts profile) l)))
        ≡ false → (list_any (same_key k) (map key_of (filter (counts profile) l)) ≡ false
        → list_any (gives profile k) l ≡ false) → (gives profile k y || list_any (gives profile k) l) ≡ false
    by b false e d h more = ap (λ s. (s && counts profile y && not (is_empty y.value)) || list_any (gives profile k) l) d ∙ more (rest b h)
      where
        rest : (b : Bool)
            → list_any (same_key k) (map key_of (cond b (y ∷ filter (counts profile) l) (filter (counts profile) l)))
            ≡ false → list_any (same_key k) (map key_of (filter (counts profile) l)) ≡ false
        rest false h = h
        rest true h = sym (ap (λ s. s || list_any (same_key k) (map key_of (filter (counts profile) l))) d) ∙ h
    by true true e d h more = absurd (true≢false (sym (ap (λ s. s || list_any (same_key k) (map key_of (filter (counts profile) l))) d) ∙ h))
    by false true e d h more = ap (λ b. (same_key k (key_of y) && b && not (is_empty y.value)) || list_any (gives profile k) l) e ∙ ap (λ s. (s && false && not (is_empty y.value)) || list_any (gives profile k) l) d ∙ more h

any_firsts : (k : SettingKey) (ks : List SettingKey) → list_any (same_key k) ks ≡ true → list_any (same_key k) (firsts ks) ≡ true
any_firsts k [] h = h
any_firsts k (x ∷ ks) h = by (same_key k x) refl h (any_firsts k ks)
  where
    left : (q : List SettingKey) → same_key k x ≡ false → list_any (same_key k) q ≡ true
        → list_any (same_key k) (filter (λ y. not (same_key y x)) q) ≡ true
    left [] e h = h
    left (y ∷ q) e h = at (same_key y x) (same_key k y) refl refl h (left q e)
      where
        at : (b s : Bool) → same_key y x ≡ b → same_key k y ≡ s → (s || list_any (same_key k) q) ≡ true
            → (list_any (same_key k) q ≡ true → list_any (same_key k) (filter (λ y. not (same_key y x)) q) ≡ true)
            → list_any (same_key k)
            (cond (not b) (y ∷ filter (λ y. not (same_key y x)) q) (filter (λ y. not (same_key y x)) q)) ≡ true
        at true true d f h more = absurd (true≢false (sym f ∙ ap (same_key k) (same_key_is y x d) ∙ e))
        at true false d f h more = more h
        at false true d f h more = ap (λ b. b || list_any (same_key k) (filter (λ y. not (same_key y x)) q)) f
        at false false d f h more = ap (λ b. b || list_any (same_key k) (filter (λ y. not (same_key y x)) q)) f ∙ more h

    by : (b : Bool) → same_key k x ≡ b → (b || list_any (same_key k) ks) ≡ true
        → (list_any (same_key k) ks ≡ true → list_any (same_key k) (firsts ks) ≡ true)
        → (same_key k x || list_any (same_key k) (filter (λ y. not (same_key y x)) (firsts ks))) ≡ true
    by true e h more = ap (λ b. b || list_any (same_key k) (filter (λ y. not (same_key y x)) (firsts ks))) e
    by false e h more = ap (λ b. b || list_any (same_key k) (filter (λ y. not (same_key y x)) (firsts ks))) e ∙ left (firsts ks) e (more h)

-- The settings have at each key its effective values; none if the key isn't entered.
abbrev pub SettingsShowValues : Type 0
SettingsShowValues = (profile : Profile) (k : SettingKey) (items : List Assignment) → values_at (settings_of profile items) k ≡ values_of profile k items

pub settings_show_values : SettingsShowValues
unfolding settings_of keys_of values_of
settings_show_values profile k items = by (list_any (same_key k) (keys_of profile items)) refl
  where
    found : (ks : List SettingKey) → list_any (same_key k) ks ≡ true
        → values_at (map (λ q. (q, values_of profile q items)) ks) k ≡ values_of profile k items
    found [] h = absurd (true≢false (sym h))
    found (q ∷ ks) h = at (same_key k q) refl h (found ks)
      where
        at : (b : Bool) → same_key k q ≡ b → (b || list_any (same_key k) ks) ≡ true
            → (list_any (same_key k) ks ≡ true
            → values_at (map (λ q. (q, values_of profile q items)) ks) k ≡ values_of profile k items)
            → texts_or_none
            (cond (same_key k q) (Some (q, values_of profile q items))
            (find (λ e. same_key k e.0) (map (λ q. (q, values_of profile q items)) ks)))
            ≡ values_of profile k items
        at true e h more = ap (λ b. texts_or_none (cond b (Some (q, values_of profile q items)) (find (λ e. same_key k e.0) (map (λ q. (q, values_of profile q items)) ks)))) e ∙ sym (ap (λ q. values_of profile q items) (same_key_is k q e))
        at false e h more = ap (λ b. texts_or_none (cond b (Some (q, values_of profile q items)) (find (λ e. same_key k e.0) (map (λ q. (q, values_of profile q items)) ks)))) e ∙ more h

    absent : (ks : List SettingKey) → list_any (same_key k) ks ≡ false → values_at (map (λ q. (q, values_of profile q items)) ks) k ≡ []
    absent [] h = refl
    absent (q ∷ ks) h = at (same_key k q) refl h (absent ks)
      where
        at : (b : Bool) → same_key k q ≡ b → (b || list_any (same_key k) ks) ≡ false
            → (list_any (same_key k) ks ≡ false → values_at (map (λ q. (q, values_of profile q items)) ks) k ≡ [])
            → texts_or_none
            (cond (same_key k q) (Some (q, values_of profile q items))
            (find (λ e. same_key k e.0) (map (λ q. (q, values_of profile q items)) ks))) ≡ []
        at true e h more = absurd (true≢false h)
        at false e h more = ap (λ b. texts_or_none (cond b (Some (q, values_of profile q items)) (find (λ e. same_key k e.0) (map (λ q. (q, values_of profile q items)) ks)))) e ∙ more h

    counted_none : (r : KeyRule) → counted r [] ≡ []
    counted_none Ignored = refl
    counted_none Dependency = refl
    counted_none Switch = refl
    counted_none Condition = refl
    counted_none Assertion = refl
    counted_none Plain = refl
    counted_none Kept = refl

    nothing : list_any (same_key k) (keys_of profile items) ≡ false → values_of profile k items ≡ []
    nothing h =
        ap (λ l. counted (rule_at profile k) (map (λ y. y.value) l)) (filter-following_last-none (gives profile k) (resets profile k) items (none_given profile k items (not_first (list_any (same_key k) (map key_of (filter (counts profile) items))) refl)))
        ∙ counted_none (rule_at profile k)
      where
        not_first : (b : Bool) → list_any (same_key k) (map key_of (filter (counts profile) items)) ≡ b
            → list_any (same_key k) (map key_of (filter (counts profile) items)) ≡ false
        not_first true e = absurd (true≢false (sym (any_firsts k (map key_of (filter (counts profile) items)) e) ∙ h))
        not_first false e = e

    by : (b : Bool) → list_any (same_key k) (keys_of profile items) ≡ b
        → values_at (map (λ q. (q, values_of profile q items)) (keys_of profile items)) k ≡ values_of profile k items
    by true h = found (keys_of profile items) h
    by false h = absent (keys_of profile items) h ∙ sym (nothing h)

-- no empty value empties the keys with this rule
abbrev pub is_never_emptied : KeyRule → Bool
is_never_emptied Ignored = true
is_never_emptied Dependency = true
is_never_emptied Switch = true
is_never_emptied Kept = true
is_never_emptied rule = false

never_emptied : (by rule : KeyRule) (itself : Bool) → is_never_emptied rule ≡ true → emptied_by by rule itself ≡ false
never_emptied Condition Condition itself h = absurd (true≢false (sym h))
never_emptied Assertion Assertion itself h = absurd (true≢false (sym h))
never_emptied Plain Plain itself h = absurd (true≢false (sym h))
never_emptied by rule itself h = refl

-- so no assignment empties such a key
pub none_resets : (profile : Profile) (k : SettingKey) (items : List Assignment)
    → is_never_emptied (rule_at profile k) ≡ true → list_any (resets profile k) items ≡ false
none_resets profile k [] h = refl
none_resets profile k (a ∷ items) h =
    ap (λ b. (is_empty a.value && b) || list_any (resets profile k) items)
    (never_emptied (rule_of profile a.section a.key) (rule_at profile k) (same_key k (key_of a)) h)
    ∙ ap (λ b. b || list_any (resets profile k) items) (and-false (is_empty a.value)) ∙ none_resets profile k items h

-- and the settings have all values that the key is given
pub settings_keep_all : (profile : Profile) (k : SettingKey) (items : List Assignment) → is_never_emptied (rule_at profile k) ≡ true
    → values_at (settings_of profile items) k ≡ counted (rule_at profile k) (given profile k items)
settings_keep_all profile k items h = settings_show_values profile k items ∙ keeps_all_values profile k items (none_resets profile k items h)

-- An assignment that doesn't count changes nothing at all; an example is an empty one of a key that sets dependencies.
abbrev pub PassedOverChangesNothing : Type 0
PassedOverChangesNothing = (profile : Profile) (before after : List Assignment) (a : Assignment) → counts profile a ≡ false → settings_of profile (before ++ a ∷ after) ≡ settings_of profile (before ++ after)

pub passed_over_changes_nothing : PassedOverChangesNothing
unfolding settings_of keys_of
passed_over_changes_nothing profile before after a h =
    ap (λ l. map {B = SettingKey × List Text} (λ k. (k, values_of profile k (before ++ a ∷ after))) (firsts (map key_of l)))
    (filter-append (counts profile) before (a ∷ after) ∙ ap (λ b. filter (counts profile) before ++ cond b (a ∷ filter (counts profile) after) (filter (counts profile) after)) h ∙ sym (filter-append (counts profile) before after))
    ∙ alike (firsts (map key_of (filter (counts profile) (before ++ after))))
  where
    undefined : (r : KeyRule) → counts_by r a.value ≡ false → (q : KeyRule) (b : Bool) → emptied_by r q b ≡ false
    undefined Ignored h q b = refl
    undefined Dependency h q b = refl
    undefined Switch h q b = refl
    undefined Condition h q b = absurd (true≢false h)
    undefined Assertion h q b = absurd (true≢false h)
    undefined Plain h q b = absurd (true≢false h)
    undefined Kept h q b = refl

    stays : (k : SettingKey) → values_of profile k (before ++ a ∷ after) ≡ values_of profile k (before ++ after)
    stays k =
        others_change_nothing profile k before after a
        (ap (λ b. same_key k (key_of a) && b && not (is_empty a.value)) h ∙ ap (λ b. b && not (is_empty a.value)) (and-false (same_key k (key_of a))))
        (ap (λ b. is_empty a.value && b) (undefined (rule_of profile a.section a.key) h (rule_at profile k) (same_key k (key_of a))) ∙ and-false (is_empty a.value))

    alike : (ks : List SettingKey) → map {B = SettingKey × List Text} (λ k. (k, values_of profile k (before ++ a ∷ after))) ks ≡ map (λ k. (k, values_of profile k (before ++ after))) ks
    alike [] = refl
    alike (k ∷ ks) =
        let following : SettingMap = map (λ k. (k, values_of profile k (before ++ a ∷ after))) ks in
        ap (λ v. (k, v) ∷ following) (stays k) ∙ ap (λ l. (k, values_of profile k (before ++ after)) ∷ l) (alike ks)

-- An empty value of a key that sets dependencies changes nothing.
abbrev pub EmptyDependenciesChangeNothing : Type 0
EmptyDependenciesChangeNothing = (profile : Profile) (before after : List Assignment) (a : Assignment) → rule_of profile a.section a.key ≡ Dependency → is_empty a.value ≡ true → settings_of profile (before ++ a ∷ after) ≡ settings_of profile (before ++ after)

pub empty_dependencies_change_nothing : EmptyDependenciesChangeNothing
empty_dependencies_change_nothing profile before after a r h = passed_over_changes_nothing profile before after a (ap (λ r. counts_by r a.value) r ∙ ap not h)
