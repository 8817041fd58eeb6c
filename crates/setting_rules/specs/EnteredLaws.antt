-- Which keys enter the map, and in what order.
-- Source: this project's own.
use Rattle.std.proofs.Common.{if◌then◌else◌, ◌++◌, ◌||◌, ◌∷◌, ◌≡◌}
use Rattle.setting_rules.specs.Prelude.{[], ap, Assignment, Bool, cond, false, filter, filter-append, filter_agree, filter_twice, List, list_any, map, map-append, not, Profile, refl, sym, true, ◌∙◌}
use Rattle.setting_rules.specs.{declared.keys.SettingKey.{SettingKey}, KeyLaws.{same_key_is}, Maps.{keys_in, same_key}, Rules.{Text}, Settings.{counts, firsts, key_of, keys_of, settings_of, values_of}}

-- those of some keys that aren't among others
abbrev pub not_among : List SettingKey → List SettingKey → List SettingKey
not_among others ks = filter (λ k. not (list_any (same_key k) others)) ks

-- The keys of two concatenated lists are those of the first, then those of the second that the first doesn't have.
abbrev pub KeysJoin : Type 0
KeysJoin = (profile : Profile) (first second : List Assignment) →
    keys_in (settings_of profile (first ++ second)) ≡ keys_in (settings_of profile first) ++ not_among (keys_in (settings_of profile first)) (keys_in (settings_of profile second))

-- One assignment enters its key if it counts.
abbrev pub OneKeyEnters : Type 0
OneKeyEnters = (profile : Profile) (a : Assignment) → keys_in (settings_of profile (a ∷ [])) ≡ (if counts profile a then key_of a ∷ [] else [])

-- all keys but one
abbrev pub others : SettingKey → List SettingKey → List SettingKey
others x ks = filter (λ q. not (same_key q x)) ks

-- any other key is among them if it was before
pub any_others : (k x : SettingKey) → same_key k x ≡ false → (ks : List SettingKey)
    → list_any (same_key k) (others x ks) ≡ list_any (same_key k) ks
any_others k x h [] = refl
any_others k x h (y ∷ ks) = by (same_key y x) refl (any_others k x h ks)
  where
    by : (b : Bool) → same_key y x ≡ b → list_any (same_key k) (others x ks) ≡ list_any (same_key k) ks
        → list_any (same_key k) (cond (not b) (y ∷ others x ks) (others x ks))
        ≡ (same_key k y || list_any (same_key k) ks)
    by true e rest = rest ∙ sym (ap (λ b. b || list_any (same_key k) ks) (ap (same_key k) (same_key_is y x e) ∙ h))
    by false e rest = ap (λ b. same_key k y || b) rest

all_kept : {X : Type 0} (xs : List X) → filter (λ x. true) xs ≡ xs
all_kept [] = refl
all_kept (x ∷ xs) = ap (λ l. x ∷ l) (all_kept xs)

pub firsts-append : (ks ls : List SettingKey) → firsts (ks ++ ls) ≡ firsts ks ++ not_among (firsts ks) (firsts ls)
firsts-append [] ls = sym (all_kept (firsts ls))
firsts-append (x ∷ ks) ls =
    ap (λ l. x ∷ others x l) (firsts-append ks ls)
    ∙ ap (λ l. x ∷ l) (filter-append (λ q. not (same_key q x)) (firsts ks) (not_among (firsts ks) (firsts ls)))
    ∙ ap (λ l. x ∷ (others x (firsts ks) ++ l)) (filter_twice (λ q. not (same_key q x)) (λ k. not (list_any (same_key k) (firsts ks))) (firsts ls) ∙ filter_agree _ _ both (firsts ls))
  where
    both : (k : SettingKey) → cond (not (list_any (same_key k) (firsts ks))) (not (same_key k x)) false
        ≡ not (list_any (same_key k) (x ∷ others x (firsts ks)))
    both k = by (same_key k x) (list_any (same_key k) (firsts ks)) refl refl
      where
        by : (s a : Bool) → same_key k x ≡ s → list_any (same_key k) (firsts ks) ≡ a
            → cond (not (list_any (same_key k) (firsts ks))) (not (same_key k x)) false
            ≡ not (same_key k x || list_any (same_key k) (others x (firsts ks)))
        by true true e g = ap (λ a. cond (not a) (not (same_key k x)) false) g ∙ sym (ap (λ s. not (s || list_any (same_key k) (others x (firsts ks)))) e)
        by true false e g = ap (λ a. cond (not a) (not (same_key k x)) false) g ∙ ap not e ∙ sym (ap (λ s. not (s || list_any (same_key k) (others x (firsts ks)))) e)
        by false a e g =
            ap (λ s. cond (not (list_any (same_key k) (firsts ks))) (not s) false) e ∙ alone (list_any (same_key k) (firsts ks))
            ∙ sym (ap (λ s. not (s || list_any (same_key k) (others x (firsts ks)))) e ∙ ap not (any_others k x e (firsts ks)))
          where
            alone : (a : Bool) → cond (not a) true false ≡ not a
            alone true = refl
            alone false = refl

-- the keys of the map are those that are entered
keys_entered : (profile : Profile) (items : List Assignment) → keys_in (settings_of profile items) ≡ keys_of profile items
unfolding settings_of
keys_entered profile items = alike (keys_of profile items)
  where
    alike : (ks : List SettingKey) → map (λ e. e.0) (map (λ k. let p : SettingKey × List Text = (k, values_of profile k items) in p) ks) ≡ ks
    alike [] = refl
    alike (k ∷ ks) = ap (λ l. k ∷ l) (alike ks)

pub keys_join : KeysJoin
unfolding keys_of
keys_join profile first second =
    keys_entered profile (first ++ second)
    ∙ ap firsts (ap (map key_of) (filter-append (counts profile) first second) ∙ map-append key_of (filter (counts profile) first) (filter (counts profile) second))
    ∙ firsts-append (map key_of (filter (counts profile) first)) (map key_of (filter (counts profile) second))
    ∙ ap (λ l. l ++ not_among l (keys_of profile second)) (sym (keys_entered profile first))
    ∙ ap (λ l. keys_in (settings_of profile first) ++ not_among (keys_in (settings_of profile first)) l) (sym (keys_entered profile second))

pub one_key_enters : OneKeyEnters
unfolding keys_of
one_key_enters profile a = keys_entered profile (a ∷ []) ∙ by (counts profile a)
  where
    by : (b : Bool) → firsts (map key_of (cond b (a ∷ []) [])) ≡ cond b (key_of a ∷ []) []
    by true = refl
    by false = refl
