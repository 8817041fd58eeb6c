-- Keys at their first occurrence, and maps with values for each.
use Rattle.std.proofs.Common.{◌++◌, ◌||◌, ◌∷◌, ◌≡◌}
use Rattle.setting_rules.proofs.Prelude.{[], any_others, ap, append-nil, Bool, changed, cond, false, filter-append, firsts, List, list_any, map, not, others, refl, same_key, same_key_is, same_key_turned, SettingKey, SettingMap, sym, Text, true, true≢false, ◌∙◌}

-- the keys, with one more at the end unless it is present
abbrev pub with_last : List SettingKey → SettingKey → List SettingKey
with_last ks k = cond (list_any (same_key k) ks) ks (ks ++ k ∷ [])

pub firsts-push : (ks : List SettingKey) (k : SettingKey) → firsts (ks ++ k ∷ []) ≡ with_last (firsts ks) k
firsts-push [] k = refl
firsts-push (x ∷ ks) k = ap (λ l. x ∷ others x l) (firsts-push ks k) ∙ by (same_key k x) (list_any (same_key k) (firsts ks)) refl refl
  where
    pushed : others x (firsts ks ++ k ∷ []) ≡ others x (firsts ks) ++ cond (not (same_key k x)) (k ∷ []) []
    pushed = filter-append (λ q. not (same_key q x)) (firsts ks) (k ∷ [])

    by : (b a : Bool) → same_key k x ≡ b → list_any (same_key k) (firsts ks) ≡ a → x ∷ others x (cond a (firsts ks) (firsts ks ++ k ∷ [])) ≡ cond (same_key k x || list_any (same_key k) (others x (firsts ks))) (x ∷ others x (firsts ks)) ((x ∷ others x (firsts ks)) ++ k ∷ [])
    by true true e g = sym (ap (λ b. cond (b || list_any (same_key k) (others x (firsts ks))) (x ∷ others x (firsts ks)) ((x ∷ others x (firsts ks)) ++ k ∷ [])) e)
    by true false e g =
        ap (λ l. x ∷ l) (pushed ∙ ap (λ b. others x (firsts ks) ++ cond (not b) (k ∷ []) []) e ∙ append-nil (others x (firsts ks)))
        ∙ sym (ap (λ b. cond (b || list_any (same_key k) (others x (firsts ks))) (x ∷ others x (firsts ks)) ((x ∷ others x (firsts ks)) ++ k ∷ [])) e)
    by false true e g = sym (chosen true e g)
      where
        chosen : (a : Bool) → same_key k x ≡ false → list_any (same_key k) (firsts ks) ≡ a → cond (same_key k x || list_any (same_key k) (others x (firsts ks))) (x ∷ others x (firsts ks)) ((x ∷ others x (firsts ks)) ++ k ∷ []) ≡ cond a (x ∷ others x (firsts ks)) ((x ∷ others x (firsts ks)) ++ k ∷ [])
        chosen a e g = ap (λ b. cond (b || list_any (same_key k) (others x (firsts ks))) (x ∷ others x (firsts ks)) ((x ∷ others x (firsts ks)) ++ k ∷ [])) e ∙ ap (λ b. cond b (x ∷ others x (firsts ks)) ((x ∷ others x (firsts ks)) ++ k ∷ [])) (any_others k x e (firsts ks) ∙ g)
    by false false e g = ap (λ l. x ∷ l) (pushed ∙ ap (λ b. others x (firsts ks) ++ cond (not b) (k ∷ []) []) e) ∙ sym (chosen false e g)
      where
        chosen : (a : Bool) → same_key k x ≡ false → list_any (same_key k) (firsts ks) ≡ a → cond (same_key k x || list_any (same_key k) (others x (firsts ks))) (x ∷ others x (firsts ks)) ((x ∷ others x (firsts ks)) ++ k ∷ []) ≡ cond a (x ∷ others x (firsts ks)) ((x ∷ others x (firsts ks)) ++ k ∷ [])
        chosen a e g = ap (λ b. cond (b || list_any (same_key k) (others x (firsts ks))) (x ∷ others x (firsts ks)) ((x ∷ others x (firsts ks)) ++ k ∷ [])) e ∙ ap (λ b. cond b (x ∷ others x (firsts ks)) ((x ∷ others x (firsts ks)) ++ k ∷ [])) (any_others k x e (firsts ks) ∙ g)

pub any_firsts : (k : SettingKey) (ks : List SettingKey) → list_any (same_key k) (firsts ks) ≡ list_any (same_key k) ks
any_firsts k [] = refl
any_firsts k (x ∷ ks) = by (same_key k x) refl (any_firsts k ks)
  where
    by : (b : Bool) → same_key k x ≡ b → list_any (same_key k) (firsts ks) ≡ list_any (same_key k) ks → (same_key k x || list_any (same_key k) (others x (firsts ks))) ≡ (same_key k x || list_any (same_key k) ks)
    by true e rest = ap (λ b. b || list_any (same_key k) (others x (firsts ks))) e ∙ sym (ap (λ b. b || list_any (same_key k) ks) e)
    by false e rest = ap (λ b. same_key k x || b) (any_others k x e (firsts ks) ∙ rest)

-- the list has no duplicate keys
abbrev pub AreApart : List SettingKey → Type 0
AreApart [] = Unit {0}
AreApart (k ∷ ks) = (list_any (same_key k) ks ≡ false) × AreApart ks

none_left : (x : SettingKey) (ks : List SettingKey) → list_any (same_key x) (others x ks) ≡ false
none_left x [] = refl
none_left x (y ∷ ks) = by (same_key y x) refl (none_left x ks)
  where
    by : (b : Bool) → same_key y x ≡ b → list_any (same_key x) (others x ks) ≡ false → list_any (same_key x) (cond (not b) (y ∷ others x ks) (others x ks)) ≡ false
    by true e rest = rest
    by false e rest = ap (λ b. b || list_any (same_key x) (others x ks)) (same_key_turned x y ∙ e) ∙ rest

fewer : (k x : SettingKey) (ks : List SettingKey) → list_any (same_key k) ks ≡ false → list_any (same_key k) (others x ks) ≡ false
fewer k x [] h = refl
fewer k x (y ∷ ks) h = by (same_key y x) (same_key k y) refl h (fewer k x ks)
  where
    by : (b a : Bool) → same_key k y ≡ a → (a || list_any (same_key k) ks) ≡ false → (list_any (same_key k) ks ≡ false → list_any (same_key k) (others x ks) ≡ false) → list_any (same_key k) (cond (not b) (y ∷ others x ks) (others x ks)) ≡ false
    by b true e h more = absurd (true≢false h)
    by true false e h more = more h
    by false false e h more = ap (λ b. b || list_any (same_key k) (others x ks)) e ∙ more h

apart_others : (x : SettingKey) (ks : List SettingKey) → AreApart ks → AreApart (others x ks)
apart_others x [] h = tt
apart_others x (y ∷ ks) h = by (same_key y x) (apart_others x ks h.1)
  where
    by : (b : Bool) → AreApart (others x ks) → AreApart (cond (not b) (y ∷ others x ks) (others x ks))
    by true rest = rest
    by false rest = (fewer y x ks h.0, rest)

pub apart_firsts : (ks : List SettingKey) → AreApart (firsts ks)
apart_firsts [] = tt
apart_firsts (x ∷ ks) = (none_left x (firsts ks), apart_others x (firsts ks) (apart_firsts ks))

-- keys with their values
abbrev pub pairs : (SettingKey → List Text) → List SettingKey → SettingMap
pairs g ks = map (λ k. (k, g k)) ks

pub pairs_alike : (g h : SettingKey → List Text) (ks : List SettingKey) → ((k : SettingKey) → h k ≡ g k) → pairs g ks ≡ pairs h ks
pairs_alike g h [] same = refl
pairs_alike g h (k ∷ ks) same = ap (λ v. (k, v) ∷ pairs g ks) (sym (same k)) ∙ ap (λ l. (k, h k) ∷ l) (pairs_alike g h ks same)

module _ (g h : SettingKey → List Text) (q : SettingKey) (same : (k : SettingKey) → same_key q k ≡ false → h k ≡ g k) where
  pairs_following : (ks : List SettingKey) → list_any (same_key q) ks ≡ false → pairs g ks ≡ pairs h ks
  pairs_following [] none = refl
  pairs_following (k ∷ ks) none = by (same_key q k) refl none (pairs_following ks)
    where
      by : (b : Bool) → same_key q k ≡ b → (b || list_any (same_key q) ks) ≡ false → (list_any (same_key q) ks ≡ false → pairs g ks ≡ pairs h ks) → (k, g k) ∷ pairs g ks ≡ (k, h k) ∷ pairs h ks
      by true e none more = absurd (true≢false none)
      by false e none more = ap (λ v. (k, v) ∷ pairs g ks) (sym (same k e)) ∙ ap (λ l. (k, h k) ∷ l) (more none)

  -- a map with values for each key, changed at one of them
  pub changed_pairs : (f : List Text → List Text) → h q ≡ f (g q) → (ks : List SettingKey) → AreApart ks → (list_any (same_key q) ks ≡ false → g q ≡ []) → changed f (pairs g ks) q ≡ pairs h (with_last ks q)
  changed_pairs f new [] apart none = ap (λ v. (q, v) ∷ []) (sym (new ∙ ap f (none refl)))
  changed_pairs f new (x ∷ ks) apart none = by (same_key q x) (list_any (same_key q) ks) refl refl (λ m. changed_pairs f new ks apart.1 m) none
    where
      by : (b a : Bool) → same_key q x ≡ b → list_any (same_key q) ks ≡ a → ((list_any (same_key q) ks ≡ false → g q ≡ []) → changed f (pairs g ks) q ≡ pairs h (with_last ks q)) → ((same_key q x || list_any (same_key q) ks) ≡ false → g q ≡ [])
          → cond b ((x, f (g x)) ∷ pairs g ks) ((x, g x) ∷ changed f (pairs g ks) q) ≡ pairs h (cond (b || list_any (same_key q) ks) (x ∷ ks) ((x ∷ ks) ++ q ∷ []))
      by true a e d more none =
          let is = same_key_is q x e in
          ap (λ v. (x, v) ∷ pairs g ks) (sym (ap h (sym is) ∙ new ∙ ap (λ k. f (g k)) is)) ∙ ap (λ l. (x, h x) ∷ l) (pairs_following ks (ap (λ k. list_any (same_key k) ks) is ∙ apart.0))
      by false a e d more none =
          ap (λ v. (x, v) ∷ changed f (pairs g ks) q) (sym (same x e))
          ∙ ap (λ l. (x, h x) ∷ l) (more (λ m. none (ap (λ b. b || list_any (same_key q) ks) e ∙ m)))
          ∙ placed (list_any (same_key q) ks)
        where
          placed : (a : Bool) → (x, h x) ∷ pairs h (cond a ks (ks ++ q ∷ [])) ≡ pairs h (cond a (x ∷ ks) ((x ∷ ks) ++ q ∷ []))
          placed true = refl
          placed false = refl
