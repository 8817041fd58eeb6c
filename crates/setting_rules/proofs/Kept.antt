-- The values of each key that may still count so far, and how one more assignment changes them.
use Rattle.std.proofs.Common.{◌&&◌, ◌++◌, ◌<◌, ◌||◌, ◌∷◌, ◌≡◌, ◌≤◌}
use Rattle.setting_rules.proofs.Prelude.{[], and-false, ap, append-nil, arith, Assertion, Assignment, Bool, changed, cond, Condition, counted, counts, Dependency, drop, drop-append-le, emptied_by, false, filter, filter-append, filter-drop-none, filter-following_last-none, filter-none, firsts, following_last, following_last-push, given, given-append, gives, Ignored, is_empty, Kept, key_of, KeyRule, last_alone, length, length-append, List, list_any, map, map-append, nat_le, nat_tests, not, Plain, Profile, refl, resets, rule_at, rule_of, same_key, same_key_turned, SettingKey, Switch, sym, Text, true, true≢false, ℕ, ◌∙◌}
use Rattle.setting_rules.proofs.{Firsts.{any_firsts, apart_firsts, changed_pairs, firsts-push, pairs, pairs_alike}, Starts.{drop_past}}
use Rattle.setting_rules.specs.Settings.{keys_of}

pub given_passed : (profile : Profile) (k : SettingKey) (x : Assignment) (l : List Assignment) → gives profile k x ≡ false → given profile k (l ++ x ∷ []) ≡ given profile k l
given_passed profile k x l h =
    given-append profile k l (x ∷ []) ∙ ap (λ b. given profile k l ++ map (λ a. a.value) (cond b (x ∷ []) [])) h ∙ append-nil (given profile k l)

pub given_taken : (profile : Profile) (k : SettingKey) (x : Assignment) (l : List Assignment) → gives profile k x ≡ true → given profile k (l ++ x ∷ []) ≡ given profile k l ++ x.value ∷ []
given_taken profile k x l h = given-append profile k l (x ∷ []) ∙ ap (λ b. given profile k l ++ map (λ a. a.value) (cond b (x ∷ []) [])) h

-- dropping more than the whole list gives the same with one more element
pub drop_later : (n : ℕ) (x : Assignment) (l : List Assignment) → length l < n → drop n (l ++ x ∷ []) ≡ drop n l
drop_later n x l h = drop_past n (l ++ x ∷ []) (omega (arith, h, length-append l (x ∷ []))) ∙ sym (drop_past n l (omega arith))

pub given_drop_passed : (profile : Profile) (k : SettingKey) (x : Assignment) (n : ℕ) (l : List Assignment) → gives profile k x ≡ false → given profile k (drop n (l ++ x ∷ [])) ≡ given profile k (drop n l)
given_drop_passed profile k x n l h = by (nat_le n (length l)) refl
  where
    by : (b : Bool) → nat_le n (length l) ≡ b → given profile k (drop n (l ++ x ∷ [])) ≡ given profile k (drop n l)
    by true e = let le : n ≤ length l = grind (arith, nat_tests, e) in ap (given profile k) (drop-append-le n l (x ∷ []) le) ∙ given_passed profile k x (drop n l) h
    by false e = let lt : length l < n = grind (arith, nat_tests, e) in ap (given profile k) (drop_later n x l lt)

module _ (profile : Profile) (c a : ℕ) where
  -- the assignments so far whose values may still count
  abbrev pub live_by : KeyRule → SettingKey → List Assignment → List Assignment
  live_by Ignored k items = items
  live_by Dependency k items = items
  live_by Switch k items = items
  live_by Condition k items = drop c items
  live_by Assertion k items = drop a items
  live_by Plain k items = following_last (resets profile k) items
  live_by Kept k items = items

  -- the values of a key so far
  abbrev pub kept : List Assignment → SettingKey → List Text
  kept items k = counted (rule_at profile k) (given profile k (live_by (rule_at profile k) k items))

  unaffected : (k : SettingKey) (x : Assignment) (p : List Assignment) → gives profile k x ≡ false → (rule_at profile k ≡ Plain → resets profile k x ≡ false) → kept (p ++ x ∷ []) k ≡ kept p k
  unaffected k x p none reset = by (rule_at profile k) refl
    where
      by : (r : KeyRule) → rule_at profile k ≡ r → counted r (given profile k (live_by r k (p ++ x ∷ []))) ≡ counted r (given profile k (live_by r k p))
      by Ignored e = given_passed profile k x p none
      by Dependency e = given_passed profile k x p none
      by Switch e = ap last_alone (given_passed profile k x p none)
      by Condition e = given_drop_passed profile k x c p none
      by Assertion e = given_drop_passed profile k x a p none
      by Plain e =
          ap (given profile k) (following_last-push (resets profile k) p x ∙ ap (λ b. cond b [] (following_last (resets profile k) p ++ x ∷ [])) (reset e))
          ∙ given_passed profile k x (following_last (resets profile k) p) none
      by Kept e = given_passed profile k x p none

  module _ (p : List Assignment) (x : Assignment) where
    -- an assignment that doesn't count changes nothing
    pub no_change : counts profile x ≡ false → ((k : SettingKey) → rule_at profile k ≡ Plain → resets profile k x ≡ false) → pairs (kept p) (keys_of profile p) ≡ pairs (kept (p ++ x ∷ [])) (keys_of profile (p ++ x ∷ []))
    unfolding keys_of
    no_change h reset =
        pairs_alike (kept p) (kept (p ++ x ∷ [])) (keys_of profile p) (λ k. unaffected k x p (ap (λ b. same_key k (key_of x) && b && not (is_empty x.value)) h ∙ ap (λ b. b && not (is_empty x.value)) (and-false (same_key k (key_of x)))) (reset k))
        ∙ ap (λ l. pairs (kept (p ++ x ∷ [])) (firsts (map key_of l))) (sym (filter-append (counts profile) p (x ∷ []) ∙ ap (λ b. filter (counts profile) p ++ cond b (x ∷ []) []) h ∙ append-nil (filter (counts profile) p)))

    plain_stays : (r : KeyRule) (b : Bool) → b ≡ false → emptied_by r Plain b ≡ false
    plain_stays Ignored b h = refl
    plain_stays Dependency b h = refl
    plain_stays Switch b h = refl
    plain_stays Condition b h = refl
    plain_stays Assertion b h = refl
    plain_stays Plain b h = h
    plain_stays Kept b h = refl

    other_gives : (k : SettingKey) → same_key (key_of x) k ≡ false → gives profile k x ≡ false
    other_gives k h = ap (λ b. b && counts profile x && not (is_empty x.value)) (same_key_turned k (key_of x) ∙ h)

    other_resets : (k : SettingKey) → same_key (key_of x) k ≡ false → rule_at profile k ≡ Plain → resets profile k x ≡ false
    other_resets k h e =
        ap (λ r. is_empty x.value && emptied_by (rule_of profile x.section x.key) r (same_key k (key_of x))) e
        ∙ ap (λ b. is_empty x.value && b) (plain_stays (rule_of profile x.section x.key) (same_key k (key_of x)) (same_key_turned k (key_of x) ∙ h)) ∙ and-false (is_empty x.value)

    -- a key without an assignment that counts has no values
    none_kept : (q : SettingKey) → list_any (same_key q) (keys_of profile p) ≡ false → kept p q ≡ []
    unfolding keys_of
    none_kept q h = by (rule_at profile q)
      where
        none : (l : List Assignment) → list_any (same_key q) (map key_of (filter (counts profile) l)) ≡ false → list_any (gives profile q) l ≡ false
        none [] h = refl
        none (y ∷ l) h = at (counts profile y) refl h (none l)
          where
            at : (b : Bool) → counts profile y ≡ b → list_any (same_key q) (map key_of (cond b (y ∷ filter (counts profile) l) (filter (counts profile) l))) ≡ false → (list_any (same_key q) (map key_of (filter (counts profile) l)) ≡ false → list_any (gives profile q) l ≡ false) → (gives profile q y || list_any (gives profile q) l) ≡ false
            at false e h more = ap (λ b. (same_key q (key_of y) && b && not (is_empty y.value)) || list_any (gives profile q) l) e ∙ ap (λ b. (b && not (is_empty y.value)) || list_any (gives profile q) l) (and-false (same_key q (key_of y))) ∙ more h
            at true e h more = here (same_key q (key_of y)) refl h more
              where
                here : (b : Bool) → same_key q (key_of y) ≡ b → (b || list_any (same_key q) (map key_of (filter (counts profile) l))) ≡ false → (list_any (same_key q) (map key_of (filter (counts profile) l)) ≡ false → list_any (gives profile q) l ≡ false) → (gives profile q y || list_any (gives profile q) l) ≡ false
                here true d h more = absurd (true≢false h)
                here false d h more = ap (λ b. (b && counts profile y && not (is_empty y.value)) || list_any (gives profile q) l) d ∙ more h

        nothing : list_any (gives profile q) p ≡ false
        nothing = none p (sym (any_firsts q (map key_of (filter (counts profile) p))) ∙ h)

        by : (r : KeyRule) → counted r (given profile q (live_by r q p)) ≡ []
        by Ignored = ap (map (λ v. v.value)) (filter-none (gives profile q) p nothing)
        by Dependency = ap (map (λ v. v.value)) (filter-none (gives profile q) p nothing)
        by Switch = ap (λ l. last_alone (map (λ v. v.value) l)) (filter-none (gives profile q) p nothing)
        by Condition = ap (map (λ v. v.value)) (filter-drop-none (gives profile q) c p nothing)
        by Assertion = ap (map (λ v. v.value)) (filter-drop-none (gives profile q) a p nothing)
        by Plain = ap (map (λ v. v.value)) (filter-following_last-none (gives profile q) (resets profile q) p nothing)
        by Kept = ap (map (λ v. v.value)) (filter-none (gives profile q) p nothing)

    -- an assignment that counts changes the values of its key
    pub change : counts profile x ≡ true → (f : List Text → List Text) → kept (p ++ x ∷ []) (key_of x) ≡ f (kept p (key_of x)) → changed f (pairs (kept p) (keys_of profile p)) (key_of x) ≡ pairs (kept (p ++ x ∷ [])) (keys_of profile (p ++ x ∷ []))
    unfolding keys_of
    change h f new =
        changed_pairs (kept p) (kept (p ++ x ∷ [])) (key_of x) (λ k e. unaffected k x p (other_gives k e) (other_resets k e)) f new (keys_of profile p) (apart_firsts (map key_of (filter (counts profile) p))) (none_kept (key_of x))
        ∙ ap (pairs (kept (p ++ x ∷ [])))
        (sym (ap (λ l. firsts (map key_of l)) (filter-append (counts profile) p (x ∷ []) ∙ ap (λ b. filter (counts profile) p ++ cond b (x ∷ []) []) h)
        ∙ ap firsts (map-append key_of (filter (counts profile) p) (x ∷ []))
        ∙ firsts-push (map key_of (filter (counts profile) p)) (key_of x)))
