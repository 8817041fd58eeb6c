-- One more assignment, and all of them.
use Rattle.std.proofs.Common.{◌&&◌, ◌++◌, ◌+◌, ◌-◌, ◌<◌, ◌∷◌, ◌≡◌, ◌≤◌}
use Rattle.setting_rules.proofs.Prelude.{[], and-false, and_from, ap, arith, Assertion, Assignment, BadBoolean, Bool, changed_by, cond, Condition, counted, counts, counts_by, Dependency, drop, drop-append-le, drop-append_seam, effect, emptied_by, false, filter, filter-append, following_last, following_last-none, following_last-push, get_or, given, gives, Ignored, is_bad, is_bad_by, is_empty, is_never_emptied, is_some, Kept, key_of, KeyRule, keys_of, last_alone, length, length-append, length-take-le, List, map, map-append, nat_le, nat_tests, None, none_resets, not, note_on, Plain, Profile, refl, resets, resets_family, rule_at, rule_of, same_key, same_key_itself, same_rule, SettingKey, SettingMap, SettingNote, Some, start_of, Switch, sym, take, take_more, Text, true, true≢false, ℕ, ◌∙◌}
use Rattle.setting_rules.proofs.{Firsts.{pairs, pairs_alike}, Kept.{change, drop_later, given_passed, given_taken, kept, live_by, no_change}}
use Rattle.setting_rules.specs.{Rules.{boolean}, Settings.{boolean_notes, settings_of, values_of}}

last_alone-push : (values : List Text) (v : Text) → last_alone (values ++ v ∷ []) ≡ v ∷ []
last_alone-push values v =
    let n : length (values ++ v ∷ []) - 1 ≡ length values = omega (arith, length-append values (v ∷ [])) in
    ap (λ k. drop k (values ++ v ∷ [])) n ∙ drop-append_seam values (v ∷ [])

good_some : (v : Text) → is_some (boolean v) ≡ true → is_empty v ≡ false
unfolding boolean
good_some [] h = absurd (true≢false (sym h))
good_some (b ∷ v) h = refl

module _ (profile : Profile) (c a : ℕ) (p : List Assignment) (x : Assignment) where
  rule : KeyRule
  rule = rule_of profile x.section x.key

  taken : counts profile x ≡ true → is_empty x.value ≡ false → gives profile (key_of x) x ≡ true
  taken h e = and_from (same_key (key_of x) (key_of x) && counts profile x) (not (is_empty x.value)) (and_from (same_key (key_of x) (key_of x)) (counts profile x) (same_key_itself (key_of x)) h) (ap not e)

  passed : is_empty x.value ≡ true → gives profile (key_of x) x ≡ false
  passed e = ap (λ b. same_key (key_of x) (key_of x) && counts profile x && not b) e ∙ and-false (same_key (key_of x) (key_of x) && counts profile x)

  kept_as : (r : KeyRule) (l : List Assignment) → rule_of profile x.section x.key ≡ r → kept profile c a l (key_of x) ≡ counted r (given profile (key_of x) (live_by profile c a r (key_of x) l))
  kept_as r l e = ap (λ r. counted r (given profile (key_of x) (live_by profile c a r (key_of x) l))) e

  never_resets : (r : KeyRule) → rule_of profile x.section x.key ≡ r → ((b : Bool) → emptied_by r Plain b ≡ false) → (k : SettingKey) → rule_at profile k ≡ Plain → resets profile k x ≡ false
  never_resets r e never k d =
      ap (λ r. is_empty x.value && emptied_by r (rule_at profile k) (same_key k (key_of x))) e
      ∙ ap (λ q. is_empty x.value && emptied_by r q (same_key k (key_of x))) d
      ∙ ap (λ b. is_empty x.value && b) (never (same_key k (key_of x))) ∙ and-false (is_empty x.value)

  counts_as : (r : KeyRule) → rule_of profile x.section x.key ≡ r → counts profile x ≡ counts_by r x.value
  counts_as r e = ap (λ r. counts_by r x.value) e

  family_kept : (n : ℕ) (live : Bool) → counts profile x ≡ true → live ≡ nat_le n (length p)
      → given profile (key_of x) (drop n (p ++ x ∷ [])) ≡ cond (live && not (is_empty x.value)) (given profile (key_of x) (drop n p) ++ x.value ∷ []) (given profile (key_of x) (drop n p))
  family_kept n true h e =
      let le : n ≤ length p = grind (arith, nat_tests, e) in
      ap (given profile (key_of x)) (drop-append-le n p (x ∷ []) le) ∙ by (is_empty x.value) refl
    where
      by : (b : Bool) → is_empty x.value ≡ b → given profile (key_of x) (drop n p ++ x ∷ []) ≡ cond (not b) (given profile (key_of x) (drop n p) ++ x.value ∷ []) (given profile (key_of x) (drop n p))
      by true d = given_passed profile (key_of x) x (drop n p) (passed d)
      by false d = given_taken profile (key_of x) x (drop n p) (taken h d)
  family_kept n false h e =
      let lt : length p < n = grind (arith, nat_tests, e) in ap (given profile (key_of x)) (drop_later n x p lt)

  -- the map changed by one more assignment is the map of the longer list
  pub step : (live : Bool) → live ≡ nat_le (start_of c a (rule_of profile x.section x.key)) (length p)
      → changed_by (effect (rule_of profile x.section x.key) live x.value) (pairs (kept profile c a p) (keys_of profile p)) (key_of x) ≡ pairs (kept profile c a (p ++ x ∷ [])) (keys_of profile (p ++ x ∷ []))
  step live l = by (rule_of profile x.section x.key) refl l
    where
      by : (r : KeyRule) → rule_of profile x.section x.key ≡ r → live ≡ nat_le (start_of c a r) (length p) → changed_by (effect r live x.value) (pairs (kept profile c a p) (keys_of profile p)) (key_of x) ≡ pairs (kept profile c a (p ++ x ∷ [])) (keys_of profile (p ++ x ∷ []))
      by Ignored e l = no_change profile c a p x (counts_as Ignored e) (never_resets Ignored e (λ b. refl))
      by Dependency e l = at (is_empty x.value) refl
        where
          at : (b : Bool) → is_empty x.value ≡ b → changed_by (cond b None (Some (λ values. values ++ x.value ∷ []))) (pairs (kept profile c a p) (keys_of profile p)) (key_of x) ≡ pairs (kept profile c a (p ++ x ∷ [])) (keys_of profile (p ++ x ∷ []))
          at true d = no_change profile c a p x (counts_as Dependency e ∙ ap not d) (never_resets Dependency e (λ b. refl))
          at false d =
              let h = counts_as Dependency e ∙ ap not d in
              change profile c a p x h (λ values. values ++ x.value ∷ [])
              (kept_as Dependency (p ++ x ∷ []) e ∙ given_taken profile (key_of x) x p (taken h d) ∙ sym (ap (λ values. values ++ x.value ∷ []) (kept_as Dependency p e)))
      by Switch e l = at (is_some (boolean x.value)) refl
        where
          at : (b : Bool) → is_some (boolean x.value) ≡ b → changed_by (cond b (Some (λ _. x.value ∷ [])) None) (pairs (kept profile c a p) (keys_of profile p)) (key_of x) ≡ pairs (kept profile c a (p ++ x ∷ [])) (keys_of profile (p ++ x ∷ []))
          at true d =
              let h = counts_as Switch e ∙ d in
              change profile c a p x h (λ _. x.value ∷ [])
              (kept_as Switch (p ++ x ∷ []) e ∙ ap last_alone (given_taken profile (key_of x) x p (taken h (good_some x.value d))) ∙ last_alone-push (given profile (key_of x) p) x.value)
          at false d = no_change profile c a p x (counts_as Switch e ∙ d) (never_resets Switch e (λ b. refl))
      by Condition e l =
          let h = counts_as Condition e in
          change profile c a p x h (λ values. cond (live && not (is_empty x.value)) (values ++ x.value ∷ []) values)
          (kept_as Condition (p ++ x ∷ []) e ∙ family_kept c live h l ∙ sym (ap (λ values. cond (live && not (is_empty x.value)) (values ++ x.value ∷ []) values) (kept_as Condition p e)))
      by Assertion e l =
          let h = counts_as Assertion e in
          change profile c a p x h (λ values. cond (live && not (is_empty x.value)) (values ++ x.value ∷ []) values)
          (kept_as Assertion (p ++ x ∷ []) e ∙ family_kept a live h l ∙ sym (ap (λ values. cond (live && not (is_empty x.value)) (values ++ x.value ∷ []) values) (kept_as Assertion p e)))
      by Plain e l =
          let h = counts_as Plain e in
          change profile c a p x h (λ values. cond (is_empty x.value) [] (values ++ x.value ∷ []))
          (kept_as Plain (p ++ x ∷ []) e ∙ at h (is_empty x.value) refl ∙ sym (ap (λ values. cond (is_empty x.value) [] (values ++ x.value ∷ [])) (kept_as Plain p e)))
        where
          itself : is_empty x.value ≡ true → resets profile (key_of x) x ≡ true
          itself d =
              ap (λ b. b && emptied_by (rule_of profile x.section x.key) (rule_of profile x.section x.key) (same_key (key_of x) (key_of x))) d
              ∙ ap (λ r. emptied_by r r (same_key (key_of x) (key_of x))) e ∙ same_key_itself (key_of x)

          pushed : (b : Bool) → resets profile (key_of x) x ≡ b → following_last (resets profile (key_of x)) (p ++ x ∷ []) ≡ cond b [] (following_last (resets profile (key_of x)) p ++ x ∷ [])
          pushed b h = following_last-push (resets profile (key_of x)) p x ∙ ap (λ b. cond b [] (following_last (resets profile (key_of x)) p ++ x ∷ [])) h

          at : counts profile x ≡ true → (b : Bool) → is_empty x.value ≡ b → given profile (key_of x) (following_last (resets profile (key_of x)) (p ++ x ∷ [])) ≡ cond b [] (given profile (key_of x) (following_last (resets profile (key_of x)) p) ++ x.value ∷ [])
          at h true d = ap (given profile (key_of x)) (pushed true (itself d))
          at h false d =
              ap (given profile (key_of x)) (pushed false (ap (λ b. b && emptied_by (rule_of profile x.section x.key) (rule_of profile x.section x.key) (same_key (key_of x) (key_of x))) d))
              ∙ given_taken profile (key_of x) x (following_last (resets profile (key_of x)) p) (taken h d)
      by Kept e l = at (is_empty x.value) refl
        where
          at : (b : Bool) → is_empty x.value ≡ b → changed_by (cond b None (Some (λ values. values ++ x.value ∷ []))) (pairs (kept profile c a p) (keys_of profile p)) (key_of x) ≡ pairs (kept profile c a (p ++ x ∷ [])) (keys_of profile (p ++ x ∷ []))
          at true d = no_change profile c a p x (counts_as Kept e ∙ ap not d) (never_resets Kept e (λ b. refl))
          at false d =
              let h = counts_as Kept e ∙ ap not d in
              change profile c a p x h (λ values. values ++ x.value ∷ [])
              (kept_as Kept (p ++ x ∷ []) e ∙ given_taken profile (key_of x) x p (taken h d) ∙ sym (ap (λ values. values ++ x.value ∷ []) (kept_as Kept p e)))

-- after all assignments, the values that may still count are the effective values
pub kept_whole : (profile : Profile) (c a : ℕ) (l : List Assignment) → drop c l ≡ following_last (resets_family profile Condition) l → drop a l ≡ following_last (resets_family profile Assertion) l → (k : SettingKey) → values_of profile k l ≡ kept profile c a l k
unfolding values_of
kept_whole profile c a l conditions assertions k = by (rule_at profile k) refl
  where
    never : (r : KeyRule) → rule_at profile k ≡ r → is_never_emptied r ≡ true → following_last (resets profile k) l ≡ l
    never r e h = following_last-none (resets profile k) l (none_resets profile k l (ap is_never_emptied e ∙ h))

    family : (r : KeyRule) (n : ℕ) → rule_at profile k ≡ r → ((q : KeyRule) (b : Bool) → emptied_by q r b ≡ same_rule q r) → drop n l ≡ following_last (resets_family profile r) l → following_last (resets profile k) l ≡ drop n l
    family r n e h start =
        let alike = λ (y : Assignment).
        ap (λ q. is_empty y.value && emptied_by (rule_of profile y.section y.key) q (same_key k (key_of y))) e
        ∙ ap (λ b. is_empty y.value && b) (h (rule_of profile y.section y.key) (same_key k (key_of y))) in
        ap (λ t. following_last t l) (λ i y. alike y i) ∙ sym start

    condition : (q : KeyRule) (b : Bool) → emptied_by q Condition b ≡ same_rule q Condition
    condition Condition b = refl
    condition q b = refl

    assertion : (q : KeyRule) (b : Bool) → emptied_by q Assertion b ≡ same_rule q Assertion
    assertion Assertion b = refl
    assertion q b = refl

    by : (r : KeyRule) → rule_at profile k ≡ r → counted r (given profile k (following_last (resets profile k) l)) ≡ counted r (given profile k (live_by profile c a r k l))
    by Ignored e = ap (given profile k) (never Ignored e refl)
    by Dependency e = ap (given profile k) (never Dependency e refl)
    by Switch e = ap (λ m. last_alone (given profile k m)) (never Switch e refl)
    by Condition e = ap (given profile k) (family Condition c e condition conditions)
    by Assertion e = ap (given profile k) (family Assertion a e assertion assertions)
    by Plain e = refl
    by Kept e = ap (given profile k) (never Kept e refl)

-- the map of all assignments
pub settings_whole : (profile : Profile) (c a : ℕ) (l : List Assignment) → drop c l ≡ following_last (resets_family profile Condition) l → drop a l ≡ following_last (resets_family profile Assertion) l → pairs (kept profile c a l) (keys_of profile l) ≡ settings_of profile l
unfolding settings_of
settings_whole profile c a l conditions assertions = pairs_alike (kept profile c a l) (λ k. values_of profile k l) (keys_of profile l) (kept_whole profile c a l conditions assertions)

-- one more note, if the assignment is bad
pub notes_more : (profile : Profile) (p : List Assignment) (x : Assignment) → boolean_notes profile (p ++ x ∷ []) ≡ boolean_notes profile p ++ cond (is_bad_by (rule_of profile x.section x.key) x.value) (note_on (key_of x) BadBoolean ∷ []) []
unfolding boolean_notes
notes_more profile p x =
    ap (map (λ y. note_on (key_of y) BadBoolean)) (filter-append (is_bad profile) p (x ∷ []))
    ∙ map-append (λ y. note_on (key_of y) BadBoolean) (filter (is_bad profile) p) (cond (is_bad profile x) (x ∷ []) [])
    ∙ ap (λ n. map (λ y. note_on (key_of y) BadBoolean) (filter (is_bad profile) p) ++ n) (by (is_bad profile x))
  where
    by : (b : Bool) → map (λ y. note_on (key_of y) BadBoolean) (cond b (x ∷ []) []) ≡ cond b (note_on (key_of x) BadBoolean ∷ []) []
    by true = refl
    by false = refl

-- the assignments up to and including the one at an index
grown : {X : Type 0} (l : List X) (i : ℕ) (x : X) → i < length l → x ≡ get_or l i x → take i l ++ x ∷ [] ≡ take (i + 1) l
grown l i x h is = ap (λ y. take i l ++ y ∷ []) is ∙ sym (take_more l i x h)

module _ (profile : Profile) (c a : ℕ) (l : List Assignment) (i : ℕ) (x : Assignment) (rule : KeyRule) (within : i < length l) (is : x ≡ get_or l i x) (rule_is : rule ≡ rule_of profile x.section x.key) where
  -- the loop's map after the assignment at an index
  pub map_more : (start : ℕ) (was new : SettingMap) → start ≡ start_of c a rule → was ≡ pairs (kept profile c a (take i l)) (keys_of profile (take i l)) → new ≡ changed_by (effect rule (nat_le start i) x.value) was (key_of x)
      → new ≡ pairs (kept profile c a (take (i + 1) l)) (keys_of profile (take (i + 1) l))
  map_more start was new s w n =
      n ∙ ap (λ m. changed_by (effect rule (nat_le start i) x.value) m (key_of x)) w
      ∙ ap (λ r. changed_by (effect r (nat_le start i) x.value) (pairs (kept profile c a (take i l)) (keys_of profile (take i l))) (key_of x)) rule_is
      ∙ step profile c a (take i l) x (nat_le start i) (ap (λ k. nat_le k i) (s ∙ ap (start_of c a) rule_is) ∙ ap (nat_le (start_of c a (rule_of profile x.section x.key))) (sym (length-take-le i l (omega (arith, within)))))
      ∙ ap (λ m. pairs (kept profile c a m) (keys_of profile m)) (grown l i x within is)

  -- and the notes
  pub notes_then : (was new : List SettingNote) → was ≡ boolean_notes profile (take i l) → new ≡ was ++ cond (is_bad_by rule x.value) (note_on (key_of x) BadBoolean ∷ []) [] → new ≡ boolean_notes profile (take (i + 1) l)
  notes_then was new w n =
      n ∙ ap (λ m. m ++ cond (is_bad_by rule x.value) (note_on (key_of x) BadBoolean ∷ []) []) w
      ∙ ap (λ r. boolean_notes profile (take i l) ++ cond (is_bad_by r x.value) (note_on (key_of x) BadBoolean ∷ []) []) rule_is
      ∙ sym (notes_more profile (take i l) x) ∙ ap (boolean_notes profile) (grown l i x within is)
