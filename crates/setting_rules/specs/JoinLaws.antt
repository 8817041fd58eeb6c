-- The settings of concatenated lists, such as the assignments of a fragment and of its drop-ins.
use Rattle.std.proofs.Common.{◌++◌, ◌+◌, ◌-◌, ◌∷◌, ◌≡◌}
use Rattle.setting_rules.specs.Prelude.{[], ap, append-nil, arith, Assignment, Bool, cond, drop, drop-append-add, false, length, length-append, List, list_any, Profile, refl, sym, true, ◌∙◌}
use Rattle.setting_rules.specs.{declared.{keys.SettingKey.{SettingKey}, rules.KeyRule.{KeyRule, TheVariants.{Assertion, Condition, Dependency, Ignored, Kept, Plain, Switch}}}, ResetLaws.{following_last-append, following_last-none, given-append}, Rules.{Text}, Settings.{counted, following_last, given, last_alone, resets, rule_at, values_of}}

-- the last value of two lists is that of the second, if it has any
pub last_following : (xs : List Text) (y : Text) (ys : List Text) → last_alone (xs ++ y ∷ ys) ≡ last_alone (y ∷ ys)
last_following xs y ys =
    let n : length (xs ++ y ∷ ys) - 1 ≡ length xs + (length (y ∷ ys) - 1) = omega (arith, length-append xs (y ∷ ys)) in
    ap (λ k. drop k (xs ++ y ∷ ys)) n ∙ drop-append-add xs (y ∷ ys) (length (y ∷ ys) - 1)

one : (y : Text) (ys : List Text) → (z : Text) × (last_alone (y ∷ ys) ≡ z ∷ [])
one y [] = (y, refl)
one y (x ∷ ys) = let o = one x ys in (o.0, last_following (y ∷ []) x ys ∙ o.1)

twice : (xs : List Text) → last_alone (last_alone xs) ≡ last_alone xs
twice [] = refl
twice (x ∷ xs) = let o = one x xs in ap last_alone o.1 ∙ sym o.1

last_alone-append : (xs ys : List Text) → last_alone (xs ++ ys) ≡ last_alone (last_alone xs ++ last_alone ys)
last_alone-append xs [] = ap last_alone (append-nil xs) ∙ sym (twice xs) ∙ ap last_alone (sym (append-nil (last_alone xs)))
last_alone-append xs (y ∷ ys) =
    let o = one y ys in
    last_following xs y ys ∙ o.1 ∙ sym (last_following (last_alone xs) o.0 []) ∙ ap (λ l. last_alone (last_alone xs ++ l)) (sym o.1)

counted-append : (r : KeyRule) (xs ys : List Text) → counted r (xs ++ ys) ≡ counted r (counted r xs ++ counted r ys)
counted-append Ignored xs ys = refl
counted-append Dependency xs ys = refl
counted-append Switch xs ys = last_alone-append xs ys
counted-append Condition xs ys = refl
counted-append Assertion xs ys = refl
counted-append Plain xs ys = refl
counted-append Kept xs ys = refl

-- The values of two lists are those of the second alone if something there empties the key, and else those of both.
abbrev pub ListsJoin : Type 0
ListsJoin = (profile : Profile) (k : SettingKey) (first second : List Assignment) →
    values_of profile k (first ++ second) ≡ cond (list_any (resets profile k) second) (values_of profile k second) (counted (rule_at profile k) (values_of profile k first ++ values_of profile k second))

pub lists_join : ListsJoin
unfolding values_of
lists_join profile k first second =
    ap (λ l. counted (rule_at profile k) (given profile k l)) (following_last-append (resets profile k) first second) ∙ by (list_any (resets profile k) second) refl
  where
    by : (b : Bool) → list_any (resets profile k) second ≡ b
        → counted (rule_at profile k)
        (given profile k
        (cond b (following_last (resets profile k) second) (following_last (resets profile k) first ++ second)))
        ≡ cond b (counted (rule_at profile k) (given profile k (following_last (resets profile k) second))) (counted (rule_at profile k) (counted (rule_at profile k) (given profile k (following_last (resets profile k) first)) ++ counted (rule_at profile k) (given profile k (following_last (resets profile k) second))))
    by true e = refl
    by false e =
        ap (counted (rule_at profile k)) (given-append profile k (following_last (resets profile k) first) second)
        ∙ counted-append (rule_at profile k) (given profile k (following_last (resets profile k) first)) (given profile k second)
        ∙ ap (λ l. counted (rule_at profile k) (counted (rule_at profile k) (given profile k (following_last (resets profile k) first)) ++ counted (rule_at profile k) (given profile k l))) (sym (following_last-none (resets profile k) second e))
