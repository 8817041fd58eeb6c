-- Comparing keys is equality.
use Rattle.std.proofs.Common.{◌≡◌}
use Rattle.setting_rules.specs.{declared.keys.SettingKey.{SettingKey}, Maps.{same_key}, Prelude.{and_from, and_parts, ap, Bool, bytes_eq, bytes_eq-Decides, false, refl, sym, true, true≢false, ◌∙◌}}

pub same_key_is : (k q : SettingKey) → same_key k q ≡ true → k ≡ q
same_key_is k q h =
    let parts = and_parts (bytes_eq k.section q.section) (bytes_eq k.key q.key) h in
    let with_section : k ≡ record { section = q.section; key = k.key } = ap (λ s. record { section = s; key = k.key }) ((bytes_eq-Decides _ _).0 parts.0) in
    with_section ∙ ap (λ t. record { section = q.section; key = t }) ((bytes_eq-Decides _ _).0 parts.1)

pub same_key_itself : (k : SettingKey) → same_key k k ≡ true
same_key_itself k = and_from _ _ ((bytes_eq-Decides k.section k.section).1 refl) ((bytes_eq-Decides k.key k.key).1 refl)

-- the comparison is symmetric
pub same_key_turned : (k q : SettingKey) → same_key k q ≡ same_key q k
same_key_turned k q = by (same_key k q) (same_key q k) refl refl
  where
    by : (a b : Bool) → same_key k q ≡ a → same_key q k ≡ b → a ≡ b
    by true true g h = refl
    by true false g h = absurd (true≢false (sym (same_key_itself k) ∙ ap (λ x. same_key x k) (same_key_is k q g) ∙ h))
    by false true g h = absurd (true≢false (sym (same_key_itself q) ∙ ap (λ x. same_key x q) (same_key_is q k h) ∙ g))
    by false false g h = refl
