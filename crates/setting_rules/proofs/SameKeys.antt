-- Keys are equal if their sections and names are.
use Rattle.std.proofs.Common.{◌&&◌, ◌≡◌}
use Rattle.setting_rules.{proofs.Prelude.{ap, bytes_eq, is_eq, is_eq-slice_cmp, nat_cmp, same_key, SettingKey, slice_cmp, ◌∙◌}, specs.contracts.keys.SettingKeyPartialEq.TheImpl.{eq-value}}

pub same : (k q : SettingKey) → eq-value.it k q ≡ same_key k q
same k q =
    ap (λ b. b && is_eq (slice_cmp nat_cmp k.key q.key)) (is_eq-slice_cmp k.section q.section)
    ∙ ap (λ b. bytes_eq k.section q.section && b) (is_eq-slice_cmp k.key q.key)
