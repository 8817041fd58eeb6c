-- How the four keys are read that the profiles read differently.
-- Source: systemd.unit(5), "[Unit] Section Options", and systemd.service(5), "Options".
use Rattle.std.proofs.Common.{◌&&◌, ◌≡◌}
use Rattle.setting_rules.specs.Prelude.{ap, Assignment, Bool, codes, false, Files, filter, filter_agree, List, Manager, map, not, refl, sym, true, ◌∙◌}
use Rattle.setting_rules.specs.{declared.{keys.SettingKey.{SettingKey}, rules.KeyRule.TheVariants.{Kept, Plain}}, KeyLaws.{same_key_is}, Kinds.{settable_kind}, Maps.{same_key, values_at}, ResetLaws.{is_never_emptied, settings_keep_all}, Rules.{is_empty, rule_of, Text}, Settings.{counted, counts, counts_by, given, gives, key_of, rule_at, settings_of}}

-- the key `RequiresMountsFor` of `[Unit]`
abbrev pub mounts_key : SettingKey
mounts_key = record { section = codes "Unit"; key = codes "RequiresMountsFor" }

-- the key `Sockets` of `[Service]`
abbrev pub sockets_key : SettingKey
sockets_key = record { section = codes "Service"; key = codes "Sockets" }

-- the values assigned to a key that aren't empty, in order
abbrev pub assigned : SettingKey → List Assignment → List Text
assigned k items = map (λ a. a.value) (filter (λ a. same_key k (key_of a) && not (is_empty a.value)) items)

-- A manager shows for these two keys exactly the values assigned to them that aren't empty, in order.
abbrev pub ManagersKeepPaths : Type 0
ManagersKeepPaths = (items : List Assignment) →
    (values_at (settings_of Manager items) mounts_key ≡ assigned mounts_key items) × (values_at (settings_of Manager items) sockets_key ≡ assigned sockets_key items)

-- By files alone each of the four keys is one like any other.
abbrev pub FilesReadThemAsAnyOther : Type 0
FilesReadThemAsAnyOther =
    (rule_of Files (codes "Unit") (codes "DefaultDependencies") ≡ Plain)
    × (rule_of Files (codes "Unit") (codes "Upholds") ≡ Plain)
    × (rule_of Files (codes "Unit") (codes "RequiresMountsFor") ≡ Plain)
    × (rule_of Files (codes "Service") (codes "Sockets") ≡ Plain)

-- a key that a manager keeps whole
module _ (k : SettingKey) (is_kept : rule_at Manager k ≡ Kept) where
  given_assigned : (items : List Assignment) → given Manager k items ≡ assigned k items
  given_assigned items = ap (map (λ a. a.value)) (filter_agree (gives Manager k) (λ a. same_key k (key_of a) && not (is_empty a.value)) alike items)
    where
      twice : (b : Bool) → (b && b) ≡ b
      twice true = refl
      twice false = refl

      alike : (a : Assignment) → gives Manager k a ≡ (same_key k (key_of a) && not (is_empty a.value))
      alike a = by (same_key k (key_of a)) refl
        where
          by : (same : Bool) → same_key k (key_of a) ≡ same → gives Manager k a ≡ (same_key k (key_of a) && not (is_empty a.value))
          by false e = ap (λ s. s && counts Manager a && not (is_empty a.value)) e ∙ sym (ap (λ s. s && not (is_empty a.value)) e)
          by true e =
              ap (λ s. s && counts Manager a && not (is_empty a.value)) e
              ∙ ap (λ r. counts_by r a.value && not (is_empty a.value)) (sym (ap (rule_at Manager) (same_key_is k (key_of a) e)) ∙ is_kept)
              ∙ twice (not (is_empty a.value)) ∙ sym (ap (λ s. s && not (is_empty a.value)) e)

  shows_assigned : (items : List Assignment) → values_at (settings_of Manager items) k ≡ assigned k items
  shows_assigned items =
      settings_keep_all Manager k items (ap is_never_emptied is_kept) ∙ ap (λ r. counted r (given Manager k items)) is_kept ∙ given_assigned items

mounts_kept : rule_at Manager mounts_key ≡ Kept
unfolding rule_of settable_kind
mounts_kept = refl

sockets_kept : rule_at Manager sockets_key ≡ Kept
unfolding rule_of settable_kind
sockets_kept = refl

pub managers_keep_paths : ManagersKeepPaths
managers_keep_paths items = (shows_assigned mounts_key mounts_kept items, shows_assigned sockets_key sockets_kept items)

pub files_read_them_as_any_other : FilesReadThemAsAnyOther
unfolding rule_of settable_kind
files_read_them_as_any_other = (refl, refl, refl, refl)
