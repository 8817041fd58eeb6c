-- What the values of a unit say: those of keys in the section of its type, as `[Service]` for a service.
-- Source: systemd.unit(5), "Unit File Format"; systemd.syntax(7), "Introduction", for booleans.
use Rattle.std.proofs.Common.{◌&&◌, ◌-◌}
use Rattle.unit_values.specs.Prelude.{[], Automount, Bool, boolean, bytes_eq, code_by, Coded, coded_list, coded_ℕ, coded×, codes, Device, false, filter, filter_map, flat_map, Kind, kind, length, List, list_any, map, Mount, Name, None, Option, Path, refl, Row, Scope, Service, Slice, slice_get, Socket, Some, Swap, Target, Text, Timer, unwrap_or, words_of, ℕ}
use Rattle.setting_rules.specs.contracts.rows.Row as row

-- a unit's name, and its effective values
pub record Facts : Type 0 where
  pub unit : Name
  pub rows : List Row

-- the section for units of a type
abbrev pub section_word : Kind → Text
section_word Service = codes "Service"
section_word Socket = codes "Socket"
section_word Device = codes "Device"
section_word Mount = codes "Mount"
section_word Automount = codes "Automount"
section_word Swap = codes "Swap"
section_word Target = codes "Target"
section_word Path = codes "Path"
section_word Timer = codes "Timer"
section_word Slice = codes "Slice"
section_word Scope = codes "Scope"

abbrev pub section_by : Option Kind → Text
section_by None = []
section_by (Some k) = section_word k

-- the section of the unit's type
abbrev pub section_of : Facts → Text
section_of f = section_by (kind f.unit)

abbrev pub is_at : Text → Text → Row → Bool
is_at section key row = bytes_eq row.key key && bytes_eq row.section section

-- the values of a key in a section
unfoldable pub values_in : List Row → Text → Text → List Text
values_in rows section key = map (λ row. row.value) (filter (is_at section key) rows)

-- the values of a key of the unit's type
abbrev pub values_of : Facts → Text → List Text
values_of f key = values_in f.rows (section_of f) key

abbrev pub last_of : {X : Type 0} → List X → Option X
last_of xs = slice_get xs (length xs - 1)

-- the last of them
abbrev pub last : Facts → Text → Option Text
last f key = last_of (values_of f key)

-- there is one
abbrev pub has : Facts → Text → Bool
has f key = list_any (is_at (section_of f) key) f.rows

-- the last of some values that spells a boolean
abbrev pub last_boolean : List Text → Option Bool
last_boolean values = last_of (filter_map boolean values)

-- that of a key in a section is true
abbrev pub yes_in : List Row → Text → Text → Bool
yes_in rows section key = unwrap_or (last_boolean (values_in rows section key)) false

-- that of a key of the unit's type
abbrev pub yes : Facts → Text → Bool
yes f key = yes_in f.rows (section_of f) key

-- the words of the values of a key in a section
abbrev pub words_in : List Row → Text → Text → List Text
words_in rows section key = flat_map words_of (values_in rows section key)

-- those of a key of the unit's type
abbrev pub words : Facts → Text → List Text
words f key = words_in f.rows (section_of f) key

-- there is a text, and it is this one
abbrev pub is_text : Text → Option Text → Bool
is_text text None = false
is_text text (Some value) = bytes_eq value text

-- there is a text, and it is one of these
abbrev pub is_one_of : List Text → Option Text → Bool
is_one_of texts None = false
is_one_of texts (Some value) = list_any (bytes_eq value) texts

-- how facts are encoded
abbrev pub coded_facts : Coded Facts
coded_facts = code_by (List ℕ × List Row) (coded× (coded_list coded_ℕ) (coded_list (row.the_row).coded)) (λ f. (f.unit, f.rows)) (λ t. record { unit = t.0; rows = t.1 }) (λ _. refl)
