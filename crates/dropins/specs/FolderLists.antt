-- The folders of a list of names.
-- Source: systemd.unit(5), "Description"; the order of the whole list is this project's own.
use Rattle.std.proofs.Common.{if◌then◌else◌, ◌++◌, ◌-◌, ◌==◌, ◌∷◌}
use Rattle.dropins.specs.Prelude.{[], Bool, bytes_eq, flat_map, fold, instance, length, List, list_any, map, Name, name_with, None, Option, prefix, shape, slice_index, Some, suc, suffix, take, template_of, zero, ℕ}

abbrev pub is_dash : ℕ → Bool
is_dash b = b == 45

-- The prefixes of `p` of at most `n` bytes that end in a dash, the longest first.
abbrev pub prefixes : ℕ → List ℕ → List (List ℕ)
prefixes zero p = []
prefixes (suc n) p = if is_dash (slice_index p n) then take (suc n) p ∷ prefixes n p else prefixes n p

-- A name's prefix, cut after each of its dashes except one at its end, the last dash first.
abbrev pub cuts : List ℕ → List (List ℕ)
cuts p = prefixes (length p - 1) p

-- The name with `p` in place of its prefix.
abbrev pub with_prefix : Name → List ℕ → Name
with_prefix n p = name_with (shape n) p (instance n) (suffix n)

abbrev pub listed : Option Name → List Name
listed None = []
listed (Some n) = n ∷ []

-- A name, and after an instance its template.
abbrev pub with_template : Name → List Name
with_template n = n ∷ listed (template_of n)

-- The folders of one name: those of the name itself, then those of the name with each cut of its prefix.
abbrev pub folders_of : Name → List Name
folders_of n = with_template n ++ flat_map (λ p. with_template (with_prefix n p)) (cuts (prefix n))

-- `x` is one of the names.
abbrev pub is_among : Name → List Name → Bool
is_among x ns = list_any (bytes_eq x) ns

-- The list with the name at its end, unless it has it already.
abbrev pub with_name : List Name → Name → List Name
with_name ns x = if is_among x ns then ns else ns ++ x ∷ []

-- Each name once, at its first position.
abbrev pub firsts : List Name → List Name
firsts xs = fold with_name [] xs

-- The folders of several names, those of the first name first.
abbrev pub folders : List Name → List Name
folders ns = firsts (flat_map folders_of ns)

-- The types of names, which follow the last dot of each. Each type once, at its first position.
abbrev pub types_of : List Name → List (List ℕ)
types_of ns = firsts (map suffix ns)
