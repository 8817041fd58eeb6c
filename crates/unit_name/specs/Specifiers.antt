-- Values with the specifiers of a unit's name.
-- Source: systemd.unit(5), "Specifiers", those of the unit's name; what stays as written is this project's own.
use Rattle.std.proofs.Common.{if◌then◌else◌, ◌++◌, ◌==◌, ◌∷◌, ◌≡◌}
use Rattle.unit_name.specs.Prelude.{[], after_last, Bool, IsSome, List, None, Option, Some, ℕ}
use Rattle.unit_name.specs.{declared.specifiers.ExpandFault.{ExpandFault, TheVariants.{BadEscape, Memory}}, Escapes.{unescape}, Names.{instance, Name, prefix, stem}}

abbrev pub is_dash : ℕ → Bool
is_dash b = b == 45

-- the part of the prefix after its last dash, or the whole prefix
abbrev pub last_part : Name → List ℕ
last_part n = after_last is_dash (prefix n)

-- the replacement of a percent sign and this letter; `None` if a text to be unescaped is malformed
unfoldable pub specifier : ℕ → Name → Option (List ℕ)
specifier c n =
    if c == 110 then Some n
    else if c == 78 then Some (stem n)
    else if c == 112 then Some (prefix n)
    else if c == 105 then Some (instance n)
    else if c == 106 then Some (last_part n)
    else if c == 80 then unescape (prefix n)
    else if c == 73 then unescape (instance n)
    else if c == 74 then unescape (last_part n)
    else if c == 37 then Some (37 ∷ [])
    else Some (37 ∷ c ∷ [])

-- the one before the other, if both exist
abbrev pub put_before : Option (List ℕ) → Option (List ℕ) → Option (List ℕ)
put_before (Some a) (Some b) = Some (a ++ b)
put_before o p = None

-- the value with each specifier replaced: a percent sign takes the next byte, every other byte stands for itself
unfoldable pub expand : List ℕ → Name → Option (List ℕ)
expand [] n = Some []
expand (b ∷ c ∷ rest) n =
    if b == 37 then put_before (specifier c n) (expand rest n) else put_before (Some (b ∷ [])) (expand (c ∷ rest) n)
expand (b ∷ []) n = Some (b ∷ [])

-- `BadEscape` means that the value can't be expanded, `Memory` that it can
abbrev pub IsExpandFault : List ℕ → Name → ExpandFault → Type 0
IsExpandFault v n BadEscape = expand v n ≡ None
IsExpandFault v n Memory = IsSome (expand v n)
