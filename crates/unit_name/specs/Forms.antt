-- Names put together from parts.
-- Source: systemd.unit(5), "Description"; which bytes an instance may have is this project's own.
use Rattle.std.proofs.Common.{if◌then◌else◌, ◌&&◌, ◌++◌, ◌∷◌}
use Rattle.unit_name.specs.Prelude.{Bool, length, List, list_all, nat_le, None, not, Option, Some, ℕ}
use Rattle.unit_name.specs.{declared.names.Shape.{Shape, TheVariants.{Instance, Plain, Template}}, Names.{is_empty, is_name_byte, Name, prefix, shape, suffix}}

abbrev pub plain_name : List ℕ → List ℕ → Name
plain_name p k = p ++ 46 ∷ k

abbrev pub template_name : List ℕ → List ℕ → Name
template_name p k = p ++ 64 ∷ 46 ∷ k

abbrev pub instance_name : List ℕ → List ℕ → List ℕ → Name
instance_name p i k = p ++ 64 ∷ i ++ 46 ∷ k

-- the name with this shape, prefix, instance and suffix
abbrev pub name_with : Shape → List ℕ → List ℕ → List ℕ → Name
name_with Plain p i k = plain_name p k
name_with Template p i k = template_name p k
name_with Instance p i k = instance_name p i k

abbrev pub template_at : Shape → Name → Option Name
template_at Plain n = None
template_at Template n = None
template_at Instance n = Some (template_name (prefix n) (suffix n))

-- the template of an instance; `None` for other names
abbrev pub template_of : Name → Option Name
template_of n = template_at (shape n) n

-- whether a template may have this instance: not empty, and only bytes allowed in names
abbrev pub is_instance : List ℕ → Bool
is_instance i = not (is_empty i) && list_all is_name_byte i

-- the name, if it isn't too long
abbrev pub if_short : Name → Option Name
if_short n = if nat_le (length n) 255 then Some n else None

abbrev pub instance_at : Shape → Name → List ℕ → Option Name
instance_at Plain n i = None
instance_at Template n i = if is_instance i then if_short (instance_name (prefix n) i (suffix n)) else None
instance_at Instance n i = None

-- a template's name with this instance; `None` for other names, for invalid instances, or if it is too long
abbrev pub with_instance : Name → List ℕ → Option Name
with_instance n i = instance_at (shape n) n i
