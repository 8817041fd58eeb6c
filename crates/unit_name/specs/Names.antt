-- The parts of a unit name, and which bytes form a name. A name is its bytes.
-- Source: systemd.unit(5), "Description"; the order of the faults is this project's own.
use Rattle.std.proofs.Common.{if◌then◌else◌, ◌==◌, ◌||◌, ◌∷◌, ◌≡◌}
use Rattle.unit_name.specs.Prelude.{[], after_first, after_last, before_first, before_last, Bool, bytes_eq, codes, Err, false, find, is_ascii_alphanumeric, is_none, is_ok, IsOk, IsTrue, length, List, list_any, nat_cmp, nat_lt, None, not, Ok, Option, Ordering, position, Result, slice_cmp, Some, true, ℕ}
use Rattle.unit_name.specs.declared.{kinds.Kind.{Kind, TheVariants.{Automount, Device, Mount, Path, Scope, Service, Slice, Socket, Swap, Target, Timer}}, names.{NameFault.{NameFault, TheVariants.{BadByte, EmptyPrefix, Kind as NoKind, Length, Memory}}, Shape.{Shape, TheVariants.{Instance, Plain, Template}}}}

abbrev pub Name : Type 0
Name = List ℕ

-- byte order; a proper prefix comes first
abbrev pub name_cmp : Name → Name → Ordering
name_cmp = slice_cmp nat_cmp

abbrev pub is_dot : ℕ → Bool
is_dot b = b == 46

abbrev pub is_at : ℕ → Bool
is_at b = b == 64

abbrev pub is_empty : List ℕ → Bool
is_empty [] = true
is_empty (b ∷ bs) = false

-- the bytes before the last dot
abbrev pub stem : Name → List ℕ
stem n = before_last is_dot n

-- the bytes after the last dot
abbrev pub suffix : Name → List ℕ
suffix n = after_last is_dot n

-- the bytes before the first at sign of the stem, or the whole stem
abbrev pub prefix : Name → List ℕ
prefix n = before_first is_at (stem n)

-- the bytes after the first at sign of the stem, or nothing
abbrev pub instance : Name → List ℕ
instance n = after_first is_at (stem n)

-- plain without an at sign, a template with nothing after it, else an instance
abbrev pub shape : Name → Shape
shape n = if not (list_any is_at (stem n)) then Plain else if is_empty (instance n) then Template else Instance

-- the suffix of a kind's names
abbrev pub word : Kind → List ℕ
word Service = codes "service"
word Socket = codes "socket"
word Device = codes "device"
word Mount = codes "mount"
word Automount = codes "automount"
word Swap = codes "swap"
word Target = codes "target"
word Path = codes "path"
word Timer = codes "timer"
word Slice = codes "slice"
word Scope = codes "scope"

abbrev pub kinds : List Kind
kinds = Service ∷ Socket ∷ Device ∷ Mount ∷ Automount ∷ Swap ∷ Target ∷ Path ∷ Timer ∷ Slice ∷ Scope ∷ []

-- the kind with this suffix
unfoldable pub kind_of : List ℕ → Option Kind
kind_of w = find (λ k. bytes_eq (word k) w) kinds

-- the kind that the suffix says, if there is a dot
abbrev pub kind : Name → Option Kind
kind n = if list_any is_dot n then kind_of (suffix n) else None

-- a letter, a digit, or one of : - _ . \ @
unfoldable pub is_name_byte : ℕ → Bool
is_name_byte b = is_ascii_alphanumeric b || b == 58 || b == 45 || b == 95 || b == 46 || b == 92 || b == 64

-- the index of the first byte that isn't allowed in a stem
abbrev pub bad_place : List ℕ → Option ℕ
bad_place s = position (λ b. not (is_name_byte b)) s

-- these bytes as a name, unless there is a bad byte
abbrev pub unless_bad : Option ℕ → List ℕ → Result Name NameFault
unless_bad None b = Ok b
unless_bad (Some place) b = Err (BadByte place)

-- the name that these bytes are, or the first fault in them
unfoldable pub name_of : List ℕ → Result Name NameFault
name_of b =
    if is_empty b || nat_lt 255 (length b) then Err Length
    else if is_none (kind b) then Err NoKind
    else if is_empty (prefix b) then Err EmptyPrefix
    else unless_bad (bad_place (stem b)) b

-- whether these bytes are a name
abbrev pub is_name : List ℕ → Bool
is_name b = is_ok (name_of b)

abbrev pub IsName : List ℕ → Type 0
IsName b = IsTrue (is_name b)

-- the fault is the first one in the bytes; `Memory` only if they have none
abbrev pub IsFaultOf : List ℕ → NameFault → Type 0
IsFaultOf b Length = name_of b ≡ Err Length
IsFaultOf b NoKind = name_of b ≡ Err NoKind
IsFaultOf b EmptyPrefix = name_of b ≡ Err EmptyPrefix
IsFaultOf b (BadByte place) = name_of b ≡ Err (BadByte place)
IsFaultOf b Memory = IsOk (name_of b)
