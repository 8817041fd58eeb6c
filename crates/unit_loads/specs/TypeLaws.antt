-- A unit has one type: its aliases are of its kind.
use Rattle.std.proofs.Common.{◌∷◌, ◌≡◌}
use Rattle.unit_name.specs.Names.{word}
use Rattle.unit_loads.specs.Prelude.{[], All, All-cons, All-nil, ap, AreNames, HostViewMap, inl, inr, IsAmong, IsOtherName, Kind, kind, List, mains_are_alike, Name, one_type, refl, Some, sym, types_of, ◌∙◌}
use Rattle.unit_loads.specs.{declared.units.Unit.{Unit as LoadedUnit}, Units.{IsUnit}}

-- However many names a unit has, they have one type.
abbrev pub UnitsHaveOneType : Type 0
UnitsHaveOneType = (s : HostViewMap) (name : Name) (unit : LoadedUnit) (k : Kind) → kind name ≡ Some k → IsUnit s name unit → types_of unit.names ≡ word k ∷ []

-- each other name of a unit is of the unit's kind
other_kind : (s : HostViewMap) (u n : Name) (k : Kind) → kind u ≡ Some k → IsOtherName s u n → kind n ≡ Some k
other_kind s u n k e o = sym (mains_are_alike s n o.name).kind_is ∙ ap kind o.main_is ∙ e

other_kinds : (s : HostViewMap) (u : Name) (k : Kind) → kind u ≡ Some k → (ns : List Name)
    → ((n : Name) → IsAmong n ns → IsOtherName s u n) → All (λ n. kind n ≡ Some k) ns
other_kinds s u k e [] others = All-nil (λ n. kind n ≡ Some k)
other_kinds s u k e (n ∷ ns) others = All-cons (λ m. kind m ≡ Some k) n ns (other_kind s u n k e (others n (inl refl))) (other_kinds s u k e ns (λ m h. others m (inr h)))

one_type_of_names : (s : HostViewMap) (u : Name) (names : List Name) (k : Kind) → kind u ≡ Some k → AreNames s u names
    → types_of names ≡ word k ∷ []
one_type_of_names s u names k e are =
    ap types_of are.first ∙ one_type u are.others k (All-cons (λ m. kind m ≡ Some k) u are.others e (other_kinds s u k e are.others (λ n h. (are.exact n).0 h)))

pub units_have_one_type : UnitsHaveOneType
units_have_one_type s name unit k e u = one_type_of_names s name unit.names k e u.names_are
