-- Laws of the names of units.
use Rattle.std.proofs.Common.{◌∷◌, ◌≡◌}
use Rattle.fragment_choice.specs.{Prelude.{ap, HostViewMap, List, Name, name_cmp, nat_list_cmp_total, one_ascending_list, sym, ◌∙◌}, Resolutions.{main}, UnitNames.{AreNames}}

-- A unit has only one list of names.
abbrev pub OneListOfNames : Type 0
OneListOfNames = (s : HostViewMap) (u : Name) (names others : List Name) → AreNames s u names → AreNames s u others → names ≡ others

-- If each name has the same main name in two views, a unit has the same names in both.
abbrev pub MainsDecide : Type 0
MainsDecide = (s t : HostViewMap) → ((n : Name) → main s n ≡ main t n) → (u : Name) (names : List Name) → AreNames s u names → AreNames t u names

pub one_list_of_names : OneListOfNames
one_list_of_names s u names others a b =
    a.first ∙ ap (λ ns. u ∷ ns) (one_ascending_list name_cmp nat_list_cmp_total a.others b.others a.ascending b.ascending (λ n. (λ h. (b.exact n).1 ((a.exact n).0 h), λ h. (a.exact n).1 ((b.exact n).0 h)))) ∙ sym b.first

pub mains_decide : MainsDecide
mains_decide s t same u names are = record {
  others = are.others;
  first = are.first;
  ascending = are.ascending;
  exact = λ n. (
    λ h. (let o = (are.exact n).0 h in record { other = o.other; name = o.name; main_is = sym (same n) ∙ o.main_is }),
    λ o. (are.exact n).1 (record { other = o.other; name = o.name; main_is = same n ∙ o.main_is }),
  );
}
