-- All units at once are just those that are shown one by one: by every name of the load, and by nothing else.
use Rattle.std.proofs.Common.{◌↔◌, ◌∷◌, ◌≡◌}
use Rattle.fleet_answers.specs.Prelude.{[], all_among, ap, AreEdgesOf, filter_map_among, find_among, HostViewMap, inl, inr, IsAmong, IsLoad, IsStrictlySortedBy, List, load_at, LoadedUnit, LoadMap, main_in, main_part, map, members_are_units, members_in, Name, name_cmp, name_cmp-IsAntisymmetric, NameLoad, None, OfAlias, OfUnit, one_list_by_kind, Option, option_and_then, option_map, refl, Some, subst, sym, unit_in, unit_part, units_in, ◌∙◌}
use Rattle.fleet_answers.specs.{AnswerLaws.{at_their_names, linked_is}, Answers.{AreLinkedUnits, IsLinkedUnit, IsUnitWithEdges}, declared.questions.LinkedUnit.{LinkedUnit}}

-- what is returned are the units that are shown for names of the load, each once, in byte order of the main names
pub record AreThoseShown (load : LoadMap) (returned : List LinkedUnit) : Type 0 where
  pub ascending : IsStrictlySortedBy name_cmp (map (λ one. one.unit.name) returned)
  pub exact : (one : LinkedUnit) → IsAmong one returned ↔ ((name : Name) × IsLinkedUnit load name one)

-- So they are in each load of a store.
abbrev pub UnitsAreThoseShown : Type 0
UnitsAreThoseShown = (s : HostViewMap) (extra : List Name) (load : LoadMap) (returned : List LinkedUnit) → IsLoad s extra load → AreLinkedUnits load returned → AreThoseShown load returned

-- the unit of a main name is among all units
find_listed : (load : LoadMap) (main : Name) (unit : LoadedUnit) → unit_in load main ≡ Some unit → IsAmong unit (units_in load)
find_listed load main unit e = by (load_at load main) refl e
  where
    by : (o : Option NameLoad) → load_at load main ≡ o → option_and_then unit_part o ≡ Some unit → IsAmong unit (units_in load)
    by None f g = cc (g)
    by (Some (OfUnit u)) f g =
        filter_map_among (λ (p : Name × NameLoad). unit_part p.1) load.names (main, OfUnit u) unit (find_among name_cmp name_cmp-IsAntisymmetric main load.names (OfUnit u) f) g
    by (Some (OfAlias of)) f g = cc (g)

module _ (s : HostViewMap) (extra : List Name) (load : LoadMap) (is : IsLoad s extra load) where
  -- the name of a unit is its main name
  main_of_main : (main : Name) (unit : LoadedUnit) → unit_in load main ≡ Some unit → main_in load main ≡ Some main
  main_of_main main unit e = by (load_at load main) refl e
    where
      of_unit : (u : LoadedUnit) → load_at load main ≡ Some (OfUnit u) → main_in load main ≡ Some main
      of_unit u f = ap (option_map main_part) f ∙ ap Some (at_their_names s extra load is main u (ap (option_and_then unit_part) f))

      by : (o : Option NameLoad) → load_at load main ≡ o → option_and_then unit_part o ≡ Some unit → main_in load main ≡ Some main
      by None f g = cc (g)
      by (Some (OfUnit u)) f g = of_unit u f
      by (Some (OfAlias of)) f g = cc (g)

  shown_alone : (one : LinkedUnit) → ((main : Name) × IsUnitWithEdges load main one) → (name : Name) × IsLinkedUnit load name one
  shown_alone one h = (
    h.0,
    record {
      main = h.0;
      main_is = main_of_main h.0 one.unit h.1.unit_is;
      unit_is = h.1.unit_is;
      edges_are = h.1.edges_are;
    },
  )

  -- a unit that is listed is that of an element with its edges
  listed_with : (returned : List LinkedUnit) (unit : LoadedUnit) → IsAmong unit (map (λ (one : LinkedUnit). one.unit) returned)
      → (one : LinkedUnit) × IsAmong one returned × (one.unit ≡ unit)
  listed_with [] unit a = absurd a
  listed_with (one ∷ later) unit (inl e) = (one, inl refl, e)
  listed_with (one ∷ later) unit (inr a) = (let h = listed_with later unit a in (h.0, inr h.1, h.2))

  same_unit : (one other : LinkedUnit) (main : Name) → other.unit ≡ one.unit → IsUnitWithEdges load main one
      → ((own : Name) × IsUnitWithEdges load own other) → other ≡ one
  same_unit one other main e h k =
      let mains : k.0 ≡ main = sym (at_their_names s extra load is k.0 other.unit k.1.unit_is) ∙ ap (λ (u : LoadedUnit). u.name) e ∙ at_their_names s extra load is main one.unit h.unit_is in
      linked_is other one e (one_list_by_kind load main other.edges one.edges (subst (λ (m : Name). AreEdgesOf load m other.edges) mains k.1.edges_are) h.edges_are)

  module _ (returned : List LinkedUnit) (are : AreLinkedUnits load returned) where
    abbrev HasEdges : LinkedUnit → Type 0
    HasEdges one = (main : Name) × IsUnitWithEdges load main one

    names_are : map (λ (one : LinkedUnit). one.unit.name) returned ≡ members_in load
    names_are = map_twice returned ∙ ap (map (λ (u : LoadedUnit). u.name)) are.units_are
      where
        map_twice : (all : List LinkedUnit) → map (λ (one : LinkedUnit). one.unit.name) all
            ≡ map (λ (u : LoadedUnit). u.name) (map (λ (one : LinkedUnit). one.unit) all)
        map_twice [] = refl
        map_twice (one ∷ later) = ap (λ (ns : List Name). one.unit.name ∷ ns) (map_twice later)

    -- each unit of the load is among those that are listed
    there : (name : Name) (one : LinkedUnit) → IsLinkedUnit load name one → IsAmong one returned
    there name one l =
        let unit_among : IsAmong one.unit (units_in load) = find_listed load l.main one.unit l.unit_is in
        let h = listed_with returned one.unit (subst (IsAmong one.unit) (sym are.units_are) unit_among) in
        let own = all_among HasEdges returned h.0 are.edges_are h.1 in
        subst (λ (o : LinkedUnit). IsAmong o returned) (same_unit one h.0 l.main h.2 (record { unit_is = l.unit_is; edges_are = l.edges_are }) own) h.1

pub units_are_those_shown : UnitsAreThoseShown
units_are_those_shown s extra load returned is are = record {
  ascending = subst (IsStrictlySortedBy name_cmp) (sym (names_are s extra load is returned are)) (members_are_units s extra load is).ascending;
  exact = λ one. (
    λ a. shown_alone s extra load is one (all_among (HasEdges s extra load is returned are) returned one are.edges_are a),
    λ h. there s extra load is returned are h.0 one h.1,
  );
}
