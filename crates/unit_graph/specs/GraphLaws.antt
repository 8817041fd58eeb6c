-- Laws of graphs: in a load of a store, the names that resolve to units are those of the universe.
use Rattle.std.proofs.Common.{◌↔◌}
use Rattle.unit_graph.specs.{Graphs.{IsKnown}, Prelude.{HostViewMap, IsInUniverse, IsLoad, List, LoadMap, main, mains_have_units, Name, names_have_mains, refl}}

abbrev pub KnownNames : Type 0
KnownNames = (s : HostViewMap) (extra : List Name) (load : LoadMap) (n : Name) → IsLoad s extra load → IsKnown load n ↔ IsInUniverse s extra n

pub known_names : KnownNames
known_names s extra load n l = (there, back)
  where
    there : IsKnown load n → IsInUniverse s extra n
    there k = ((names_have_mains s extra load n k.0 l).0 k.1.main_is).0

    back : IsInUniverse s extra n → IsKnown load n
    back u =
        let h = mains_have_units s extra load n l u in
        (main s n, record { main_is = (names_have_mains s extra load n (main s n) l).1 (u, refl); unit = (h.unit, h.there) })
