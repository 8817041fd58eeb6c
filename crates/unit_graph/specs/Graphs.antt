-- The graph of a load, by name.
-- Source: systemd.unit(5), "Mapping of unit properties to their inverses"; that an alias resolves to its main name, and
-- the kinds over which depths are measured, are this project's own.
use Rattle.std.proofs.Common.{◌↔◌, ◌∷◌, ◌≡◌}
use Rattle.unit_graph.specs.Prelude.{[], BindsTo, Bool, code_by, Coded, coded_list, coded_load, coded_ℕ, coded×, DepKind, EdgeMap, inverse, IsAmong, IsClosure, IsDistances, IsIndexOf, IsUnitIn, List, Listed, LoadMap, main_in, map, Name, name_cmp, names_in, Option, option_map, refl, Requires, Requisite, Some, Status, unit_in, units_in, Upholds, Wants, ℕ}

-- a load and its edges
pub record GraphMap : Type 0 where
  pub load : LoadMap
  pub edges : EdgeMap

abbrev pub coded_graph : Coded GraphMap
coded_graph =
    code_by (LoadMap × EdgeMap) (coded× coded_load (coded_list (coded× (coded_list coded_ℕ) (coded_list (coded_list (coded_list coded_ℕ))))))
    (λ g. (g.load, g.edges)) (λ p. record { load = p.0; edges = p.1 }) (λ _. refl)

-- ---- names

-- the name resolves to the unit with this main name
pub record ResolvesTo (load : LoadMap) (name main : Name) : Type 0 where
  pub main_is : main_in load name ≡ Some main
  pub unit : IsUnitIn load main

-- the name resolves to a unit of the load
abbrev pub IsKnown : LoadMap → Name → Type 0
IsKnown load name = (main : Name) × ResolvesTo load name main

-- this is the index of the unit that a name resolves to
pub record IsIndexFor (load : LoadMap) (name : Name) (index : ℕ) : Type 0 where
  pub main : Name
  pub stands : ResolvesTo load name main
  pub index_is : IsIndexOf load main index

-- the status of the unit with this main name; none for another name
abbrev pub status_in : LoadMap → Name → Option Status
status_in load name = option_map (λ u. u.status) (unit_in load name)

-- whether the unit with this main name refuses to be started by hand; none for another name
abbrev pub manual_in : LoadMap → Name → Option Bool
manual_in load name = option_map (λ u. u.manual) (unit_in load name)

-- the main names of all units, in byte order
abbrev pub members_in : LoadMap → List Name
members_in load = map (λ u. u.name) (units_in load)

-- ---- edges

-- an edge of one of these kinds leads from the first unit to the second
abbrev pub LeadsBy : EdgeMap → List DepKind → Name → Name → Type 0
LeadsBy edges deps u v = (dep : DepKind) × (IsAmong dep deps × IsAmong v (names_in edges dep u))

-- edges lead only to units of the load
abbrev pub LeadToUnits : GraphMap → Type 0
LeadToUnits graph = (dep : DepKind) (u v : Name) → IsAmong v (names_in graph.edges dep u) → IsUnitIn graph.load v

-- each edge has its inverse
abbrev pub HasInverses : GraphMap → Type 0
HasInverses graph = (dep : DepKind) (u v : Name) → IsAmong v (names_in graph.edges dep u) ↔ IsAmong u (names_in graph.edges (inverse dep) v)

-- all units that are reached over edges of these kinds from the unit that a name resolves to, that unit included, in
-- byte order
abbrev pub IsReach : GraphMap → List DepKind → Name → List Name → Type 0
IsReach graph deps from names = (main : Name) → ResolvesTo graph.load from main → IsClosure (Listed (main ∷ [])) (LeadsBy graph.edges deps) name_cmp names

-- The kinds over which a unit pulls others. By files none upholds others.
abbrev pub pulling : List DepKind
pulling = Requires ∷ Requisite ∷ BindsTo ∷ Wants ∷ Upholds ∷ []

-- all units that are reached by pulling, each with its least distance, ordered by distance and then by name
abbrev pub AreDepths : GraphMap → Name → List (ℕ × Name) → Type 0
AreDepths graph from pairs = (main : Name) → ResolvesTo graph.load from main → IsDistances (Listed (main ∷ [])) (LeadsBy graph.edges pulling) name_cmp pairs
