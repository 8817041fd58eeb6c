-- The dependencies between the units of a load, in both directions.
-- Source: systemd.unit(5), "Mapping of unit properties to their inverses".
use Rattle.std.proofs.Common.{◌↔◌, ◌≡◌}
use Rattle.inverse_deps.specs.Dependencies.{IsDependent, IsEdgeAmong}
use Rattle.inverse_deps.specs.Prelude.{[], After, All, Before, BindsTo, BoundBy, ConflictedBy, Conflicts, ConsistsOf, DependencyList, DepKind, find, InSlice, is_sorted, IsAmong, IsStrictlySortedBy, IsTrue, keys_of, kinds, List, LoadedUnit, LoadMap, map, Name, name_cmp, None, OnFailure, OnFailureOf, Option, PartOf, PropagatesReloadTo, ReloadPropagatedFrom, RequiredBy, Requires, Requisite, RequisiteOf, slice_index_or, SliceOf, Some, TriggeredBy, Triggers, unit_in, UpheldBy, Upholds, WantedBy, Wants, ℕ}

-- ---- edges

-- the name is the main name of a unit of the load
abbrev pub IsUnitIn : LoadMap → Name → Type 0
IsUnitIn load name = (unit : LoadedUnit) × (unit_in load name ≡ Some unit)

-- The unit u has the unit v as a dependency of this kind.
abbrev pub DependsOn : LoadMap → DepKind → Name → Name → Type 0
DependsOn load dep u v = IsDependent load.viewer.profile load.names dep u v

-- An edge of this kind leads from the unit u to the unit v: u has v as a dependency of the kind, or v has u by its
-- inverse.
abbrev pub IsEdge : LoadMap → DepKind → Name → Name → Type 0
IsEdge load dep u v = IsEdgeAmong load.viewer.profile load.names dep u v

-- ---- lists of edges

-- the position of a kind among all kinds
abbrev pub place : DepKind → ℕ
place Before = 0
place After = 1
place Wants = 2
place WantedBy = 3
place Requires = 4
place RequiredBy = 5
place Requisite = 6
place RequisiteOf = 7
place BindsTo = 8
place BoundBy = 9
place PartOf = 10
place ConsistsOf = 11
place Conflicts = 12
place ConflictedBy = 13
place OnFailure = 14
place OnFailureOf = 15
place PropagatesReloadTo = 16
place ReloadPropagatedFrom = 17
place Upholds = 18
place UpheldBy = 19
place Triggers = 20
place TriggeredBy = 21
place InSlice = 22
place SliceOf = 23

-- for each name a list of names for each kind, in the order of the kinds
abbrev pub EdgeMap : Type 0
EdgeMap = List (Name × List (List Name))

-- the list of a kind; no names if there are no lists
abbrev pub list_at : DepKind → Option (List (List Name)) → List Name
list_at dep None = []
list_at dep (Some lists) = slice_index_or lists (place dep) []

-- the names to which edges of this kind lead from a name
abbrev pub names_in : EdgeMap → DepKind → Name → List Name
names_in edges dep name = list_at dep (find name_cmp name edges)

-- these are the units to which edges of this kind lead from a unit, each once, in byte order
pub record AreEdgesFrom (load : LoadMap) (dep : DepKind) (u : Name) (names : List Name) : Type 0 where
  pub ascending : IsStrictlySortedBy name_cmp names
  pub exact : (v : Name) → IsAmong v names ↔ IsEdge load dep u v

-- These are all edges of the load, for each of its names in byte order.
pub record AreEdges (load : LoadMap) (edges : EdgeMap) : Type 0 where
  pub names : keys_of edges ≡ keys_of load.names
  pub in_order : IsTrue (is_sorted name_cmp edges)
  pub lists : (dep : DepKind) (u : Name) → AreEdgesFrom load dep u (names_in edges dep u)

-- For each kind, in the order of the kinds, these are the units to which edges of it lead from a unit.
pub record AreEdgesOf (load : LoadMap) (u : Name) (lists : List DependencyList) : Type 0 where
  pub kinds_are : map (λ list. list.kind) lists ≡ kinds
  pub each : All (λ list. AreEdgesFrom load list.kind u list.names) lists

-- All edges of one load are all edges of the other.
abbrev pub HaveSameEdges : LoadMap → LoadMap → Type 0
HaveSameEdges a b = (edges : EdgeMap) → AreEdges a edges ↔ AreEdges b edges
