use Rattle.unit_graph.proofs.{Prelude.{all_edges, ap, edge_map, GraphMap, HasInverses, keys_of, LeadToUnits, List, LoadMap, subst, ℕ}, Stepping.{graph_indexing, has_inverses, lead_to_units}}
use Rattle.unit_graph.proofs.indexed_graph.IndexedGraph.loaded.Goals as goal

-- the graph as it is stored
abbrev inside : LoadMap → List (List (List ℕ)) → GraphMap
inside load tables = record { load = load; edges = edge_map (keys_of load.names) tables }

pub returns-clause-units : goal.returns-clause-units
returns-clause-units c = subst LeadToUnits c.self.view_is (lead_to_units (inside c.self.inside.loaded.now c.self.inside.table.now) (all_edges c.self.inside.loaded.now c.self.inside.table.now c.self.invariant))

pub returns-clause-inverses : goal.returns-clause-inverses
returns-clause-inverses c = subst HasInverses c.self.view_is (has_inverses (inside c.self.inside.loaded.now c.self.inside.table.now) (all_edges c.self.inside.loaded.now c.self.inside.table.now c.self.invariant))

pub returns-clause-order : goal.returns-clause-order
returns-clause-order c =
    graph_indexing c.self.inside.loaded.now c.args.self.now.load (ap (λ (g : GraphMap). g.load) c.self.view_is) (inside c.self.inside.loaded.now c.self.inside.table.now).edges (all_edges c.self.inside.loaded.now c.self.inside.table.now c.self.invariant)
