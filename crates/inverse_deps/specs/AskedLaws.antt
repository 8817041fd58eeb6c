-- Which names were asked for adds no edge: a load has the edges that it has for other names.
-- Source: this project's own.
use Rattle.std.proofs.Common.{◌↔◌}
use Rattle.inverse_deps.specs.{EdgeLaws.{edges_go_over}, Edges.{HaveSameEdges, IsEdge}, Prelude.{asked_for, DepKind, List, LoadMap, Name, refl}}

abbrev pub AskingMakesNoEdges : Type 0
AskingMakesNoEdges = (load : LoadMap) (extra : List Name) → HaveSameEdges load (asked_for extra load)

-- the same edges, by definition
pub same_edges : (load : LoadMap) (extra : List Name) (dep : DepKind) (u v : Name) → IsEdge load dep u v
    ↔ IsEdge (asked_for extra load) dep u v
same_edges load extra dep u v = (λ e. e, λ e. e)

pub asking_makes_no_edges : AskingMakesNoEdges
asking_makes_no_edges load extra = edges_go_over load (asked_for extra load) refl (same_edges load extra)
