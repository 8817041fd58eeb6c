use Rattle.std.proofs.Common.{◌<◌, ◌∷◌, ◌≡◌}
use Rattle.unit_graph.proofs.{Prelude.{[], All, ap, count_of, IsClosure, LeadsBy, List, Listed, LoadMap, map, Name, name_at, name_cmp, subst, successors_from, sym, ℕ, ◌∙◌}, Stepping.{reach_below, reach_named}}
use Rattle.unit_graph.proofs.indexed_graph.IndexedGraph.reach.Goals as goal

pub names_at-requires : goal.names_at-requires
names_at-requires c =
    let load = c.args.self.now.load in
    let A : List ℕ → Type 0 = λ ps. All (λ p. p < count_of load) ps in
    let L : LoadMap → Type 0 = λ m. All (λ p. p < count_of m) c.deref.result.now in
    record {
      indices = subst L (sym c.loaded-load.ensures.load) (subst A (sym c.deref.ensures.value)
          (reach_below load c.loaded-load.ensures.order c.args.self.now.edges c.args.kinds.now (successors_from c.in_ok-successors.successors) c.in_ok-successors.ensures.successors c.args.from.now
          c.source-source.result c.source-source.ensures.index c.in_ok-indices.indices.items c.in_ok-indices.ensures));
    }

pub returns : goal.returns
returns c =
    let load = c.args.self.now.load in
    let f : LoadMap → ℕ → Name = λ m p. name_at m p in
    let named : c.in_ok-names_at.field-0.items ≡ map (f load) c.in_ok-indices.indices.items =
    c.in_ok-names_at.ensures.names ∙ ap (λ m. map (f m) c.deref.result.now) c.loaded-load.ensures.load ∙ ap (map (f load)) c.deref.ensures.value in
    record {
      reached = λ main s. (let R : List Name → Type 0 = λ ps. IsClosure (Listed (main ∷ [])) (LeadsBy c.args.self.now.edges c.args.kinds.now) name_cmp ps in
          subst R (sym named)
          (reach_named load c.loaded-load.ensures.order c.args.self.now.edges c.args.kinds.now (successors_from c.in_ok-successors.successors) c.in_ok-successors.ensures.successors c.args.from.now
          c.source-source.result c.source-source.ensures.index c.in_ok-indices.indices.items c.in_ok-indices.ensures main s));
    }
