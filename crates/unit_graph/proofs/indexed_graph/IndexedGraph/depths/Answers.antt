use Rattle.std.proofs.Common.{◌<◌, ◌∷◌, ◌≡◌}
use Rattle.unit_graph.proofs.Prelude.{[], All, ap, count_of, IsDistances, LeadsBy, List, Listed, LoadMap, map, Name, name_at, name_cmp, pulling, subst, successors_from, sym, ℕ, ◌∙◌}
use Rattle.unit_graph.proofs.Stepping.{depths_below, depths_named}
use Rattle.unit_graph.proofs.indexed_graph.IndexedGraph.depths.Goals as goal

pub named_distances-requires : goal.named_distances-requires
named_distances-requires c =
    let load = c.args.self.now.load in
    let A : List (ℕ × ℕ) → Type 0 = λ ps. All (λ p. p.1 < count_of load) ps in
    let L : LoadMap → Type 0 = λ m. All (λ p. p.1 < count_of m) c.deref.result.now in
    record {
      pairs = subst L (sym c.loaded-load.ensures.load) (subst A (sym c.deref.ensures.value)
          (depths_below load c.loaded-load.ensures.order c.args.self.now.edges pulling (successors_from c.in_ok-successors.successors) c.in_ok-successors.ensures.successors c.args.from.now
          c.source-source.result c.source-source.ensures.index c.in_ok-pairs.pairs.items c.in_ok-pairs.ensures));
    }

pub returns : goal.returns
returns c =
    let load = c.args.self.now.load in
    let f : LoadMap → ℕ × ℕ → ℕ × Name = λ m p. (p.0, name_at m p.1) in
    let named : c.in_ok-named_distances.field-0.items ≡ map (f load) c.in_ok-pairs.pairs.items =
    c.in_ok-named_distances.ensures.named ∙ ap (λ m. map (f m) c.deref.result.now) c.loaded-load.ensures.load ∙ ap (map (f load)) c.deref.ensures.value in
    record {
      depths = λ main s. (let R : List (ℕ × Name) → Type 0 = λ ps. IsDistances (Listed (main ∷ [])) (LeadsBy c.args.self.now.edges pulling) name_cmp ps in
          subst R (sym named)
          (depths_named load c.loaded-load.ensures.order c.args.self.now.edges pulling (successors_from c.in_ok-successors.successors) c.in_ok-successors.ensures.successors c.args.from.now
          c.source-source.result c.source-source.ensures.index c.in_ok-pairs.pairs.items c.in_ok-pairs.ensures main s));
    }
