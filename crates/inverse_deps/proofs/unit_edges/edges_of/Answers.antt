use Rattle.std.proofs.Common.{◌≡◌}
use Rattle.inverse_deps.proofs.Prelude.{[], All, AreEdgesFrom, AreEdgesOf, DependencyList, Err, get_or, IfOk, IsUnitIn, kinds, List, LoadMap, map, Name, no_edges, Ok, Result, subst, sym}
use Rattle.inverse_deps.proofs.unit_edges.edges_of.Goals as goal

-- empty lists are the edges from a name without a unit
none_of : {E : Type 0} (load : LoadMap) (u : Name) → ¬ IsUnitIn load u → (r : Result (List DependencyList) E) → IfOk r (λ lists. map (λ (l : DependencyList). l.kind) lists ≡ kinds)
    → IfOk r (λ lists. All (λ (l : DependencyList). l.names ≡ []) lists) → IfOk r (AreEdgesOf load u)
none_of load u none (Err fault) k n = tt
none_of load u none (Ok lists) k n = record {
  kinds_are = k;
  each = λ i d l. subst (λ (ns : List Name). AreEdgesFrom load (get_or lists i d).kind u ns) (sym (n i d l)) (no_edges load (get_or lists i d).kind u none);
}

pub returns-in-Some : goal.returns-in-Some
returns-in-Some c = record {
  lists = subst (λ (u : Name). IfOk c.edges_at.result (AreEdgesOf c.args.loaded.now u)) c.in-Some.ensures.index.named c.edges_at.ensures.lists;
}

pub returns-in-None : goal.returns-in-None
returns-in-None c = record { lists = none_of c.args.loaded.now c.args.name.now c.in-None.ensures.index c.no_edges.result c.no_edges.ensures.kinds c.no_edges.ensures.none }
