use Rattle.std.proofs.Common.{◌≡◌}
use Rattle.unit_graph.proofs.Prelude.{ap, GraphMap, IsIndexFor, IsIndexOfMain, IsKnown, LoadMap, main_in, MatchOption, Name, name_of, None, none-some, Option, refl, Some, subst, sym, ℕ, ◌∙◌}
use Rattle.unit_graph.proofs.indexed_graph.IndexedGraph.index.Goals as goal

-- the index of a name's main name, as a graph has it
known_index : (load : LoadMap) (name : Name) (o : Option ℕ) → MatchOption o (main_in load name ≡ None) (IsIndexOfMain load name) → MatchOption o (¬ IsKnown load name) (IsIndexFor load name)
known_index load name None h = λ k. none-some _ (sym h ∙ k.1.main_is)
known_index load name (Some i) h = record {
  main = name_of load.names i;
  stands = record { main_is = h.main_is; unit = h.unit };
  index_is = record { below = h.below; named = refl; unit = h.unit };
}

pub returns : goal.returns
returns c = record {
  index = subst (λ (g : GraphMap). MatchOption c.main_index.result (¬ IsKnown g.load c.args.name.now) (IsIndexFor g.load c.args.name.now)) c.self.view_is
      (known_index c.self.inside.loaded.now c.args.name.now c.main_index.result c.main_index.ensures.index);
}
