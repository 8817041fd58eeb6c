use Rattle.inverse_deps.proofs.Prelude.{AreAdjacencyBy, EdgeMap, List, subst, sym, ℕ}
use Rattle.inverse_deps.proofs.lists.Edges.adjacency.Goals as goal

pub returns : goal.returns
returns c =
    let P : List (List ℕ) → Type 0 = λ rs. AreAdjacencyBy c.self.inside.units.items c.args.kind rs in
    record {
      adjacency = subst (λ (es : EdgeMap). AreAdjacencyBy es c.args.kind c.adjacency.result.now) c.self.view_is
          (subst P (sym c.adjacency.ensures.adjacency) (c.self.invariant.adjacency.each c.args.kind));
    }
