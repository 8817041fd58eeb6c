use Rattle.inverse_deps.proofs.{Prelude.{adjacency_at, ap, arith, List, ℕ, ◌∙◌}, Tabling.{kind_adjacency, kind_within}}
use Rattle.inverse_deps.proofs.edge_table.EdgeTable.adjacency.Goals as goal

pub index-requires : goal.index-requires
index-requires c = let below = kind_within c.self.inside.by_kind.items c.self.invariant c.args.kind in omega (arith, below, c.self.inside.by_kind.ok)

pub returns : goal.returns
returns c = record {
  adjacency =
      kind_adjacency c.self.inside.by_kind.items c.self.invariant c.args.kind c.index.result.now c.index.ensures
      ∙ ap (λ (ts : List (List (List ℕ))). adjacency_at ts c.args.kind) c.self.view_is;
}
