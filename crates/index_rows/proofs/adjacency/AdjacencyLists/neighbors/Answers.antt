use Rattle.index_rows.proofs.{Cutting.{given_list, given_within, has_end}, Prelude.{ap, arith, get_or, length, List, slice_range, ℕ, ◌∙◌}}
use Rattle.index_rows.proofs.adjacency.AdjacencyLists.neighbors.Goals as goal

pub start_of-start-requires : goal.start_of-start-requires
start_of-start-requires c = has_end _ _ _ _ c.self.view_is c.as_slice-ends.ensures.value _ c.requires

pub bounds-ends-node : goal.bounds-ends-node
bounds-ends-node c = has_end _ _ _ _ c.self.view_is c.as_slice-ends.ensures.value _ c.requires

pub offset_bounds-ends-node : goal.offset_bounds-ends-node
offset_bounds-ends-node c = let there = has_end _ _ _ _ c.self.view_is c.as_slice-ends.ensures.value _ c.requires in omega (arith, there, c.as_slice-ends.type_inv)

pub between-requires-clause-ordered : goal.between-requires-clause-ordered
between-requires-clause-ordered c =
    let w = given_within _ _ _ _ c.self.view_is c.as_slice-ends.ensures.value _ c.requires c.self.invariant in
    let ordered = w.ordered in
    omega (arith, c.start_of-start.ensures, ordered)

pub between-requires-clause-within : goal.between-requires-clause-within
between-requires-clause-within c =
    let w = given_within _ _ _ _ c.self.view_is c.as_slice-ends.ensures.value _ c.requires c.self.invariant in
    let within = w.within in
    let same = ap (λ (ts : List ℕ). length ts) c.deref.ensures.value in
    omega (arith, same, within)

pub returns : goal.returns
returns c =
    let ends = c.as_slice-ends.result.now in
    let end = get_or ends c.args.node 0 in
    c.between.ensures ∙ ap (λ (ts : List ℕ). slice_range ts c.start_of-start.result end) c.deref.ensures.value
    ∙ ap (λ (s : ℕ). slice_range c.self.inside.targets.items s end) c.start_of-start.ensures
    ∙ given_list _ _ _ _ c.self.view_is c.as_slice-ends.ensures.value _ c.requires
