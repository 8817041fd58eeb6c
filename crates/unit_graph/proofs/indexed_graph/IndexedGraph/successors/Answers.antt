use Rattle.std.proofs.Common.{◌+◌, ◌∷◌, ◌≡◌}
use Rattle.unit_graph.proofs.Prelude.{[], ap, AreNamedSuccessors, AreSuccessorsOf, arith, Before, count_of, DepKind, get_or, LeadsBy, List, name_at, Named, neighbors, neighbors-below, refl, subst, successors-push, successors_from, sym, take, take_all, take_more, within-both, within-one, ℕ, ◌∙◌}
use Rattle.unit_graph.proofs.Stepping.{kind_more, no_kinds, table_neighbors}
use Rattle.unit_graph.proofs.indexed_graph.IndexedGraph.successors.Goals as goal

-- edges of no kind are within any count
within_none : (n : ℕ) (kinds : List (List (List ℕ))) → kinds ≡ [] → AreSuccessorsOf n kinds
within_none n kinds e = let P : List (List (List ℕ)) → Type 0 = λ ks. AreSuccessorsOf n ks in subst P (sym e) (λ k d lt. absurd (omega arith))

pub loop-kind-init : goal.loop-kind-init
loop-kind-init c = record {
  successors = no_kinds c.args.self.now.load c.args.self.now.edges c.new-successors.result c.new-successors.ensures.none;
  within = within_none (count_of c.args.self.now.load) c.new-successors.result c.new-successors.ensures.none;
}

pub loop-kind-preserved : goal.loop-kind-preserved
loop-kind-preserved c =
    let load = c.args.self.now.load in
    let edges = c.args.self.now.edges in
    let k = c.loop-kind.kind-index in
    let x : DepKind = get_or c.args.kinds.now k Before in
    let adjacency = c.table.result.now in
    let t = c.table.ensures.table in
    let W : List (List (List ℕ)) → Type 0 = λ ks. AreSuccessorsOf (count_of load) ks in
    record {
      successors = λ i l. kind_more load edges (name_at load i) (take k c.args.kinds.now) (take (k + 1) c.args.kinds.now) x (take_more c.args.kinds.now k Before c.loop-kind-test.true)
          (successors_from c.loop-kind.successors i) (neighbors adjacency i) (successors_from c.push.new.self i) (c.loop-kind.invariant.successors i l)
          (table_neighbors load edges x adjacency t i l (neighbors adjacency i) refl (λ v h. neighbors-below (count_of load) adjacency i v t.within.within h))
          (ap (λ ks. successors_from ks i) c.in_ok-push.ensures.added ∙ successors-push c.loop-kind.successors adjacency i);
      within = subst W (sym c.in_ok-push.ensures.added) (within-both (count_of load) c.loop-kind.successors (adjacency ∷ []) c.loop-kind.invariant.within (within-one (count_of load) adjacency t.within));
    }

pub returns : goal.returns
returns c =
    let load = c.args.self.now.load in
    let P : List DepKind → Type 0 = λ ds. AreNamedSuccessors (count_of load) (name_at load) (Named (successors_from c.loop-kind.successors)) (LeadsBy c.args.self.now.edges ds) in
    record { successors = subst P (take_all c.loop-kind.kind-index c.args.kinds.now (omega arith)) c.loop-kind.invariant.successors; within = c.loop-kind.invariant.within }
