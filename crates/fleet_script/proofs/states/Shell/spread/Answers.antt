use Rattle.std.proofs.Common.{◌-◌, ◌<◌, ◌≡◌, ◌≤◌}
use Rattle.std.specs.Vec.{vec_len}
use Rattle.fleet_script.proofs.{Between.{any_node, merge_goes, same_count}, Prelude.{AreMerged, arith, out_of_first, kept_in, length, List, map, numbers_from, subst, ℕ, ◌∙◌}, Sweeps.{all_pairs, next_pairs, one_more}}
use Rattle.fleet_script.proofs.states.Shell.spread.Goals as goal

pub loop-to-preserved : goal.loop-to-preserved
loop-to-preserved c =
    let old = kept_in c.args.self.now in
    let now = kept_in c.loop-to.self in
    let next = kept_in c.merge_nodes.new.self in
    let here = c.loop-to.to in
    let inside : here < length now.nodes = omega (arith, c.loop-to.invariant.count, c.loop-to-test.true, c.len-to-end.ensures) in
    let first : 0 < length now.nodes = omega (arith, inside) in
    let low : 1 ≤ here = c.loop-to.auto.to in
    let given = c.in_ok-merge_nodes.ensures.given in
    record {
      merged = subst (λ (pairs : List (ℕ × ℕ)). AreMerged old next pairs) (next_pairs out_of_first here low)
          (one_more old now next (map out_of_first (numbers_from 1 (here - 1))) 0 here c.loop-to.invariant.merged
          (merge_goes now next 0 here any_node first inside given));
      bound = omega (arith, inside, c.loop-to.invariant.count);
      count = same_count now next 0 here any_node first inside given ∙ c.loop-to.invariant.count;
      workers = c.in_ok-merge_nodes.ensures.worker_count ∙ c.loop-to.invariant.workers;
    }

pub returns-clause-merged : goal.returns-clause-merged
returns-clause-merged c =
    let count : length c.args.self.now.nodes.items ≡ vec_len c.args.self.now.nodes = omega arith in
    let bound : c.loop-to.to - 1 ≤ vec_len c.args.self.now.nodes - 1 = omega (arith, count, c.loop-to.invariant.bound) in
    let done : vec_len c.args.self.now.nodes ≤ c.loop-to.to = omega (arith, c.loop-to-test.false, c.len-to-end.ensures) in
    all_pairs (kept_in c.args.self.now) (kept_in c.loop-to.self) out_of_first c.loop-to.to (vec_len c.args.self.now.nodes) bound done
    c.loop-to.invariant.merged
