use Rattle.std.proofs.Common.{◌-◌, ◌<◌, ◌≡◌, ◌≤◌}
use Rattle.std.specs.Vec.{vec_len}
use Rattle.fleet_script.proofs.{Between.{any_node, merge_goes, same_count}, Prelude.{AreMerged, arith, into_first, kept_in, length, List, map, numbers_from, subst, ℕ, ◌∙◌}, Sweeps.{all_pairs, next_pairs, one_more}}
use Rattle.fleet_script.proofs.states.Shell.gather.Goals as goal

pub loop-from-preserved : goal.loop-from-preserved
loop-from-preserved c =
    let old = kept_in c.args.self.now in
    let now = kept_in c.loop-from.self in
    let next = kept_in c.merge_nodes.new.self in
    let here = c.loop-from.from in
    let inside : here < length now.nodes = omega (arith, c.loop-from.invariant.count, c.loop-from-test.true, c.len-from-end.ensures) in
    let first : 0 < length now.nodes = omega (arith, inside) in
    let low : 1 ≤ here = c.loop-from.auto.from in
    let given = c.in_ok-merge_nodes.ensures.given in
    record {
      merged = subst (λ (pairs : List (ℕ × ℕ)). AreMerged old next pairs) (next_pairs into_first here low)
          (one_more old now next (map into_first (numbers_from 1 (here - 1))) here 0 c.loop-from.invariant.merged
          (merge_goes now next here 0 any_node inside first given));
      bound = omega (arith, inside, c.loop-from.invariant.count);
      count = same_count now next here 0 any_node inside first given ∙ c.loop-from.invariant.count;
      workers = c.in_ok-merge_nodes.ensures.worker_count ∙ c.loop-from.invariant.workers;
    }

pub returns-clause-merged : goal.returns-clause-merged
returns-clause-merged c =
    let count : length c.args.self.now.nodes.items ≡ vec_len c.args.self.now.nodes = omega arith in
    let bound : c.loop-from.from - 1 ≤ vec_len c.args.self.now.nodes - 1 = omega (arith, count, c.loop-from.invariant.bound) in
    let done : vec_len c.args.self.now.nodes ≤ c.loop-from.from = omega (arith, c.loop-from-test.false, c.len-from-end.ensures) in
    all_pairs (kept_in c.args.self.now) (kept_in c.loop-from.self) into_first c.loop-from.from (vec_len c.args.self.now.nodes) bound done
    c.loop-from.invariant.merged
