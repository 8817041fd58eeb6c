use Rattle.std.proofs.Common.{◌-◌, ◌≡◌}
use Rattle.std.specs.Vec.{vec_len}
use Rattle.fleet_script.proofs.{Prelude.{AreMerged, arith, into_first, kept_in, length, map, numbers_from, out_of_first, subst, ℕ, ◌∙◌}, Sweeps.{sweep_done}}
use Rattle.fleet_script.proofs.states.Shell.sweep.Goals as goal

pub returns-clause-done : goal.returns-clause-done
returns-clause-done c =
    let old = kept_in c.args.self.now in
    let now = kept_in c.gather.new.self in
    let new = kept_in c.spread.new.self in
    let count : vec_len c.args.self.now.nodes ≡ length old.nodes = omega arith in
    sweep_done old now new c.in_ok-text.text c.in_ok-text.ensures.items
    (subst (λ (n : ℕ). AreMerged old now (map into_first (numbers_from 1 (n - 1)))) count c.in_ok-gather.ensures.merged)
    (subst (λ (n : ℕ). AreMerged now new (map out_of_first (numbers_from 1 (n - 1)))) (c.in_ok-gather.ensures.count ∙ count) c.in_ok-spread.ensures.merged)
