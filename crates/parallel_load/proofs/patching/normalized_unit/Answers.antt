use Rattle.parallel_load.proofs.Prelude.{ap, load_normalized, Normalized, ◌∙◌}
use Rattle.parallel_load.proofs.patching.normalized_unit.Goals as goal

pub returns : goal.returns
returns c = record { load = ap (λ (r : Normalized). r.load) c.in_ok-normalized.ensures.one ∙ ap (load_normalized c.args.mains.now) c.in_ok-kept.ensures.kept }
