use Rattle.unit_loads.proofs.Prelude.{ap, mains_are_their_own, Resolution, resolution, sym, ◌∙◌}
use Rattle.unit_loads.proofs.loads.load_one.Goals as goal

-- a main name is its own main name, with the same choice
pub load_resolved-requires : goal.load_resolved-requires
load_resolved-requires c =
    let s = c.in_ok-index.index in
    let e = c.in_ok-resolved.ensures.resolution in
    record { resolved = ap (λ (r : Resolution). resolution s r.main) e ∙ (mains_are_their_own s c.args.name.now).1 ∙ sym e }
