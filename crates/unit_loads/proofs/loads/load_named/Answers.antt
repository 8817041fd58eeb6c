use Rattle.unit_loads.proofs.Prelude.{ap, IsEnd, no_alias_stands, Resolution, subst}
use Rattle.unit_loads.proofs.loads.load_named.Goals as goal

-- the choice of a resolved name is no alias
pub status_of-requires : goal.status_of-requires
status_of-requires c = record { chosen = subst IsEnd (ap (λ (r : Resolution). r.choice) c.requires.resolved) (no_alias_stands c.args.view.now c.args.resolved.main) }
