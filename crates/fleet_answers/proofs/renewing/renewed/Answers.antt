use Rattle.fleet_answers.proofs.{Asked.{asked_otherwise, too_many_otherwise}, Prelude.{host_view_of, IsSnapshot, LoadMap, subst, sym}}
use Rattle.fleet_answers.proofs.renewing.renewed.Goals as goal

pub returns-in_ok-asked_by-in-Ok-clause-snapshot : goal.returns-in_ok-asked_by-in-Ok-clause-snapshot
returns-in_ok-asked_by-in-Ok-clause-snapshot c =
    let s = host_view_of c.args.store.now c.args.snapshot.viewer in
    subst (λ (l : LoadMap). IsSnapshot s c.args.names.now l) (sym c.in_ok-asked_by-in-Ok.ensures.asked)
    (asked_otherwise s c.args.snapshot.extra c.args.names.now c.in-Ok.snapshot c.requires.these c.requires.those c.in-Ok.ensures.snapshot)

pub returns-in-Err-clause-over : goal.returns-in-Err-clause-over
returns-in-Err-clause-over c =
    too_many_otherwise (host_view_of c.args.store.now c.args.snapshot.viewer) c.args.snapshot.extra c.args.names.now c.requires.these c.requires.those c.in-Err.fault
    c.in-Err.ensures.over
