use Rattle.exchange_session.proofs.Prelude.{store_below_refl}
use Rattle.exchange_session.proofs.reconciling.tell_all.Goals as goal

pub returns-in_err-delta_between-clause-kept : goal.returns-in_err-delta_between-clause-kept
returns-in_err-delta_between-clause-kept c = store_below_refl c.args.one.now.store

pub returns-in_err-delta_between-clause-others_kept : goal.returns-in_err-delta_between-clause-others_kept
returns-in_err-delta_between-clause-others_kept c = store_below_refl c.args.other.now.store

pub returns-in_err-take_one-clause-kept : goal.returns-in_err-take_one-clause-kept
returns-in_err-take_one-clause-kept c = store_below_refl c.args.one.now.store

pub returns-in_err-delta_between-2-clause-kept : goal.returns-in_err-delta_between-2-clause-kept
returns-in_err-delta_between-2-clause-kept c = store_below_refl c.args.one.now.store
