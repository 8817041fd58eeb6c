use Rattle.exchange_session.proofs.Prelude.{ap, get-digest_of, is_gt, refl, sym, ◌∙◌}
use Rattle.exchange_session.proofs.asking.is_more.Goals as goal

pub returns-in-None : goal.returns-in-None
returns-in-None c =
    let none = rw c.store.ensures.store at (sym c.in-None.ensures.held) in
    record { more = rw (get-digest_of c.args.node.now.store c.args.told.now.0, none) refl }

pub returns-in-Some : goal.returns-in-Some
returns-in-Some c =
    let held = rw c.store.ensures.store at (sym c.in-Some.ensures.held) in
    record { more = rw (get-digest_of c.args.node.now.store c.args.told.now.0, held) (c.is_gt.ensures ∙ ap is_gt c.cmp.ensures) }
