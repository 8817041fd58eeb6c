use Rattle.store_bytes.proofs.Scoping.{first_scope_is}
use Rattle.store_bytes.proofs.scopes.first_scope.Goals as goal

pub returns-clause-some : goal.returns-clause-some
returns-clause-some c =
    let h = c.in_ok-first.ensures in
    first_scope_is c.args.list.now c.split_at.result.0.now c.split_at.result.1.now c.in_ok-first.field-0.now c.leading_of.result h.item.3.0 h.item.1
    c.split_at.ensures.front c.split_at.ensures.back c.leading_of.ensures.count
