use Rattle.std.specs.Option.{option_copied}
use Rattle.std.proofs.lemmas.Result.{err_from_is_err_and}
use Rattle.exchange_bytes.proofs.Taking.{scope_breaks, scope_fails, scope_is_taken}
use Rattle.exchange_bytes.proofs.reading.take_scope.Goals as goal

pub returns-in_err-scope : goal.returns-in_err-scope
returns-in_err-scope c =
    let p = err_from_is_err_and c.from_residual.result c.from_residual.ensures.1 in
    record { read = rw (p.1, p.2) (scope_fails (option_copied c.args.last) c.args.store c.args.bytes.now c.in_err-scope.field-0.0 c.in_err-scope.ensures.read) }

pub returns-in_err-store : goal.returns-in_err-store
returns-in_err-store c =
    let p = err_from_is_err_and c.from_residual-in_err-store.result c.from_residual-in_err-store.ensures.1 in
    record {
      read = rw (p.1, p.2)
          (scope_breaks (option_copied c.args.last) c.args.store c.args.bytes.now c.in_ok-scope.scope c.in_ok-scope.count c.in_ok-scope.rest.now c.in_err-store.field-0.0 c.in_ok-scope.ensures.read c.in_err-store.ensures.read);
    }

pub returns : goal.returns
returns c = record {
  read = scope_is_taken (option_copied c.args.last) c.args.store c.in_ok-store.store c.args.bytes.now c.in_ok-scope.scope c.in_ok-scope.count c.in_ok-scope.rest.now c.in_ok-store.rest.now c.in_ok-scope.ensures.read c.in_ok-store.ensures.read;
}
