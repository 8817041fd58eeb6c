use Rattle.std.proofs.Common.{Ok, sym, ap, subst, ◌∙◌, arith}
use Rattle.std.proofs.lemmas.Result.{err_from_is_err_and}
use Rattle.byte_fields.specs.Reading.{Fails}
use Rattle.edit_sums.specs.Sums.{EntryMap}
use Rattle.exchange_bytes.proofs.Taking.{piece_taken}
use Rattle.exchange_bytes.proofs.reading.piece_of.Goals as goal

pub returns-in_err-store : goal.returns-in_err-store
returns-in_err-store c =
    let p = err_from_is_err_and c.from_residual.result c.from_residual.ensures.1 in
    let same = piece_taken c.args.bytes.now (λ i. omega (arith, c.type_inv.bytes i)) in
    record { read = rw (p.1, p.2) (subst (Fails c.in_err-store.field-0.0) same c.in_err-store.ensures.read) }

pub returns : goal.returns
returns c = record {
  read = sym (piece_taken c.args.bytes.now (λ i. omega (arith, c.type_inv.bytes i))) ∙ c.in_ok-store.ensures.read
      ∙ ap (λ (s : EntryMap). Ok (s, c.in_ok-store.rest.now)) (sym c.from_store.ensures.store);
}
