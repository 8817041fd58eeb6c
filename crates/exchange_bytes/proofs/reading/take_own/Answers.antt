use Rattle.std.proofs.Common.{◌≡◌, ◌<◌, ◌-◌, ◌+◌, suc, Some, Ok, ap, ◌∙◌, arith}
use Rattle.std.proofs.lemmas.Result.{err_from_is_err_and}
use Rattle.byte_fields.specs.Reading.{Fails}
use Rattle.load_path.specs.Paths.{path_cmp, PathParts}
use Rattle.load_places.specs.declared.places.Scope.{Scope}
use Rattle.edit_sums.specs.Sums.{edit_of, with_edit}
use Rattle.path_maps.specs.Scopes.{within}
use Rattle.store_bytes.specs.ListReading.{pair_above_at}
use Rattle.store_bytes.specs.Reading.{entry_at, path_at}
use Rattle.exchange_bytes.specs.Pieces.{own_taken}
use Rattle.exchange_bytes.proofs.Taking.{own_begins, own_ends, own_fails, own_goes_on}
use Rattle.exchange_bytes.proofs.reading.take_own.Goals as goal

pub loop-init : goal.loop-init
loop-init c = let all : c.args.count - 0 ≡ c.args.count = omega arith in own_begins c.args.scope.now c.args.store c.args.count (c.args.count - 0) c.args.bytes.now all

pub returns-in_err-pair : goal.returns-in_err-pair
returns-in_err-pair c =
    let p = err_from_is_err_and c.from_residual.result c.from_residual.ensures.1 in
    let read : Fails c.in_err-pair.field-0.0 (pair_above_at path_cmp path_at entry_at c.loop.last c.loop.rest.now) = rw c.as_ref.ensures.value at c.in_err-pair.ensures.read in
    let some : 0 < c.args.count - c.loop.counter = omega arith in
    record {
      read = rw (p.1, p.2) (own_fails c.args.scope.now (own_taken c.args.scope.now c.args.store c.args.count c.args.bytes.now) c.loop.grown (c.args.count - c.loop.counter) c.loop.last c.loop.rest.now c.in_err-pair.field-0.0 some c.loop.invariant read);
    }

pub loop-preserved : goal.loop-preserved
loop-preserved c =
    let e = c.in_ok-pair.pair in
    let read : pair_above_at path_cmp path_at entry_at c.loop.last c.loop.rest.now ≡ Ok (e, c.in_ok-pair.after.now) = rw c.as_ref.ensures.value at c.in_ok-pair.ensures.read in
    let one : c.args.count - c.loop.counter ≡ suc (c.args.count - (c.loop.counter + 1)) = omega arith in
    own_goes_on c.args.scope.now (own_taken c.args.scope.now c.args.store c.args.count c.args.bytes.now) c.loop.grown c.join_entry.new.store (c.args.count - c.loop.counter) (c.args.count - (c.loop.counter + 1)) c.loop.last (Some c.in_ok-try_clone.field-0)
    c.loop.rest.now c.in_ok-pair.after.now e one c.loop.invariant read
    (c.in_ok-join_entry.ensures.joined ∙ ap (λ (s : Scope). with_edit c.loop.grown (edit_of (within s e.0, e.1))) c.in_ok-try_clone-2.ensures.copy)
    (ap (λ (p : PathParts). Some p) c.in_ok-try_clone.ensures.copy)

pub returns : goal.returns
returns c =
    let none : c.args.count - c.loop.counter ≡ 0 = omega arith in
    record { read = own_ends c.args.scope.now (own_taken c.args.scope.now c.args.store c.args.count c.args.bytes.now) c.loop.grown (c.args.count - c.loop.counter) c.loop.last c.loop.rest.now none c.loop.invariant }
