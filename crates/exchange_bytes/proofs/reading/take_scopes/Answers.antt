use Rattle.std.proofs.Common.{◌≡◌, ◌<◌, ◌-◌, ◌+◌, suc, Ok, arith}
use Rattle.std.proofs.lemmas.Result.{err_from_is_err_and}
use Rattle.byte_fields.specs.Reading.{Fails}
use Rattle.exchange_bytes.specs.Pieces.{scope_taken, scopes_taken}
use Rattle.exchange_bytes.proofs.Taking.{scopes_begin, scopes_begin_not, scopes_end, scopes_fail, scopes_go_on}
use Rattle.exchange_bytes.proofs.reading.take_scopes.Goals as goal

pub returns-in_err-count : goal.returns-in_err-count
returns-in_err-count c =
    let p = err_from_is_err_and c.from_residual.result c.from_residual.ensures.1 in
    record { read = rw (p.1, p.2) (scopes_begin_not c.args.bytes.now c.in_err-count.field-0.0 c.in_err-count.ensures.read) }

pub loop-init : goal.loop-init
loop-init c =
    let all : c.in_ok-count.count - 0 ≡ c.in_ok-count.count = omega arith in
    scopes_begin c.args.bytes.now c.in_ok-count.inner.now c.in_ok-count.count (c.in_ok-count.count - 0) all c.in_ok-count.ensures.read c.new-store.result c.new-store.ensures.empty

pub returns-in_err-grown : goal.returns-in_err-grown
returns-in_err-grown c =
    let p = err_from_is_err_and c.from_residual-in_err-grown.result c.from_residual-in_err-grown.ensures.1 in
    let read : Fails c.in_err-grown.field-0.0 (scope_taken c.loop.last c.loop.store c.loop.rest.now) = rw c.as_ref.ensures.value at c.in_err-grown.ensures.read in
    let left = c.in_ok-count.count - c.loop.counter in
    let some : 0 < left = omega arith in
    record { read = rw (p.1, p.2) (scopes_fail (scopes_taken c.args.bytes.now) c.loop.store left c.loop.last c.loop.rest.now c.in_err-grown.field-0.0 some c.loop.invariant read) }

pub loop-preserved : goal.loop-preserved
loop-preserved c =
    let read : scope_taken c.loop.last c.loop.store c.loop.rest.now ≡ Ok ((c.in_ok-grown.grown, c.in_ok-grown.scope), c.in_ok-grown.after.now) = rw c.as_ref.ensures.value at c.in_ok-grown.ensures.read in
    let left = c.in_ok-count.count - c.loop.counter in
    let fewer = c.in_ok-count.count - (c.loop.counter + 1) in
    let one : left ≡ suc fewer = omega arith in
    scopes_go_on (scopes_taken c.args.bytes.now) c.loop.store left fewer c.loop.last c.loop.rest.now c.in_ok-grown.after.now c.in_ok-grown.grown c.in_ok-grown.scope one c.loop.invariant read

pub returns : goal.returns
returns c =
    let left = c.in_ok-count.count - c.loop.counter in
    let none : left ≡ 0 = omega arith in
    record { read = scopes_end (scopes_taken c.args.bytes.now) c.loop.store left c.loop.last c.loop.rest.now none c.loop.invariant }
