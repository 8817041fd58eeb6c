use Rattle.std.proofs.Common.{◌≡◌, ◌<◌, ◌-◌, ◌+◌, suc, Some, Ok, ap, arith}
use Rattle.std.proofs.lemmas.Result.{err_from_is_err_and}
use Rattle.byte_fields.specs.Reading.{Fails}
use Rattle.load_places.specs.Places.{place_cmp, PlaceParts}
use Rattle.store_bytes.specs.ListReading.{list_at, pair_above_at}
use Rattle.store_bytes.specs.Reading.{place_at, version_at}
use Rattle.exchange_bytes.proofs.Loops.{all_read, list_begins, list_fails, none_read, one_read}
use Rattle.exchange_bytes.proofs.reading.version_list_of.Goals as goal

pub returns-in_err-count : goal.returns-in_err-count
returns-in_err-count c =
    let p = err_from_is_err_and c.from_residual.result c.from_residual.ensures.1 in
    record { read = rw (p.1, p.2) (list_fails place_cmp place_at version_at c.args.bytes.now c.in_err-count.field-0.0 c.in_err-count.ensures.read) }

pub loop-init : goal.loop-init
loop-init c =
    let all : c.in_ok-count.count - 0 ≡ c.in_ok-count.count = omega arith in
    list_begins place_cmp place_at version_at c.args.bytes.now c.in_ok-count.inner.now c.in_ok-count.count (c.in_ok-count.count - 0) all c.in_ok-count.ensures.read c.new-versions.result.items c.new-versions.ensures.items

pub returns-in_err-pair : goal.returns-in_err-pair
returns-in_err-pair c =
    let p = err_from_is_err_and c.from_residual-in_err-pair.result c.from_residual-in_err-pair.ensures.1 in
    let read : Fails c.in_err-pair.field-0.0 (pair_above_at place_cmp place_at version_at c.loop.last c.loop.rest.now) = rw c.as_ref.ensures.value at c.in_err-pair.ensures.read in
    let left = c.in_ok-count.count - c.loop.counter in
    let some : 0 < left = omega arith in
    record {
      read = rw (p.1, p.2)
          (none_read (pair_above_at place_cmp place_at version_at) (λ p. Some p.0) (list_at place_cmp place_at version_at c.args.bytes.now) c.loop.versions.items left c.loop.last c.loop.rest.now c.in_err-pair.field-0.0 some c.loop.invariant read);
    }

pub loop-preserved : goal.loop-preserved
loop-preserved c =
    let pair = c.in_ok-pair.pair in
    let read : pair_above_at place_cmp place_at version_at c.loop.last c.loop.rest.now ≡ Ok (pair, c.in_ok-pair.after.now) = rw c.as_ref.ensures.value at c.in_ok-pair.ensures.read in
    let left = c.in_ok-count.count - c.loop.counter in
    let fewer = c.in_ok-count.count - (c.loop.counter + 1) in
    let one : left ≡ suc fewer = omega arith in
    one_read (pair_above_at place_cmp place_at version_at) (λ p. Some p.0) (list_at place_cmp place_at version_at c.args.bytes.now) c.loop.versions.items c.push.new.self.items left fewer c.loop.last (Some c.in_ok-try_clone.field-0) c.loop.rest.now
    c.in_ok-pair.after.now pair one c.loop.invariant read c.in_ok-push.ensures.items (ap (λ (p : PlaceParts). Some p) c.in_ok-try_clone.ensures.copy)

pub returns : goal.returns
returns c =
    let left = c.in_ok-count.count - c.loop.counter in
    let none : left ≡ 0 = omega arith in
    record { read = all_read (pair_above_at place_cmp place_at version_at) (λ p. Some p.0) (list_at place_cmp place_at version_at c.args.bytes.now) c.loop.versions.items left c.loop.last c.loop.rest.now none c.loop.invariant }
