use Rattle.std.proofs.Common.{◌≡◌, ◌<◌, ◌-◌, ◌+◌, suc, Ok, ◌∙◌, arith}
use Rattle.std.proofs.lemmas.Result.{err_from_is_err_and}
use Rattle.byte_fields.specs.Reading.{Fails}
use Rattle.exchange_bytes.specs.Reading.{ask_at, asks_at}
use Rattle.exchange_bytes.specs.Spelling.{ask_tells}
use Rattle.exchange_bytes.proofs.Loops.{all_read, none_read, one_read}
use Rattle.exchange_bytes.proofs.reading.asks_of.Goals as goal

pub returns-in_err-it : goal.returns-in_err-it
returns-in_err-it c =
    let p = err_from_is_err_and c.from_residual-in_err-it.result c.from_residual-in_err-it.ensures.1 in
    let read : Fails c.in_err-it.field-0.0 (ask_at c.loop.last c.loop.rest.now) = rw c.as_ref.ensures.value at c.in_err-it.ensures.read in
    let left = c.in_ok-count.count - c.loop.counter in
    let some : 0 < left = omega arith in
    record { read = rw (p.1, p.2) (none_read ask_at ask_tells (asks_at c.args.bytes.now) c.loop.asks.items left c.loop.last c.loop.rest.now c.in_err-it.field-0.0 some c.loop.invariant read) }

pub loop-preserved : goal.loop-preserved
loop-preserved c =
    let read : ask_at c.loop.last c.loop.rest.now ≡ Ok (c.in_ok-it.it, c.in_ok-it.after.now) = rw c.as_ref.ensures.value at c.in_ok-it.ensures.read in
    let left = c.in_ok-count.count - c.loop.counter in
    let fewer = c.in_ok-count.count - (c.loop.counter + 1) in
    let one : left ≡ suc fewer = omega arith in
    one_read ask_at ask_tells (asks_at c.args.bytes.now) c.loop.asks.items c.push.new.self.items left fewer c.loop.last c.in_ok-last.last c.loop.rest.now c.in_ok-it.after.now c.in_ok-it.it one c.loop.invariant read
    c.in_ok-push.ensures.items (c.in_ok-last.ensures.copy ∙ c.as_ref-in-loop.ensures.value)

pub returns : goal.returns
returns c =
    let left = c.in_ok-count.count - c.loop.counter in
    let none : left ≡ 0 = omega arith in
    record { read = all_read ask_at ask_tells (asks_at c.args.bytes.now) c.loop.asks.items left c.loop.last c.loop.rest.now none c.loop.invariant }
