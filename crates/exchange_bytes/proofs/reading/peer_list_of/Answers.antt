use Rattle.std.proofs.Common.{◌≡◌, ◌<◌, ◌-◌, ◌+◌, suc, Some, Ok, refl, arith}
use Rattle.std.proofs.lemmas.Result.{err_from_is_err_and}
use Rattle.byte_fields.specs.Reading.{Fails}
use Rattle.store_bytes.specs.ListReading.{key_above_at}
use Rattle.exchange_bytes.specs.Peers.{peer_cmp}
use Rattle.exchange_bytes.specs.Reading.{peer_at, peers_at}
use Rattle.exchange_bytes.proofs.Loops.{all_read, none_read, one_read}
use Rattle.exchange_bytes.proofs.reading.peer_list_of.Goals as goal

pub returns-in_err-peer : goal.returns-in_err-peer
returns-in_err-peer c =
    let p = err_from_is_err_and c.from_residual-in_err-peer.result c.from_residual-in_err-peer.ensures.1 in
    let read : Fails c.in_err-peer.field-0.0 (key_above_at peer_cmp peer_at c.loop.last c.loop.rest.now) = rw c.as_ref.ensures.value at c.in_err-peer.ensures.read in
    let left = c.in_ok-count.count - c.loop.counter in
    let some : 0 < left = omega arith in
    record {
      read = rw (p.1, p.2) (none_read (key_above_at peer_cmp peer_at) (λ p. Some p) (peers_at c.args.bytes.now) c.loop.peers.items left c.loop.last c.loop.rest.now c.in_err-peer.field-0.0 some c.loop.invariant read);
    }

pub loop-preserved : goal.loop-preserved
loop-preserved c =
    let peer = c.in_ok-peer.peer in
    let read : key_above_at peer_cmp peer_at c.loop.last c.loop.rest.now ≡ Ok (peer, c.in_ok-peer.after.now) = rw c.as_ref.ensures.value at c.in_ok-peer.ensures.read in
    let left = c.in_ok-count.count - c.loop.counter in
    let fewer = c.in_ok-count.count - (c.loop.counter + 1) in
    let one : left ≡ suc fewer = omega arith in
    one_read (key_above_at peer_cmp peer_at) (λ p. Some p) (peers_at c.args.bytes.now) c.loop.peers.items c.push.new.self.items left fewer c.loop.last (Some peer) c.loop.rest.now c.in_ok-peer.after.now peer one c.loop.invariant read
    c.in_ok-push.ensures.items refl

pub returns : goal.returns
returns c =
    let left = c.in_ok-count.count - c.loop.counter in
    let none : left ≡ 0 = omega arith in
    record { read = all_read (key_above_at peer_cmp peer_at) (λ p. Some p) (peers_at c.args.bytes.now) c.loop.peers.items left c.loop.last c.loop.rest.now none c.loop.invariant }
