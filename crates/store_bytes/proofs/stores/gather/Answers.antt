use Rattle.std.proofs.Common.{arith, subst, ◌≡◌, Ok, []}
use Rattle.store_bytes.specs.Bytes.{entries_in}
use Rattle.store_bytes.specs.Streams.{entries_to_come, Yields}
use Rattle.store_bytes.proofs.Held.{reading_ends, reading_goes_on}
use Rattle.store_bytes.proofs.stores.gather.Goals as goal

pub loop-store-preserved : goal.loop-store-preserved
loop-store-preserved c =
    reading_goes_on (entries_in c.args.kind c.args.bytes.now) (entries_to_come c.loop-store.entries) (entries_to_come c.next.new.self) c.loop-store.store c.join_pair.new.store c.in-Some.pair c.loop-store.invariant
    (subst (λ o. Yields o (entries_to_come c.loop-store.entries) (entries_to_come c.next.new.self)) c.in-Some.is c.in_ok-pair.ensures.next) c.in_ok-join_pair.ensures.joined

pub returns : goal.returns
returns c =
    let none : entries_to_come c.loop-store.entries ≡ Ok [] = subst (λ o. Yields o (entries_to_come c.loop-store.entries) (entries_to_come c.next.new.self)) c.in_default.is c.in_ok-pair.ensures.next in
    record { read = reading_ends c.args.kind c.args.bytes.now (entries_to_come c.loop-store.entries) c.loop-store.store (λ i. omega (arith, c.type_inv.bytes i)) c.loop-store.invariant none }
