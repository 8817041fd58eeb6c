use Rattle.join_maps.proofs.HeldPairs.{found_seat}
use Rattle.join_maps.proofs.held.Held.seat.Goals as goal

pub returns-clause-known : goal.returns-clause-known
returns-clause-known g c = λ some.
    let seat = c.if-has_seat.ensures.seat.1 (found_seat g.K.Ord.cmp g.V.Join.below g.V.Join.is_valid c.args.key.now c.args.self.now c.requires.map some) in
    cc (seat)
