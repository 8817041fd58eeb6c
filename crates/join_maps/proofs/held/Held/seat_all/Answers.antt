use Rattle.join_maps.proofs.HeldPairs.{known_seats}
use Rattle.join_maps.proofs.held.Held.seat_all.Goals as goal

pub returns-clause-known : goal.returns-clause-known
returns-clause-known g c = λ below.
    let seats = c.if-has_seats.ensures.seats.1 (known_seats g.K.Ord.cmp g.V.Join.below g.V.Join.is_valid g.met.K.Ord.total c.args.pairs.now c.args.self.now c.requires.some c.requires.pairs_map c.requires.map below) in
    cc (seats)
