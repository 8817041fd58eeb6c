use Rattle.exchange_session.proofs.Prelude.{digest_of}
use Rattle.exchange_session.proofs.Telling.{entries_ascend}
use Rattle.exchange_session.proofs.asking.piece_for.Goals as goal

pub places_within-requires : goal.places_within-requires
places_within-requires c = record { sorted = rw c.requires.own (entries_ascend (digest_of c.args.node.now.store)) }
